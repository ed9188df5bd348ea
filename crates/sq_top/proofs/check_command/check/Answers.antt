-- what the printing of the line leaves
use Rattle.std.proofs.Common.{ℕ, List, subst, ◌∙◌}
use Rattle.sq_desk.specs.Outside.{Outside}
use Rattle.sq_top.specs.Endings.{LeavesPrinted}
use Rattle.sq_top.proofs.CertLoaded.{line_left}
use Rattle.sq_top.proofs.check_command.check.Goals as goal

pub returns-in-Ok-clause-leaves : goal.returns-in-Ok-clause-leaves
returns-in-Ok-clause-leaves g c =
    let before : Outside = g.D.Desk.outside c.args.desk.now in
    let middle : Outside = g.D.Desk.outside c.load_and_check.new.desk in
    let after : Outside = g.D.Desk.outside c.print_line.new.desk in
    let ByLine : List ℕ → Type 0 = λ line. LeavesPrinted line c.print_line.result middle after in (
      c.print_line.ensures.files ∙ c.in-Ok.ensures.files,
      line_left c.args.input.now c.args.output.now c.args.cert.now before middle after c.in-Ok.ensures.printed c.in-Ok.ensures.faults c.in-Ok.steps c.in-Ok.ensures.proves c.print_line.result
          (subst ByLine (c.as_slice.ensures.value ∙ c.proved_line-line.ensures) c.print_line.ensures.leaves),
    )
