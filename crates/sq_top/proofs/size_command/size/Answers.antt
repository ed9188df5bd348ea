use Rattle.std.proofs.Common.{ℕ, List, subst, ◌∙◌}
use Rattle.sq_desk.specs.Outside.{Outside}
use Rattle.sq_top.specs.Endings.{LeavesPrinted}
use Rattle.sq_top.proofs.SizeReported.{reported}
use Rattle.sq_top.proofs.size_command.size.Goals as goal

pub returns-in-Ok-clause-leaves : goal.returns-in-Ok-clause-leaves
returns-in-Ok-clause-leaves g c =
    let before : Outside = g.D.Desk.outside c.args.desk.now in
    let middle : Outside = g.D.Desk.outside c.load_and_report.new.desk in
    let after : Outside = g.D.Desk.outside c.print_line.new.desk in
    let ByLine : List ℕ → Type 0 = λ line. LeavesPrinted line c.print_line.result middle after in (
      c.print_line.ensures.files ∙ c.in-Ok.ensures.files,
      reported before middle after c.in-Ok.ensures.printed c.in-Ok.ensures.faults c.args.input.now c.in-Ok.line.items c.in-Ok.ensures.reports c.print_line.result
          (subst ByLine c.as_slice.ensures.value c.print_line.ensures.leaves),
    )
