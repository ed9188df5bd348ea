-- what the printing of the lines leaves
use Rattle.std.proofs.Common.{ℕ, List, subst, ◌∙◌}
use Rattle.sq_desk.specs.Outside.{Outside}
use Rattle.sq_top.specs.Endings.{LeavesPrinted}
use Rattle.sq_top.proofs.NamesLoaded.{lines_left}
use Rattle.sq_top.proofs.names_command.names.Goals as goal

pub returns-in-Ok-clause-leaves : goal.returns-in-Ok-clause-leaves
returns-in-Ok-clause-leaves g c =
    let before : Outside = g.D.Desk.outside c.args.desk.now in
    let middle : Outside = g.D.Desk.outside c.load_and_name.new.desk in
    let after : Outside = g.D.Desk.outside c.print_line.new.desk in
    let ByLine : List ℕ → Type 0 = λ line. LeavesPrinted line c.print_line.result middle after in (
      c.print_line.ensures.files ∙ c.in-Ok.ensures.files,
      lines_left c.args.input.now c.args.cert.now before middle after c.in-Ok.ensures.printed c.in-Ok.ensures.faults c.in-Ok.lines.items c.in-Ok.ensures.tells c.print_line.result
          (subst ByLine c.as_slice.ensures.value c.print_line.ensures.leaves),
    )
