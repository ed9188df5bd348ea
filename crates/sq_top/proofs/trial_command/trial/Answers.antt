-- what the printing of the line leaves
use Rattle.std.proofs.Common.{ℕ, List, subst}
use Rattle.sq_desk.specs.Outside.{Outside}
use Rattle.sq_top.specs.Endings.{LeavesPrinted}
use Rattle.sq_top.proofs.TrialCases.{line_printed}
use Rattle.sq_top.proofs.trial_command.trial.Goals as goal

pub returns-in-Ok-clause-leaves : goal.returns-in-Ok-clause-leaves
returns-in-Ok-clause-leaves g c =
    let before : Outside = g.D.Desk.outside c.args.desk.now in
    let after : Outside = g.D.Desk.outside c.print_line.new.desk in
    let ByLine : List ℕ → Type 0 = λ line. LeavesPrinted line c.print_line.result before after in (
      c.print_line.ensures.files,
      line_printed c.args.asked.first c.args.asked.blocks before after c.in-Ok.line c.in-Ok.ensures.tells c.print_line.result (subst ByLine c.as_slice.ensures.value c.print_line.ensures.leaves),
    )
