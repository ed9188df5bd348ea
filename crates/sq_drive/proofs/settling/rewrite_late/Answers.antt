use Rattle.std.proofs.Common.{Ok, ap, ◌∙◌, subst}
use Rattle.sq_num.specs.declared.packed.Savings.{Savings}
use Rattle.sq_graph.specs.Graph.{Graph}
use Rattle.sq_pass.specs.declared.cut.Cut.{Cut}
use Rattle.sq_pass.specs.Rewrites.{IsRewritten}
use Rattle.sq_outline.specs.WindowsCandidates.{IsWindowsCandidate, windows_described}
use Rattle.sq_chain.specs.Candidates.{IsCandidate as IsMove, described as move_described}
use Rattle.sq_drive.specs.Rows.{IsCandidate, described}
use Rattle.sq_drive.proofs.Moves.{by_windows, by_moves, some_by_all}
use Rattle.sq_drive.proofs.settling.rewrite_late.Goals as goal

pub returns-in-Some-clause-rewritten : goal.returns-in-Some-clause-rewritten
returns-in-Some-clause-rewritten c =
    by_windows c.args.savings c.in-Some.after c.args.graph.now.graph c.window_some.new.graph.graph (rw c.in-Some.is at c.in_ok-after.ensures.rewritten)

pub returns-then-asks_windows-clause-rewritten : goal.returns-then-asks_windows-clause-rewritten
returns-then-asks_windows-clause-rewritten c =
    let same = c.window_some.ensures.none (c.in_ok-after.was ∙ ap Ok c.in_default.is) in
    some_by_all IsMove move_described by_moves c.args.savings c.args.graph.now.graph c.window_some.new.graph.graph _ c.move_some.result same c.move_some.ensures.rewritten

pub returns-then-asks_windows-clause-moves : goal.returns-then-asks_windows-clause-moves
returns-then-asks_windows-clause-moves c = λ e.
    let same = c.window_some.ensures.none (c.in_ok-after.was ∙ ap Ok c.in_default.is) in
    subst (λ (g : Graph). (cut : Cut) → IsMove g cut → ⊥) same (c.move_some.ensures.left e)

pub returns-in-Some-2-clause-rewritten : goal.returns-in-Some-2-clause-rewritten
returns-in-Some-2-clause-rewritten c =
    by_moves c.args.savings c.in-Some-2.after c.args.graph.now.graph c.move_some-2.new.graph.graph (rw c.in-Some-2.is at c.in_ok-after-2.ensures.rewritten)

pub returns-clause-rewritten : goal.returns-clause-rewritten
returns-clause-rewritten c =
    let same = c.move_some-2.ensures.none (c.in_ok-after-2.was ∙ ap Ok c.in_default-2.is) in
    some_by_all IsWindowsCandidate windows_described by_windows c.args.savings c.args.graph.now.graph c.move_some-2.new.graph.graph _ c.window_some-2.result same c.window_some-2.ensures.rewritten

pub returns-clause-windows : goal.returns-clause-windows
returns-clause-windows c = λ e.
    let same = c.move_some-2.ensures.none (c.in_ok-after-2.was ∙ ap Ok c.in_default-2.is) in
    subst (λ (g : Graph). (cut : Cut) → IsWindowsCandidate g cut → ⊥) same (c.window_some-2.ensures.left e)

pub returns-clause-moves : goal.returns-clause-moves
returns-clause-moves c = λ e. c.move_some-2.ensures.left (c.in_ok-after-2.was ∙ ap Ok c.in_default-2.is)
