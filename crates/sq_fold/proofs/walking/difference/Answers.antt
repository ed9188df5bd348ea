use Rattle.std.proofs.Common.{◌≡◌, ◌-◌, Some, slice_get, sym, ◌∙◌, subst}
use Rattle.std.specs.HashMap.{get}
use Rattle.sq_finger.specs.Classes.{is_same_kind}
use Rattle.sq_fold.proofs.Levels.{one_class, other_class}
use Rattle.sq_fold.proofs.Parting.{classes_equal, classes_differ}
use Rattle.sq_fold.proofs.walking.difference.Goals as goal

pub returns-then-eq-clause-walk : goal.returns-then-eq-clause-walk
returns-then-eq-clause-walk c =
    let g = c.args.graph.now.graph in
    let rounds = c.in_ok-index.rounds in
    let last = subst (λ l. slice_get rounds (l - 1) ≡ Some c.round-last.result.now) c.len.ensures c.round-last.ensures in
    one_class g c.learn.ensures.rules (get is_same_kind c.in_ok-index.index) rounds c.in_ok-index.ensures c.round-last.result.now c.args.x c.args.y last c.requires.first c.requires.second
    (sym c.class_by.ensures ∙ classes_equal c.class_by.result c.class_by-2.result c.eq.result c.eq.ensures c.if-eq.true ∙ c.class_by-2.ensures)

pub returns-clause-apart : goal.returns-clause-apart
returns-clause-apart c =
    let g = c.args.graph.now.graph in
    let rounds = c.in_ok-index.rounds in
    let last = subst (λ l. slice_get rounds (l - 1) ≡ Some c.round-last.result.now) c.len.ensures c.round-last.ensures in
    other_class g c.learn.ensures.rules (get is_same_kind c.in_ok-index.index) rounds c.in_ok-index.ensures c.round-last.result.now c.args.x c.args.y last
    (λ e. classes_differ c.class_by.result c.class_by-2.result c.eq.result c.eq.ensures c.if-eq.false (c.class_by.ensures ∙ e ∙ sym c.class_by-2.ensures))
