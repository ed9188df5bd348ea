use Rattle.std.proofs.Common.{List, ℕ, [], ◌+◌, take, sym, ap, ◌∙◌, subst}
use Rattle.sq_graph.specs.declared.item.Item.{Item}
use Rattle.sq_outline.specs.Marks.{AreWrites}
use Rattle.sq_outline.specs.Sets.{Keeps, nothing, IsOther}
use Rattle.sq_outline.proofs.Keeping.{keeps_next, leaves_next}
use Rattle.sq_outline.proofs.sets.others_of.Goals as goal
use Rattle.sq_outline.proofs.sets.others_of.Goals.{then-is_other+in_ok-push, else-is_other}

pub loop-i-init : goal.loop-i-init
loop-i-init c = subst (λ (ys : List ℕ). Keeps (IsOther c.args.graph.now.graph c.args.first) [] ys) (sym c.new-others.ensures.items) nothing

pub is_other-requires-clause-block : goal.is_other-requires-clause-block
is_other-requires-clause-block c = c.requires.group c.loop-i.i 0 c.loop-i-test.true

pub is_other-requires-clause-writes : goal.is_other-requires-clause-writes
is_other-requires-clause-writes c = subst (λ (items : List Item). AreWrites items c.of-writes.result) c.items.ensures c.of-writes.ensures

pub loop-i-preserved : goal.loop-i-preserved
loop-i-preserved c =
    let P = IsOther c.args.graph.now.graph c.args.first in
    let names = c.args.group.now in
    let i = c.loop-i.i in
    elim c.if-is_other.branch [
      | then-is_other+in_ok-push w ↦
          subst (λ (ys : List ℕ). Keeps P (take (i + 1) names) ys) (sym (ap (λ others. others.items) w.others-is ∙ w.in_ok-push.ensures.items))
          (keeps_next P names c.loop-i.others.items i c.loop-i-test.true c.loop-i.invariant (c.is_other.ensures.0 w.if-is_other.true))
      | else-is_other w ↦
          subst (λ (ys : List ℕ). Keeps P (take (i + 1) names) ys) (sym (ap (λ others. others.items) w.others-is))
          (leaves_next P names c.loop-i.others.items i c.loop-i-test.true c.loop-i.invariant (λ holds. let yes = c.is_other.ensures.1 holds in let no = w.if-is_other.false in absurd (cc)))
    ]
