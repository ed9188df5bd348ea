use Rattle.std.proofs.Common.{ℕ, [], ◌∷◌, ◌++◌, sym, ap, ◌∙◌, subst}
use Rattle.std.specs.Prelude.{List}
use Rattle.sq_graph.specs.Blocks.{items_of}
use Rattle.sq_outline.specs.Still.{IsCaller, AreCallers}
use Rattle.sq_outline.proofs.Still.{caller_alone, caller_more}
use Rattle.sq_outline.proofs.callers.others_through.Goals as goal
use Rattle.sq_outline.proofs.callers.others_through.Goals.{then-has+in_ok-push, else-has}

pub loop-body-init : goal.loop-body-init
loop-body-init c =
    let first = c.args.first.now in
    let g = c.args.graph.now.graph in
    subst (λ (os : List ℕ). AreCallers g (items_of g first.block) (first.block ∷ os) first.dead) (sym c.new-others.ensures.items) (caller_alone g (items_of g first.block) first c.requires.first)

pub loop-body-preserved : goal.loop-body-preserved
loop-body-preserved c =
    let g = c.args.graph.now.graph in
    let first = c.args.first.now.block in
    let items = items_of g first in
    let caller : IsCaller g items c.body-item.result = subst (IsCaller g items) (sym c.body-item.is) (c.requires.callers c.loop-body.body-index c.body-item.result c.loop-body-test.true) in
    elim c.if-has.branch [
      | then-has+in_ok-push w ↦
          let more = caller_more g items (first ∷ c.loop-body.others.items) c.body-item.result c.loop-body.dead w.without.result w.without-dead.result c.loop-body.invariant caller w.without.ensures w.without-dead.ensures in
          subst (λ (os : List ℕ). AreCallers g items (first ∷ os) c.if-has.dead) (sym (ap (λ others. others.items) w.others-is ∙ w.in_ok-push.ensures.items))
          (subst (λ set. AreCallers g items (first ∷ (c.loop-body.others.items ++ c.body-item.result.block ∷ [])) set) (sym w.dead-is) more)
      | else-has w ↦
          subst (λ (os : List ℕ). AreCallers g items (first ∷ os) c.if-has.dead) (sym (ap (λ others. others.items) w.others-is))
          (subst (λ set. AreCallers g items (first ∷ c.loop-body.others.items) set) (sym w.dead-is) c.loop-body.invariant)
    ]
