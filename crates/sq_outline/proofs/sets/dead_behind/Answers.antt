use Rattle.std.proofs.Common.{List, ℕ, [], ◌+◌, take, sym, ap, ◌∙◌, subst}
use Rattle.sq_outline.specs.Sets.{Keeps, nothing, IsDeadBehind}
use Rattle.sq_outline.proofs.Keeping.{keeps_next, leaves_next}
use Rattle.sq_outline.proofs.sets.dead_behind.Goals as goal
use Rattle.sq_outline.proofs.sets.dead_behind.Goals.{then-is_dead_behind+in_ok-push, else-is_dead_behind}

pub loop-block-init : goal.loop-block-init
loop-block-init c = subst (λ (ys : List ℕ). Keeps (IsDeadBehind c.args.graph.now.graph c.args.r) [] ys) (sym c.new-chosen.ensures.items) nothing

pub loop-block-preserved : goal.loop-block-preserved
loop-block-preserved c =
    let P = IsDeadBehind c.args.graph.now.graph c.args.r in
    let blocks = c.args.blocks.now in
    let i = c.loop-block.block-index in
    elim c.if-is_dead_behind.branch [
      | then-is_dead_behind+in_ok-push w ↦
          subst (λ (ys : List ℕ). Keeps P (take (i + 1) blocks) ys) (sym (ap (λ chosen. chosen.items) w.chosen-is ∙ w.in_ok-push.ensures.items))
          (keeps_next P blocks c.loop-block.chosen.items i c.loop-block-test.true c.loop-block.invariant (c.is_dead_behind.ensures.0 w.if-is_dead_behind.true))
      | else-is_dead_behind w ↦
          subst (λ (ys : List ℕ). Keeps P (take (i + 1) blocks) ys) (sym (ap (λ chosen. chosen.items) w.chosen-is))
          (leaves_next P blocks c.loop-block.chosen.items i c.loop-block-test.true c.loop-block.invariant (λ holds. let yes = c.is_dead_behind.ensures.1 holds in let no = w.if-is_dead_behind.false in absurd (cc)))
    ]
