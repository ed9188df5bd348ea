use Rattle.std.proofs.Common.{sym, ap, ◌∙◌, subst}
use Rattle.std.specs.List.{All}
use Rattle.std.specs.Prelude.{IfSome, List}
use Rattle.sq_outline.specs.declared.callers.Body.{Body}
use Rattle.sq_outline.specs.Still.{IsDying}
use Rattle.sq_outline.proofs.Still.{pushed}
use Rattle.sq_outline.proofs.callers.bodies_of.Goals as goal
use Rattle.sq_outline.proofs.callers.bodies_of.Goals.{then-is_block+in-Some+in_ok-push, then-is_block+in_default, else-is_block}

pub loop-name-preserved : goal.loop-name-preserved
loop-name-preserved c =
    let P = IsDying c.args.graph.now.graph in
    elim c.if-is_block.branch [
      | then-is_block+in-Some+in_ok-push w ↦
          pushed P c.loop-name.bodies.items c.if-is_block.bodies.items w.in-Some.body (ap (λ bodies. bodies.items) w.bodies-is ∙ w.in_ok-push.ensures.items) c.loop-name.invariant (subst (λ found. IfSome found P) w.in-Some.is w.body_of.ensures)
      | then-is_block+in_default w ↦ subst (λ (ys : List Body). All P ys) (sym (ap (λ bodies. bodies.items) w.bodies-is)) c.loop-name.invariant
      | else-is_block w ↦ subst (λ (ys : List Body). All P ys) (sym (ap (λ bodies. bodies.items) w.bodies-is)) c.loop-name.invariant
    ]
