use Rattle.std.proofs.Common.{sym, ap, ◌∙◌, subst}
use Rattle.std.specs.List.{All}
use Rattle.std.specs.Prelude.{List}
use Rattle.sq_graph.specs.Blocks.{items_of}
use Rattle.sq_graph.specs.declared.item.Item.{Item}
use Rattle.sq_outline.specs.declared.callers.Body.{Body}
use Rattle.sq_outline.specs.Made.{HasBody}
use Rattle.sq_outline.specs.Still.{IsDying, IsCaller}
use Rattle.sq_outline.proofs.Still.{pushed, is_caller}
use Rattle.sq_outline.proofs.callers.callers_of.Goals as goal
use Rattle.sq_outline.proofs.callers.callers_of.Goals.{then-body-first+then-calls_as_well+in_ok-push, else-body-first}

pub loop-i-preserved : goal.loop-i-preserved
loop-i-preserved c =
    let g = c.args.graph.now.graph in
    let P = IsCaller g (items_of g c.args.first) in
    let body = c.index-bodies-i.result in
    let dying : IsDying g body = subst (IsDying g) (sym c.index-bodies-i.is) (c.requires.bodies c.loop-i.i body c.loop-i-test.true) in
    elim c.if-body-first.branch [
      | then-body-first+then-calls_as_well+in_ok-push w ↦
          pushed P c.loop-i.callers.items c.if-body-first.callers.items body (ap (λ callers. callers.items) w.callers-is ∙ w.in_ok-push.ensures.items) c.loop-i.invariant
          (is_caller g (items_of g c.args.first) body dying
          (subst (λ (items : List Item). HasBody g items body.block) c.items-items.ensures (w.calls_as_well.ensures w.if-calls_as_well.true)))
      | else-body-first w ↦ subst (λ (ys : List Body). All P ys) (sym (ap (λ callers. callers.items) w.callers-is)) c.loop-i.invariant
    ]
