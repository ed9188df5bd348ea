use Rattle.std.proofs.Common.{nat_eq, sym, subst}
use Rattle.std.specs.HashMap.{get}
use Rattle.sq_tail.specs.StillDead.{AreTold}
use Rattle.sq_tail.proofs.StillDead.{told_more}
use Rattle.sq_tail.proofs.sweep.bodies.told_of.Goals as goal
use Rattle.sq_tail.proofs.sweep.bodies.told_of.Goals.{then-is_block+in_ok-insert, else-is_block}

pub loop-pair-preserved : goal.loop-pair-preserved
loop-pair-preserved c =
    let g = c.args.graph.now.graph in
    let before = get nat_eq c.loop-pair.told in
    elim c.if-is_block.branch [
      | then-is_block+in_ok-insert w ↦
          let updates = w.in_ok-insert.ensures.updates in
          subst (λ told. AreTold g (get nat_eq told)) (sym w.told-is) (told_more g w.behind_block.result before (get nat_eq w.insert.new.self) c.loop-pair.invariant w.behind_block.ensures updates.1 updates.2)
      | else-is_block w ↦ subst (λ told. AreTold g (get nat_eq told)) (sym w.told-is) c.loop-pair.invariant
    ]
