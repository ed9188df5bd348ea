use Rattle.std.proofs.Common.{arith, subst}
use Rattle.sq_graph.specs.Uses.{items_uses}
use Rattle.sq_layout.proofs.Counts.{procedure_here}
use Rattle.sq_lookup.specs.Names.{Adds}
use Rattle.sq_lookup.proofs.Adding.{adds_pushed, procedure_more}
use Rattle.sq_lookup.proofs.uses.use_bodies.Goals as goal

pub loop-procedure-preserved : goal.loop-procedure-preserved
loop-procedure-preserved c =
    let p = procedure_here c.args.graph.now.graph c.loop-procedure.procedure c.body.result.now (omega arith) c.body.ensures in
    adds_pushed (λ x. items_uses x.body) _ _ p.procedure c.args.used.now c.loop-procedure.used c.use_items.new.used
    (procedure_more c.args.graph.now.graph.procedures c.loop-procedure.procedure p.procedure (omega arith) p.found) c.loop-procedure.invariant
    (subst (λ is. Adds (items_uses is) c.loop-procedure.used c.use_items.new.used) p.body_is c.in_ok-use_items.ensures)
