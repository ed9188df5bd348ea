use Rattle.std.proofs.Common.{ap, arith}
use Rattle.sq_graph.specs.Uses.{items_uses}
use Rattle.sq_layout.proofs.Counts.{procedure_here}
use Rattle.sq_lookup.specs.Counts.{times_named}
use Rattle.sq_lookup.proofs.Adding.{procedure_more}
use Rattle.sq_lookup.proofs.Counting.{times_last}
use Rattle.sq_lookup.proofs.counts.add_bodies.Goals as goal

pub loop-procedure-preserved : goal.loop-procedure-preserved
loop-procedure-preserved c = λ n.
    let p = procedure_here c.args.graph.now.graph c.loop-procedure.procedure c.body.result.now (omega arith) c.body.ensures in
    omega (
      arith,
      c.in_ok-add_items.ensures n,
      ap (λ is. times_named (items_uses is) n) p.body_is,
      c.loop-procedure.invariant n,
      times_last (λ x. items_uses x.body) _ _ p.procedure n (procedure_more c.args.graph.now.graph.procedures c.loop-procedure.procedure p.procedure (omega arith) p.found),
    )
