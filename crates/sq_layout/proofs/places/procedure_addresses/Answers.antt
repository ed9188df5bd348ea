use Rattle.std.proofs.Common.{◌+◌, ◌*◌, ◌<◌, ◌^◌, ◌∙◌, ◌∷◌, [], drop, arith, append_assoc, sym, refl}
use Rattle.sq_graph.specs.Blocks.{body_of}
use Rattle.sq_graph.specs.Words.{procedure_words}
use Rattle.sq_graph.specs.Places.{procedure_addresses as addresses_of}
use Rattle.sq_layout.proofs.Counts.{procedure_here}
use Rattle.sq_layout.proofs.places.procedure_addresses.Goals as goal

pub overflow_cast-at : goal.overflow_cast-at
overflow_cast-at c =
    let h = procedure_here c.args.g.now.graph c.loop-procedure.procedure (body_of c.args.g.now.graph c.loop-procedure.procedure) (omega arith) refl in
    let small : c.loop-procedure.at < 2 ^ 32 = omega (arith, h.sum, h.words, c.loop-procedure.invariant.at, c.requires) in
    omega arith

pub loop-procedure-preserved : goal.loop-procedure-preserved
loop-procedure-preserved c =
    let h = procedure_here c.args.g.now.graph c.loop-procedure.procedure c.body.result.now (omega arith) c.body.ensures in
    let addresses = rw h.rest at c.loop-procedure.invariant.addresses in
    record {
      at = omega (arith, h.sum, h.words, c.loop-procedure.invariant.at);
      addresses =
          rw (c.in_ok-push.ensures.items, sym h.words)
          (append_assoc c.loop-procedure.addresses.items (c.loop-procedure.at ∷ []) (addresses_of (drop (c.loop-procedure.procedure + 1) c.args.g.now.graph.procedures) (c.loop-procedure.at + 4 * procedure_words h.procedure)) ∙ addresses);
    }
