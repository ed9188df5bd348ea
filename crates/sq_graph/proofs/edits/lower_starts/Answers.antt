use Rattle.std.proofs.Common.{◌≡◌, ◌<◌, length, refl, ap, arith}
use Rattle.sq_graph.specs.Slots.{lowered_body}
use Rattle.sq_graph.proofs.BodyLowers.{lowered_none, lowered_fits, lowered_step, lowered_all}
use Rattle.sq_graph.proofs.edits.lower_starts.Goals as goal

pub loop-number-init : goal.loop-number-init
loop-number-init c = record {
  lowered = lowered_none c.args.by c.args.from c.args.bodies.now.items (omega (arith, c.requires.from, c.args.bodies.now.ok.0));
  counted = refl;
  capacity = refl;
}

pub overflow_sub-body : goal.overflow_sub-body
overflow_sub-body c =
    let inside : c.loop-number.number < length c.args.bodies.now.items = omega (arith, c.loop-number-test.true, c.len-number-end.ensures, c.args.bodies.now.ok.0) in
    rw c.index_mut-body.ensures.value (lowered_fits c.args.by c.args.from c.loop-number.number c.index_mut-body.result.now c.args.bodies.now.items c.loop-number.bodies.items c.loop-number.invariant.lowered inside c.requires.fits)

pub loop-number-preserved : goal.loop-number-preserved
loop-number-preserved c =
    let inside : c.loop-number.number < length c.args.bodies.now.items = omega (arith, c.loop-number-test.true, c.len-number-end.ensures, c.args.bodies.now.ok.0) in
    let counted : length c.loop-number.bodies.items ≡ length c.args.bodies.now.items = omega (arith, c.loop-number.invariant.counted, c.loop-number.bodies.ok.0, c.args.bodies.now.ok.0) in
    record {
      lowered = lowered_step c.args.by c.args.from c.loop-number.number c.index_mut-body.result.now _ c.args.bodies.now.items c.loop-number.bodies.items c.loop-number.invariant.lowered inside counted (ap (lowered_body c.args.by) c.index_mut-body.ensures.value);
      counted = c.loop-number.invariant.counted;
      capacity = c.loop-number.invariant.capacity;
    }

pub returns-clause-items : goal.returns-clause-items
returns-clause-items c =
    lowered_all c.args.by c.args.from c.loop-number.number c.args.bodies.now.items c.loop-number.bodies.items c.loop-number.invariant.lowered (omega (arith, c.loop-number-test.false, c.len-number-end.ensures, c.args.bodies.now.ok.0))
