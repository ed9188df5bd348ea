use Rattle.sq_arena.proofs.FullNodes.{first_vacant, append_place, first_step, all_shows}
use Rattle.sq_arena.proofs.Arena.from_values.Goals as goal

pub fill-key-requires-clause-some : goal.fill-key-requires-clause-some
fill-key-requires-clause-some g c = (first_vacant c.loop-value.links c.args.values.now c.loop-value.value-index c.loop-value-test.true c.loop-value.invariant).0

pub fill-key-requires-clause-node : goal.fill-key-requires-clause-node
fill-key-requires-clause-node g c = (first_vacant c.loop-value.links c.args.values.now c.loop-value.value-index c.loop-value-test.true c.loop-value.invariant).1

pub splice-requires-clause-after : goal.splice-requires-clause-after
splice-requires-clause-after g c =
    (append_place c.loop-value.links c.fill-key.new.self _ _ c.fill-key.result c.value-item.result c.previous-last.result c.loop-value.invariant c.fill-key.ensures c.previous-last.ensures).1.0

pub splice-requires-clause-behind : goal.splice-requires-clause-behind
splice-requires-clause-behind g c =
    (append_place c.loop-value.links c.fill-key.new.self _ _ c.fill-key.result c.value-item.result c.previous-last.result c.loop-value.invariant c.fill-key.ensures c.previous-last.ensures).1.1

pub loop-value-preserved : goal.loop-value-preserved
loop-value-preserved g c =
    first_step c.loop-value.links c.fill-key.new.self c.splice.new.self c.args.values.now c.loop-value.value-index c.fill-key.result c.value-item.result c.previous-last.result c.loop-value-test.true c.value-item.is c.loop-value.invariant c.fill-key.ensures c.previous-last.ensures c.splice.ensures

pub invariant_of-result : goal.invariant_of-result
invariant_of-result g c =
    (all_shows c.loop-value.links c.args.values.now c.loop-value.value-index c.loop-value-test.false c.loop-value.auto.value-index-end c.requires c.loop-value.invariant).sound

pub returns-clause-entries : goal.returns-clause-entries
returns-clause-entries g c =
    (all_shows c.loop-value.links c.args.values.now c.loop-value.value-index c.loop-value-test.false c.loop-value.auto.value-index-end c.requires c.loop-value.invariant).list
