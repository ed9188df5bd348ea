use Rattle.std.proofs.Common.{◌∙◌, ap}
use Rattle.sq_graph.specs.declared.item.Item.TheVariants.{Out}
use Rattle.sq_jumps.proofs.UnreachedCalls.{call_found}
use Rattle.sq_jumps.proofs.unreached.clear.has_call.Goals as goal

pub returns-then-procedure-number : goal.returns-then-procedure-number
returns-then-procedure-number c =
    call_found c.args.items.now c.loop-item.item-index c.args.number c.item-item.result c.loop-item-test.true c.item-item.is (c.in-Out.is ∙ ap Out c.if-procedure-number.true)
