use Rattle.std.proofs.Common.{arith}
use Rattle.sq_graph.proofs.Numbering.{slot_start}
use Rattle.sq_graph.proofs.slots.start.Goals as goal

pub returns : goal.returns
returns c =
    omega (arith, slot_start 0 c.args.slots.now.entries c.args.name c.slot.result c.requires.numbered c.slot.ensures)
