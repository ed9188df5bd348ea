use Rattle.std.proofs.Common.{arith}
use Rattle.sq_graph.proofs.Numbering.{slot_end, through_within}
use Rattle.sq_graph.proofs.slots.end.Goals as goal

pub overflow_add-result : goal.overflow_add-result
overflow_add-result c =
    omega (arith, slot_end 0 c.args.slots.now.entries c.args.name c.slot-found.result c.requires.numbered c.slot-found.ensures, through_within c.args.slots.now.entries c.args.name, c.requires.fits)

pub returns : goal.returns
returns c =
    omega (arith, slot_end 0 c.args.slots.now.entries c.args.name c.slot-found.result c.requires.numbered c.slot-found.ensures)
