use Rattle.std.proofs.Common.{arith}
use Rattle.sq_graph.proofs.Closing.{kept_long}
use Rattle.sq_graph.proofs.gaps.make_room.Goals as goal

pub returns-then-room-len-clause-fits : goal.returns-then-room-len-clause-fits
returns-then-room-len-clause-fits c =
    omega (arith, c.requires.spare, c.close_gaps.ensures.gaps, kept_long c.args.slots.now c.close_gaps.new.slots c.args.items.now c.close_gaps.new.items c.args.blocks_end.now c.close_gaps.new.blocks_end c.args.gaps.now c.close_gaps.new.gaps c.args.loose.now c.close_gaps.new.loose c.requires.gaps c.close_gaps.ensures.kept)
