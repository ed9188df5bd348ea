use Rattle.sq_lifted.specs.LiveLinks.{ItemsDie, Marks}
use Rattle.sq_lifted.proofs.live_links.mark_block.Given as goal

abbrev pub invariant-loop-place : goal.invariant-loop-place
invariant-loop-place l = Marks (ItemsDie l.g.graph l.block l.place) l.initial.flags.items l.flags.items
