use Rattle.std.proofs.Common.{◌≡◌, take}
use Rattle.sq_outline.specs.Made.{ends_of}
use Rattle.sq_outline.proofs.make.ends_of.Given as goal

abbrev pub invariant-loop-block : goal.invariant-loop-block
invariant-loop-block l = l.ends.items ≡ ends_of l.graph.graph (take l.block-index l.blocks)
