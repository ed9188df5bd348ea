use Rattle.std.proofs.Common.{take}
use Rattle.std.specs.List.{All}
use Rattle.sq_graph.specs.Blocks.{items_of}
use Rattle.sq_outline.specs.Made.{HasBody}
use Rattle.sq_outline.proofs.make.have_body.Given as goal

abbrev pub invariant-loop-block : goal.invariant-loop-block
invariant-loop-block l = All (HasBody l.graph.graph (items_of l.graph.graph l.first)) (take l.block-index l.blocks)
