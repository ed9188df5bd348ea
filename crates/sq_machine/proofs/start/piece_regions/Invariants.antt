use Rattle.std.proofs.Common.{◌≡◌, map, take}
use Rattle.sq_memory.specs.Contents.{regions_of}
use Rattle.sq_machine.specs.Starts.{seen, piece_region}
use Rattle.sq_machine.proofs.start.piece_regions.Given as goal

abbrev pub invariant-loop-loaded : goal.invariant-loop-loaded
invariant-loop-loaded l = regions_of l.regions.items ≡ map piece_region (map seen (take l.loaded-index l.pieces))
