use Rattle.std.proofs.Common.{◌≡◌, map, take}
use Rattle.sq_machine.specs.Starts.{seen, piece_of}
use Rattle.sq_machine.proofs.start.kept_pieces.Given as goal

abbrev pub invariant-loop-loaded : goal.invariant-loop-loaded
invariant-loop-loaded l = l.kept.items ≡ map piece_of (map seen (take l.loaded-index l.pieces))
