use Rattle.std.proofs.Common.{◌≡◌, map, take}
use Rattle.sq_elf.specs.Images.{seen as image_piece}
use Rattle.sq_machine.specs.Starts.{seen}
use Rattle.sq_run.specs.FileRuns.{start_piece}
use Rattle.sq_run.proofs.pieces.loaded_pieces.Given as goal

-- the pieces so far
abbrev pub invariant-loop-piece : goal.invariant-loop-piece
invariant-loop-piece l = map seen l.loaded.items ≡ map start_piece (map image_piece (take l.piece-index l.piece-items))
