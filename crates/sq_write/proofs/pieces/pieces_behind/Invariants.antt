use Rattle.std.proofs.Common.{◌≡◌, map, filter, take, nat_eq}
use Rattle.std.specs.HashMap.{get}
use Rattle.sq_write.specs.Pieces.{is_some_piece, part_behind}
use Rattle.sq_write.proofs.pieces.pieces_behind.Given as goal

abbrev pub invariant-loop-segment : goal.invariant-loop-segment
invariant-loop-segment l = l.pieces.items ≡ filter is_some_piece (map (part_behind l.elf (get nat_eq l.set)) (take l.segment-index l.segment-items))
