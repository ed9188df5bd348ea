-- How the blocks and procedures of parts stand in the arena and the vectors of a graph. No public clause cites
-- this module.
use Rattle.std.specs.Prelude.{ℕ, ◌+◌, List, [], ◌∷◌}
use Rattle.sq_graph.specs.declared.slot.Slot.{Slot}
use Rattle.sq_graph.specs.declared.slot.Body.{Body}
use Rattle.sq_graph.specs.declared.parts.BlockPart.{BlockPart}
use Rattle.sq_graph.specs.declared.parts.ProcedurePart.{ProcedurePart}

abbrev pub part_slots : ℕ → List BlockPart → List Slot
part_slots start [] = []
part_slots start (part ∷ rest) =
    record { start = start; length = part.length; term = part.term } ∷ part_slots (start + part.length) rest

abbrev pub part_bodies : ℕ → List ProcedurePart → List Body
part_bodies start [] = []
part_bodies start (part ∷ rest) =
    record { link = part.link; start = start; length = part.length } ∷ part_bodies (start + part.length) rest
