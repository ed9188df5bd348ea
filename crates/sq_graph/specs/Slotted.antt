-- Names that are positions: each block is named by the number of its slot.
use Rattle.std.specs.Prelude.{◌≡◌, ℕ, ◌+◌, ◌==◌, if◌then◌else◌, List, [], ◌∷◌, Option, None, Some}
use Rattle.std.specs.Option.{unwrap_or}
use Rattle.sq_graph.specs.Graph.{Graph}
use Rattle.sq_graph.specs.Parts.{names_of}
use Rattle.sq_graph.specs.Renames.{renamed}

-- the number of a name, where these stand from number k on
abbrev pub number_in : List ℕ → ℕ → ℕ → Option ℕ
number_in [] k name = None
number_in (n ∷ names) k name = if n == name then Some k else number_in names (k + 1) name

-- the position of a name, and 0 where it isn't among these
abbrev pub position_in : List ℕ → ℕ → ℕ
position_in names name = unwrap_or (number_in names 0 name) 0

-- the graph in which each block is named by its position
abbrev pub slotted : Graph → Graph
slotted g = renamed (position_in (names_of g)) g

abbrev pub IsSlotted : Graph → Type 0
IsSlotted g = slotted g ≡ g
