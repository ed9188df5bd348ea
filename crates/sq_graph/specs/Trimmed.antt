-- Blocks that lose their last items.
use Rattle.std.specs.Prelude.{ℕ, ◌-◌, List, [], ◌∷◌, length}
use Rattle.sq_graph.specs.Graph.{Graph}
use Rattle.sq_graph.specs.Blocks.{items_of}
use Rattle.sq_graph.specs.Operations.{replaced}

-- the last `most` items of the block are gone, or all where it has no more
abbrev pub trimmed : ℕ → Graph → ℕ → Graph
trimmed most g name = replaced g name (length (items_of g name) - most) most []

-- the same of each of these blocks, one after another
abbrev pub trimmed_each : ℕ → List ℕ → Graph → Graph
trimmed_each most [] g = g
trimmed_each most (name ∷ rest) g = trimmed_each most rest (trimmed most g name)
