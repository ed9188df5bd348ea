-- The canonical graph of a graph, which is one fixed function.
use Rattle.std.specs.Prelude.{ℕ, Bool, ◌&&◌, ◌==◌, not, if◌then◌else◌, List, [], ◌∷◌, ◌++◌, Option, None, Some}
use Rattle.sq_isa.specs.Registers.{is_among}
use Rattle.sq_graph.specs.Graph.{Block, Graph}
use Rattle.sq_graph.specs.Blocks.{next_of}
use Rattle.sq_graph.specs.Uses.{uses}
use Rattle.sq_graph.specs.Operations.{redirected, without_block}
use Rattle.sq_graph.specs.Leaders.{is_fall, is_bare, is_leader}

-- the block gives its names to the next slot, and goes
abbrev pub bypassed_to : Graph → ℕ → Option ℕ → Graph
bypassed_to g name None = g
bypassed_to g name (Some next) = without_block (redirected g name next) name

abbrev pub bypassed : Graph → ℕ → Graph
bypassed g name = bypassed_to g name (next_of g name)

-- each of these blocks that is empty with Fall, from the first on, is bypassed
abbrev pub bypassed_each : List Block → Graph → Graph
bypassed_each [] g = g
bypassed_each (b ∷ rest) g = bypassed_each rest (if is_bare b then bypassed g b.name else g)

-- the block takes over the items and the term of the next one, where it falls into it and that is no leader
abbrev pub joined_onto : (ℕ → Bool) → Block → List Block → List Block
joined_onto leads b [] = b ∷ []
joined_onto leads b (next ∷ rest) =
    if is_fall b.term && not (leads next.name) then record b { items = b.items ++ next.items; term = next.term } ∷ rest
    else b ∷ next ∷ rest

-- each block that is fallen into and is no leader is joined to the one before
abbrev pub joined_blocks : (ℕ → Bool) → List Block → List Block
joined_blocks leads [] = []
joined_blocks leads (b ∷ rest) = joined_onto leads b (joined_blocks leads rest)

abbrev pub joined_by : (ℕ → Bool) → Graph → Graph
joined_by leads g = record g { blocks = joined_blocks leads g.blocks }

abbrev pub joined : Graph → Graph
joined g = joined_by (is_leader g) g

-- every name but one
abbrev pub all_but : ℕ → ℕ → Bool
all_but name n = not (n == name)

-- the block of the name is joined to the one before, where that falls into it and the name isn't used
abbrev pub joined_before : Graph → ℕ → Graph
joined_before g name = if is_among (uses g) name then g else joined_by (all_but name) g

-- first each block that is empty with Fall, from the first on, gives its names to the next slot and goes; then
-- each block that is fallen into and is no leader is joined to the one before
abbrev pub canonical_of : Graph → Graph
canonical_of g = joined (bypassed_each g.blocks g)
