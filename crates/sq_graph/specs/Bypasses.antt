-- The graph that is left once every block that is empty with Fall is bypassed.
use Rattle.std.specs.Prelude.{ℕ, not, if◌then◌else◌, List, [], ◌∷◌}
use Rattle.std.specs.List.{filter}
use Rattle.sq_graph.specs.Graph.{Block, Graph}
use Rattle.sq_graph.specs.Renames.{retargeted, swapped}
use Rattle.sq_graph.specs.Leaders.{is_bare}

-- the blocks that aren't empty with Fall
abbrev pub kept : List Block → List Block
kept blocks = filter (λ b. not (is_bare b)) blocks

-- the name of the first of these blocks, and `name` where there is none
abbrev pub first_name : List Block → ℕ → ℕ
first_name [] name = name
first_name (b ∷ rest) name = b.name

-- where the uses of a name go, once each of these blocks that is empty with Fall, from the first on, has given
-- its names to the slot behind it
abbrev pub passed : List Block → ℕ → ℕ
passed [] name = name
passed (b ∷ rest) name =
    passed rest (if is_bare b then swapped b.name (first_name rest name) name else name)

abbrev pub all_bypassed : Graph → Graph
all_bypassed g = retargeted (passed g.blocks) (record g { blocks = kept g.blocks })
