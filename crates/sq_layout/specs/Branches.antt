-- Whether a block's Branch reaches.
use Rattle.std.specs.Prelude.{◌≡◌, ℕ, pos, ◌-ℤ◌, ◌+◌, ◌-◌, ◌*◌, length, nat_lt, Option, Some, option_map, if◌then◌else◌}
use Rattle.sq_graph.specs.Graph.{Graph}
use Rattle.sq_graph.specs.Blocks.{items_of}
use Rattle.sq_graph.specs.Places.{block_address, Reaches}

-- where the word of a block's term stands, in a text that starts at 0
abbrev pub term_address : Graph → ℕ → Option ℕ
term_address g block = option_map (λ at. at + 4 * length (items_of g block)) (block_address g 0 block)

-- a Branch at the end of the one block reaches the other
abbrev pub BranchReaches : Graph → ℕ → ℕ → Type 0
BranchReaches g from to =
    (at target : ℕ) → term_address g from ≡ Some at → block_address g 0 to ≡ Some target → Reaches (pos target -ℤ pos at)

-- where a place stands once a word is gone
abbrev pub lifted : ℕ → ℕ → ℕ
lifted gone x = if nat_lt gone x then x - 4 else x
