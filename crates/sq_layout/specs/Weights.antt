-- Where blocks stand if each takes the words that a weight gives it.
use Rattle.std.specs.Prelude.{◌≡◌, ℕ, pos, ◌-ℤ◌, ◌+◌, ◌*◌, ◌==◌, List, [], ◌∷◌, length, Option, None, Some, if◌then◌else◌}
use Rattle.sq_graph.specs.Graph.{Block, Graph}
use Rattle.sq_graph.specs.Blocks.{items_of}
use Rattle.sq_graph.specs.Places.{Reaches}

-- the address of the block of a name, where these blocks stand from `at` on
abbrev pub address_by : (Block → ℕ) → List Block → ℕ → ℕ → Option ℕ
address_by weight [] at n = None
address_by weight (block ∷ blocks) at n =
    if block.name == n then Some at else address_by weight blocks (at + 4 * weight block) n

-- a Branch behind the items of the one block reaches the other
abbrev pub BranchReachesBy : (Block → ℕ) → Graph → ℕ → ℕ → Type 0
BranchReachesBy weight g from to =
    (at target : ℕ) → address_by weight g.blocks 0 from ≡ Some at → address_by weight g.blocks 0 to ≡ Some target
    → Reaches (pos target -ℤ pos (at + 4 * length (items_of g from)))
