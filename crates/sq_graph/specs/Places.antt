-- Places: the addresses of blocks and procedures in text, and whether branches reach their targets.
use Rattle.std.specs.Prelude.{◌≡◌, ℕ, ℤ, pos, neg_ℤ, ◌+◌, ◌*◌, ◌-ℤ◌, ◌≤ℤ◌, List, [], ◌∷◌, Option, Some, None, ◌==◌, length, sum_by, slice_get, if◌then◌else◌}
use Rattle.sq_graph.specs.declared.item.Term.{Term}
use Rattle.sq_graph.specs.declared.item.Term.TheVariants.{Fall, Jump, Branch, Call, PartJump, Indirect, Stop}
use Rattle.sq_graph.specs.Graph.{Block, Procedure, Graph}
use Rattle.sq_graph.specs.Words.{block_words, procedure_words}

-- the address of the block of a name, where these blocks stand from `at` on
abbrev pub address_in : List Block → ℕ → ℕ → Option ℕ
address_in [] at n = None
address_in (block ∷ blocks) at n = if block.name == n then Some at else address_in blocks (at + 4 * block_words block) n

-- the addresses of procedures that stand from `at` on
abbrev pub procedure_addresses : List Procedure → ℕ → List ℕ
procedure_addresses [] at = []
procedure_addresses (procedure ∷ procedures) at = at ∷ procedure_addresses procedures (at + 4 * procedure_words procedure)

-- Blocks stand in layout order from `lo` on, and procedures behind them.
abbrev pub block_address : Graph → ℕ → ℕ → Option ℕ
block_address g lo n = address_in g.blocks lo n

abbrev pub procedure_address : Graph → ℕ → ℕ → Option ℕ
procedure_address g lo n = slice_get (procedure_addresses g.procedures (lo + 4 * sum_by block_words g.blocks)) n

-- a branch reaches a distance of -4096 to 4094 bytes
pub record Reaches (distance : ℤ) : Type 0 where
  pub least : neg_ℤ (pos 4096) ≤ℤ distance
  pub most : distance ≤ℤ pos 4094

-- a Branch at this address reaches its target
abbrev pub TermReaches : Graph → ℕ → Term → Type 0
TermReaches g at (Branch cond a b to) = (target : ℕ) → block_address g 0 to ≡ Some target → Reaches (pos target -ℤ pos at)
TermReaches g at Fall = Unit {0}
TermReaches g at (Jump to) = Unit {0}
TermReaches g at (Call link to) = Unit {0}
TermReaches g at (PartJump link part to) = Unit {0}
TermReaches g at (Indirect link x offset) = Unit {0}
TermReaches g at (Stop word) = Unit {0}

-- each Branch of these blocks, which stand from `at` on, reaches its target
abbrev pub BranchesReach : Graph → ℕ → List Block → Type 0
BranchesReach g at [] = Unit {0}
BranchesReach g at (block ∷ blocks) =
    TermReaches g (at + 4 * length block.items) block.term × BranchesReach g (at + 4 * block_words block) blocks

-- The graph is in reach. Distances don't depend on where text starts.
abbrev pub IsInReach : Graph → Type 0
IsInReach g = BranchesReach g 0 g.blocks
