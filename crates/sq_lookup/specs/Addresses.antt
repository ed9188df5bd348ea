-- Where blocks stand in a text that starts at 0.
use Rattle.std.specs.Prelude.{◌≡◌, ℕ, Option, Some, unwrap_or}
use Rattle.sq_isa.specs.declared.instructions.Cond.{Cond}
use Rattle.sq_graph.specs.declared.item.Term.TheVariants.{Branch}
use Rattle.sq_graph.specs.Graph.{Graph}
use Rattle.sq_graph.specs.Blocks.{term_of}
use Rattle.sq_graph.specs.Places.{block_address}
use Rattle.sq_layout.specs.Branches.{BranchReaches}

abbrev pub address_of : Graph → ℕ → ℕ
address_of g n = unwrap_or (block_address g 0 n) 0

-- the address under a name
abbrev pub address_at : (ℕ → Option ℕ) → ℕ → ℕ
address_at address n = unwrap_or (address n) 0

-- the block's Branch reaches, if it ends in one
abbrev pub HasReach : Graph → ℕ → Type 0
HasReach g block = (cond : Cond) (a b to : ℕ) → term_of g block ≡ Some (Branch cond a b to) → BranchReaches g block to
