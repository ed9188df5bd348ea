-- Where the blocks and procedures of a graph stand, as they are kept.
use Rattle.std.specs.Prelude.{◌≡◌, ℕ, nat_eq, List, Option, slice_get}
use Rattle.std.specs.Map.{lookup}
use Rattle.sq_graph.specs.Graph.{Graph}
use Rattle.sq_graph.specs.Places.{block_address, procedure_address}

-- the addresses of blocks by their names, and those of procedures by their numbers
pub record Addresses : Type 0 where
  pub blocks : List (ℕ × ℕ)
  pub procedures : List ℕ

abbrev pub address_of : Addresses → ℕ → Option ℕ
address_of addresses n = lookup (nat_eq n) addresses.blocks

abbrev pub procedure_at : Addresses → ℕ → Option ℕ
procedure_at addresses n = slice_get addresses.procedures n

-- these are the addresses in the graph's text, which starts at `lo`: each block and procedure has its own, and no other
-- name or number has one
pub record ArePlaces (g : Graph) (lo : ℕ) (addresses : Addresses) : Type 0 where
  pub blocks : (n : ℕ) → address_of addresses n ≡ block_address g lo n
  pub procedures : (n : ℕ) → procedure_at addresses n ≡ procedure_address g lo n
