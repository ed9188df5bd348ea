-- Blocks that are empty with Fall.
use Rattle.std.specs.Prelude.{◌≡◌, ◌≢◌, ℕ, Bool, true, false, ◌&&◌, ◌||◌, ◌==◌, not, List, Option, None, Some}
use Rattle.std.specs.List.{All}
use Rattle.sq_arena.specs.Entries.{value_of, next_key}
use Rattle.sq_graph.specs.declared.item.Term.TheVariants.{Jump}
use Rattle.sq_graph.specs.Graph.{Block, Graph}
use Rattle.sq_graph.specs.Blocks.{named, block_of, block_term}
use Rattle.sq_graph.specs.Leaders.{is_bare, FallsIntoLeaders}
use Rattle.sq_graph.specs.Uses.{uses}
use Rattle.sq_isa.specs.Registers.{is_among}

-- the block is there, and empty with Fall
pub record IsBareAt (g : Graph) (name : ℕ) : Type 0 where
  pub block : Block
  pub there : block_of g name ≡ Some block
  pub bare : is_bare block ≡ true

-- no block is empty with Fall but those that may be
abbrev pub AreSolidBut : (ℕ → Bool) → Graph → Type 0
AreSolidBut may g = All (λ b. (not (may b.name) && is_bare b) ≡ false) g.blocks

-- the block before this one doesn't jump to the one behind it
abbrev pub IsSpanned : ℕ → List Block → Type 0
IsSpanned m bs = (p s : ℕ) → next_key (named bs) p ≡ Some m → next_key (named bs) m ≡ Some s → block_term (value_of (named bs) p) ≢ Some (Jump s)

-- what is fallen into is used or among these names
abbrev pub AreLed : (ℕ → Bool) → Graph → Type 0
AreLed leads g = FallsIntoLeaders (λ n. leads n || is_among (uses g) n) g.blocks

-- whether this is the name, if there is one
abbrev pub is_it : Option ℕ → ℕ → Bool
is_it None n = false
is_it (Some name) n = name == n
