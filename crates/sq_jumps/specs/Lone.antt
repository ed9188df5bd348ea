-- Lone Jumps that give their names to their targets and go, many at once: by row J1 or J2.
use Rattle.std.specs.Prelude.{◌≡◌, ◌≢◌, ◌⊎◌, ℕ, Some, true, false, List}
use Rattle.sq_isa.specs.Registers.{is_among}
use Rattle.sq_graph.specs.Graph.{Graph}
use Rattle.sq_graph.specs.Blocks.{next_of}
use Rattle.sq_graph.specs.Resolve.{jump_from}
use Rattle.sq_graph.specs.Uses.{uses}
use Rattle.sq_lookup.specs.Names.{is_listed}
use Rattle.sq_pass.specs.declared.cut.Row.{Row}
use Rattle.sq_pass.specs.declared.cut.Row.TheVariants.{J1, J2}
use Rattle.sq_jumps.specs.UnreachedClear.{AreOnce}
use Rattle.sq_jumps.specs.Detour.{IsDetour}

-- one of row J2 that something names
pub record IsNamedDetour (g : Graph) (block : ℕ) : Type 0 where
  pub detour : IsDetour g block
  pub is_named : is_among (uses g) block ≡ true

-- the rows by which lone Jumps go
abbrev pub IsLoneRow : Row → Type 0
IsLoneRow row = (row ≡ J1) ⊎ (row ≡ J2)

-- A lone Jump to another block that gives its names to its target and goes: by row J1 where the target stands in the next
-- slot, since the canonical form bypasses an empty block with Fall, and by row J2 where something names the Jump.
pub record IsBypassable (row : Row) (g : Graph) (block : ℕ) : Type 0 where
  pub to : ℕ
  pub jump : jump_from g block ≡ Some to
  pub other : to ≢ block
  pub way : (row ≡ J1) × (next_of g block ≡ Some to) ⊎ (row ≡ J2) × IsNamedDetour g block

-- Lone Jumps that go together by a row: none leads to another of them.
pub record GoTogether (row : Row) (g : Graph) (gone : List ℕ) : Type 0 where
  pub go : (n : ℕ) → is_listed gone n ≡ true → IsBypassable row g n
  pub apart : (n to : ℕ) → is_listed gone n ≡ true → jump_from g n ≡ Some to → is_listed gone to ≡ false
  pub once : AreOnce gone

-- A lone Jump, with its target, that none of these is and none leads to, and that leads to none of them.
pub record IsFree (g : Graph) (gone aims : List ℕ) (block to : ℕ) : Type 0 where
  pub jump : jump_from g block ≡ Some to
  pub is_new : is_listed gone block ≡ false
  pub no_aim : is_listed aims block ≡ false
  pub stays : is_listed gone to ≡ false

-- Lone Jumps that were chosen to go together, as a list and as a set, and a set that has their targets.
pub record AreChosen (row : Row) (g : Graph) (blocks gone aims : List ℕ) : Type 0 where
  pub together : GoTogether row g blocks
  pub listed : (n : ℕ) → is_listed gone n ≡ is_listed blocks n
  pub aimed : (n to : ℕ) → is_listed gone n ≡ true → jump_from g n ≡ Some to → is_listed aims to ≡ true
