-- Registers that are dead behind a block while other blocks are rewritten.
use Rattle.std.specs.Prelude.{◌≡◌, ◌≢◌, ℕ, ◌<◌, ◌≤◌, true, Option, Some, length}
use Rattle.sq_isa.specs.Registers.{is_member}
use Rattle.sq_graph.specs.Graph.{Graph}
use Rattle.sq_graph.specs.Blocks.{HasBlock, items_of}
use Rattle.sq_graph.specs.Canonical.{canonical_of}
use Rattle.sq_graph.specs.Lines.{place_lines}
use Rattle.sq_graph.specs.Walks.{IsLive}
use Rattle.sq_tail.specs.Tails.{IsJoined}
use Rattle.sq_tail.specs.declared.sweep.bodies.Behind.{Behind}

-- each of these registers is dead at a place of a block
abbrev pub AreDead : ℕ → Graph → ℕ → ℕ → Type 0
AreDead dead g block place = (r : ℕ) → 0 < r → r < 32 → is_member dead r ≡ true → ¬ IsLive g r (place_lines g block place)

-- the block has so many items at least, and behind these each of these registers is dead
pub record IsDeadBehind (g : Graph) (block items set : ℕ) : Type 0 where
  pub within : items ≤ length (items_of g block)
  pub dead : AreDead set g block items

-- so it is, where the block is there
abbrev pub IsStillDead : Graph → ℕ → ℕ → ℕ → Type 0
IsStillDead g block items dead = HasBlock g block → IsDeadBehind g block items dead

-- so it is for each name under which something is told
abbrev pub AreTold : Graph → (ℕ → Option Behind) → Type 0
AreTold g told = (block : ℕ) (b : Behind) → told block ≡ Some b → IsStillDead g block b.items b.dead

-- what is still dead stays so, but behind this block
abbrev pub KeepsDeadElsewhere : Graph → Graph → ℕ → Type 0
KeepsDeadElsewhere g h gone = (block items dead : ℕ) → block ≢ gone → IsStillDead g block items dead → IsStillDead h block items dead

-- the ends of two blocks are joined, and the graph is made canonical
abbrev pub IsJoinedWhole : Graph → ℕ → ℕ → ℕ → Graph → Type 0
IsJoinedWhole g dropped kept k h = (mid : Graph) × (IsJoined g dropped kept k mid × (h ≡ canonical_of mid))
