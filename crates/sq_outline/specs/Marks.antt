-- Bodies by which of their items write the registers that are live behind them.
use Rattle.std.specs.Prelude.{◌≡◌, ◌==◌, ◌||◌, ◌&&◌, ℕ, ◌+◌, ◌<◌, Bool, true, false, List, [], ◌∷◌, Some, length, get_or, slice_get}
use Rattle.std.specs.Int.{bit_at}
use Rattle.sq_isa.specs.Registers.{is_member}
use Rattle.sq_graph.specs.declared.item.Item.{Item}
use Rattle.sq_graph.specs.Graph.{Graph}
use Rattle.sq_graph.specs.Blocks.{items_of}
use Rattle.sq_graph.specs.Matches.{item_writes}
use Rattle.sq_rename.specs.Bodies.{IsLiveBehind}
use Rattle.sq_outline.specs.declared.marks.Mark.{Mark}

-- of these items, which stand from this place on, one writes the register at a place of which the bit is 1
abbrev pub is_written_at : ℕ → ℕ → List Item → ℕ → Bool
is_written_at bit place [] r = false
is_written_at bit place (item ∷ items) r = (bit_at place bit == 1 && item_writes item r) || is_written_at bit (place + 1) items r

-- these are the writes of the items, which stand from the first place on: for each bit the set that one writes at such places
abbrev pub AreWrites : List Item → List ℕ → Type 0
AreWrites items writes = (bit set : ℕ) → slice_get writes bit ≡ Some set → (r : ℕ) → is_member set r ≡ is_written_at bit 1 items r

-- the registers that aren't in this set are written at the same places
abbrev pub AreAlike : ℕ → List ℕ → List ℕ → Type 0
AreAlike dead writes others = (bit set other : ℕ) → slice_get writes bit ≡ Some set → slice_get others bit ≡ Some other → (r : ℕ) → is_member dead r ≡ false → is_member set r ≡ is_member other r

-- the mark of a block's body: each register that is dead behind it, and its writes
pub record IsMark (g : Graph) (block : ℕ) (mark : Mark) : Type 0 where
  pub dead : (r : ℕ) → 0 < r → r < 32 → (¬ IsLiveBehind g block r) → is_member mark.dead r ≡ true
  pub writes : AreWrites (items_of g block) mark.writes

-- each of these blocks has its mark
pub record AreMarks (g : Graph) (blocks : List ℕ) (marks : List Mark) : Type 0 where
  pub count : length marks ≡ length blocks
  pub each : (i : ℕ) (mark : Mark) → slice_get marks i ≡ Some mark → IsMark g (get_or blocks i 0) mark
