-- Tagged runs without their tags: what a plain machine holds where a tagged run holds values.
use Rattle.std.specs.Prelude.{◌≡◌, ℕ, ◌+◌, ◌%◌, ◌^◌, ◌<◌, ◌≤◌, true, false, Option, Some, slice_get}
use Rattle.byteorder.specs.Endian.{little_bytes}
use Rattle.sq_memory.specs.Cells.{Cells, AgreeOn}
use Rattle.sq_system.specs.World.{World, is_writable}
use Rattle.sq_machine.specs.State.{State}
use Rattle.law_follow.specs.Values.{Tag, Code, Part, Value, Num, Tagged, Cell, Byte, Frag, Stale, Held, Holds, Lost}
use Rattle.law_follow.specs.Settings.{Setting, Store, is_in_text, meets_text}
use Rattle.law_follow.specs.GraphRuns.{Core}

-- which names stand for addresses, and for which; which upper halves there are, and the word of each; and by address the
-- bytes for which stale ones stand
pub record Erasing : Type 1 where
  pub Names : ℕ → Type 0
  pub address : ℕ → ℕ
  pub Halves : ℕ → Option ℕ → Type 0
  pub word : ℕ → Option ℕ → ℕ
  pub stale : Cells ℕ

-- addresses are those of words of text, and upper halves are words
pub record IsErasing (E : Erasing) (s : Setting) : Type 0 where
  pub in_text : (n : ℕ) → E.Names n → is_in_text s (E.address n) ≡ true
  pub small : (n : ℕ) → E.Names n → E.address n < 2 ^ 32
  pub whole : (n : ℕ) → E.Names n → E.address n % 4 ≡ 0
  pub word_small : (n : ℕ) (w : Option ℕ) → E.Halves n w → E.word n w < 2 ^ 32

abbrev pub IsErasedTag : Erasing → Tag → ℕ → Type 0
IsErasedTag E (Code n) y = E.Names n × (y ≡ E.address n)
IsErasedTag E (Part n w) y = E.Halves n w × (y ≡ E.word n w)

-- a number is the same number
abbrev pub IsErased : Erasing → Value → ℕ → Type 0
IsErased E (Num x) y = y ≡ x
IsErased E (Tagged tag) y = IsErasedTag E tag y

-- a register that is lost may hold anything
abbrev pub IsErasedHeld : Erasing → Held → ℕ → Type 0
IsErasedHeld E (Holds v) y = IsErased E v y
IsErasedHeld E Lost y = Unit {0}

-- byte k of a tagged value is that of its word; a stale byte may be anything by itself, and stands for the one that
-- memory has at its address (IsErasedStore)
abbrev pub IsErasedCell : Erasing → Cell → ℕ → Type 0
IsErasedCell E (Byte b) c = c ≡ b
IsErasedCell E (Frag tag k) c = (y : ℕ) × IsErasedTag E tag y × (slice_get (little_bytes 4 y) k ≡ Some c)
IsErasedCell E Stale c = Unit {0}

-- where P holds, memory has the erased cells, and for a stale byte the one for which it stands; the input and the
-- reservation are the same
pub record IsErasedStore (P : ℕ → Type 0) (E : Erasing) (a : Store) (b : State) : Type 0 where
  pub memory : AgreeOn P (IsErasedCell E) a.memory b.memory
  pub stale : (x : ℕ) → P x → a.memory x ≡ Some Stale → b.memory x ≡ E.stale x
  pub input : b.input ≡ a.input
  pub reservation : b.reservation ≡ a.reservation

pub record IsErasedCore (P : ℕ → Type 0) (E : Erasing) (a : Core) (b : State) : Type 0 where
  pub registers : (r : ℕ) → IsErasedHeld E (a.registers r) (b.registers r)
  pub zero : b.registers 0 ≡ 0
  pub store : IsErasedStore P E a.store b

-- the two memories are laid out alike but for text; P holds above all addresses, and where an access is outside text
pub record IsErasedSetting (P : ℕ → Type 0) (s : Setting) (w : World) : Type 0 where
  pub base : w.base ≡ s.world.base
  pub size : w.size ≡ s.world.size
  pub writable : (x : ℕ) → P x → is_writable w x ≡ is_writable s.world x
  pub above : (x : ℕ) → 2 ^ 32 ≤ x → P x
  pub outside : (x n : ℕ) → x + n ≤ 2 ^ 32 → meets_text s x n ≡ false → (i : ℕ) → i < n → P (x + i)
