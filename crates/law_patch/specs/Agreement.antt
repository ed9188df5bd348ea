-- Two runs that agree: related values, cells, stores and registers.
use Rattle.std.specs.Prelude.{◌≡◌, ℕ, ◌+◌, ◌%◌, ◌^◌, ◌<◌, false, List, Option, Some}
use Rattle.sq_isa.specs.declared.instructions.LoadKind.TheVariants.{Lw}
use Rattle.sq_memory.specs.Cells.{Cells, cells_from, AgreeOn}
use Rattle.law_follow.specs.Values.{Tag, Code, Part, Value, Num, Tagged, Cell, Byte, Frag, Stale, Held, Holds, Lost, whole}
use Rattle.law_follow.specs.Settings.{Setting, Store, Made, meets_text}
use Rattle.law_follow.specs.Accesses.{Step, with_loaded}
use Rattle.law_follow.specs.GraphRuns.{Core}

-- what the second run may hold where the first holds a tagged value: for the address of a name another name's, and
-- for an upper half any value that serves as it
pub record Ties : Type 1 where
  pub code : ℕ → ℕ → Type 0
  pub part : ℕ → Option ℕ → Value → Type 0

abbrev pub IsCode : (ℕ → Type 0) → Value → Type 0
IsCode Q (Num x) = ⊥
IsCode Q (Tagged (Code n)) = Q n
IsCode Q (Tagged (Part n word)) = ⊥

abbrev pub SameTag : Ties → Tag → Value → Type 0
SameTag T (Code n) value = IsCode (T.code n) value
SameTag T (Part n word) value = T.part n word value

-- equal numbers, or tied values
abbrev pub SameValue : Ties → Value → Value → Type 0
SameValue T (Num x) value = value ≡ Num x
SameValue T (Tagged tag) value = SameTag T tag value

-- a register that the first run has lost may hold anything in the second
abbrev pub SameHeld : Ties → Held → Held → Type 0
SameHeld T (Holds a) (Holds b) = SameValue T a b
SameHeld T (Holds a) Lost = ⊥
SameHeld T Lost held = Unit {0}

-- a number is the same number
abbrev pub SameCell : Cell → Cell → Type 0
SameCell (Byte x) cell = cell ≡ Byte x
SameCell (Frag tag k) cell = Unit {0}
SameCell Stale cell = Unit {0}

-- the word at x is loaded as this value
pub record LoadsWord (m : Cells Cell) (x : ℕ) (value : Value) : Type 0 where
  pub cells : List Cell
  pub there : cells_from m x 4 ≡ Some cells
  pub loads : (go : Value → Step) → with_loaded Lw cells go ≡ go value

-- The memories agree where P holds: numbers byte for byte, and tagged values word for word.
pub record SameMemory (P : ℕ → Type 0) (T : Ties) (m n : Cells Cell) : Type 0 where
  pub cells : AgreeOn P SameCell m n
  pub words : (x : ℕ) → x % 4 ≡ 0 → ((i : ℕ) → i < 4 → P (x + i)) → (cs : List Cell) → cells_from m x 4 ≡ Some cs → (tag : Tag) → whole cs ≡ Some tag → (value : Value) × SameTag T tag value × LoadsWord n x value

pub record SameStore (P : ℕ → Type 0) (T : Ties) (a b : Store) : Type 0 where
  pub memory : SameMemory P T a.memory b.memory
  pub input : b.input ≡ a.input
  pub reservation : b.reservation ≡ a.reservation

pub record SameMade (P : ℕ → Type 0) (T : Ties) (a b : Made) : Type 0 where
  pub value : SameValue T a.value b.value
  pub store : SameStore P T a.store b.store

-- registers agree where one of the first stands for one of the second
pub record SameCore (P : ℕ → Type 0) (T : Ties) (Stands : ℕ → ℕ → Type 0) (a b : Core) : Type 0 where
  pub registers : (r s : ℕ) → Stands r s → SameHeld T (a.registers r) (b.registers s)
  pub store : SameStore P T a.store b.store

-- numbers that serve as upper halves are words, and an access outside text is where memories agree
pub record IsTied (P : ℕ → Type 0) (T : Ties) (s : Setting) : Type 0 where
  pub numbers : (n : ℕ) (word : Option ℕ) (x : ℕ) → T.part n word (Num x) → x < 2 ^ 32
  pub outside : (x n : ℕ) → meets_text s x n ≡ false → (i : ℕ) → i < n → P (x + i)
