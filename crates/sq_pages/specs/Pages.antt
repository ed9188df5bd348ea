-- Memory in pages of 4096 addresses, as contents.
use Rattle.std.specs.Prelude.{◌≡◌, ℕ, ◌+◌, ◌<◌, ◌/◌, ◌%◌, Bool, true, false, ◌&&◌, nat_le, nat_lt, nat_eq, List, length, Option, Some, None, IsSome, get_or, if◌then◌else◌}
use Rattle.sq_memory.specs.Cells.{Cells}
use Rattle.sq_memory.specs.Regions.{or_else}
use Rattle.sq_pages.specs.declared.page.Page.{Page}
use Rattle.sq_pages.specs.declared.page.Page.TheVariants.{Same, Own}

-- a page: the same at each place, or an entry for each
pub data Sheet (C : Type 0) : Type 0 where
  Alike : Option C → Sheet C
  Each : List (Option C) → Sheet C

-- a page of the code as its sheet
abbrev pub sheet_of : {C : Type 0} → Page C → Sheet C
sheet_of (Same o) = Alike o
sheet_of (Own cells) = Each cells.items

-- what a page has at a place
abbrev pub sheet_cell : {C : Type 0} → Sheet C → ℕ → Option C
sheet_cell (Alike o) i = o
sheet_cell (Each cells) i = get_or cells i None

-- a write to the page takes no memory: it has nothing, or an entry for each place
abbrev pub is_ready_sheet : {C : Type 0} → Sheet C → Bool
is_ready_sheet (Alike None) = true
is_ready_sheet (Alike (Some c)) = false
is_ready_sheet (Each cells) = true

-- it has an entry for each place, if all are there
abbrev pub has_each : {C : Type 0} → Sheet C → Bool
has_each (Alike o) = false
has_each (Each cells) = true

-- it has 4096 entries, if it has any
abbrev pub IsWhole : {C : Type 0} → Sheet C → Type 0
IsWhole (Alike o) = Unit {0}
IsWhole (Each cells) = length cells ≡ 4096

-- the page of an address; behind the last one there is nothing
abbrev pub sheet_at : {C : Type 0} → List (Sheet C) → ℕ → Sheet C
sheet_at sheets x = get_or sheets (x / 4096) (Alike None)

-- WHAT STANDS at an address
abbrev pub cells_of : {C : Type 0} → List (Sheet C) → Cells C
cells_of sheets x = sheet_cell (sheet_at sheets x) (x % 4096)

-- a write at an address takes no memory
abbrev pub is_ready : {C : Type 0} → List (Sheet C) → ℕ → Bool
is_ready sheets x = is_ready_sheet (sheet_at sheets x)

-- writes at the n addresses from x on take no memory
abbrev pub AreReady : {C : Type 0} → List (Sheet C) → ℕ → ℕ → Type 0
AreReady sheets x n = (i : ℕ) → i < n → is_ready sheets (x + i) ≡ true

-- m, and under it r: what r has where m has nothing
abbrev pub over : {C : Type 0} → Cells C → Cells C → Cells C
over m r x = or_else (m x) (r x)

-- c at one address
abbrev pub one_cell : {C : Type 0} → ℕ → C → Cells C
one_cell at c x = if nat_eq x at then Some c else None

-- c at each address from `low` up to, without, `high`
abbrev pub same_cell : {C : Type 0} → ℕ → ℕ → C → Cells C
same_cell low high c x = if nat_le low x && nat_lt x high then Some c else None

-- what stood in m stands in the other, as it was
abbrev pub Keeps : {C : Type 0} → Cells C → Cells C → Type 0
Keeps m other = (x : ℕ) → IsSome (m x) → other x ≡ m x
