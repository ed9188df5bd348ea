-- The cells of zeros at the start of a watched run, and the pages in which relocations say something of a byte.
use Rattle.std.specs.Prelude.{◌≡◌, ℕ, ◌/◌, Bool, true, ◌&&◌, nat_le, nat_lt, nat_eq, List, Some, None, IsSome, if◌then◌else◌}
use Rattle.std.specs.declared.hash.FoldHasher.{FoldHasher}
use Rattle.std.specs.declared.hash.BuildHasherDefault.{BuildHasherDefault}
use Rattle.std.specs.HashSet.{HashSet}
use Rattle.std.specs.HashSet as set
use Rattle.sq_memory.specs.Cells.{Cells}
use Rattle.sq_reloc.specs.declared.mark.CodeWord.{CodeWord}
use Rattle.sq_reloc.specs.CodeWords.{listed_at}
use Rattle.sq_reloc.specs.Outside.{code_word_at, is_stale}
use Rattle.law_follow.specs.Values.{Cell}
use Rattle.sq_monitor.specs.FileCells.{file_cell}

-- a set of numbers of pages of 4 KiB
abbrev pub PageSet : Type 0
PageSet = HashSet ℕ (BuildHasherDefault FoldHasher)

-- the page of an address is in the set
abbrev pub is_on : PageSet → ℕ → Bool
is_on pages x = set.contains nat_eq pages (x / 4096)

-- the pages of these code words are in the set
abbrev pub HasWords : PageSet → List CodeWord → Type 0
HasWords pages words = (x : ℕ) → IsSome (listed_at words x) → is_on pages x ≡ true

-- each byte that is stale, and each code word, is on one of the pages
pub record HasMarks (bytes : List ℕ) (pages : PageSet) : Type 0 where
  pub stale : (x : ℕ) → is_stale bytes x ≡ true → is_on pages x ≡ true
  pub words : (x : ℕ) → IsSome (code_word_at bytes x) → is_on pages x ≡ true

-- zeros at the virtual addresses from `low` up to, without, `high`, as the start has them
abbrev pub zero_cells : List ℕ → ℕ → ℕ → Cells Cell
zero_cells bytes low high x = if nat_le low x && nat_lt x high then Some (file_cell bytes x 0) else None

-- those of them that are on one of the pages
abbrev pub marked_zeros : List ℕ → PageSet → ℕ → ℕ → Cells Cell
marked_zeros bytes pages low high x = if (nat_le low x && nat_lt x high) && is_on pages x then Some (file_cell bytes x 0) else None
