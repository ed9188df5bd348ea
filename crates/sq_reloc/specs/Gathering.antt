-- What is gathered of entries in one pass over them, and what they say of the words of text in a second one.
use Rattle.std.specs.Prelude.{◌≡◌, ℕ, nat_eq, List}
use Rattle.std.specs.Ordering.{nat_cmp}
use Rattle.std.specs.List.{find, filter}
use Rattle.std.specs.HashSet as set
use Rattle.std.specs.BTreeMap as tree
use Rattle.sq_elf.specs.Text.{text_of}
use Rattle.sq_reloc.specs.declared.entry.Entry.{Entry}
use Rattle.sq_reloc.specs.declared.gathered.Gathered.{Gathered}
use Rattle.sq_reloc.specs.declared.words.Noted.{Noted}
use Rattle.sq_reloc.specs.Kinds.{touches_word}
use Rattle.sq_reloc.specs.Entries.{first_target}
use Rattle.sq_reloc.specs.Outside.{is_code_entry, is_stale_by, is_refused_outside}
use Rattle.sq_reloc.specs.Required.{is_upper}
use Rattle.sq_reloc.specs.Seen.{AreWordsBy}
use Rattle.sq_reloc.specs.Tables.{is_bad_symbol}

-- what these entries say of addresses
pub record IsGathered (bytes : List ℕ) (gathered : Gathered) (entries : List Entry) : Type 0 where
  pub stale_is : (address : ℕ) → set.contains nat_eq gathered.stale address ≡ is_stale_by (text_of bytes) entries address
  pub targets_are : (address : ℕ) → tree.get nat_cmp gathered.targets address ≡ first_target (is_code_entry (text_of bytes)) entries address
  pub uppers_are : (address : ℕ) → tree.get nat_cmp gathered.uppers address ≡ first_target is_upper entries address
  pub lacking_is : gathered.lacking ≡ find (is_bad_symbol bytes) entries

-- what these entries say of the words of text, and the first of them outside text that is refused
pub record IsNoted (bytes : List ℕ) (noted : Noted) (entries : List Entry) : Type 0 where
  pub words_are : AreWordsBy bytes noted.words.items (λ address. filter (λ e. touches_word e address) entries)
  pub refused_is : noted.refused ≡ find (is_refused_outside bytes) entries
