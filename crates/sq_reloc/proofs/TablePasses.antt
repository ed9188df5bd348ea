-- A pass over the tables of a file, entry by entry.
use Rattle.std.proofs.Common.{◌≡◌, ℕ, suc, Bool, true, false, if◌then◌else◌, List, [], ◌∷◌, ◌++◌, Option, Some, None, refl, sym, subst, ap, ◌∙◌, append_assoc, append-nil}
use Rattle.sq_elf.specs.declared.section.Section.{Section}
use Rattle.sq_elf.specs.Reading.{section_at}
use Rattle.sq_reloc.specs.declared.entry.Entry.{Entry}
use Rattle.sq_reloc.specs.Kinds.{is_ignored}
use Rattle.sq_reloc.specs.Entries.{entry_at, entries_in, table_entries}
use Rattle.sq_reloc.specs.Repeats.{is_fresh, fresh_entries, fresh_before}

-- nothing more
pub none_more : (Holds : List Entry → Type 0) (entries : List Entry) → Holds entries → Holds (entries ++ [])
none_more Holds entries holds = subst Holds (sym (append-nil entries)) holds

module _ (Holds : List Entry → Type 0) (bytes : List ℕ) (index : ℕ) (table : Section) (entries : List Entry) where
  -- of the first no entries
  pub table_start : Holds entries → Holds (entries ++ entries_in bytes index table 0)
  unfolding entries_in
  table_start holds = none_more Holds entries holds

  more_of : (number : ℕ) (ignored : Bool) → is_ignored (entry_at bytes index table number).kind ≡ ignored → entries_in bytes index table (suc number) ≡ (if ignored then entries_in bytes index table number else entries_in bytes index table number ++ entry_at bytes index table number ∷ [])
  unfolding entries_in
  more_of number ignored is = rw is refl

  -- one that is ignored
  pub table_ignored : (number next : ℕ) → next ≡ suc number → is_ignored (entry_at bytes index table number).kind ≡ true → Holds (entries ++ entries_in bytes index table number) → Holds (entries ++ entries_in bytes index table next)
  table_ignored number next next_is is holds =
      let same : entries_in bytes index table number ≡ entries_in bytes index table next = sym (more_of number true is) ∙ ap (entries_in bytes index table) (sym next_is) in
      let Here : List Entry → Type 0 = λ part. Holds (entries ++ part) in
      subst Here same holds

  -- one that counts
  pub table_added : (number next : ℕ) → next ≡ suc number → is_ignored (entry_at bytes index table number).kind ≡ false → Holds ((entries ++ entries_in bytes index table number) ++ entry_at bytes index table number ∷ []) → Holds (entries ++ entries_in bytes index table next)
  table_added number next next_is is holds =
      let same : entries_in bytes index table number ++ entry_at bytes index table number ∷ [] ≡ entries_in bytes index table next = sym (more_of number false is) ∙ ap (entries_in bytes index table) (sym next_is) in
      let Here : List Entry → Type 0 = λ part. Holds (entries ++ part) in
      subst Here same (subst Holds (append_assoc entries (entries_in bytes index table number) (entry_at bytes index table number ∷ [])) holds)

-- the next section
pub next_section : (Holds : List Entry → Type 0) (bytes : List ℕ) (index next : ℕ) → next ≡ suc index → Holds (fresh_before bytes index ++ fresh_entries bytes index (section_at bytes index)) → Holds (fresh_before bytes next)
unfolding fresh_before
next_section Holds bytes index next next_is holds = let Here : ℕ → Type 0 = λ n. Holds (fresh_before bytes n) in subst Here (sym next_is) holds

-- a section that is fresh, and one that is not
section_counts : (bytes : List ℕ) (index : ℕ) (table : Section) (found : Option Section) → found ≡ Some table → is_fresh bytes index table ≡ true → fresh_entries bytes index found ≡ table_entries bytes index table
section_counts bytes index table None is counts = absurd (cc is)
section_counts bytes index table (Some s) is counts = let same : s ≡ table = cc is in rw (same, counts) refl

pub section_added : (Holds : List Entry → Type 0) (bytes : List ℕ) (index : ℕ) (table : Section) (found : Option Section) (entries : List Entry) → found ≡ Some table → is_fresh bytes index table ≡ true → Holds (entries ++ table_entries bytes index table) → Holds (entries ++ fresh_entries bytes index found)
section_added Holds bytes index table found entries is counts holds =
    let Here : List Entry → Type 0 = λ part. Holds (entries ++ part) in
    subst Here (sym (section_counts bytes index table found is counts)) holds

pub section_missing : (Holds : List Entry → Type 0) (bytes : List ℕ) (index : ℕ) (found : Option Section) (entries : List Entry) → found ≡ None → Holds entries → Holds (entries ++ fresh_entries bytes index found)
section_missing Holds bytes index found entries is holds = rw is (none_more Holds entries holds)

pub section_passed : (Holds : List Entry → Type 0) (bytes : List ℕ) (index : ℕ) (table : Section) (found : Option Section) (entries : List Entry) → found ≡ Some table → is_fresh bytes index table ≡ false → Holds entries → Holds (entries ++ fresh_entries bytes index found)
section_passed Holds bytes index table None entries is counts holds = absurd (cc is)
section_passed Holds bytes index table (Some s) entries is counts holds = let same : s ≡ table = cc is in rw (same, counts) (none_more Holds entries holds)
