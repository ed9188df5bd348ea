-- The relocation entries of an output file.
use Rattle.std.proofs.Common.{◌≡◌, ℕ, zero, suc, ◌+◌, ◌*◌, ◌/◌, ◌%◌, ◌<◌, ◌≤◌, true, false, List, [], ◌∷◌, ◌++◌, take, length, slice_index, Option, Some, None, slice_get, refl, sym, ap, subst, ◌∙◌, arith, append-nil, length-append}
use Rattle.std.specs.List.{AllByRecursion}
use Rattle.std.proofs.lemmas.Bool.{lt-ltb}
use Rattle.sq_elf.specs.declared.section.Section.{Section as ReadSection}
use Rattle.sq_elf.specs.Fields.{u32_field}
use Rattle.sq_elf.specs.Headers.{shnum_of}
use Rattle.sq_elf.specs.Reading.{section_at}
use Rattle.sq_reloc.specs.declared.entry.Entry.{Entry}
use Rattle.sq_reloc.specs.Kinds.{is_ignored}
use Rattle.sq_reloc.specs.Entries.{is_rela, is_in_memory, section_is, is_applied, symbol_value, entry_at, entries_in, table_entries, section_entries, entries_before, entries_of}
use Rattle.sq_write.specs.Output.{words, Relocation, Output, contents_at, contents_of, offsets, relocation_table, Section, section_table, output_file}
use Rattle.law_written.specs.Fitting.{IsFitting}
use Rattle.law_written.specs.Reading.{seen, output_sections, section_parts}
use Rattle.law_written.proofs.Headers.{headers_are_read}
use Rattle.law_written.proofs.Laid.{laid_part}
use Rattle.law_written.proofs.Lists.{some_at, all_at, take_one_more}
use Rattle.law_written.proofs.OutputParts.{PartAt, part_from, first_part, rest_part, word_at}
use Rattle.law_written.proofs.Sections.{sections_are_read}
use Rattle.law_written.proofs.OutputPlaces.{output_stands}
use Rattle.law_written.specs.Entries.{IsFittingRelocation, read_entry, numbered, EntriesAreRead}

-- the numbers of an entry
abbrev numbers : Relocation → List ℕ
numbers r = r.offset ∷ r.kind ∷ r.addend ∷ []

pub table_size : (rs : List Relocation) → length (relocation_table rs) ≡ 12 * length rs
table_size [] = refl
table_size (r ∷ rs) = omega (arith, table_size rs, length-append (words (numbers r)) (relocation_table rs))

entry_part : (file : List ℕ) (at : ℕ) (rs : List Relocation) → PartAt file at (relocation_table rs) → (k : ℕ) (r : Relocation) → slice_get rs k ≡ Some r → PartAt file (at + 12 * k) (words (numbers r))
entry_part file at [] has k r is = absurd (cc is)
entry_part file at (q ∷ rs) has zero r is =
    let same : q ≡ r = cc is in
    let none : at ≡ at + 12 * 0 = omega arith in
    subst (λ x. PartAt file (at + 12 * 0) (words (numbers x))) same (part_from file at (at + 12 * 0) (words (numbers q)) none (first_part file at (words (numbers q)) (relocation_table rs) has))
entry_part file at (q ∷ rs) has (suc k) r is =
    let rest : PartAt file (at + 12) (relocation_table rs) = rest_part file at (words (numbers q)) (relocation_table rs) has in
    let next : at + 12 + 12 * k ≡ at + 12 * suc k = omega arith in
    part_from file (at + 12 + 12 * k) (at + 12 * suc k) (words (numbers r)) next (entry_part file (at + 12) rs rest k r is)

-- Reading one entry

no_value : (file : List ℕ) (symbols : Option ReadSection) → symbol_value file symbols 0 ≡ 0
no_value file None = refl
no_value file (Some symbols) = refl

record HasFields (file : List ℕ) (at : ℕ) (r : Relocation) : Type 0 where
  offset : u32_field file at ≡ r.offset
  info : u32_field file (at + 4) ≡ r.kind
  addend : u32_field file (at + 8) ≡ r.addend

fields_read : (file : List ℕ) (at : ℕ) (r : Relocation) → IsFittingRelocation r → PartAt file at (words (numbers r)) → HasFields file at r
fields_read file at r fits has =
    let same : at + 4 * 0 ≡ at = omega arith in
    record {
      offset = ap (u32_field file) (sym same) ∙ word_at file at (numbers r) has 0 r.offset refl fits.offset;
      info = word_at file at (numbers r) has 1 r.kind refl (omega (arith, fits.kind));
      addend = word_at file at (numbers r) has 2 r.addend refl fits.addend;
    }

made_entry : ℕ → ℕ → ℕ → ℕ → ℕ → ℕ → Entry
made_entry number offset kind symbol value addend =
    record { section = 4; number = number; offset = offset; kind = kind; symbol = symbol; value = value; addend = addend }

entry_made : (file : List ℕ) (table : ReadSection) (k : ℕ) → entry_at file 4 table k ≡ made_entry k (u32_field file (table.offset + 12 * k)) (u32_field file (table.offset + 12 * k + 4) % 256) (u32_field file (table.offset + 12 * k + 4) / 256) (symbol_value file (section_at file table.link) (u32_field file (table.offset + 12 * k + 4) / 256)) (u32_field file (table.offset + 12 * k + 8))
unfolding entry_at made_entry
entry_made file table k = refl

made_read : (file : List ℕ) (symbols : Option ReadSection) (k : ℕ) (r : Relocation) → r.kind < 256 → made_entry k r.offset (r.kind % 256) (r.kind / 256) (symbol_value file symbols (r.kind / 256)) r.addend ≡ read_entry k r
unfolding made_entry
made_read file symbols k r small =
    let kind : r.kind % 256 ≡ r.kind = omega arith in
    let symbol : r.kind / 256 ≡ 0 = omega arith in
    rw (kind, symbol, no_value file symbols) refl

entry_read : (file : List ℕ) (table : ReadSection) (k : ℕ) (r : Relocation) → IsFittingRelocation r → HasFields file (table.offset + 12 * k) r → entry_at file 4 table k ≡ read_entry k r
entry_read file table k r fits has =
    entry_made file table k
    ∙ ap (λ n. made_entry k n (u32_field file (table.offset + 12 * k + 4) % 256) (u32_field file (table.offset + 12 * k + 4) / 256) (symbol_value file (section_at file table.link) (u32_field file (table.offset + 12 * k + 4) / 256)) (u32_field file (table.offset + 12 * k + 8))) has.offset
    ∙ ap (λ n. made_entry k r.offset (n % 256) (n / 256) (symbol_value file (section_at file table.link) (n / 256)) (u32_field file (table.offset + 12 * k + 8))) has.info
    ∙ ap (made_entry k r.offset (r.kind % 256) (r.kind / 256) (symbol_value file (section_at file table.link) (r.kind / 256))) has.addend
    ∙ made_read file (section_at file table.link) k r fits.kind

-- All entries of the table

numbered_append : (n : ℕ) (rs : List Relocation) (r : Relocation) → numbered n (rs ++ r ∷ []) ≡ numbered n rs ++ read_entry (n + length rs) r ∷ []
numbered_append n [] r = let none : n + 0 ≡ n = omega arith in ap (λ k. read_entry k r ∷ []) (sym none)
numbered_append n (q ∷ rs) r =
    let next : suc n + length rs ≡ n + suc (length rs) = omega arith in
    ap (λ es. read_entry n q ∷ es) (numbered_append (suc n) rs r ∙ ap (λ k. numbered (suc n) rs ++ read_entry k r ∷ []) next)

length_take : {X : Type 0} (xs : List X) (k : ℕ) → k ≤ length xs → length (take k xs) ≡ k
length_take xs zero within = refl
length_take [] (suc k) within = absurd (omega arith)
length_take (x ∷ xs) (suc k) within = ap suc (length_take xs k (omega arith))

take_all : {X : Type 0} (xs : List X) → take (length xs) xs ≡ xs
take_all [] = refl
take_all (x ∷ xs) = ap (λ ys. x ∷ ys) (take_all xs)

one_more : (file : List ℕ) (table : ReadSection) (k : ℕ) (e : Entry) → entry_at file 4 table k ≡ e → is_ignored e.kind ≡ false → entries_in file 4 table (suc k) ≡ entries_in file 4 table k ++ e ∷ []
unfolding entries_in
one_more file table k e is counts =
    let kept : is_ignored (entry_at file 4 table k).kind ≡ false = ap (λ (x : Entry). is_ignored x.kind) is ∙ counts in
    rw kept (ap (λ x. entries_in file 4 table k ++ x ∷ []) is)

no_more : (file : List ℕ) (table : ReadSection) → entries_in file 4 table 0 ≡ []
unfolding entries_in
no_more file table = refl

module _ (file : List ℕ) (table : ReadSection) (rs : List Relocation) (all : AllByRecursion IsFittingRelocation rs) (has : PartAt file table.offset (relocation_table rs)) where
  each_entry : (k : ℕ) (r : Relocation) → slice_get rs k ≡ Some r → entry_at file 4 table k ≡ read_entry k r
  each_entry k r is =
      let fits = all_at IsFittingRelocation rs all k r is in
      entry_read file table k r fits (fields_read file (table.offset + 12 * k) r fits (entry_part file table.offset rs has k r is))

  first_entries : (k : ℕ) → k ≤ length rs → entries_in file 4 table k ≡ numbered 0 (take k rs)
  first_entries zero within = no_more file table
  first_entries (suc k) within =
      let here = some_at rs k (omega arith) in
      let fits = all_at IsFittingRelocation rs all k here.0 here.1 in
      let place : 0 + length (take k rs) ≡ k = omega (arith, length_take rs k (omega arith)) in
      one_more file table k (read_entry k here.0) (each_entry k here.0 here.1) fits.counts
      ∙ ap (λ es. es ++ read_entry k here.0 ∷ []) (first_entries k (omega arith))
      ∙ ap (λ n. numbered 0 (take k rs) ++ read_entry n here.0 ∷ []) (sym place)
      ∙ sym (numbered_append 0 (take k rs) here.0)
      ∙ ap (numbered 0) (sym (take_one_more rs k here.0 here.1))

  pub all_entries : table.size ≡ length (relocation_table rs) → table_entries file 4 table ≡ numbered 0 rs
  all_entries sized =
      let count : table.size / 12 ≡ length rs = omega (arith, sized, table_size rs) in
      ap (entries_in file 4 table) count ∙ first_entries (length rs) (omega arith) ∙ ap (numbered 0) (take_all rs)

-- The seven sections

no_entries : (file : List ℕ) → entries_before file 0 ≡ []
unfolding entries_before
no_entries file = refl

next_section : (file : List ℕ) (k : ℕ) → entries_before file (suc k) ≡ entries_before file k ++ section_entries file k (section_at file k)
unfolding entries_before
next_section file k = refl

-- a section that is none of relocations
other_section : (file : List ℕ) (k : ℕ) (es : List Entry) (s : ReadSection) → entries_before file k ≡ es → section_at file k ≡ Some s → is_rela s ≡ false → entries_before file (suc k) ≡ es
other_section file k es s before is other =
    let none : section_entries file k (Some s) ≡ [] = rw other refl in
    next_section file k ∙ ap (λ xs. xs ++ section_entries file k (section_at file k)) before ∙ ap (λ x. es ++ section_entries file k x) is ∙ ap (λ xs. es ++ xs) none ∙ append-nil es

applied_section : (file : List ℕ) (k : ℕ) (s : ReadSection) → entries_before file k ≡ [] → section_at file k ≡ Some s → is_applied file s ≡ true → entries_before file (suc k) ≡ table_entries file k s
applied_section file k s before is applied =
    let here : section_entries file k (Some s) ≡ table_entries file k s = rw applied refl in
    next_section file k ∙ ap (λ xs. xs ++ section_entries file k (section_at file k)) before ∙ ap (section_entries file k) is ∙ here

module _ (o : Output) (fits : IsFitting o) where
  pub section_there : (k : ℕ) (s : Section) (part : List ℕ) → slice_get (output_sections o) k ≡ Some s → slice_get (section_parts o) k ≡ Some part → k < 7 → section_at (output_file o) k ≡ Some (seen s)
  section_there k s part is has below =
      let within : k < shnum_of (output_file o) = omega (arith, (headers_are_read o fits).0.sections) in
      rw (lt-ltb k (shnum_of (output_file o)) within) (ap Some (sections_are_read o fits k s part is has).0)

  pub table_stands : PartAt (output_file o) (slice_index (offsets (contents_at o) (contents_of o)) 2) (relocation_table o.relocations)
  table_stands =
      laid_part (output_file o) (contents_at o) (contents_of o ++ section_table (output_sections o) ∷ []) (output_stands o).laid 2
      (slice_index (offsets (contents_at o) (contents_of o)) 2) (relocation_table o.relocations) refl refl

  -- section 4, as it is read
  abbrev pub entry_section : ReadSection
  entry_section = record {
    kind = 4;
    flags = 0;
    address = 0;
    offset = slice_index (offsets (contents_at o) (contents_of o)) 2;
    size = length (relocation_table o.relocations);
    link = 2;
    info = 1;
    entsize = 12;
  }

  pub fourth_section : section_at (output_file o) 4 ≡ Some entry_section
  fourth_section = section_there 4 _ _ refl refl (omega arith)

  pub is_for_text : is_applied (output_file o) entry_section ≡ true
  is_for_text = ap (section_is is_in_memory) (section_there 1 _ _ refl refl (omega arith))

  entries_here : AllByRecursion IsFittingRelocation o.relocations → entries_of (output_file o) ≡ numbered 0 o.relocations
  entries_here all =
      let file = output_file o in
      let first = other_section file 0 [] _ (no_entries file) (section_there 0 _ _ refl refl (omega arith)) refl in
      let second = other_section file 1 [] _ first (section_there 1 _ _ refl refl (omega arith)) refl in
      let third = other_section file 2 [] _ second (section_there 2 _ _ refl refl (omega arith)) refl in
      let fourth = other_section file 3 [] _ third (section_there 3 _ _ refl refl (omega arith)) refl in
      let table = applied_section file 4 entry_section fourth fourth_section is_for_text in
      let fifth = table ∙ all_entries file entry_section o.relocations all table_stands refl in
      let sixth = other_section file 5 (numbered 0 o.relocations) _ fifth (section_there 5 _ _ refl refl (omega arith)) refl in
      let seventh = other_section file 6 (numbered 0 o.relocations) _ sixth (section_there 6 _ _ refl refl (omega arith)) refl in
      ap (entries_before file) (headers_are_read o fits).0.sections ∙ seventh

pub entries_are_read : EntriesAreRead
entries_are_read = λ o fits all. entries_here o fits all
