-- No row of the table of relocations refuses the file of a graph.
use Rattle.std.proofs.Common.{◌≡◌, ℕ, zero, suc, ◌+◌, ◌*◌, ◌%◌, ◌<◌, ◌≤◌, Bool, true, false, not, ◌&&◌, ◌||◌, ◌⊎◌, inl, inr, nat_eq, nat_lt, nat_le, List, [], ◌∷◌, ◌++◌, length, slice_index, Option, Some, None, refl, sym, ap, subst, ◌∙◌, arith, eq-eqb}
use Rattle.std.specs.List.{AllByRecursion, list_any}
use Rattle.std.specs.Option.{is_some, option_and_then}
use Rattle.std.proofs.lemmas.Bool.{lt-ltb, le-leb, or_from, and_left, and_right}
use Rattle.std.proofs.lemmas.Bool.Decides.{nat_tests}
use Rattle.sq_num.specs.Refusals.{Row, first_from, first_refusal}
use Rattle.sq_num.proofs.Places.{refused_later}
use Rattle.sq_elf.specs.declared.segment.Segment.{Segment}
use Rattle.sq_elf.specs.declared.section.Section.{Section as ReadSection}
use Rattle.sq_elf.specs.Headers.{phnum_of, shnum_of, segment_of}
use Rattle.sq_elf.specs.Memory.{segments_of}
use Rattle.sq_elf.specs.Ranges.{leaves}
use Rattle.sq_elf.specs.Reading.{word_of, section_at}
use Rattle.sq_elf.specs.Refusing.{file_refusal_of}
use Rattle.sq_elf.specs.Text.{text_of, is_text_word}
use Rattle.sq_elf.proofs.TextFacts.{text_has_words}
use Rattle.sq_reloc.specs.declared.entry.Entry.{Entry}
use Rattle.sq_reloc.specs.Entries.{section_is, is_rela, is_rel, is_for_memory, is_applied, target_of, symbol_count, symbols_of, table_entries, entries_of as read_entries}
use Rattle.sq_reloc.specs.Kinds.{width_of, is_data_kind}
use Rattle.sq_reloc.specs.Outside.{is_outside, is_word, is_code_entry, is_beaten, disagrees_outside, is_refused_outside}
use Rattle.sq_reloc.specs.Refusing.{nth_entry, reloc_rows, reloc_refusal_of}
use Rattle.sq_reloc.specs.Tables.{has_file_byte, is_file_byte, is_stray, is_symbol_table, is_malformed, lacks_symbols, is_bad_table, is_rela_at, is_bad_table_at, is_bad_symbol}
use Rattle.sq_graph.specs.declared.parts.CodeRef.{CodeRef}
use Rattle.sq_graph.specs.Graph.{Graph}
use Rattle.sq_graph.specs.Words.{words_of}
use Rattle.sq_write.specs.Output.{Relocation, Output, contents_at, contents_of, offsets, relocation_table, symbol_table, section_table, output_file}
use Rattle.sq_write.specs.Points.{Point, new_address, text_points}
use Rattle.sq_write.specs.Written.{entries_of, word_entry, written_output, written}
use Rattle.law_written.specs.Fitting.{IsFitting}
use Rattle.law_written.specs.Reading.{output_sections}
use Rattle.law_written.specs.Written.{IsWritable}
use Rattle.law_written.proofs.Accepting.{some_from}
use Rattle.law_written.proofs.Headers.{headers_are_read}
use Rattle.law_written.proofs.Laid.{laid_part}
use Rattle.law_written.proofs.Pairs.{all_append, all_map, all_both}
use Rattle.law_written.proofs.OutputParts.{PartAt, part_ends}
use Rattle.law_written.proofs.OutputPlaces.{output_stands}
use Rattle.law_written.proofs.Writing.{fitting, written_is_accepted}
use Rattle.law_written.specs.Entries.{IsFittingRelocation, read_entry, numbered}
use Rattle.law_written.specs.Refusing.{WrittenRelocationsAreAccepted}
use Rattle.law_written.proofs.Entries.{table_size, all_entries, section_there, table_stands, entry_section, fourth_section}
use Rattle.law_written.proofs.Points.{Shape, AreShaped, IsHalf, entries_in, text_shaped}
use Rattle.law_written.proofs.WrittenRelocations.{stands_in, IsWordEntry, all_good, word_entries, text_halves, low_entries, high_entries, half_entries, all_fit, entries_here}
use Rattle.law_written.proofs.CodeWords.{none_passes, text_is, low_word, word_target, half_outside, half_inside}
use Rattle.law_written.proofs.Words.{word_width, half_width}
use Rattle.law_written.proofs.Outside.{Has, segment_has, has_room, code_word_stands}

-- ROWS

none_from : (fails : ℕ → Bool) (at n : ℕ) → ((k : ℕ) → at ≤ k → k < at + n → fails k ≡ false) → first_from fails at n ≡ None
unfolding first_from
none_from fails at zero passes = refl
none_from fails at (suc n) passes = rw (passes at (omega arith) (omega arith)) (none_from fails (at + 1) n (λ k low high. passes k (omega arith) (omega arith)))

abbrev AllPass : List Row → Type 0
AllPass [] = Unit {0}
AllPass (row ∷ rows) = ((k : ℕ) → k < row.places → row.fails k ≡ false) × AllPass rows

none_refused : (rows : List Row) → AllPass rows → first_refusal rows ≡ None
none_refused [] all = refl
none_refused (row ∷ rows) all = refused_later row rows (none_from row.fails 0 row.places (λ k low high. all.0 k (omega arith))) ∙ none_refused rows all.1

less_not : (a b : ℕ) → b ≤ a → nat_lt a b ≡ false
less_not a b le = grind (arith, nat_tests)

stays : (long size end : ℕ) → end ≤ long → (nat_lt 0 size && nat_lt long end) ≡ false
stays long size end within = and_right (nat_lt 0 size) (nat_lt long end) (less_not long end within)

each_passes : (P : Relocation → Type 0) (test : Entry → Bool) → ((k : ℕ) (r : Relocation) → P r → test (read_entry k r) ≡ false) → (rs : List Relocation) (n place : ℕ) → AllByRecursion P rs → place < length (numbered n rs) → test (nth_entry (numbered n rs) place) ≡ false
each_passes P test fails [] n place all within = absurd (let f : place < 0 = within in omega arith)
each_passes P test fails (r ∷ rs) n zero all within = fails n r all.0
each_passes P test fails (r ∷ rs) n (suc place) all within = each_passes P test fails rs (suc n) place all.1 (let f : suc place < suc (length (numbered (suc n) rs)) = within in omega arith)

-- FILE BYTES

any_has : (test : Segment → Bool) (ss : List Segment) (s : Segment) → test s ≡ true → Has ss s → list_any test ss ≡ true
any_has test [] s is has = absurd has
any_has test (t ∷ ss) s is (inl same) = let here : test t ≡ true = ap test same ∙ is in rw here refl
any_has test (t ∷ ss) s is (inr later) = by_test (test t) (any_has test ss s is later)
  where
    by_test : (b : Bool) → list_any test ss ≡ true → (b || list_any test ss) ≡ true
    by_test true more = refl
    by_test false more = more

word_has_bytes : (file : List ℕ) (w word place : ℕ) → file_refusal_of file ≡ None → word_of file w ≡ Some word → place < 4 → is_file_byte file (w + place) ≡ true
word_has_bytes file w word place accepted is within =
    let stands = stands_in file w word is in
    let s = segment_of file stands.index in
    let low : nat_le (segment_of file stands.index).address (w + place) ≡ true = le-leb (segment_of file stands.index).address (w + place) (omega (arith, stands.low)) in
    let high : nat_lt (w + place) ((segment_of file stands.index).address + (segment_of file stands.index).filesz) ≡ true = lt-ltb (w + place) ((segment_of file stands.index).address + (segment_of file stands.index).filesz) (omega (arith, stands.high)) in
    let here : has_file_byte (w + place) (segment_of file stands.index) ≡ true = rw (low, high) refl in
    any_has (has_file_byte (w + place)) (segments_of file) (segment_of file stands.index) here
    (segment_has file (phnum_of file) stands.index stands.within (has_room file w accepted stands))

-- an entry of four bytes at a word of the file
not_stray : (file : List ℕ) (e : Entry) (word : ℕ) → file_refusal_of file ≡ None → width_of e.kind ≡ 4 → word_of file e.offset ≡ Some word → is_stray file e ≡ false
not_stray file e word accepted four is =
    ap is_some
    (none_from (λ place. not (is_file_byte file (e.offset + place))) 0 (width_of e.kind) (λ place low high. ap not (word_has_bytes file e.offset word place accepted is (omega (arith, four, high)))))

-- HALVES STAND AT WORDS

module _ (g : Graph) (lo : ℕ) where
  abbrev IsAligned : Relocation → Type 0
  IsAligned r = r.offset % 4 ≡ 0

  point_aligned : (at : ℕ) (p : Point) → at % 4 ≡ 0 → Shape g lo at p → AllByRecursion IsAligned p.entries
  point_aligned at p even (inl none) = subst (λ es. AllByRecursion IsAligned es) (sym none) tt
  point_aligned at p even (inr (inl upper)) = subst (λ es. AllByRecursion IsAligned es) (sym upper.entries) (even, tt)
  point_aligned at p even (inr (inr lower)) = subst (λ es. AllByRecursion IsAligned es) (sym lower.entries) (even, tt)

  all_aligned : (ps : List Point) (at : ℕ) → at % 4 ≡ 0 → AreShaped g lo at ps → AllByRecursion IsAligned (entries_in g lo ps)
  all_aligned [] at even shaped = tt
  all_aligned (p ∷ ps) at even shaped =
      all_append IsAligned p.entries (entries_in g lo ps) (point_aligned at p even shaped.0) (all_aligned ps (at + 4) (omega arith) shaped.1)

some_word : (found : Option ℕ) → is_some found ≡ true → (word : ℕ) × (found ≡ Some word)
some_word None is = absurd (cc is)
some_word (Some word) is = (word, refl)

module _ (bytes : List ℕ) (g : Graph) (can : IsWritable bytes g) where
  abbrev file : List ℕ
  file = written bytes g

  accepted : file_refusal_of (written bytes g) ≡ None
  accepted = written_is_accepted bytes g can

  abbrev IsHere : Relocation → Type 0
  IsHere r = IsHalf g (text_of bytes).lo (text_of bytes).lo ((text_of bytes).lo + 4 * words_of g) r × (r.offset % 4 ≡ 0)

  abbrev IsEither : Relocation → Type 0
  IsEither r = IsWordEntry bytes g (λ word. true) r ⊎ IsHere r

  here_entries : AllByRecursion IsHere (half_entries bytes g can)
  here_entries =
      all_both (IsHalf g (text_of bytes).lo (text_of bytes).lo ((text_of bytes).lo + 4 * words_of g)) (λ r. r.offset % 4 ≡ 0) (half_entries bytes g can) (text_halves bytes g can)
      (all_aligned g (text_of bytes).lo (text_points g (text_of bytes).lo) (text_of bytes).lo (low_word bytes g can) (text_shaped g (text_of bytes).lo can.rules))

  any_word : (p : CodeRef → Bool) (r : Relocation) → IsWordEntry bytes g p r → IsEither r
  any_word p r entry = inl (record { word = entry.word; good = entry.good; kept = refl; is = entry.is })

  all_either : AllByRecursion IsEither (entries_of g (text_of bytes).lo)
  all_either =
      let below : CodeRef → Bool = λ word. nat_lt word.at (text_of bytes).lo in
      let above : CodeRef → Bool = λ word. nat_le (text_of bytes).lo word.at in
      all_append IsEither (low_entries bytes g can ++ half_entries bytes g can) (high_entries bytes g can)
      (all_append IsEither (low_entries bytes g can) (half_entries bytes g can)
      (all_map (IsWordEntry bytes g below) IsEither (any_word below) (low_entries bytes g can) (word_entries bytes g can below g.code_words (all_good bytes g can)))
      (all_map IsHere IsEither (λ r half. inr half) (half_entries bytes g can) here_entries))
      (all_map (IsWordEntry bytes g above) IsEither (any_word above) (high_entries bytes g can) (word_entries bytes g can above g.code_words (all_good bytes g can)))

  -- Each entry touches file bytes

  half_word : (k : ℕ) (r : Relocation) → IsHere r → is_text_word (text_of (written bytes g)) r.offset ≡ true
  half_word k r half =
      let aligned : nat_eq (r.offset % 4) 0 ≡ true = eq-eqb (r.offset % 4) 0 half.1 in
      subst (λ t. is_text_word t r.offset ≡ true) (sym (text_is bytes g can)) (rw (half_inside bytes g can k r half.0, aligned) refl)

  stands_well : (k : ℕ) (r : Relocation) → IsEither r → is_stray (written bytes g) (read_entry k r) ≡ false
  stands_well k r (inl entry) =
      subst (λ x. is_stray (written bytes g) (read_entry k x) ≡ false) (sym entry.is)
      (not_stray (written bytes g) (read_entry k (word_entry g (text_of bytes).lo entry.word)) (new_address g (text_of bytes).lo entry.word.block) accepted word_width (code_word_stands bytes g can entry.word entry.good))
  stands_well k r (inr half) =
      let word = some_word (word_of (written bytes g) r.offset) (text_has_words (written bytes g) accepted r.offset (half_word k r half)) in
      let h = half.0 in
      not_stray (written bytes g) (read_entry k r) word.0 accepted (half_width r.kind h.kind) word.1

  -- No entry outside text is refused

  not_refused : (k : ℕ) (r : Relocation) → IsEither r → is_refused_outside (written bytes g) (read_entry k r) ≡ false
  not_refused k r (inl entry) =
      let good = entry.good in
      let e = read_entry k (word_entry g (text_of bytes).lo entry.word) in
      let target = word_target bytes g can k entry.word entry.good in
      let there : is_word (word_of (written bytes g) entry.word.at) (target_of (read_entry k (word_entry g (text_of bytes).lo entry.word))) ≡ true =
      ap (λ found. is_word found (target_of (read_entry k (word_entry g (text_of bytes).lo entry.word)))) (code_word_stands bytes g can entry.word entry.good)
      ∙ eq-eqb (new_address g (text_of bytes).lo entry.word.block) (target_of (read_entry k (word_entry g (text_of bytes).lo entry.word))) (sym target)
      in
      let agrees : disagrees_outside (written bytes g) (read_entry k (word_entry g (text_of bytes).lo entry.word)) ≡ false =
      and_right
      (is_code_entry (text_of (written bytes g)) (read_entry k (word_entry g (text_of bytes).lo entry.word)) && not (is_beaten (written bytes g) entry.word.at))
      (not (is_word (word_of (written bytes g) entry.word.at) (target_of (read_entry k (word_entry g (text_of bytes).lo entry.word)))))
      (ap not there)
      in
      subst (λ x. is_refused_outside (written bytes g) (read_entry k x) ≡ false) (sym entry.is)
      (and_right (is_outside (text_of (written bytes g)) (read_entry k (word_entry g (text_of bytes).lo entry.word))) (not (is_data_kind 1) || disagrees_outside (written bytes g) (read_entry k (word_entry g (text_of bytes).lo entry.word)))
      (or_from (not (is_data_kind 1)) (disagrees_outside (written bytes g) (read_entry k (word_entry g (text_of bytes).lo entry.word))) refl agrees))
  not_refused k r (inr half) =
      let inside : is_outside (text_of (written bytes g)) (read_entry k r) ≡ false = subst (λ t. is_outside t (read_entry k r) ≡ false) (sym (text_is bytes g can)) (half_outside bytes g can k r half.0) in
      and_left (is_outside (text_of (written bytes g)) (read_entry k r)) (not (is_data_kind r.kind) || disagrees_outside (written bytes g) (read_entry k r)) inside

  refused_row : (place : ℕ) → place < length (read_entries (written bytes g)) → is_refused_outside (written bytes g) (nth_entry (read_entries (written bytes g)) place) ≡ false
  refused_row =
      subst (λ es. (place : ℕ) → place < length es → is_refused_outside (written bytes g) (nth_entry es place) ≡ false) (sym (entries_here bytes g can))
      (λ place within. each_passes IsEither (is_refused_outside (written bytes g)) not_refused (entries_of g (text_of bytes).lo) 0 place all_either within)

-- THE SECTIONS OF AN OUTPUT FILE

module _ (o : Output) (fits : IsFitting o) where
  seven : shnum_of (output_file o) ≡ 7
  seven = let header = (headers_are_read o fits).0 in header.sections

  abbrev symbol_section : ReadSection
  symbol_section = record {
    kind = 2;
    flags = 0;
    address = 0;
    offset = slice_index (offsets (contents_at o) (contents_of o)) 0;
    size = 16;
    link = 3;
    info = 1;
    entsize = 16;
  }

  second_section : section_at (output_file o) 2 ≡ Some symbol_section
  second_section = section_there o fits 2 _ _ refl refl (omega arith)

  symbols_stand : PartAt (output_file o) (slice_index (offsets (contents_at o) (contents_of o)) 0) symbol_table
  symbols_stand =
      laid_part (output_file o) (contents_at o) (contents_of o ++ section_table (output_sections o) ∷ []) (output_stands o).laid 0
      (slice_index (offsets (contents_at o) (contents_of o)) 0) symbol_table refl refl

  -- the fourth section is one of relocations, and the first
  no_earlier : (k : ℕ) → k < 4 → is_rela_at (output_file o) k ≡ false
  no_earlier zero below = ap (section_is is_rela) (section_there o fits 0 _ _ refl refl (omega arith))
  no_earlier (suc zero) below = ap (section_is is_rela) (section_there o fits 1 _ _ refl refl (omega arith))
  no_earlier (suc (suc zero)) below = ap (section_is is_rela) (section_there o fits 2 _ _ refl refl (omega arith))
  no_earlier (suc (suc (suc zero))) below = ap (section_is is_rela) (section_there o fits 3 _ _ refl refl (omega arith))
  no_earlier (suc (suc (suc (suc k)))) below = absurd (omega (arith, below))

  is_there : is_rela_at (output_file o) 4 ≡ true
  is_there = ap (section_is is_rela) (fourth_section o fits)

  pub some_relocs : not (is_some (first_from (is_rela_at (output_file o)) 0 (shnum_of (output_file o)))) ≡ false
  some_relocs =
      ap (λ found. not (is_some found))
      (some_from (is_rela_at (output_file o)) 0 (shnum_of (output_file o)) 4 (omega arith) (omega (arith, seven)) (λ k low below. no_earlier k below) is_there)

  -- a symbol table of one symbol
  symbols_fine : is_symbol_table (output_file o) symbol_section ≡ true
  symbols_fine =
      let place = slice_index (offsets (contents_at o) (contents_of o)) 0 in
      let within : leaves (output_file o) (slice_index (offsets (contents_at o) (contents_of o)) 0) 16 ≡ false =
      stays (length (output_file o)) 16 (slice_index (offsets (contents_at o) (contents_of o)) 0 + 16) (part_ends (output_file o) (slice_index (offsets (contents_at o) (contents_of o)) 0) symbol_table symbols_stand)
      in
      rw within refl

  has_symbols : lacks_symbols (output_file o) (entry_section o fits) ≡ false
  has_symbols = ap (λ s. not (section_is (is_symbol_table (output_file o)) s)) second_section ∙ ap not symbols_fine

  well_formed : is_malformed (output_file o) (entry_section o fits) ≡ false
  well_formed =
      let size = length (relocation_table o.relocations) in
      let place = slice_index (offsets (contents_at o) (contents_of o)) 2 in
      let whole : nat_eq (length (relocation_table o.relocations) % 12) 0 ≡ true = eq-eqb (length (relocation_table o.relocations) % 12) 0 (omega (arith, table_size o.relocations)) in
      let within : leaves (output_file o) (slice_index (offsets (contents_at o) (contents_of o)) 2) (length (relocation_table o.relocations)) ≡ false =
      stays (length (output_file o)) (length (relocation_table o.relocations)) (slice_index (offsets (contents_at o) (contents_of o)) 2 + length (relocation_table o.relocations)) (part_ends (output_file o) (slice_index (offsets (contents_at o) (contents_of o)) 2) (relocation_table o.relocations) (table_stands o fits))
      in
      rw (whole, within) refl

  module _ (all : AllByRecursion IsFittingRelocation o.relocations) (stand : list_any (is_stray (output_file o)) (numbered 0 o.relocations) ≡ false) where
    table_fine : is_bad_table (output_file o) 4 (entry_section o fits) ≡ false
    table_fine =
        let info : nat_le (shnum_of (output_file o)) 1 ≡ false = ap (λ n. nat_le n 1) seven in
        let entries : list_any (is_stray (output_file o)) (table_entries (output_file o) 4 (entry_section o fits)) ≡ false = ap (list_any (is_stray (output_file o))) (all_entries (output_file o) (entry_section o fits) o.relocations all (table_stands o fits) refl) ∙ stand in
        bad_none (output_file o) (entry_section o fits) refl info (well_formed) (has_symbols) entries
      where
        bad_none : (f : List ℕ) (s : ReadSection) → is_rel s ≡ false → nat_le (shnum_of f) s.info ≡ false → is_malformed f s ≡ false → lacks_symbols f s ≡ false → list_any (is_stray f) (table_entries f 4 s) ≡ false → is_bad_table f 4 s ≡ false
        bad_none f s rel info formed symbols entries =
            or_from ((is_rela s && nat_le (shnum_of f) s.info) || (is_applied f s && (is_malformed f s || lacks_symbols f s || list_any (is_stray f) (table_entries f 4 s)))) (is_rel s && is_for_memory f s)
            (or_from (is_rela s && nat_le (shnum_of f) s.info) (is_applied f s && (is_malformed f s || lacks_symbols f s || list_any (is_stray f) (table_entries f 4 s)))
            (and_right (is_rela s) (nat_le (shnum_of f) s.info) info)
            (and_right (is_applied f s) (is_malformed f s || lacks_symbols f s || list_any (is_stray f) (table_entries f 4 s))
            (or_from (is_malformed f s || lacks_symbols f s) (list_any (is_stray f) (table_entries f 4 s)) (or_from (is_malformed f s) (lacks_symbols f s) formed symbols) entries)))
            (and_left (is_rel s) (is_for_memory f s) rel)

    pub tables_fine : (k : ℕ) → k < shnum_of (output_file o) → is_bad_table_at (output_file o) k ≡ false
    tables_fine zero within = ap (section_is (is_bad_table (output_file o) 0)) (section_there o fits 0 _ _ refl refl (omega arith))
    tables_fine (suc zero) within = ap (section_is (is_bad_table (output_file o) 1)) (section_there o fits 1 _ _ refl refl (omega arith))
    tables_fine (suc (suc zero)) within = ap (section_is (is_bad_table (output_file o) 2)) (section_there o fits 2 _ _ refl refl (omega arith))
    tables_fine (suc (suc (suc zero))) within = ap (section_is (is_bad_table (output_file o) 3)) (section_there o fits 3 _ _ refl refl (omega arith))
    tables_fine (suc (suc (suc (suc zero)))) within = ap (section_is (is_bad_table (output_file o) 4)) (fourth_section o fits) ∙ table_fine
    tables_fine (suc (suc (suc (suc (suc zero))))) within = ap (section_is (is_bad_table (output_file o) 5)) (section_there o fits 5 _ _ refl refl (omega arith))
    tables_fine (suc (suc (suc (suc (suc (suc zero)))))) within = ap (section_is (is_bad_table (output_file o) 6)) (section_there o fits 6 _ _ refl refl (omega arith))
    tables_fine (suc (suc (suc (suc (suc (suc (suc k))))))) within = absurd (omega (arith, within, seven))

  -- symbol 0 is there
  pub symbol_fine : (k : ℕ) (r : Relocation) → is_bad_symbol (output_file o) (read_entry k r) ≡ false
  symbol_fine k r =
      let there : symbols_of (output_file o) (read_entry k r) ≡ Some symbol_section = ap (option_and_then (λ (table : ReadSection). section_at (output_file o) table.link)) (fourth_section o fits) ∙ second_section in
      ap (λ s. nat_le (symbol_count s) 0) there

anything : (rs : List Relocation) → AllByRecursion (λ r. Unit {0}) rs
anything [] = tt
anything (r ∷ rs) = (tt, anything rs)

module _ (bytes : List ℕ) (g : Graph) (can : IsWritable bytes g) where
  symbol_row : (place : ℕ) → place < length (read_entries (written bytes g)) → is_bad_symbol (written bytes g) (nth_entry (read_entries (written bytes g)) place) ≡ false
  unfolding written
  symbol_row =
      subst (λ es. (place : ℕ) → place < length es → is_bad_symbol (written bytes g) (nth_entry es place) ≡ false) (sym (entries_here bytes g can))
      (λ place within. each_passes (λ r. Unit {0}) (is_bad_symbol (written bytes g)) (λ k r is. symbol_fine (written_output bytes g) (fitting bytes g can) k r) (entries_of g (text_of bytes).lo) 0 place (anything (entries_of g (text_of bytes).lo)) within)

  table_row : (k : ℕ) → k < shnum_of (written bytes g) → is_bad_table_at (written bytes g) k ≡ false
  unfolding written
  table_row =
      tables_fine (written_output bytes g) (fitting bytes g can) (all_fit bytes g can)
      (none_passes (IsEither bytes g can) (is_stray (written bytes g)) (stands_well bytes g can) (entries_of g (text_of bytes).lo) 0 (all_either bytes g can))

  first_row : not (is_some (first_from (is_rela_at (written bytes g)) 0 (shnum_of (written bytes g)))) ≡ false
  unfolding written
  first_row = some_relocs (written_output bytes g) (fitting bytes g can)

  pub relocations_accepted : reloc_refusal_of (written bytes g) ≡ None
  unfolding reloc_refusal_of
  relocations_accepted =
      none_refused (reloc_rows (written bytes g))
      (λ k within. first_row, (table_row, (symbol_row, (refused_row bytes g can, tt))))

pub written_relocations_are_accepted : WrittenRelocationsAreAccepted
written_relocations_are_accepted = λ bytes g can. relocations_accepted bytes g can
