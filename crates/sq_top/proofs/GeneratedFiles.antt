-- A generated file is never refused, and has seven words of text for each block and five more.
use Rattle.std.proofs.Common.{◌≡◌, ℕ, zero, suc, ◌+◌, ◌-◌, ◌*◌, ◌/◌, ◌^◌, ◌<◌, ◌≤◌, Bool, true, false, not, ◌⊎◌, inl, inr, List, [], ◌∷◌, length, filter, Option, Some, None, refl, sym, ap, subst, ◌∙◌, arith, append-nil}
use Rattle.std.specs.List.{slice_get}
use Rattle.std.specs.Option.{unwrap_or, is_some, option_or, option_map}
use Rattle.std.proofs.lemmas.Bool.{cases_Bool}
use Rattle.sq_num.specs.declared.refusal.Refusal.{Refusal}
use Rattle.sq_num.specs.declared.refusal.Refusal.TheVariants.{BadNote}
use Rattle.sq_num.specs.Refusals.{Row, first_from, first_refusal}
use Rattle.sq_num.proofs.Places.{refused_later}
use Rattle.sq_isa.proofs.Encoded.{word_of_below}
use Rattle.sq_elf.specs.declared.text.Text.{Text as TextRange}
use Rattle.sq_elf.specs.Fields.{u32_field}
use Rattle.sq_elf.specs.Headers.{shnum_of}
use Rattle.sq_elf.specs.Reading.{word_of}
use Rattle.sq_elf.specs.Refusing.{text_size}
use Rattle.sq_elf.specs.Text.{text_of as text_range}
use Rattle.sq_reloc.specs.declared.entry.Entry.{Entry}
use Rattle.sq_reloc.specs.declared.mark.Mark.{Mark}
use Rattle.sq_reloc.specs.Entries.{entries_of}
use Rattle.sq_reloc.specs.Kinds.{touches_word}
use Rattle.sq_reloc.specs.Marks.{mark_by, mark_of}
use Rattle.sq_reloc.specs.declared.mark.Mark.TheVariants.{Plain}
use Rattle.sq_reloc.specs.Outside.{is_refused_outside}
use Rattle.sq_reloc.specs.Refusing.{nth_entry, reloc_rows, reloc_refusal_of}
use Rattle.sq_reloc.specs.Tables.{is_rela_at, is_bad_table_at, is_bad_symbol}
use Rattle.law_program.specs.Programs.{Word, Text, Program, is_word, end_of}
use Rattle.law_program.specs.Faults.{fault_of, fault_from, text_refusal}
use Rattle.law_program.specs.FilePrograms.{file_word, words_from as file_words, text_of, IsProgramOf, note_refusal, early_refusal, IsFirstAlive, IsLiftRefusal, IsRefusalOf}
use Rattle.law_program.specs.Notes.{bad_note, bad_note_from}
use Rattle.law_program.specs.FilePrograms.IsLiftRefusal.{early, alive}
use Rattle.law_program.specs.FilePrograms.IsRefusalOf.{by_file, by_relocs, by_lift}
use Rattle.law_program.specs.NoteSections.{notes_of}
use Rattle.sq_write.specs.Output.{words, text_piece, loaded_size, output_file}
use Rattle.sq_write.specs.Plain.{plain_start, plain_output, plain_file}
use Rattle.sq_write.proofs.Splitting.{length_words, length_plain}
use Rattle.law_written.specs.Accepting.{IsAcceptable}
use Rattle.law_written.specs.Reading.{copied}
use Rattle.law_written.proofs.Accepting.{outputs_are_accepted}
use Rattle.law_written.proofs.Cut.{copied_here, no_range}
use Rattle.law_written.proofs.Lists.{some_at}
use Rattle.law_written.proofs.TextWords.{words_are_read}
use Rattle.law_written.proofs.Texts.{text_is_read}
use Rattle.law_written.proofs.Entries.{entries_are_read}
use Rattle.law_written.proofs.Notes.{note_there}
use Rattle.law_written.proofs.Refusing.{some_relocs, tables_fine}
use Rattle.law_written.proofs.Readings.{word_there}
use Rattle.sq_gen.specs.Generated.{words_from, generated}
use Rattle.sq_gen.proofs.WordCounts.{words_counted}
use Rattle.sq_top.specs.Trials.{generated_size}
use Rattle.sq_top.proofs.GeneratedWords.{AreFine, IsFine, fine_at, words_fine, plain_word, no_fault}

-- ROWS

none_from : (fails : ℕ → Bool) (at n : ℕ) → ((k : ℕ) → at ≤ k → k < at + n → fails k ≡ false) → first_from fails at n ≡ None
unfolding first_from
none_from fails at zero passes = refl
none_from fails at (suc n) passes = rw (passes at (omega arith) (omega arith)) (none_from fails (at + 1) n (λ k low high. passes k (omega arith) (omega arith)))

abbrev AllPass : List Row → Type 0
AllPass [] = Unit {0}
AllPass (row ∷ rows) = ((k : ℕ) → k < row.places → row.fails k ≡ false) × AllPass rows

none_refused : (rows : List Row) → AllPass rows → first_refusal rows ≡ None
none_refused [] all = refl
none_refused (row ∷ rows) all = refused_later row rows (none_from row.fails 0 row.places (λ k low high. all.0 k (omega arith))) ∙ none_refused rows all.1

-- WORDS, ONE BY ONE

made : ℕ → Mark → Word
made number mark = record { number = number; mark = mark }

made_word : (found : Option ℕ) (mark : Mark) (word : ℕ) → found ≡ Some word → mark ≡ Plain → made (unwrap_or found 0) mark ≡ plain_word word
unfolding made
made_word found mark word is plain = λ i. made (unwrap_or (is i) 0) (plain i)

words_count : (bytes : List ℕ) (at n : ℕ) → length (file_words bytes at n) ≡ n
words_count bytes at zero = refl
words_count bytes at (suc n) = ap suc (words_count bytes (at + 4) n)

no_faults : (is : ℕ → Bool) (t : Text) (bytes : List ℕ) (at n : ℕ) → ((k : ℕ) → k < n → fault_of t (at + 4 * k) (file_word bytes (at + 4 * k)) ≡ None) → fault_from is t at (file_words bytes at n) ≡ None
no_faults is t bytes at zero none = refl
no_faults is t bytes at (suc n) none = by_test (cases_Bool (is at)) (no_faults is t bytes (at + 4) n later)
  where
    later : (k : ℕ) → k < n → fault_of t (at + 4 + 4 * k) (file_word bytes (at + 4 + 4 * k)) ≡ None
    later k within = let next : at + 4 * suc k ≡ at + 4 + 4 * k = omega arith in subst (λ x. fault_of t x (file_word bytes x) ≡ None) next (none (suc k) (omega (arith, within)))

    first : fault_of t at (file_word bytes at) ≡ None
    first = let same : at + 4 * 0 ≡ at = omega arith in subst (λ x. fault_of t x (file_word bytes x) ≡ None) same (none 0 (omega arith))

    by_test : (is at ≡ true) ⊎ (is at ≡ false) → fault_from is t (at + 4) (file_words bytes (at + 4) n) ≡ None → fault_from is t at (file_words bytes at (suc n)) ≡ None
    by_test (inl e) more = rw (e, first) more
    by_test (inr e) more = rw e more

-- A PLAIN FILE WITHOUT A FAULT IN ITS WORDS

module _ (text : List ℕ) (some : 1 ≤ length text) (few : length text ≤ 200000) where
  -- a plain file is an output that the reader accepts
  acceptable : IsAcceptable (plain_output text)
  unfolding plain_file
  acceptable =
      let sized = length_words text in
      let none : copied (text_piece (plain_output text)) ≡ 0 = copied_here (text_piece (plain_output text)) refl in
      let long = length_plain text in
      let loads : loaded_size (plain_output text) ≡ length (words text) = ap length (append-nil (words text)) in
      record {
        fits = record {
          entry = omega arith;
          pieces = (
            record {
              address = omega arith;
              load_address = omega arith;
              some = omega (arith, sized, some);
              size = omega (arith, sized, few);
              stored = omega arith;
              flags = omega arith;
            },
            tt,
          );
          count = omega arith;
          size = omega (arith, long, few);
        };
        loadable = (
          record {
            within = omega (arith, sized, few);
            copy_within = omega (arith, sized, few);
            alone = no_range plain_start (length (words text)) plain_start (copied (text_piece (plain_output text))) none;
          },
          tt,
        );
        in_order = (tt, tt);
        before = tt;
        after = tt;
        short = omega (arith, long, few);
        pieces = omega arith;
        loaded = omega (arith, loads, sized, few);
        text = omega (arith, sized, few);
        start = refl;
        entry = refl;
        low = omega arith;
        high = omega (arith, sized, some);
      }

  abbrev file : List ℕ
  file = output_file (plain_output text)

  range : text_range file ≡ record { lo = plain_start; hi = plain_start + length (words text) }
  range = text_is_read (plain_output text) acceptable.fits

  low : (text_range file).lo ≡ plain_start
  low = ap (λ (t : TextRange). t.lo) range

  high : (text_range file).hi ≡ plain_start + 4 * length text
  high = ap (λ (t : TextRange). t.hi) range ∙ ap (λ n. plain_start + n) (length_words text)

  pub plain_size : text_size file ≡ 4 * length text
  plain_size = omega (arith, low, high)

  no_entries : entries_of file ≡ []
  no_entries = entries_are_read (plain_output text) acceptable.fits tt

  first_row : not (is_some (first_from (is_rela_at file) 0 (shnum_of file))) ≡ false
  first_row = some_relocs (plain_output text) acceptable.fits

  tables : (k : ℕ) → k < shnum_of file → is_bad_table_at file k ≡ false
  tables = tables_fine (plain_output text) acceptable.fits tt refl

  no_place : (P : Entry → Bool) (k : ℕ) → k < length (entries_of file) → P (nth_entry (entries_of file) k) ≡ false
  no_place P k within = absurd (omega (arith, within, ap length no_entries))

  relocs : reloc_refusal_of file ≡ None
  unfolding reloc_refusal_of
  relocs =
      none_refused (reloc_rows file) ((λ k within. first_row), (tables, (no_place (is_bad_symbol file), (no_place (is_refused_outside file), tt))))

  no_notes : (t : Text) → notes_of file t ≡ Some []
  unfolding u32_field
  no_notes t = note_there (plain_output text) acceptable.fits t ∙ refl

  no_mark : (address : ℕ) → mark_of file address ≡ Plain
  unfolding mark_of
  no_mark address = ap (λ es. mark_by file address (filter (λ e. touches_word e address) es)) no_entries

  each_word : (k word : ℕ) → slice_get text k ≡ Some word → word < 2 ^ 32 → file_word file (plain_start + 4 * k) ≡ plain_word word
  unfolding made
  each_word k word is small =
      made_word (word_of file (plain_start + 4 * k)) (mark_of file (plain_start + 4 * k)) word
      (words_are_read (plain_output text) acceptable k word is small) (no_mark (plain_start + 4 * k))

  -- its text as a program's
  abbrev t : Text
  t = text_of file

  count : ((text_range file).hi - (text_range file).lo) / 4 ≡ length text
  count = omega (arith, low, high)

  ends : end_of t ≡ t.lo + 4 * length text
  ends = omega (arith, words_count file (text_range file).lo (((text_range file).hi - (text_range file).lo) / 4), count)

  there : (k : ℕ) → k < length text → is_word t (t.lo + 4 * k) ≡ true
  there k within =
      let long : length t.words ≡ length text = words_count file (text_range file).lo (((text_range file).hi - (text_range file).lo) / 4) ∙ count in
      let word = some_at t.words k (omega (arith, long, within)) in
      ap is_some (word_there t.words t.lo k word.0 word.1)

  module _ (fine : (k word : ℕ) → slice_get text k ≡ Some word → IsFine (length text) k word) where
    fault_at : (k : ℕ) → k < length text → fault_of t (t.lo + 4 * k) (file_word file (t.lo + 4 * k)) ≡ None
    fault_at k within =
        let word = some_at text k within in
        let good = fine k word.0 word.1 in
        let small : word.0 < 2 ^ 32 = omega (arith, good.is, word_of_below good.insn good.fits) in
        let at : t.lo + 4 * k ≡ plain_start + 4 * k = omega (arith, low) in
        let read : file_word file (t.lo + 4 * k) ≡ plain_word word.0 = ap (file_word file) at ∙ each_word k word.0 word.1 small in
        ap (fault_of t (t.lo + 4 * k)) read
        ∙ no_fault t (length text) ends (omega (arith, low, few)) there k word.0 within good

    no_text_refusal : (is : ℕ → Bool) (p : Program) → p.text ≡ t → text_refusal is p ≡ None
    no_text_refusal is p same =
        ap (λ (x : Text). fault_from is x x.lo x.words) same
        ∙ no_faults is t file t.lo (((text_range file).hi - (text_range file).lo) / 4) (λ k within. fault_at k (omega (arith, within, count)))

    none_noted : (p : Program) → IsProgramOf file p → p.notes ≡ []
    none_noted p program = program.notes ∙ ap (λ found. unwrap_or found []) (no_notes (text_of file))

    -- by its text or its note
    not_early : (is : ℕ → Bool) (p : Program) (r : Refusal) → IsProgramOf file p → early_refusal file is p ≡ Some r → ⊥
    not_early is p r program refused =
        let text_none : text_refusal is p ≡ None = no_text_refusal is p program.text in
        let bad_none : bad_note is p ≡ None = ap (bad_note_from is p None 1) (none_noted p program) in
        let note_none : note_refusal is p (notes_of file p.text) ≡ None = ap (note_refusal is p) (no_notes p.text) ∙ ap (option_map BadNote) bad_none in
        let none : early_refusal file is p ≡ None = (λ i. option_or (text_none i) (note_none i)) in
        let never : Some r ≡ None = sym refused ∙ none in
        absurd (cc never)

    not_alive : (is : ℕ → Bool) (p : Program) (i : ℕ) → IsProgramOf file p → IsFirstAlive is p i → ⊥
    not_alive is p i program first =
        let never : Some first.note ≡ None = sym first.there ∙ ap (λ notes. slice_get notes i) (none_noted p program) in
        absurd (cc never)

    not_by_lift : (is : ℕ → Bool) (p : Program) (r : Refusal) → IsLiftRefusal file is p r → ⊥
    not_by_lift is p r (early read refused) = not_early is p r read.program refused
    not_by_lift is p r (alive {i = i} read none first) = not_alive is p i read.program first

    pub plain_not_refused : (r : Refusal) → IsRefusalOf file r → ⊥
    plain_not_refused r (by_file refused) = let never : Some r ≡ None = sym refused ∙ outputs_are_accepted (plain_output text) acceptable in absurd (cc never)
    plain_not_refused r (by_relocs none refused) = let never : Some r ≡ None = sym refused ∙ relocs in absurd (cc never)
    plain_not_refused r (by_lift {is = is} {p = p} refuses) = not_by_lift is p r refuses

-- THE GENERATED FILE

module _ (first blocks : ℕ) (few : blocks ≤ 4000) where
  count_is : length (words_from first blocks) ≡ 7 * blocks + 5
  count_is = words_counted first blocks

  some_words : 1 ≤ length (words_from first blocks)
  some_words = omega (arith, count_is)

  few_words : length (words_from first blocks) ≤ 200000
  few_words = omega (arith, count_is, few)

  fine_words : (k word : ℕ) → slice_get (words_from first blocks) k ≡ Some word → IsFine (length (words_from first blocks)) k word
  fine_words k word is =
      let all : AreFine (length (words_from first blocks)) 0 (words_from first blocks) = words_fine first blocks 0 (length (words_from first blocks)) few (omega (arith, count_is)) in
      let same : 0 + k ≡ k = omega arith in
      subst (λ place. IsFine (length (words_from first blocks)) place word) same (fine_at (length (words_from first blocks)) 0 (words_from first blocks) all k word is)

  pub generated_not_refused : (r : Refusal) → IsRefusalOf (generated first blocks) r → ⊥
  unfolding generated plain_file
  generated_not_refused r refused = plain_not_refused (words_from first blocks) some_words few_words fine_words r refused

  pub generated_text : text_size (generated first blocks) ≡ generated_size blocks
  unfolding generated plain_file
  generated_text = plain_size (words_from first blocks) some_words few_words ∙ ap (λ n. 4 * n) count_is
