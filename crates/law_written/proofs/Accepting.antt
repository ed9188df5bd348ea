-- The reader accepts an output file within the limits, row by row.
use Rattle.std.proofs.Common.{◌≡◌, ℕ, zero, suc, ◌+◌, ◌*◌, ◌%◌, ◌^◌, ◌<◌, ◌≤◌, Bool, true, false, not, ◌&&◌, ◌||◌, ◌⊎◌, inl, inr, ⊎_elim, nat_eq, nat_lt, nat_le, bit_and, if◌then◌else◌, List, [], ◌∷◌, ◌++◌, length, get_or, Option, Some, None, slice_get, refl, sym, ap, subst, ◌∙◌, arith, length-append}
use Rattle.std.specs.Option.{is_some, unwrap_or}
use Rattle.std.proofs.lemmas.Bool.{cases_eq, cases_lt, lt-ltb, le-leb, eqb-true, eq-eqb, or_from, and_right, not_from_true}
use Rattle.std.proofs.lemmas.Bool.Decides.{nat_tests}
use Rattle.std.proofs.lemmas.List.{get_or-take}
use Rattle.std.proofs.lemmas.Nat.{and_mask}
use Rattle.sq_num.specs.Refusals.{Row, first_from, first_refusal}
use Rattle.sq_num.proofs.Places.{refused_later}
use Rattle.sq_elf.specs.declared.segment.Segment.{Segment}
use Rattle.sq_elf.specs.declared.section.Section.{Section as ReadSection}
use Rattle.sq_elf.specs.declared.text.Text.{Text}
use Rattle.sq_elf.specs.Fields.{u16_field, u32_field}
use Rattle.sq_elf.specs.Headers.{entry_of, phoff_of, phnum_of, shoff_of, shnum_of, flags_of, kind_of, is_load, segment_of, section_of}
use Rattle.sq_elf.specs.Ranges.{leaves, meets}
use Rattle.sq_elf.specs.Refusing.{identification, is_not_elf_at, is_refused_field, text_size as read_text_size, header_rows, table_rows, segment_rows, text_rows, size_rows, file_rows, file_refusal_of, largest_text}
use Rattle.sq_elf.specs.Segments.{is_outside, is_misshapen, is_bad_segment, is_refused_kind, meets_copy, overlaps, overlaps_at, is_overlapping}
use Rattle.sq_elf.specs.Sizes.{total, loaded_of, parts_of, pieces_at, piece_count_of}
use Rattle.sq_elf.specs.Text.{is_executable, is_executable_at, is_allocated, text_of, holds, holds_at, holder_of, is_bad_text_section, first_executable, text_segment_of, splits, is_text_word}
use Rattle.sq_write.specs.Output.{Piece, Output, text_piece, pieces_of, piece_bytes, text_size, Section, output_file}
use Rattle.sq_write.proofs.Splitting.{length_words}
use Rattle.law_written.specs.Accepting.{CannotRun, IsAcceptable, OutputsAreAccepted}
use Rattle.law_written.specs.Fitting.{IsFittingPiece}
use Rattle.law_written.specs.Reading.{IsHeader, segment_at, output_sections, section_parts, copied}
use Rattle.law_written.specs.Written.{IsLoadable, IsBefore, AreInOrder}
use Rattle.law_written.proofs.Apart.{apart_back, behind_is_apart}
use Rattle.law_written.proofs.Headers.{headers_are_read}
use Rattle.law_written.proofs.Lists.{some_at, all_at, all_middle}
use Rattle.law_written.proofs.OutputParts.{part_ends}
use Rattle.law_written.proofs.Sections.{sections_are_read}
use Rattle.law_written.proofs.Segments.{Knows, knows, segments_are_read}
use Rattle.law_written.proofs.OutputPlaces.{output_stands}
use Rattle.law_written.proofs.Texts.{code_section, text_is_read}

-- Rows and tests

none_from : (fails : ℕ → Bool) (at n : ℕ) → ((k : ℕ) → at ≤ k → k < at + n → fails k ≡ false) → first_from fails at n ≡ None
unfolding first_from
none_from fails at zero passes = refl
none_from fails at (suc n) passes = rw (passes at (omega arith) (omega arith)) (none_from fails (at + 1) n (λ k low high. passes k (omega arith) (omega arith)))

pub some_from : (fails : ℕ → Bool) (at n place : ℕ) → at ≤ place → place < at + n → ((k : ℕ) → at ≤ k → k < place → fails k ≡ false) → fails place ≡ true → first_from fails at n ≡ Some place
unfolding first_from
some_from fails at zero place low high passes here = absurd (omega arith)
some_from fails at (suc n) place low high passes here =
    by_place (λ above. some_from fails (at + 1) n place above (omega arith) (λ k more less. passes k (omega arith) less) here) (cases_eq at place)
  where
    by_place : (at + 1 ≤ place → first_from fails (at + 1) n ≡ Some place) → (at ≡ place) ⊎ (at ≡ place → ⊥) → (if fails at then Some at else first_from fails (at + 1) n) ≡ Some place
    by_place more (inl same) = let now : fails at ≡ true = subst (λ k. fails k ≡ true) (sym same) here in rw now (ap Some same)
    by_place more (inr apart) = rw (passes at (omega arith) (less at place low apart)) (more (next at place (less at place low apart)))
      where
        less : (a b : ℕ) → a ≤ b → (a ≡ b → ⊥) → a < b
        less a b le apart = ⊎_elim (λ (lt : a < b). lt) (λ (ge : b ≤ a). absurd (apart (omega arith))) (cases_lt a b)

        next : (a b : ℕ) → a < b → a + 1 ≤ b
        next a b lt = omega arith

-- a table each of whose rows passes
abbrev AllPass : List Row → Type 0
AllPass [] = Unit {0}
AllPass (row ∷ rows) = ((k : ℕ) → k < row.places → row.fails k ≡ false) × AllPass rows

both_pass : (rows more : List Row) → AllPass rows → AllPass more → AllPass (rows ++ more)
both_pass [] more first rest = rest
both_pass (row ∷ rows) more first rest = (first.0, both_pass rows more first.1 rest)

none_refused : (rows : List Row) → AllPass rows → first_refusal rows ≡ None
none_refused [] all = refl
none_refused (row ∷ rows) all = refused_later row rows (none_from row.fails 0 row.places (λ k low high. all.0 k (omega arith))) ∙ none_refused rows all.1

equal_is : (a b : ℕ) → a ≡ b → nat_eq a b ≡ true
equal_is a b same = eq-eqb a b same

less_not : (a b : ℕ) → b ≤ a → nat_lt a b ≡ false
less_not a b le = grind (arith, nat_tests)

pub at_most_not : (a b : ℕ) → b < a → nat_le a b ≡ false
at_most_not a b lt = grind (arith, nat_tests)

if_false : (test x y : Bool) → x ≡ false → y ≡ false → (if test then x else y) ≡ false
if_false true x y first second = first
if_false false x y first second = second

stays : (long size end : ℕ) → end ≤ long → (nat_lt 0 size && nat_lt long end) ≡ false
stays long size end within = and_right (nat_lt 0 size) (nat_lt long end) (less_not long end within)

-- the earlier of two in a list
pub order_at : (ps : List Piece) → AreInOrder ps → (earlier k : ℕ) (p q : Piece) → earlier < k → slice_get ps earlier ≡ Some p → slice_get ps k ≡ Some q → IsBefore p q
order_at [] order earlier k p q below is has = absurd (cc is)
order_at (r ∷ ps) order earlier zero p q below is has = absurd (omega arith)
order_at (r ∷ ps) order zero (suc k) p q below is has =
    let same : r ≡ p = cc is in
    subst (λ x. IsBefore x q) same (all_at (IsBefore r) ps order.0 k q has)
order_at (r ∷ ps) order (suc earlier) (suc k) p q below is has = order_at ps order.1 earlier k p q (omega arith) is has

-- an element of the first of two lists, and the one between
at_front : {X : Type 0} (xs ys : List X) (k : ℕ) (x : X) → slice_get xs k ≡ Some x → slice_get (xs ++ ys) k ≡ Some x
at_front [] ys k x is = absurd (cc is)
at_front (z ∷ xs) ys zero x is = is
at_front (z ∷ xs) ys (suc k) x is = at_front xs ys k x is

pub at_middle : {X : Type 0} (xs : List X) (y : X) (ys : List X) → slice_get (xs ++ y ∷ ys) (length xs) ≡ Some y
at_middle [] y ys = refl
at_middle (x ∷ xs) y ys = at_middle xs y ys

-- the flags of a section that isn't text
flags_in : Option Section → ℕ
flags_in None = 0
flags_in (Some s) = s.flags

plain_flags : (o : Output) (k : ℕ) (s : Section) → slice_get (output_sections o) k ≡ Some s → (k ≡ 1 → ⊥) → s.flags ≡ 0
unfolding flags_in
plain_flags o zero s is apart = sym (ap flags_in is)
plain_flags o (suc zero) s is apart = absurd (apart refl)
plain_flags o (suc (suc zero)) s is apart = sym (ap flags_in is)
plain_flags o (suc (suc (suc zero))) s is apart = sym (ap flags_in is)
plain_flags o (suc (suc (suc (suc zero)))) s is apart = sym (ap flags_in is)
plain_flags o (suc (suc (suc (suc (suc zero))))) s is apart = sym (ap flags_in is)
plain_flags o (suc (suc (suc (suc (suc (suc zero)))))) s is apart = sym (ap flags_in is)
plain_flags o (suc (suc (suc (suc (suc (suc (suc k))))))) s is apart = absurd (cc is)

no_code : (s : ReadSection) → s.flags ≡ 0 → is_executable s ≡ false
no_code s plain = rw plain refl

not_loaded : (s : ReadSection) → s.flags ≡ 0 → is_allocated s ≡ false
not_loaded s plain = rw plain refl

-- no more than one at each place
total_at_most : (number : ℕ → ℕ) (n : ℕ) → ((k : ℕ) → k < n → number k ≤ 1) → total number n ≤ n
unfolding total
total_at_most number zero each = omega arith
total_at_most number (suc n) each = omega (arith, total_at_most number n (λ k below. each k (omega arith)), each n (omega arith))

module _ (o : Output) (can : IsAcceptable o) where
  header : IsHeader (output_file o) o
  header = (headers_are_read o can.fits).0

  -- the file header

  long : 280 ≤ length (output_file o)
  long = omega (arith, (headers_are_read o can.fits).1)

  is_elf : (k : ℕ) → k < 7 → is_not_elf_at (output_file o) k ≡ false
  is_elf k within =
      let same : get_or (output_file o) k 0 ≡ get_or identification k 0 = sym (get_or-take 7 (output_file o) k 0 within) ∙ ap (λ bytes. get_or bytes k 0) header.identified in
      or_from (nat_le (length (output_file o)) k) (not (nat_eq (get_or (output_file o) k 0) (get_or identification k 0)))
      (at_most_not (length (output_file o)) k (omega (arith, long))) (not_from_true (nat_eq (get_or (output_file o) k 0) (get_or identification k 0)) (equal_is (get_or (output_file o) k 0) (get_or identification k 0) same))

  count_fits : (n low high : ℕ) → low ≤ n → n ≤ high → (nat_lt n low || nat_lt high n) ≡ false
  count_fits n low high above below = or_from (nat_lt n low) (nat_lt high n) (less_not n low above) (less_not high n below)

  some_pieces : 1 ≤ length (pieces_of o)
  some_pieces = omega (arith, length-append o.before (text_piece o ∷ o.after))

  fields_fit : (k : ℕ) → is_refused_field (output_file o) k ≡ false
  unfolding is_refused_field
  fields_fit k =
      let f = output_file o in
      let is = λ (a b : ℕ) (same : a ≡ b). not_from_true (nat_eq a b) (equal_is a b same) in
      if_false (nat_eq k 16) _ _ (is (u16_field f 16) 2 header.kind)
      (if_false (nat_eq k 18) _ _ (is (u16_field f 18) 243 header.machine)
      (if_false (nat_eq k 20) _ _ (is (u32_field f 20) 1 header.version)
      (if_false (nat_eq k 40) _ _ (is (u16_field f 40) 52 header.header_size)
      (if_false (nat_eq k 42) _ _ (is (u16_field f 42) 32 header.program_header_size)
      (if_false (nat_eq k 44) _ _ (count_fits (u16_field f 44) 1 128 (omega (arith, header.pieces, some_pieces)) (omega (arith, header.pieces, can.pieces)))
      (if_false (nat_eq k 46) _ _ (is (u16_field f 46) 40 header.section_header_size)
      (if_false (nat_eq k 48) _ _ (count_fits (u16_field f 48) 1 4096 (omega (arith, header.sections)) (omega (arith, header.sections))) refl)))))))

  no_flags : not (nat_eq (flags_of (output_file o)) 0) ≡ false
  no_flags = not_from_true (nat_eq (flags_of (output_file o)) 0) (equal_is (flags_of (output_file o)) 0 header.flags)

  -- the tables

  program_headers_stay : leaves (output_file o) (phoff_of (output_file o)) (32 * phnum_of (output_file o)) ≡ false
  program_headers_stay =
      let stands = output_stands o in
      stays (length (output_file o)) (32 * phnum_of (output_file o)) (phoff_of (output_file o) + 32 * phnum_of (output_file o))
      (omega (arith, header.program_headers, header.pieces, part_ends (output_file o) (52 + 32 * length (pieces_of o)) (piece_bytes (pieces_of o)) stands.stored))

  section_headers_stay : leaves (output_file o) (shoff_of (output_file o)) (40 * shnum_of (output_file o)) ≡ false
  section_headers_stay =
      stays (length (output_file o)) (40 * shnum_of (output_file o)) (shoff_of (output_file o) + 40 * shnum_of (output_file o))
      (omega (arith, header.section_headers, header.sections, (headers_are_read o can.fits).1))

  -- the segments

  pub at : (k : ℕ) → k < phnum_of (output_file o) → Knows o can.fits k
  at k within = knows o can.fits k (omega (arith, header.pieces))

  pub made_of : (k : ℕ) → (here : Knows o can.fits k) → segment_of (output_file o) k ≡ segment_at here.segment.offset here.piece
  made_of k here = here.read.is ∙ here.made

  stays_inside : (k : ℕ) → k < phnum_of (output_file o) → is_outside (output_file o) k ≡ false
  stays_inside k within =
      let here = at k within in
      let inside : leaves (output_file o) here.segment.offset here.segment.filesz ≡ false = stays (length (output_file o)) here.segment.filesz (here.segment.offset + here.segment.filesz) here.read.inside in
      and_right (is_load (output_file o) k) (leaves (output_file o) (segment_of (output_file o) k).offset (segment_of (output_file o) k).filesz)
      (subst (λ (s : Segment). leaves (output_file o) s.offset s.filesz ≡ false) (sym here.read.is) inside)

  loadable : (k : ℕ) (here : Knows o can.fits k) → IsLoadable here.piece
  loadable k here = all_at IsLoadable (pieces_of o) can.loadable k here.piece here.is_piece

  fitting : (k : ℕ) (here : Knows o can.fits k) → IsFittingPiece here.piece
  fitting k here = all_at IsFittingPiece (pieces_of o) can.fits.pieces k here.piece here.is_piece

  good_shape : (offset : ℕ) (p : Piece) → IsFittingPiece p → IsLoadable p → is_misshapen (segment_at offset p) ≡ false
  good_shape offset p fits loads =
      or_from (nat_lt p.size (length p.bytes) || nat_lt (2 ^ 32) (p.address + p.size)) (nat_lt (2 ^ 32) (p.load_address + length p.bytes))
      (or_from (nat_lt p.size (length p.bytes)) (nat_lt (2 ^ 32) (p.address + p.size)) (less_not p.size (length p.bytes) fits.stored) (less_not (2 ^ 32) (p.address + p.size) loads.within))
      (less_not (2 ^ 32) (p.load_address + length p.bytes) loads.copy_within)

  is_good : (k : ℕ) → k < phnum_of (output_file o) → is_bad_segment (output_file o) k ≡ false
  is_good k within =
      let here = at k within in
      and_right (is_load (output_file o) k) (is_misshapen (segment_of (output_file o) k))
      (subst (λ s. is_misshapen s ≡ false) (sym (made_of k here)) (good_shape here.segment.offset here.piece (fitting k here) (loadable k here)))

  is_load_kind : (k : ℕ) → k < phnum_of (output_file o) → is_refused_kind (output_file o) k ≡ false
  is_load_kind k within =
      let kind : kind_of (output_file o) k ≡ 1 = eqb-true (kind_of (output_file o) k) 1 (at k within).read.load in
      rw kind refl

  no_overlap : (offset other : ℕ) (p q : Piece) → IsBefore p q → overlaps (segment_at offset q) (segment_at other p) ≡ false
  no_overlap offset other p q before =
      let own = apart_back p.address p.size q.address q.size (behind_is_apart p.address p.size q.address q.size before.ends) in
      let copies = apart_back p.load_address (copied p) q.load_address (copied q) before.copies in
      or_from (meets q.address q.size p.address p.size || meets q.address q.size p.load_address (copied p) || meets p.address p.size q.load_address (copied q)) (meets q.load_address (copied q) p.load_address (copied p))
      (or_from (meets q.address q.size p.address p.size || meets q.address q.size p.load_address (copied p)) (meets p.address p.size q.load_address (copied q))
      (or_from (meets q.address q.size p.address p.size) (meets q.address q.size p.load_address (copied p)) own before.second) before.first)
      copies

  earlier_apart : (k earlier : ℕ) → k < phnum_of (output_file o) → earlier < k → overlaps_at (output_file o) k earlier ≡ false
  earlier_apart k earlier within below =
      let here = at k within in
      let there = at earlier (omega arith) in
      let order = order_at (pieces_of o) can.in_order earlier k there.piece here.piece below there.is_piece here.is_piece in
      and_right (is_load (output_file o) earlier) (overlaps (segment_of (output_file o) k) (segment_of (output_file o) earlier))
      (subst (λ s. overlaps s (segment_of (output_file o) earlier) ≡ false) (sym (made_of k here))
      (subst (λ s. overlaps (segment_at here.segment.offset here.piece) s ≡ false) (sym (made_of earlier there))
      (no_overlap here.segment.offset there.segment.offset there.piece here.piece order)))

  is_apart : (k : ℕ) → k < phnum_of (output_file o) → is_overlapping (output_file o) k ≡ false
  is_apart k within =
      let here = at k within in
      let none : first_from (overlaps_at (output_file o) k) 0 k ≡ None = none_from (overlaps_at (output_file o) k) 0 k (λ earlier low high. earlier_apart k earlier within (omega arith)) in
      let no_earlier : is_some (first_from (overlaps_at (output_file o) k) 0 k) ≡ false = ap is_some none in
      and_right (is_load (output_file o) k) (meets_copy (segment_of (output_file o) k) (segment_of (output_file o) k) || is_some (first_from (overlaps_at (output_file o) k) 0 k))
      (or_from (meets_copy (segment_of (output_file o) k) (segment_of (output_file o) k)) (is_some (first_from (overlaps_at (output_file o) k) 0 k))
      (subst (λ s. meets_copy s s ≡ false) (sym (made_of k here)) (loadable k here).alone) no_earlier)

  -- the sections

  plain : (k : ℕ) → k < shnum_of (output_file o) → (k ≡ 1 → ⊥) → (section_of (output_file o) k).flags ≡ 0
  plain k within apart =
      let section = some_at (output_sections o) k (omega (arith, header.sections)) in
      let part = some_at (section_parts o) k (omega (arith, header.sections)) in
      ap (λ (s : ReadSection). s.flags) (sections_are_read o can.fits k section.0 part.0 section.1 part.1).0 ∙ plain_flags o k section.0 section.1 apart

  code_is : section_of (output_file o) 1 ≡ code_section o
  code_is = (sections_are_read o can.fits 1 _ _ refl refl).0

  text_fits : IsFittingPiece (text_piece o)
  text_fits = all_middle IsFittingPiece o.before (text_piece o) o.after can.fits.pieces

  code_runs : is_executable (section_of (output_file o) 1) ≡ true
  code_runs =
      let sized : nat_lt 0 (text_size o) ≡ true = lt-ltb 0 (text_size o) text_fits.some in
      subst (λ s. is_executable s ≡ true) (sym code_is) (rw sized refl)

  first_is : first_executable (output_file o) ≡ Some 1
  first_is =
      some_from (is_executable_at (output_file o)) 0 (shnum_of (output_file o)) 1 (omega arith) (omega (arith, header.sections))
      (λ k low below. no_code (section_of (output_file o) k) (plain k (omega (arith, header.sections)) (λ same. omega arith)))
      code_runs

  -- the segment that holds text

  pub place_within : length o.before < phnum_of (output_file o)
  place_within = omega (arith, header.pieces, length-append o.before (text_piece o ∷ o.after))

  pub same_piece : (p q : Piece) → (found : Option Piece) → found ≡ Some p → found ≡ Some q → p ≡ q
  same_piece p q found is has = cc (is, has)

  pub text_segment : (here : Knows o can.fits (length o.before)) → segment_of (output_file o) (length o.before) ≡ segment_at here.segment.offset (text_piece o)
  text_segment here =
      made_of (length o.before) here
      ∙ ap (segment_at here.segment.offset) (same_piece here.piece (text_piece o) (slice_get (pieces_of o) (length o.before)) here.is_piece (at_middle o.before (text_piece o) o.after))

  text_holds : (offset : ℕ) → holds (segment_at offset (text_piece o)) (code_section o) ≡ true
  text_holds offset =
      let low : nat_le o.start o.start ≡ true = le-leb o.start o.start (omega arith) in
      let high : nat_le (o.start + text_size o) (o.start + text_size o) ≡ true = le-leb (o.start + text_size o) (o.start + text_size o) (omega arith) in
      rw (low, high) refl

  holds_text : holds_at (output_file o) (section_of (output_file o) 1) (length o.before) ≡ true
  holds_text =
      let here = at (length o.before) place_within in
      let held : holds (segment_of (output_file o) (length o.before)) (section_of (output_file o) 1) ≡ true =
      subst (λ s. holds s (section_of (output_file o) 1) ≡ true) (sym (text_segment here))
      (subst (λ s. holds (segment_at here.segment.offset (text_piece o)) s ≡ true) (sym code_is) (text_holds here.segment.offset))
      in
      rw (here.read.load, held) refl

  cannot_hold : (offset : ℕ) (p : Piece) (s : ReadSection) → CannotRun p → holds (segment_at offset p) s ≡ false
  cannot_hold offset p s still =
      let bit : bit_and p.flags 1 ≡ 0 = and_mask p.flags 1 ∙ still in
      rw bit refl

  earlier_cannot : (k : ℕ) → k < length o.before → holds_at (output_file o) (section_of (output_file o) 1) k ≡ false
  earlier_cannot k below =
      let here = at k (omega (arith, place_within)) in
      let piece = some_at o.before k below in
      let same = same_piece piece.0 here.piece (slice_get (pieces_of o) k) (at_front o.before (text_piece o ∷ o.after) k piece.0 piece.1) here.is_piece in
      let still : CannotRun here.piece = subst CannotRun same (all_at CannotRun o.before can.before k piece.0 piece.1) in
      and_right (is_load (output_file o) k) (holds (segment_of (output_file o) k) (section_of (output_file o) 1))
      (subst (λ s. holds s (section_of (output_file o) 1) ≡ false) (sym (made_of k here)) (cannot_hold here.segment.offset here.piece (section_of (output_file o) 1) still))

  holder_is : holder_of (output_file o) (section_of (output_file o) 1) ≡ Some (length o.before)
  holder_is =
      some_from (holds_at (output_file o) (section_of (output_file o) 1)) 0 (phnum_of (output_file o)) (length o.before) (omega arith) (omega (arith, place_within))
      (λ k low below. earlier_cannot k below) holds_text

  text_segment_is : text_segment_of (output_file o) ≡ length o.before
  text_segment_is =
      ap (λ found. unwrap_or (holder_of (output_file o) (section_of (output_file o) (unwrap_or found 0))) 0) first_is
      ∙ ap (λ found. unwrap_or found 0) holder_is

  -- text

  some_code : not (is_some (first_executable (output_file o))) ≡ false
  some_code = not_from_true (is_some (first_executable (output_file o))) (ap is_some first_is)

  code_forms : (s : ReadSection) → s ≡ code_section o → is_some (holder_of (output_file o) s) ≡ true → (not (nat_eq s.kind 1) || not (nat_eq (s.address % 4) 0) || not (nat_eq (s.size % 4) 0) || not (is_some (holder_of (output_file o) s))) ≡ false
  code_forms s is held =
      let kind : s.kind ≡ 1 = ap (λ (t : ReadSection). t.kind) is in
      let address : s.address ≡ o.start = ap (λ (t : ReadSection). t.address) is in
      let size : s.size ≡ text_size o = ap (λ (t : ReadSection). t.size) is in
      or_from (not (nat_eq s.kind 1) || not (nat_eq (s.address % 4) 0) || not (nat_eq (s.size % 4) 0)) (not (is_some (holder_of (output_file o) s)))
      (or_from (not (nat_eq s.kind 1) || not (nat_eq (s.address % 4) 0)) (not (nat_eq (s.size % 4) 0))
      (or_from (not (nat_eq s.kind 1)) (not (nat_eq (s.address % 4) 0)) (not_from_true (nat_eq s.kind 1) (equal_is s.kind 1 kind)) (not_from_true (nat_eq (s.address % 4) 0) (equal_is (s.address % 4) 0 (ap (λ n. n % 4) address ∙ can.start))))
      (not_from_true (nat_eq (s.size % 4) 0) (equal_is (s.size % 4) 0 (omega (arith, size, length_words o.text)))))
      (not_from_true (is_some (holder_of (output_file o) s)) held)

  good_section : (k : ℕ) → k < shnum_of (output_file o) → is_bad_text_section (output_file o) k ≡ false
  good_section k within =
      ⊎_elim
      (λ (same : k ≡ 1).
      subst (λ j. is_bad_text_section (output_file o) j ≡ false) (sym same)
      (and_right (is_executable (section_of (output_file o) 1)) _ (code_forms (section_of (output_file o) 1) code_is (ap is_some holder_is))))
      (λ (apart : k ≡ 1 → ⊥). rw (no_code (section_of (output_file o) k) (plain k within apart)) refl)
      (cases_eq k 1)

  unsplit : (k : ℕ) → k < shnum_of (output_file o) → splits (output_file o) (text_of (output_file o)) (text_segment_of (output_file o)) k ≡ false
  unsplit k within =
      ⊎_elim
      (λ (same : k ≡ 1).
      subst (λ j. splits (output_file o) (text_of (output_file o)) (text_segment_of (output_file o)) j ≡ false) (sym same)
      (let held : holds_at (output_file o) (section_of (output_file o) 1) (text_segment_of (output_file o)) ≡ true = subst (λ j. holds_at (output_file o) (section_of (output_file o) 1) j ≡ true) (sym text_segment_is) holds_text in
      rw code_runs (not_from_true (holds_at (output_file o) (section_of (output_file o) 1) (text_segment_of (output_file o))) held)))
      (λ (apart : k ≡ 1 → ⊥).
      let flags = plain k within apart in
      rw (no_code (section_of (output_file o) k) flags, not_loaded (section_of (output_file o) k) flags) refl)
      (cases_eq k 1)

  unmoved : not (nat_eq (segment_of (output_file o) (text_segment_of (output_file o))).load_address (segment_of (output_file o) (text_segment_of (output_file o))).address) ≡ false
  unmoved =
      let here = at (length o.before) place_within in
      let is = ap (segment_of (output_file o)) text_segment_is ∙ text_segment here in
      not_from_true (nat_eq (segment_of (output_file o) (text_segment_of (output_file o))).load_address (segment_of (output_file o) (text_segment_of (output_file o))).address)
      (equal_is (segment_of (output_file o) (text_segment_of (output_file o))).load_address (segment_of (output_file o) (text_segment_of (output_file o))).address
      (ap (λ (s : Segment). s.load_address) is ∙ sym (ap (λ (s : Segment). s.address) is)))

  text_low : (text_of (output_file o)).lo ≡ o.start
  text_low = ap (λ (t : Text). t.lo) (text_is_read o can.fits)

  text_high : (text_of (output_file o)).hi ≡ o.start + text_size o
  text_high = ap (λ (t : Text). t.hi) (text_is_read o can.fits)

  small_text : nat_lt largest_text (read_text_size (output_file o)) ≡ false
  small_text = less_not largest_text (read_text_size (output_file o)) (omega (arith, text_low, text_high, can.text))

  -- sizes, and the entry

  whole_text : (s : Segment) (text : Text) → s.address ≡ text.lo → text.hi ≡ s.address + s.memsz → parts_of s text ≡ 1
  whole_text s text low high =
      let first : nat_lt s.address text.lo ≡ false = less_not s.address text.lo (omega arith) in
      let last : nat_lt text.hi (s.address + s.memsz) ≡ false = less_not text.hi (s.address + s.memsz) (omega arith) in
      rw (first, last) refl

  one_piece : (k : ℕ) → k < phnum_of (output_file o) → pieces_at (output_file o) (text_of (output_file o)) (text_segment_of (output_file o)) k ≤ 1
  one_piece k within = by_place (cases_eq k (text_segment_of (output_file o)))
    where
      few : (test here : Bool) (n m : ℕ) → n ≤ 1 → m ≤ 1 → (if test then (if here then n else m) else 0) ≤ 1
      few true true n m first second = first
      few true false n m first second = second
      few false here n m first second = omega arith

      parts : k ≡ text_segment_of (output_file o) → parts_of (segment_of (output_file o) k) (text_of (output_file o)) ≡ 1
      parts same =
          let here = at (length o.before) place_within in
          let is = ap (segment_of (output_file o)) (same ∙ text_segment_is) ∙ text_segment here in
          let address : (segment_of (output_file o) k).address ≡ o.start = ap (λ (s : Segment). s.address) is in
          let memsz : (segment_of (output_file o) k).memsz ≡ text_size o = ap (λ (s : Segment). s.memsz) is in
          whole_text (segment_of (output_file o) k) (text_of (output_file o)) (omega (arith, address, text_low)) (omega (arith, address, memsz, text_high))

      by_place : (k ≡ text_segment_of (output_file o)) ⊎ (k ≡ text_segment_of (output_file o) → ⊥) → pieces_at (output_file o) (text_of (output_file o)) (text_segment_of (output_file o)) k ≤ 1
      by_place (inl same) =
          few (is_load (output_file o) k && nat_lt 0 (segment_of (output_file o) k).memsz) (nat_eq k (text_segment_of (output_file o))) (parts_of (segment_of (output_file o) k) (text_of (output_file o))) 1 (omega (arith, parts same)) (omega arith)
      by_place (inr apart) =
          let other : nat_eq k (text_segment_of (output_file o)) ≡ false = not_equal k (text_segment_of (output_file o)) apart in
          rw other (few (is_load (output_file o) k && nat_lt 0 (segment_of (output_file o) k).memsz) false 1 1 (omega arith) (omega arith))
        where
          not_equal : (x y : ℕ) → (x ≡ y → ⊥) → nat_eq x y ≡ false
          not_equal x y apart = grind (arith, nat_tests)

  few_pieces : nat_lt 64 (piece_count_of (output_file o)) ≡ false
  few_pieces =
      less_not 64 (piece_count_of (output_file o))
      (omega (arith, total_at_most (pieces_at (output_file o) (text_of (output_file o)) (text_segment_of (output_file o))) (phnum_of (output_file o)) one_piece, header.pieces, can.pieces))

  few_bytes : nat_lt 16777216 (loaded_of (output_file o)) ≡ false
  few_bytes = less_not 16777216 (loaded_of (output_file o)) (omega (arith, (segments_are_read o can.fits).size, can.loaded))

  good_entry : is_text_word (text_of (output_file o)) (entry_of (output_file o)) ≡ true
  good_entry =
      let low : nat_le (text_of (output_file o)).lo (entry_of (output_file o)) ≡ true = le-leb (text_of (output_file o)).lo (entry_of (output_file o)) (omega (arith, text_low, header.entry, can.low)) in
      let high : nat_lt (entry_of (output_file o)) (text_of (output_file o)).hi ≡ true = lt-ltb (entry_of (output_file o)) (text_of (output_file o)).hi (omega (arith, text_high, header.entry, can.high)) in
      let word : nat_eq (entry_of (output_file o) % 4) 0 ≡ true = equal_is (entry_of (output_file o) % 4) 0 (ap (λ n. n % 4) header.entry ∙ can.entry) in
      rw (low, high, word) refl

  -- row by row

  header_passes : AllPass (header_rows (output_file o))
  header_passes = (
    λ k within. less_not 134217728 (length (output_file o)) can.short,
    (is_elf, (λ k within. less_not (length (output_file o)) 52 (omega (arith, long)), (λ k within. fields_fit k, (λ k within. no_flags, tt)))),
  )

  tables_pass : AllPass (table_rows (output_file o))
  tables_pass = (λ k within. program_headers_stay, (λ k within. section_headers_stay, (stays_inside, tt)))

  segments_pass : AllPass (segment_rows (output_file o))
  segments_pass = (is_good, (is_load_kind, (is_apart, tt)))

  text_passes : AllPass (text_rows (output_file o))
  text_passes = (λ k within. some_code, (good_section, (unsplit, (λ k within. unmoved, (λ k within. small_text, tt)))))

  sizes_pass : AllPass (size_rows (output_file o))
  sizes_pass =
      (λ k within. few_pieces, (λ k within. few_bytes, (λ k within. not_from_true (is_text_word (text_of (output_file o)) (entry_of (output_file o))) good_entry, tt)))

  pub accepted : file_refusal_of (output_file o) ≡ None
  unfolding file_refusal_of
  accepted =
      let f = output_file o in
      none_refused (file_rows f)
      (both_pass (header_rows f) (table_rows f ++ (segment_rows f ++ (text_rows f ++ size_rows f))) header_passes
      (both_pass (table_rows f) (segment_rows f ++ (text_rows f ++ size_rows f)) tables_pass
      (both_pass (segment_rows f) (text_rows f ++ size_rows f) segments_pass (both_pass (text_rows f) (size_rows f) text_passes sizes_pass))))

pub outputs_are_accepted : OutputsAreAccepted
outputs_are_accepted = λ o can. accepted o can
