-- The text of a file that is not refused lies, in whole words, in the file bytes of the text segment.
use Rattle.std.proofs.Common.{◌≡◌, ◌⊎◌, inl, inr, ℕ, zero, suc, ◌+◌, ◌%◌, ◌^◌, ◌<◌, ◌≤◌, Bool, true, false, not, ◌&&◌, ◌||◌, nat_eq, nat_lt, nat_le, min, max, bit_and, if◌then◌else◌, List, [], ◌∷◌, Option, Some, None, refl, ◌∙◌, arith}
use Rattle.std.specs.Option.{is_some, unwrap_or}
use Rattle.std.proofs.lemmas.Bool.{cases_lt, and_parts, or_parts, not-false}
use Rattle.std.proofs.lemmas.Bool.Decides.{nat_tests}
use Rattle.sq_num.specs.declared.refusal.Refusal.TheVariants.{NoText}
use Rattle.sq_num.specs.Refusals.{first_from}
use Rattle.sq_elf.specs.declared.segment.Segment.{Segment}
use Rattle.sq_elf.specs.declared.section.Section.{Section}
use Rattle.sq_elf.specs.declared.text.Text.{Text}
use Rattle.sq_elf.specs.Headers.{phnum_of, shnum_of, is_load, segment_of, section_of}
use Rattle.sq_elf.specs.Segments.{is_misshapen, is_bad_segment}
use Rattle.sq_elf.specs.Text.{is_executable, is_executable_at, widened, no_text, text_before, text_of, holds, holds_at, holder_of, is_bad_text_section, first_executable, text_segment_of, splits, is_in_text, is_text_word, IsTextIn}
use Rattle.sq_elf.specs.Refusing.{without_text, bad_text_section, text_split, text_moved, text_too_large, bad_segment, segment_kind, segment_overlap, file_refusal_of}
use Rattle.sq_elf.specs.Reading.{has_word, word_of}
use Rattle.sq_elf.proofs.Passing.{passes_from, IsFirst, found_from, row_passes, behind_row}
use Rattle.sq_elf.proofs.Accepted.{single_passes, text_accepted, segments_accepted}

-- of tests
split_if : (executable held other : Bool) → (if executable then not held else other) ≡ false → executable ≡ true → held ≡ true
split_if false held other fine is = absurd (cc is)
split_if true false other fine is = absurd (cc fine)
split_if true true other fine is = refl

pub second_false : (x y : Bool) → (x && y) ≡ false → x ≡ true → y ≡ false
second_false false y fine is = absurd (cc is)
second_false true y fine is = fine

le_of : (a b : ℕ) → nat_le a b ≡ true → a ≤ b
le_of a b is = grind (arith, nat_tests)

pub lt_of : (a b : ℕ) → nat_lt a b ≡ true → a < b
lt_of a b is = grind (arith, nat_tests)

eq_of : (a b : ℕ) → nat_eq a b ≡ true → a ≡ b
eq_of a b is = grind (arith, nat_tests)

not_less : (a b : ℕ) → nat_lt a b ≡ false → b ≤ a
not_less a b is = grind (arith, nat_tests)

le_is : (a b : ℕ) → a ≤ b → nat_le a b ≡ true
le_is a b le = grind (arith, nat_tests)

-- what the table asks of an executable section
pub record IsHeld (segment : Segment) (s : Section) : Type 0 where
  pub low : segment.address ≤ s.address
  pub high : s.address + s.size ≤ segment.address + segment.filesz
  pub some : 0 < s.size
  pub low_word : s.address % 4 ≡ 0
  pub size_word : s.size % 4 ≡ 0

widened_true : (text : Text) (s : Section) → is_executable s ≡ true → widened text s ≡ record { lo = min text.lo s.address; hi = max text.hi (s.address + s.size) }
widened_true text s is = rw is refl

widened_false : (text : Text) (s : Section) → is_executable s ≡ false → widened text s ≡ text
widened_false text s is = rw is refl

first_text : (segment : Segment) (s : Section) → segment.address + segment.filesz ≤ 2 ^ 32 → IsHeld segment s → IsTextIn segment (record { lo = min no_text.lo s.address; hi = max no_text.hi (s.address + s.size) })
first_text segment s fits held = record {
  low = omega (arith, held.low, held.high, held.some);
  high = omega (arith, held.high);
  some = omega (arith, held.high, held.some);
  low_word = let same : min 0xffffffff s.address ≡ s.address = omega (arith, held.high, held.some) in rw same held.low_word;
  high_word = let same : max 0 (s.address + s.size) ≡ s.address + s.size = omega arith in rw same (omega (arith, held.low_word, held.size_word));
}

more_text : (segment : Segment) (text : Text) (s : Section) → IsTextIn segment text → IsHeld segment s → IsTextIn segment (record { lo = min text.lo s.address; hi = max text.hi (s.address + s.size) })
more_text segment text s inside held = record {
  low = omega (arith, held.low, inside.low);
  high = omega (arith, held.high, inside.high);
  some = omega (arith, held.some, inside.some);
  low_word = omega (arith, held.low_word, inside.low_word);
  high_word = omega (arith, held.low_word, held.size_word, inside.high_word);
}

-- no executable section yet
pub record IsBare (bytes : List ℕ) (count : ℕ) : Type 0 where
  pub none : (k : ℕ) → k < count → is_executable (section_of bytes k) ≡ false
  pub empty : text_before bytes count ≡ no_text

module _ (bytes : List ℕ) (segment : Segment) (fits : segment.address + segment.filesz ≤ 2 ^ 32) (held : (k : ℕ) → k < shnum_of bytes → is_executable (section_of bytes k) ≡ true → IsHeld segment (section_of bytes k)) where
  next_text : (count : ℕ) → text_before bytes (suc count) ≡ widened (text_before bytes count) (section_of bytes count)
  unfolding text_before
  next_text count = refl

  InText : ℕ → Type 0
  InText count = IsBare bytes count ⊎ IsTextIn segment (text_before bytes count)

  one_more : (count : ℕ) → count < shnum_of bytes → (test : Bool) → is_executable (section_of bytes count) ≡ test → InText count → InText (suc count)
  unfolding InText
  one_more count within false is (inl bare) =
      inl (record {
        none = λ k below. elim (cases_lt k count) [ inl less ↦ bare.none k less | inr more ↦ (let same : k ≡ count = omega arith in rw same is) ];
        empty = next_text count ∙ widened_false (text_before bytes count) (section_of bytes count) is ∙ bare.empty;
      })
  one_more count within false is (inr inside) = inr (rw (next_text count ∙ widened_false (text_before bytes count) (section_of bytes count) is) inside)
  one_more count within true is (inl bare) =
      inr (rw (next_text count ∙ widened_true (text_before bytes count) (section_of bytes count) is, bare.empty) (first_text segment (section_of bytes count) fits (held count within is)))
  one_more count within true is (inr inside) =
      inr (rw (next_text count ∙ widened_true (text_before bytes count) (section_of bytes count) is) (more_text segment (text_before bytes count) (section_of bytes count) inside (held count within is)))

  no_sections : InText 0
  unfolding InText text_before
  no_sections = inl (record { none = λ k below. absurd (omega arith); empty = refl })

  so_far : (count : ℕ) → count ≤ shnum_of bytes → InText count
  so_far zero within = no_sections
  so_far (suc count) within = one_more count (omega arith) (is_executable (section_of bytes count)) refl (so_far count (omega arith))

  pub text_in : (k : ℕ) → k < shnum_of bytes → is_executable (section_of bytes k) ≡ true → IsTextIn segment (text_of bytes)
  unfolding InText
  text_in k within is = elim (so_far (shnum_of bytes) (omega arith)) [ inl bare ↦ (let other : is_executable (section_of bytes k) ≡ false = bare.none k within in absurd (cc (is, other))) | inr inside ↦ inside ]

-- of a section in the file bytes of a segment, by the tests of the table
held_by : (bytes : List ℕ) (index at : ℕ) → holds_at bytes (section_of bytes index) at ≡ true → is_bad_text_section bytes index ≡ false → is_executable (section_of bytes index) ≡ true → IsHeld (segment_of bytes at) (section_of bytes index)
held_by bytes index at holding fine is =
    let s : Section = section_of bytes index in
    let segment : Segment = segment_of bytes at in
    let loaded = and_parts (is_load bytes at) (holds segment s) holding in
    let lying = and_parts (nat_eq (bit_and segment.flags 1) 1) (nat_le segment.address s.address && nat_le (s.address + s.size) (segment.address + segment.filesz)) loaded.1 in
    let ends = and_parts (nat_le segment.address s.address) (nat_le (s.address + s.size) (segment.address + segment.filesz)) lying.1 in
    let sized = and_parts (nat_eq (bit_and s.flags 6) 6) (nat_lt 0 s.size) is in
    let forms = second_false (is_executable s) (not (nat_eq s.kind 1) || not (nat_eq (s.address % 4) 0) || not (nat_eq (s.size % 4) 0) || not (is_some (holder_of bytes s))) fine is in
    let whole = or_parts (not (nat_eq s.kind 1) || not (nat_eq (s.address % 4) 0) || not (nat_eq (s.size % 4) 0)) (not (is_some (holder_of bytes s))) forms in
    let sizes = or_parts (not (nat_eq s.kind 1) || not (nat_eq (s.address % 4) 0)) (not (nat_eq (s.size % 4) 0)) whole.0 in
    let addresses = or_parts (not (nat_eq s.kind 1)) (not (nat_eq (s.address % 4) 0)) sizes.0 in
    record {
      low = le_of segment.address s.address ends.0;
      high = le_of (s.address + s.size) (segment.address + segment.filesz) ends.1;
      some = lt_of 0 s.size sized.1;
      low_word = eq_of (s.address % 4) 0 (not-false (nat_eq (s.address % 4) 0) addresses.1);
      size_word = eq_of (s.size % 4) 0 (not-false (nat_eq (s.size % 4) 0) sizes.1);
    }

module _ (bytes : List ℕ) (accepted : file_refusal_of bytes ≡ None) where
  good_section : (k : ℕ) → k < shnum_of bytes → is_bad_text_section bytes k ≡ false
  good_section =
      row_passes (bad_text_section bytes) (text_split bytes ∷ text_moved bytes ∷ text_too_large bytes ∷ [])
      (behind_row (without_text bytes) (bad_text_section bytes ∷ text_split bytes ∷ text_moved bytes ∷ text_too_large bytes ∷ []) (text_accepted bytes accepted))

  unsplit : (k : ℕ) → k < shnum_of bytes → splits bytes (text_of bytes) (text_segment_of bytes) k ≡ false
  unsplit =
      row_passes (text_split bytes) (text_moved bytes ∷ text_too_large bytes ∷ [])
      (behind_row (bad_text_section bytes) (text_split bytes ∷ text_moved bytes ∷ text_too_large bytes ∷ [])
      (behind_row (without_text bytes) (bad_text_section bytes ∷ text_split bytes ∷ text_moved bytes ∷ text_too_large bytes ∷ []) (text_accepted bytes accepted)))

  good_segment : (k : ℕ) → k < phnum_of bytes → is_bad_segment bytes k ≡ false
  good_segment = row_passes (bad_segment bytes) (segment_kind bytes ∷ segment_overlap bytes ∷ []) (segments_accepted bytes accepted)

  -- each executable section is in the text segment
  in_segment : (k : ℕ) → k < shnum_of bytes → is_executable (section_of bytes k) ≡ true → holds_at bytes (section_of bytes k) (text_segment_of bytes) ≡ true
  in_segment k within is = split_if (is_executable (section_of bytes k)) (holds_at bytes (section_of bytes k) (text_segment_of bytes)) _ (unsplit k within) is

  held : (k : ℕ) → k < shnum_of bytes → is_executable (section_of bytes k) ≡ true → IsHeld (segment_of bytes (text_segment_of bytes)) (section_of bytes k)
  held k within is = held_by bytes k (text_segment_of bytes) (in_segment k within is) (good_section k within) is

  -- the first executable section
  some_text : (found : Option ℕ) → first_executable bytes ≡ found → (k : ℕ) × (first_executable bytes ≡ Some k)
  some_text (Some k) is = (k, is)
  some_text None is =
      let some : not (is_some (first_executable bytes)) ≡ false = single_passes (not (is_some (first_executable bytes))) NoText (bad_text_section bytes ∷ text_split bytes ∷ text_moved bytes ∷ text_too_large bytes ∷ []) (text_accepted bytes accepted) in
      let none : not (is_some (first_executable bytes)) ≡ true = rw is refl in
      absurd (cc (some, none))

  holder_within : (s : Section) (found : Option ℕ) → holder_of bytes s ≡ found → not (is_some (holder_of bytes s)) ≡ false → unwrap_or (holder_of bytes s) 0 < phnum_of bytes
  holder_within s None is some = let none : not (is_some (holder_of bytes s)) ≡ true = rw is refl in absurd (cc (some, none))
  holder_within s (Some k) is some =
      let first : IsFirst (holds_at bytes s) 0 (phnum_of bytes) k = found_from (holds_at bytes s) 0 (phnum_of bytes) k is in
      let same : unwrap_or (holder_of bytes s) 0 ≡ k = rw is refl in
      rw same (omega (arith, first.high))

  -- the text segment, by the first executable section
  segment_is : (k : ℕ) → first_executable bytes ≡ Some k → text_segment_of bytes ≡ unwrap_or (holder_of bytes (section_of bytes k)) 0
  segment_is k is = rw is refl

  segment_within : (k : ℕ) → first_executable bytes ≡ Some k → k < shnum_of bytes → is_executable (section_of bytes k) ≡ true → text_segment_of bytes < phnum_of bytes
  segment_within k first within is =
      let s : Section = section_of bytes k in
      let forms = second_false (is_executable s) (not (nat_eq s.kind 1) || not (nat_eq (s.address % 4) 0) || not (nat_eq (s.size % 4) 0) || not (is_some (holder_of bytes s))) (good_section k within) is in
      let whole = or_parts (not (nat_eq s.kind 1) || not (nat_eq (s.address % 4) 0) || not (nat_eq (s.size % 4) 0)) (not (is_some (holder_of bytes s))) forms in
      rw (segment_is k first) (holder_within s (holder_of bytes s) refl whole.1)

  -- a PT_LOAD does not end past 2^32
  fits_memory : (k : ℕ) → k < phnum_of bytes → is_load bytes k ≡ true → (segment_of bytes k).address + (segment_of bytes k).filesz ≤ 2 ^ 32
  fits_memory k within load =
      let s : Segment = segment_of bytes k in
      let shaped = second_false (is_load bytes k) (is_misshapen s) (good_segment k within) load in
      let ends = or_parts (nat_lt s.memsz s.filesz || nat_lt (2 ^ 32) (s.address + s.memsz)) (nat_lt (2 ^ 32) (s.load_address + s.filesz)) shaped in
      let sizes = or_parts (nat_lt s.memsz s.filesz) (nat_lt (2 ^ 32) (s.address + s.memsz)) ends.0 in
      omega (arith, not_less s.memsz s.filesz sizes.0, not_less (2 ^ 32) (s.address + s.memsz) sizes.1)

  -- what is known of the text
  pub record TextFacts : Type 0 where
    pub inside : IsTextIn (segment_of bytes (text_segment_of bytes)) (text_of bytes)
    pub load : is_load bytes (text_segment_of bytes) ≡ true
    pub within : text_segment_of bytes < phnum_of bytes
    pub high : (text_of bytes).hi ≤ 2 ^ 32

  by_first : (k : ℕ) → first_executable bytes ≡ Some k → TextFacts
  by_first k first =
      let found : IsFirst (is_executable_at bytes) 0 (shnum_of bytes) k = found_from (is_executable_at bytes) 0 (shnum_of bytes) k first in
      let below : k < shnum_of bytes = omega (arith, found.high) in
      let load = and_parts (is_load bytes (text_segment_of bytes)) (holds (segment_of bytes (text_segment_of bytes)) (section_of bytes k)) (in_segment k below found.here) in
      let among : text_segment_of bytes < phnum_of bytes = segment_within k first below found.here in
      let fits : (segment_of bytes (text_segment_of bytes)).address + (segment_of bytes (text_segment_of bytes)).filesz ≤ 2 ^ 32 = fits_memory (text_segment_of bytes) among load.0 in
      let inside : IsTextIn (segment_of bytes (text_segment_of bytes)) (text_of bytes) = text_in bytes (segment_of bytes (text_segment_of bytes)) fits held k below found.here in
      record { inside = inside; load = load.0; within = among; high = omega (arith, inside.high) }

  pub text_facts : TextFacts
  text_facts = let first = some_text (first_executable bytes) refl in by_first first.0 first.1

  -- each word of text stands in the file
  some_word : (address : ℕ) (found : Option ℕ) → first_from (has_word bytes address) 0 (phnum_of bytes) ≡ found → has_word bytes address (text_segment_of bytes) ≡ true → is_some (word_of bytes address) ≡ true
  unfolding word_of
  some_word address None is here =
      let other : has_word bytes address (text_segment_of bytes) ≡ false = passes_from (has_word bytes address) 0 (phnum_of bytes) (text_segment_of bytes) is (omega arith) (omega (arith, text_facts.within)) in
      absurd (cc (here, other))
  some_word address (Some k) is here = rw is refl

  pub text_has_words : (address : ℕ) → is_text_word (text_of bytes) address ≡ true → is_some (word_of bytes address) ≡ true
  text_has_words address is =
      let segment : Segment = segment_of bytes (text_segment_of bytes) in
      let parts = and_parts (is_in_text (text_of bytes) address) (nat_eq (address % 4) 0) is in
      let ends = and_parts (nat_le (text_of bytes).lo address) (nat_lt address (text_of bytes).hi) parts.0 in
      let low : (text_of bytes).lo ≤ address = le_of (text_of bytes).lo address ends.0 in
      let high : address < (text_of bytes).hi = lt_of address (text_of bytes).hi ends.1 in
      let word : address % 4 ≡ 0 = eq_of (address % 4) 0 parts.1 in
      let inside : IsTextIn segment (text_of bytes) = text_facts.inside in
      let first : nat_le segment.address address ≡ true = le_is segment.address address (omega (arith, inside.low)) in
      let last : nat_le (address + 4) (segment.address + segment.filesz) ≡ true = le_is (address + 4) (segment.address + segment.filesz) (omega (arith, inside.high, inside.high_word)) in
      some_word address (first_from (has_word bytes address) 0 (phnum_of bytes)) refl (rw (text_facts.load, first, last) refl)
