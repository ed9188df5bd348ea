-- The segments of an accepted file: each is sound, no two overlap, and text stands in one of them.
use Rattle.std.proofs.Common.{◌≡◌, ℕ, zero, suc, ◌+◌, ◌-◌, ◌^◌, ◌<◌, ◌≤◌, true, false, not, ◌||◌, ◌⊎◌, inl, inr, ⊎_elim, nat_eq, nat_lt, List, [], ◌∷◌, take, drop, length, sum_by, Option, Some, None, refl, sym, subst, arith}
use Rattle.std.specs.List.{AllByRecursion}
use Rattle.std.specs.Option.{is_some}
use Rattle.std.proofs.lemmas.Bool.{cases_Bool, cases_lt, cases_eq, ltb-true, ltb-false, and_parts, or_parts}
use Rattle.std.proofs.lemmas.Bool.Decides.{nat_tests}
use Rattle.std.proofs.lemmas.List.{length-take}
use Rattle.std.proofs.lemmas.List.Sums.{sum_by_push}
use Rattle.std.proofs.Common.{length-drop}
use Rattle.sq_num.specs.Refusals.{first_from}
use Rattle.sq_elf.specs.declared.segment.Segment.{Segment}
use Rattle.sq_elf.specs.Headers.{phnum_of, is_load, segment_of}
use Rattle.sq_elf.specs.Memory.{has_memory, segments_before, segments_of, file_bytes_of}
use Rattle.sq_elf.specs.Ranges.{leaves, meets, bytes_at}
use Rattle.sq_elf.specs.Refusing.{file_bytes, bad_segment, segment_kind, segment_overlap, program_table, section_table, without_text, bad_text_section, text_split, text_moved, text_too_large, file_refusal_of}
use Rattle.sq_elf.specs.Segments.{is_outside, is_misshapen, copy_size, meets_copy, overlaps, overlaps_at, is_overlapping}
use Rattle.sq_elf.specs.Sizes.{total}
use Rattle.sq_elf.specs.Text.{text_of, text_segment_of}
use Rattle.sq_elf.proofs.Accepted.{tables_accepted, segments_accepted, text_accepted}
use Rattle.sq_elf.proofs.Passing.{passes_from, row_passes, behind_row}
use Rattle.sq_elf.proofs.TextFacts.{second_false, TextFacts, text_facts}
use Rattle.law_written.proofs.Apart.{apart_back, one_behind, IsWithin, apart_within}
use Rattle.law_written.proofs.Pairs.{Pairwise, all_append, pairs_append}

-- a segment in whose file bytes text stands, which is loaded where it stands
pub record HasText (bytes : List ℕ) (s : Segment) : Type 0 where
  pub low : s.address ≤ (text_of bytes).lo
  pub high : (text_of bytes).hi ≤ s.address + s.filesz
  pub here : s.load_address ≡ s.address

-- a segment beside text
pub record IsAside (bytes : List ℕ) (s : Segment) : Type 0 where
  pub memory : (s.address + s.memsz ≤ (text_of bytes).lo) ⊎ ((text_of bytes).hi ≤ s.address)
  pub copy : meets s.load_address (copy_size s) (text_of bytes).lo ((text_of bytes).hi - (text_of bytes).lo) ≡ false

pub record IsSound (bytes : List ℕ) (s : Segment) : Type 0 where
  pub some : 0 < s.memsz
  pub fits : s.address + s.memsz ≤ 2 ^ 32
  pub stored : s.filesz ≤ s.memsz
  pub loads : s.load_address + s.filesz ≤ 2 ^ 32
  pub whole : length (file_bytes_of bytes s) ≡ s.filesz
  pub alone : meets s.address s.memsz s.load_address (copy_size s) ≡ false
  pub text : HasText bytes s ⊎ IsAside bytes s

-- no range of one meets a range of the other
pub record AreSeparate (s t : Segment) : Type 0 where
  pub memory : meets s.address s.memsz t.address t.memsz ≡ false
  pub first : meets s.address s.memsz t.load_address (copy_size t) ≡ false
  pub second : meets t.address t.memsz s.load_address (copy_size s) ≡ false
  pub copies : meets s.load_address (copy_size s) t.load_address (copy_size t) ≡ false

pub separate_back : (s t : Segment) → AreSeparate s t → AreSeparate t s
separate_back s t apart = record {
  memory = apart_back s.address s.memsz t.address t.memsz apart.memory;
  first = apart.second;
  second = apart.first;
  copies = apart_back s.load_address (copy_size s) t.load_address (copy_size t) apart.copies;
}

separate_from : (s t : Segment) → overlaps s t ≡ false → AreSeparate s t
separate_from s t apart =
    let copies = or_parts (meets s.address s.memsz t.address t.memsz || meets_copy s t || meets_copy t s) (meets s.load_address (copy_size s) t.load_address (copy_size t)) apart in
    let second = or_parts (meets s.address s.memsz t.address t.memsz || meets_copy s t) (meets_copy t s) copies.0 in
    let first = or_parts (meets s.address s.memsz t.address t.memsz) (meets_copy s t) second.0 in
    record { memory = first.0; first = first.1; second = second.1; copies = copies.1 }

none_found : (found : Option ℕ) → is_some found ≡ false → found ≡ None
none_found None none = refl
none_found (Some k) none = absurd (cc none)

-- the file bytes are as many as the header says
all_stored : (bytes : List ℕ) (s : Segment) → leaves bytes s.offset s.filesz ≡ false → length (file_bytes_of bytes s) ≡ s.filesz
unfolding bytes_at
all_stored bytes s inside = rw inside (enough (cases_lt 0 s.filesz))
  where
    reaches : 0 < s.filesz → s.offset + s.filesz ≤ length bytes
    reaches some = grind (arith, nat_tests)

    enough : (0 < s.filesz) ⊎ (s.filesz ≤ 0) → length (take s.filesz (drop s.offset bytes)) ≡ s.filesz
    enough (inl some) = omega (arith, reaches some, length-take s.filesz (drop s.offset bytes), length-drop s.offset bytes)
    enough (inr none) = omega (arith, length-take s.filesz (drop s.offset bytes))

module _ (bytes : List ℕ) (accepted : file_refusal_of bytes ≡ None) where
  pub facts : TextFacts bytes accepted
  facts = text_facts bytes accepted

  inside_file : (k : ℕ) → k < phnum_of bytes → is_outside bytes k ≡ false
  inside_file =
      row_passes (file_bytes bytes) []
      (behind_row (section_table bytes) (file_bytes bytes ∷ []) (behind_row (program_table bytes) (section_table bytes ∷ file_bytes bytes ∷ []) (tables_accepted bytes accepted)))

  well_shaped : (k : ℕ) → k < phnum_of bytes → is_load bytes k ≡ true → is_misshapen (segment_of bytes k) ≡ false
  well_shaped k within load =
      second_false (is_load bytes k) (is_misshapen (segment_of bytes k)) (row_passes (bad_segment bytes) (segment_kind bytes ∷ segment_overlap bytes ∷ []) (segments_accepted bytes accepted) k within) load

  no_overlap : (k : ℕ) → k < phnum_of bytes → is_overlapping bytes k ≡ false
  no_overlap =
      row_passes (segment_overlap bytes) []
      (behind_row (segment_kind bytes) (segment_overlap bytes ∷ [])
      (behind_row (bad_segment bytes) (segment_kind bytes ∷ segment_overlap bytes ∷ []) (segments_accepted bytes accepted)))

  overlap_tests : (k : ℕ) → k < phnum_of bytes → is_load bytes k ≡ true → (meets_copy (segment_of bytes k) (segment_of bytes k) ≡ false) × (is_some (first_from (overlaps_at bytes k) 0 k) ≡ false)
  overlap_tests k within load =
      or_parts (meets_copy (segment_of bytes k) (segment_of bytes k)) (is_some (first_from (overlaps_at bytes k) 0 k))
      (second_false (is_load bytes k) (meets_copy (segment_of bytes k) (segment_of bytes k) || is_some (first_from (overlaps_at bytes k) 0 k)) (no_overlap k within) load)

  separate_earlier : (k earlier : ℕ) → k < phnum_of bytes → earlier < k → is_load bytes k ≡ true → is_load bytes earlier ≡ true → AreSeparate (segment_of bytes k) (segment_of bytes earlier)
  separate_earlier k earlier within below load other =
      separate_from (segment_of bytes k) (segment_of bytes earlier)
      (second_false (is_load bytes earlier) (overlaps (segment_of bytes k) (segment_of bytes earlier))
      (passes_from (overlaps_at bytes k) 0 k earlier (none_found (first_from (overlaps_at bytes k) 0 k) (overlap_tests k within load).1) (omega arith) (omega arith)) other)

  pub separate : (k other : ℕ) → k < phnum_of bytes → other < phnum_of bytes → (k ≡ other → ⊥) → is_load bytes k ≡ true → is_load bytes other ≡ true → AreSeparate (segment_of bytes k) (segment_of bytes other)
  separate k other within among apart load loads =
      ⊎_elim
      (λ (below : k < other). separate_back (segment_of bytes other) (segment_of bytes k) (separate_earlier other k among below loads load))
      (λ (above : other ≤ k). separate_earlier k other within (omega arith) load loads)
      (cases_lt k other)

  not_moved : (segment_of bytes (text_segment_of bytes)).load_address ≡ (segment_of bytes (text_segment_of bytes)).address
  not_moved =
      let rows = behind_row (text_split bytes) (text_moved bytes ∷ text_too_large bytes ∷ []) (behind_row (bad_text_section bytes) (text_split bytes ∷ text_moved bytes ∷ text_too_large bytes ∷ []) (behind_row (without_text bytes) (bad_text_section bytes ∷ text_split bytes ∷ text_moved bytes ∷ text_too_large bytes ∷ []) (text_accepted bytes accepted))) in
      let same = row_passes (text_moved bytes) (text_too_large bytes ∷ []) rows 0 (omega arith) in
      same_number (segment_of bytes (text_segment_of bytes)).load_address (segment_of bytes (text_segment_of bytes)).address same
    where
      same_number : (a b : ℕ) → not (nat_eq a b) ≡ false → a ≡ b
      same_number a b e = grind (arith, nat_tests)

  pub has_text : HasText bytes (segment_of bytes (text_segment_of bytes))
  has_text = record { low = facts.inside.low; high = facts.inside.high; here = not_moved }

  -- the text lies in the memory of its segment
  text_within : IsWithin (text_of bytes).lo ((text_of bytes).hi - (text_of bytes).lo) (segment_of bytes (text_segment_of bytes)).address (segment_of bytes (text_segment_of bytes)).memsz
  text_within =
      let shaped = or_parts (nat_lt (segment_of bytes (text_segment_of bytes)).memsz (segment_of bytes (text_segment_of bytes)).filesz || nat_lt (2 ^ 32) ((segment_of bytes (text_segment_of bytes)).address + (segment_of bytes (text_segment_of bytes)).memsz)) (nat_lt (2 ^ 32) ((segment_of bytes (text_segment_of bytes)).load_address + (segment_of bytes (text_segment_of bytes)).filesz)) (well_shaped (text_segment_of bytes) facts.within facts.load) in
      let sizes = or_parts (nat_lt (segment_of bytes (text_segment_of bytes)).memsz (segment_of bytes (text_segment_of bytes)).filesz) (nat_lt (2 ^ 32) ((segment_of bytes (text_segment_of bytes)).address + (segment_of bytes (text_segment_of bytes)).memsz)) shaped.0 in
      let stored = ltb-false (segment_of bytes (text_segment_of bytes)).memsz (segment_of bytes (text_segment_of bytes)).filesz sizes.0 in
      record { low = λ some. facts.inside.low; high = λ some. omega (arith, facts.inside.high, facts.inside.some, stored) }

  pub is_aside : (k : ℕ) → k < phnum_of bytes → (k ≡ text_segment_of bytes → ⊥) → is_load bytes k ≡ true → 0 < (segment_of bytes k).memsz → IsAside bytes (segment_of bytes k)
  is_aside k within apart load some =
      let s = segment_of bytes k in
      let t = segment_of bytes (text_segment_of bytes) in
      let both = separate k (text_segment_of bytes) within facts.within apart load facts.load in
      let own : IsWithin s.address s.memsz s.address s.memsz = record { low = λ more. omega arith; high = λ more. omega arith } in
      let copy : IsWithin s.load_address (copy_size s) s.load_address (copy_size s) = record { low = λ more. omega arith; high = λ more. omega arith } in
      let memory = apart_within s.address s.memsz s.address s.memsz (text_of bytes).lo ((text_of bytes).hi - (text_of bytes).lo) t.address t.memsz both.memory own text_within in
      record {
        memory =
            ⊎_elim
            (λ (before : s.address + s.memsz ≤ (text_of bytes).lo). inl before)
            (λ (behind : (text_of bytes).lo + ((text_of bytes).hi - (text_of bytes).lo) ≤ s.address). inr (omega arith))
            (one_behind s.address s.memsz (text_of bytes).lo ((text_of bytes).hi - (text_of bytes).lo) memory some (omega (arith, facts.inside.some)));
        copy = apart_within s.load_address (copy_size s) s.load_address (copy_size s) (text_of bytes).lo ((text_of bytes).hi - (text_of bytes).lo) t.address t.memsz (apart_back t.address t.memsz s.load_address (copy_size s) both.second) copy text_within;
      }

  pub sound_at : (k : ℕ) → k < phnum_of bytes → is_load bytes k ≡ true → 0 < (segment_of bytes k).memsz → IsSound bytes (segment_of bytes k)
  sound_at k within load some =
      let shaped = or_parts (nat_lt (segment_of bytes k).memsz (segment_of bytes k).filesz || nat_lt (2 ^ 32) ((segment_of bytes k).address + (segment_of bytes k).memsz)) (nat_lt (2 ^ 32) ((segment_of bytes k).load_address + (segment_of bytes k).filesz)) (well_shaped k within load) in
      let sizes = or_parts (nat_lt (segment_of bytes k).memsz (segment_of bytes k).filesz) (nat_lt (2 ^ 32) ((segment_of bytes k).address + (segment_of bytes k).memsz)) shaped.0 in
      record {
        some = some;
        fits = ltb-false (2 ^ 32) ((segment_of bytes k).address + (segment_of bytes k).memsz) sizes.1;
        stored = ltb-false (segment_of bytes k).memsz (segment_of bytes k).filesz sizes.0;
        loads = ltb-false (2 ^ 32) ((segment_of bytes k).load_address + (segment_of bytes k).filesz) shaped.1;
        whole = all_stored bytes (segment_of bytes k) (second_false (is_load bytes k) (leaves bytes (segment_of bytes k).offset (segment_of bytes k).filesz) (inside_file k within) load);
        alone = (overlap_tests k within load).0;
        text =
            ⊎_elim
            (λ (same : k ≡ text_segment_of bytes). inl (subst (λ j. HasText bytes (segment_of bytes j)) (sym same) has_text))
            (λ (apart : k ≡ text_segment_of bytes → ⊥). inr (is_aside k within apart load some))
            (cases_eq k (text_segment_of bytes));
      }

  -- in the order of the program headers

  memory_tests : (k : ℕ) → has_memory bytes k ≡ true → (is_load bytes k ≡ true) × (0 < (segment_of bytes k).memsz)
  memory_tests k e =
      let both = and_parts (is_load bytes k) (nat_lt 0 (segment_of bytes k).memsz) e in
      (both.0, ltb-true 0 (segment_of bytes k).memsz both.1)

  all_sound : (n : ℕ) → n ≤ phnum_of bytes → AllByRecursion (IsSound bytes) (segments_before bytes n)
  unfolding segments_before
  all_sound zero within = tt
  all_sound (suc n) within = by_test (all_sound n (omega arith)) (cases_Bool (has_memory bytes n))
    where
      by_test : AllByRecursion (IsSound bytes) (segments_before bytes n) → (has_memory bytes n ≡ true) ⊎ (has_memory bytes n ≡ false) → AllByRecursion (IsSound bytes) (segments_before bytes (suc n))
      by_test more (inr e) = rw e more
      by_test more (inl e) =
          let tests = memory_tests n e in
          rw e (all_append (IsSound bytes) (segments_before bytes n) (segment_of bytes n ∷ []) more (sound_at n (omega arith) tests.0 tests.1, tt))

  all_separate_from : (n k : ℕ) → n ≤ k → k < phnum_of bytes → is_load bytes k ≡ true → AllByRecursion (λ s. AllByRecursion (AreSeparate s) (segment_of bytes k ∷ [])) (segments_before bytes n)
  unfolding segments_before
  all_separate_from zero k below within load = tt
  all_separate_from (suc n) k below within load = by_test (all_separate_from n k (omega arith) within load) (cases_Bool (has_memory bytes n))
    where
      by_test : AllByRecursion (λ s. AllByRecursion (AreSeparate s) (segment_of bytes k ∷ [])) (segments_before bytes n) → (has_memory bytes n ≡ true) ⊎ (has_memory bytes n ≡ false) → AllByRecursion (λ s. AllByRecursion (AreSeparate s) (segment_of bytes k ∷ [])) (segments_before bytes (suc n))
      by_test more (inr e) = rw e more
      by_test more (inl e) =
          let apart : n ≡ k → ⊥ = λ same. omega arith in
          let here = separate n k (omega arith) within apart (memory_tests n e).0 load in
          rw e (all_append (λ s. AllByRecursion (AreSeparate s) (segment_of bytes k ∷ [])) (segments_before bytes n) (segment_of bytes n ∷ []) more ((here, tt), tt))

  all_separate : (n : ℕ) → n ≤ phnum_of bytes → Pairwise AreSeparate (segments_before bytes n)
  unfolding segments_before
  all_separate zero within = tt
  all_separate (suc n) within = by_test (all_separate n (omega arith)) (cases_Bool (has_memory bytes n))
    where
      by_test : Pairwise AreSeparate (segments_before bytes n) → (has_memory bytes n ≡ true) ⊎ (has_memory bytes n ≡ false) → Pairwise AreSeparate (segments_before bytes (suc n))
      by_test more (inr e) = rw e more
      by_test more (inl e) =
          rw e (pairs_append AreSeparate (segments_before bytes n) (segment_of bytes n ∷ []) more (tt, tt) (all_separate_from n n (omega arith) (omega arith) (memory_tests n e).0))

  pub segments_sound : AllByRecursion (IsSound bytes) (segments_of bytes)
  segments_sound = all_sound (phnum_of bytes) (omega arith)

  pub segments_separate : Pairwise AreSeparate (segments_of bytes)
  segments_separate = all_separate (phnum_of bytes) (omega arith)

  -- a sum over the segments, as one over the program headers
  module _ (size : Segment → ℕ) (number : ℕ → ℕ) (same : (k : ℕ) → k < phnum_of bytes → is_load bytes k ≡ true → 0 < (segment_of bytes k).memsz → size (segment_of bytes k) ≡ number k) (none : (k : ℕ) → k < phnum_of bytes → has_memory bytes k ≡ false → number k ≡ 0) where
    sum_before : (n : ℕ) → n ≤ phnum_of bytes → sum_by size (segments_before bytes n) ≡ total number n
    unfolding segments_before total
    sum_before zero within = refl
    sum_before (suc n) within = by_test (sum_before n (omega arith)) (cases_Bool (has_memory bytes n))
      where
        by_test : sum_by size (segments_before bytes n) ≡ total number n → (has_memory bytes n ≡ true) ⊎ (has_memory bytes n ≡ false) → sum_by size (segments_before bytes (suc n)) ≡ total number (suc n)
        by_test more (inr e) = rw e (omega (arith, more, none n (omega arith) e))
        by_test more (inl e) =
            let tests = memory_tests n e in
            rw e (omega (arith, more, same n (omega arith) tests.0 tests.1, sum_by_push size (segments_before bytes n) (segment_of bytes n)))

    pub sum_of_segments : sum_by size (segments_of bytes) ≡ total number (phnum_of bytes)
    sum_of_segments = sum_before (phnum_of bytes) (omega arith)
