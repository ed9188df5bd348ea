-- Sizes of an accepted file's segments.
use Rattle.std.proofs.Common.{◌≡◌, ℕ, zero, suc, ◌+◌, ◌<◌, ◌≤◌, ◌^◌, true, false, nat_lt, ◌||◌, ◌⊎◌, inl, inr, List, [], ◌∷◌, length, sum_by, None, refl, arith, length-append}
use Rattle.std.specs.List.{All}
use Rattle.std.proofs.lemmas.Bool.{cases_Bool, ltb-false, and_parts, or_parts}
use Rattle.std.proofs.lemmas.List.Elements.{All-nil, All-push}
use Rattle.std.proofs.lemmas.List.Sorted.{All-permutation, sum_by-IsPermutation, length_permutation}
use Rattle.std.proofs.lemmas.List.Sums.{sum_by_push}
use Rattle.sq_elf.specs.declared.segment.Segment.{Segment}
use Rattle.sq_elf.specs.Fields.{u16_field}
use Rattle.sq_elf.specs.Headers.{phnum_of, is_load, segment_of}
use Rattle.sq_elf.specs.Segments.{is_misshapen}
use Rattle.sq_elf.specs.Text.{text_of}
use Rattle.sq_elf.specs.Sizes.{total, loaded_at}
use Rattle.sq_elf.specs.Memory.{has_memory, segments_before, segments_of, AreSegments}
use Rattle.sq_elf.specs.Refusing.{file_too_long, not_elf, short_header, header_field, flags, is_refused_field, bad_segment, segment_kind, segment_overlap, without_text, bad_text_section, text_split, text_moved, text_too_large, text_size, file_refusal_of, largest_text}
use Rattle.sq_elf.proofs.Accepted.{header_accepted, segments_accepted, text_accepted, few_loaded}
use Rattle.sq_elf.proofs.Passing.{row_passes, behind_row}
use Rattle.sq_elf.proofs.TextFacts.{second_false}
use Rattle.sq_write.specs.Pieces.{by_address}
use Rattle.sq_write.proofs.Segments.{by_address_moves}

-- a segment ends within 32 bits, and has no more bytes in the file than in memory
pub record IsShaped (s : Segment) : Type 0 where
  pub fits : s.address + s.memsz ≤ 2 ^ 32
  pub stored : s.filesz ≤ s.memsz

module _ (bytes : List ℕ) (accepted : file_refusal_of bytes ≡ None) where
  pub shaped_at : (k : ℕ) → k < phnum_of bytes → is_load bytes k ≡ true → IsShaped (segment_of bytes k)
  shaped_at k within load =
      let s = segment_of bytes k in
      let good = second_false (is_load bytes k) (is_misshapen (segment_of bytes k)) (row_passes (bad_segment bytes) (segment_kind bytes ∷ segment_overlap bytes ∷ []) (segments_accepted bytes accepted) k within) load in
      let front = or_parts (nat_lt (segment_of bytes k).memsz (segment_of bytes k).filesz || nat_lt (2 ^ 32) ((segment_of bytes k).address + (segment_of bytes k).memsz)) (nat_lt (2 ^ 32) ((segment_of bytes k).load_address + (segment_of bytes k).filesz)) good in
      let both = or_parts (nat_lt (segment_of bytes k).memsz (segment_of bytes k).filesz) (nat_lt (2 ^ 32) ((segment_of bytes k).address + (segment_of bytes k).memsz)) front.0 in
      record {
        fits = ltb-false (2 ^ 32) ((segment_of bytes k).address + (segment_of bytes k).memsz) both.1;
        stored = ltb-false (segment_of bytes k).memsz (segment_of bytes k).filesz both.0;
      }

  shaped_before : (n : ℕ) → n ≤ phnum_of bytes → All IsShaped (segments_before bytes n)
  unfolding segments_before
  shaped_before zero within = All-nil IsShaped
  shaped_before (suc n) within = by_test (shaped_before n (omega arith)) (cases_Bool (has_memory bytes n))
    where
      by_test : All IsShaped (segments_before bytes n) → (has_memory bytes n ≡ true) ⊎ (has_memory bytes n ≡ false) → All IsShaped (segments_before bytes (suc n))
      by_test more (inr e) = rw e more
      by_test more (inl e) =
          rw e
          (All-push IsShaped (segments_before bytes n) (segment_of bytes n) more
          (shaped_at n (omega arith) (and_parts (is_load bytes n) (nat_lt 0 (segment_of bytes n).memsz) e).0))

  pub segments_are_shaped : (xs : List Segment) → AreSegments bytes xs → All IsShaped xs
  segments_are_shaped xs are = All-permutation IsShaped (segments_of bytes) xs are.all (shaped_before (phnum_of bytes) (omega arith))

  few_headers : phnum_of bytes ≤ 128
  unfolding is_refused_field
  few_headers =
      let rows = behind_row (short_header bytes) (header_field bytes ∷ flags bytes ∷ []) (behind_row (not_elf bytes) (short_header bytes ∷ header_field bytes ∷ flags bytes ∷ []) (behind_row (file_too_long bytes) (not_elf bytes ∷ short_header bytes ∷ header_field bytes ∷ flags bytes ∷ []) (header_accepted bytes accepted))) in
      let field = row_passes (header_field bytes) (flags bytes ∷ []) rows 44 (omega arith) in
      ltb-false 128 (u16_field bytes 44) (or_parts (nat_lt (u16_field bytes 44) 1) (nat_lt 128 (u16_field bytes 44)) field).1

  count_before : (n : ℕ) → length (segments_before bytes n) ≤ n
  unfolding segments_before
  count_before zero = omega arith
  count_before (suc n) = by_test (count_before n) (cases_Bool (has_memory bytes n))
    where
      by_test : length (segments_before bytes n) ≤ n → (has_memory bytes n ≡ true) ⊎ (has_memory bytes n ≡ false) → length (segments_before bytes (suc n)) ≤ suc n
      by_test more (inr e) = rw e (omega arith)
      by_test more (inl e) = rw e (omega (arith, more, length-append (segments_before bytes n) (segment_of bytes n ∷ [])))

  loaded_before : (n : ℕ) → sum_by (λ s. s.filesz) (segments_before bytes n) ≤ total (loaded_at bytes) n
  unfolding segments_before total
  loaded_before zero = omega arith
  loaded_before (suc n) = by_test (loaded_before n) (cases_Bool (has_memory bytes n))
    where
      by_test : sum_by (λ s. s.filesz) (segments_before bytes n) ≤ total (loaded_at bytes) n → (has_memory bytes n ≡ true) ⊎ (has_memory bytes n ≡ false) → sum_by (λ s. s.filesz) (segments_before bytes (suc n)) ≤ total (loaded_at bytes) (suc n)
      by_test more (inr e) = rw e (omega arith)
      by_test more (inl e) =
          let load = (and_parts (is_load bytes n) (nat_lt 0 (segment_of bytes n).memsz) e).0 in
          let here : loaded_at bytes n ≡ (segment_of bytes n).filesz = rw load refl in
          rw e (omega (arith, more, here, sum_by_push (λ (s : Segment). s.filesz) (segments_before bytes n) (segment_of bytes n)))

  pub few_file_bytes : sum_by (λ s. s.filesz) (segments_of bytes) ≤ 16777216
  few_file_bytes = omega (arith, loaded_before (phnum_of bytes), few_loaded bytes accepted)

  -- few segments, and few bytes of them in the file
  pub few_segments : (xs : List Segment) → AreSegments bytes xs → length xs ≤ 128
  few_segments xs are = omega (arith, length_permutation (segments_of bytes) xs are.all, count_before (phnum_of bytes), few_headers)

  pub few_bytes : (xs : List Segment) → AreSegments bytes xs → sum_by (λ s. s.filesz) xs ≤ 16777216
  few_bytes xs are = omega (arith, sum_by-IsPermutation (λ (s : Segment). s.filesz) (segments_of bytes) xs are.all, loaded_before (phnum_of bytes), few_loaded bytes accepted)

-- the same of the list by address
pub few_ordered : (bytes : List ℕ) → file_refusal_of bytes ≡ None → length (by_address (segments_of bytes)) ≤ 128
few_ordered bytes accepted =
    omega (arith, length_permutation (segments_of bytes) (by_address (segments_of bytes)) (by_address_moves (segments_of bytes)), count_before bytes accepted (phnum_of bytes), few_headers bytes accepted)

pub few_ordered_bytes : (bytes : List ℕ) → file_refusal_of bytes ≡ None → sum_by (λ s. s.filesz) (by_address (segments_of bytes)) ≤ 16777216
few_ordered_bytes bytes accepted =
    omega (arith, sum_by-IsPermutation (λ (s : Segment). s.filesz) (segments_of bytes) (by_address (segments_of bytes)) (by_address_moves (segments_of bytes)), few_file_bytes bytes accepted)

pub few_text : (bytes : List ℕ) → file_refusal_of bytes ≡ None → (text_of bytes).hi ≤ (text_of bytes).lo + largest_text
few_text bytes accepted =
    let rows = behind_row (text_moved bytes) (text_too_large bytes ∷ []) (behind_row (text_split bytes) (text_moved bytes ∷ text_too_large bytes ∷ []) (behind_row (bad_text_section bytes) (text_split bytes ∷ text_moved bytes ∷ text_too_large bytes ∷ []) (behind_row (without_text bytes) (bad_text_section bytes ∷ text_split bytes ∷ text_moved bytes ∷ text_too_large bytes ∷ []) (text_accepted bytes accepted)))) in
    let small = row_passes (text_too_large bytes) [] rows 0 (omega arith) in
    let size = ltb-false largest_text (text_size bytes) small in
    omega (arith, size)
