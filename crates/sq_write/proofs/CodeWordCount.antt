-- Code words stand in the file bytes of segments, each in four bytes of its own, so they are few.
use Rattle.std.proofs.Common.{◌≡◌, ℕ, zero, suc, ◌+◌, ◌*◌, ◌%◌, ◌<◌, ◌≤◌, Bool, true, false, not, ◌⊎◌, inl, inr, ⊎_elim, nat_le, nat_lt, List, [], ◌∷◌, ◌++◌, map, filter, length, sum_by, get_or, Option, Some, None, IsSome, refl, subst, arith}
use Rattle.std.specs.List.{All, AllByRecursion}
use Rattle.std.specs.List.Sorted.{IsStrictlyIncreasing}
use Rattle.std.specs.Option.{option_map}
use Rattle.std.proofs.lemmas.Bool.{cases_Bool, cases_lt, leb-true, lt-ltb, and_parts}
use Rattle.std.proofs.lemmas.List.{length-map}
use Rattle.std.proofs.lemmas.List.Elements.{All-head, All-tail}
use Rattle.std.proofs.lemmas.List.Filters.{length-filter_both}
use Rattle.std.proofs.lemmas.List.Sums.{sum_by-cons}
use Rattle.sq_num.specs.Refusals.{first_from}
use Rattle.sq_elf.specs.declared.segment.Segment.{Segment}
use Rattle.sq_elf.specs.Headers.{phnum_of, is_load, segment_of}
use Rattle.sq_elf.specs.Ranges.{lies_in}
use Rattle.sq_elf.specs.Reading.{has_word, word_in, word_of}
use Rattle.sq_elf.specs.Memory.{has_memory, segments_before, segments_of}
use Rattle.sq_elf.specs.Refusing.{file_refusal_of}
use Rattle.sq_elf.proofs.Passing.{found_from}
use Rattle.sq_reloc.specs.Outside.{code_word_at}
use Rattle.sq_reloc.specs.CodeWords.{IsCodeWord}
use Rattle.sq_graph.specs.declared.parts.CodeRef.{CodeRef}
use Rattle.sq_write.proofs.SegmentFacts.{shaped_at, few_file_bytes}

-- words of four bytes, the first at `low` or above, each behind the one before
abbrev RiseFrom : ℕ → List ℕ → Type 0
RiseFrom low [] = Unit {0}
RiseFrom low (w ∷ ws) = (low ≤ w) × RiseFrom (w + 4) ws

rise_lower : (low high : ℕ) (ws : List ℕ) → low ≤ high → RiseFrom high ws → RiseFrom low ws
rise_lower low high [] le up = tt
rise_lower low high (w ∷ ws) le up = (omega (arith, up.0), up.1)

rise_kept : (p : ℕ → Bool) (low : ℕ) (ws : List ℕ) → RiseFrom low ws → RiseFrom low (filter p ws)
rise_kept p low [] up = tt
rise_kept p low (w ∷ ws) up = by_test (cases_Bool (p w)) (rise_kept p (w + 4) ws up.1)
  where
    by_test : (p w ≡ true) ⊎ (p w ≡ false) → RiseFrom (w + 4) (filter p ws) → RiseFrom low (filter p (w ∷ ws))
    by_test (inl e) more = rw e (up.0, more)
    by_test (inr e) more = rw e (rise_lower low (w + 4) (filter p ws) (omega (arith, up.0)) more)

-- in a range there are no more than have room
few_within : (low high : ℕ) (ws : List ℕ) → low ≤ high → RiseFrom low ws → AllByRecursion (λ w. w + 4 ≤ high) ws → low + 4 * length ws ≤ high
few_within low high [] le up all = omega arith
few_within low high (w ∷ ws) le up all = omega (arith, few_within (w + 4) high ws all.0 up.1 all.1, up.0)

-- the word stands in the file bytes of the segment
abbrev stands_in : Segment → ℕ → Bool
stands_in s w = lies_in w 4 s.address s.filesz

abbrev outside : Segment → ℕ → Bool
outside s w = not (stands_in s w)

begins : (s : Segment) (w : ℕ) → stands_in s w ≡ true → s.address ≤ w
begins s w e = leb-true s.address w (and_parts (nat_le s.address w) (nat_le (w + 4) (s.address + s.filesz)) e).0

ends : (s : Segment) (w : ℕ) → stands_in s w ≡ true → w + 4 ≤ s.address + s.filesz
ends s w e = leb-true (w + 4) (s.address + s.filesz) (and_parts (nat_le s.address w) (nat_le (w + 4) (s.address + s.filesz)) e).1

in_range : (s : Segment) (ws : List ℕ) → AllByRecursion (λ w. w + 4 ≤ s.address + s.filesz) (filter (stands_in s) ws)
in_range s [] = tt
in_range s (w ∷ ws) = by_test (cases_Bool (stands_in s w)) (in_range s ws)
  where
    by_test : (stands_in s w ≡ true) ⊎ (stands_in s w ≡ false) → AllByRecursion (λ v. v + 4 ≤ s.address + s.filesz) (filter (stands_in s) ws) → AllByRecursion (λ v. v + 4 ≤ s.address + s.filesz) (filter (stands_in s) (w ∷ ws))
    by_test (inl e) more = rw e (ends s w e, more)
    by_test (inr e) more = rw e more

rise_in_range : (s : Segment) (low : ℕ) (ws : List ℕ) → RiseFrom low ws → RiseFrom s.address (filter (stands_in s) ws)
rise_in_range s low [] up = tt
rise_in_range s low (w ∷ ws) up = by_test (cases_Bool (stands_in s w)) (rise_in_range s (w + 4) ws up.1)
  where
    by_test : (stands_in s w ≡ true) ⊎ (stands_in s w ≡ false) → RiseFrom s.address (filter (stands_in s) ws) → RiseFrom s.address (filter (stands_in s) (w ∷ ws))
    by_test (inl e) more = rw e (begins s w e, rise_kept (stands_in s) (w + 4) ws up.1)
    by_test (inr e) more = rw e more

-- each word stands in one of the segments
abbrev InOne : List Segment → ℕ → Type 0
InOne [] w = ⊥
InOne (s ∷ ss) w = (stands_in s w ≡ true) ⊎ InOne ss w

in_others : (s : Segment) (ss : List Segment) (ws : List ℕ) → AllByRecursion (InOne (s ∷ ss)) ws → AllByRecursion (InOne ss) (filter (outside s) ws)
in_others s ss [] all = tt
in_others s ss (w ∷ ws) all = by_test (cases_Bool (stands_in s w)) all.0 (in_others s ss ws all.1)
  where
    by_test : (stands_in s w ≡ true) ⊎ (stands_in s w ≡ false) → (stands_in s w ≡ true) ⊎ InOne ss w → AllByRecursion (InOne ss) (filter (outside s) ws) → AllByRecursion (InOne ss) (filter (outside s) (w ∷ ws))
    by_test (inl e) one more = rw e more
    by_test (inr e) (inl f) more = absurd (cc)
    by_test (inr e) (inr later) more = rw e (later, more)

few_in_all : (ss : List Segment) (low : ℕ) (ws : List ℕ) → RiseFrom low ws → AllByRecursion (InOne ss) ws → 4 * length ws ≤ sum_by (λ s. s.filesz) ss
few_in_all [] low [] up all = omega arith
few_in_all [] low (w ∷ ws) up all = absurd all.0
few_in_all (s ∷ ss) low ws up all =
    let here = few_within s.address (s.address + s.filesz) (filter (stands_in s) ws) (omega arith) (rise_in_range s low ws up) (in_range s ws) in
    let others = few_in_all ss low (filter (outside s) ws) (rise_kept (outside s) low ws up) (in_others s ss ws all) in
    omega (arith, here, others, length-filter_both (stands_in s) (outside s) (λ w. refl) ws, sum_by-cons (λ (t : Segment). t.filesz) s ss)

-- A code word stands in the file bytes of a segment

in_front : (ss ts : List Segment) (w : ℕ) → InOne ss w → InOne (ss ++ ts) w
in_front [] ts w one = absurd one
in_front (s ∷ ss) ts w (inl e) = inl e
in_front (s ∷ ss) ts w (inr one) = inr (in_front ss ts w one)

in_last : (ss : List Segment) (s : Segment) (w : ℕ) → stands_in s w ≡ true → InOne (ss ++ s ∷ []) w
in_last [] s w e = inl e
in_last (t ∷ ss) s w e = inr (in_last ss s w e)

increasing_tail : (x : ℕ) (xs : List ℕ) → IsStrictlyIncreasing (x ∷ xs) → IsStrictlyIncreasing xs
increasing_tail x xs up = λ k within.
    let e : suc k + 1 ≡ suc (k + 1) = omega arith in
    subst (λ n. get_or xs k 0 < get_or (x ∷ xs) n 0) e (up (suc k) (omega arith))

module _ (bytes : List ℕ) (accepted : file_refusal_of bytes ≡ None) where
  in_before : (n k w : ℕ) → n ≤ phnum_of bytes → k < n → has_word bytes w k ≡ true → InOne (segments_before bytes n) w
  unfolding segments_before
  in_before zero k w within below has = absurd (omega arith)
  in_before (suc n) k w within below has =
      by_test (cases_Bool (has_memory bytes n)) (λ less. in_before n k w (omega arith) less has) (last_or_before k n below)
    where
      last_or_before : (k n : ℕ) → k < suc n → (k < n) ⊎ (k ≡ n)
      last_or_before k n h = ⊎_elim (λ (a : k < n). inl a) (λ (b : n ≤ k). inr (omega arith)) (cases_lt k n)

      memory : k ≡ n → has_memory bytes n ≡ true
      memory same =
          let here : has_word bytes w n ≡ true = subst (λ i. has_word bytes w i ≡ true) same has in
          let both = and_parts (is_load bytes n) (stands_in (segment_of bytes n) w) here in
          let shaped = shaped_at bytes accepted n (omega arith) both.0 in
          let size : nat_lt 0 (segment_of bytes n).memsz ≡ true = lt-ltb 0 (segment_of bytes n).memsz (omega (arith, shaped.stored, ends (segment_of bytes n) w both.1, begins (segment_of bytes n) w both.1)) in
          rw (both.0, size) refl

      by_test : (has_memory bytes n ≡ true) ⊎ (has_memory bytes n ≡ false) → (k < n → InOne (segments_before bytes n) w) → (k < n) ⊎ (k ≡ n) → InOne (segments_before bytes (suc n)) w
      by_test (inl e) more (inl less) = rw e (in_front (segments_before bytes n) (segment_of bytes n ∷ []) w (more less))
      by_test (inl e) more (inr same) =
          let here : has_word bytes w n ≡ true = subst (λ i. has_word bytes w i ≡ true) same has in
          rw e (in_last (segments_before bytes n) (segment_of bytes n) w (and_parts (is_load bytes n) (stands_in (segment_of bytes n) w) here).1)
      by_test (inr e) more (inl less) = rw e (more less)
      by_test (inr e) more (inr same) = let some = memory same in absurd (cc)

  word_stands : (w word : ℕ) → word_of bytes w ≡ Some word → InOne (segments_of bytes) w
  unfolding word_of
  word_stands w word is = by_place (first_from (has_word bytes w) 0 (phnum_of bytes)) refl is
    where
      by_place : (o : Option ℕ) → first_from (has_word bytes w) 0 (phnum_of bytes) ≡ o → option_map (λ index. word_in bytes (segment_of bytes index) w) o ≡ Some word → InOne (segments_of bytes) w
      by_place None e f = absurd (cc)
      by_place (Some k) e f =
          let first = found_from (has_word bytes w) 0 (phnum_of bytes) k e in
          in_before (phnum_of bytes) k w (omega arith) (omega (arith, first.high)) first.here

  module _ (each : (address target : ℕ) → code_word_at bytes address ≡ Some target → IsCodeWord bytes address target) where
    word_is : (w : ℕ) → IsSome (code_word_at bytes w) → (w % 4 ≡ 0) × InOne (segments_of bytes) w
    word_is w some = by_word (code_word_at bytes w) refl some
      where
        by_word : (o : Option ℕ) → code_word_at bytes w ≡ o → IsSome o → (w % 4 ≡ 0) × InOne (segments_of bytes) w
        by_word None e there = absurd (cc)
        by_word (Some t) e there = let word = each w t e in (word.aligned, word_stands w t word.in_file)

    all_in : (ws : List CodeRef) → All (λ word. IsSome (code_word_at bytes word.at)) ws → AllByRecursion (InOne (segments_of bytes)) (map (λ w. w.at) ws)
    all_in [] all = tt
    all_in (w ∷ ws) all = (
      (word_is w.at (All-head {X = CodeRef} (λ word. IsSome (code_word_at bytes word.at)) w ws all)).1,
      all_in ws (All-tail {X = CodeRef} (λ word. IsSome (code_word_at bytes word.at)) w ws all),
    )

    -- multiples of 4 that ascend are four bytes apart
    rise : (low : ℕ) (ws : List CodeRef) → All (λ word. IsSome (code_word_at bytes word.at)) ws → IsStrictlyIncreasing (map (λ w. w.at) ws) → (0 < length ws → low ≤ get_or (map (λ w. w.at) ws) 0 0) → RiseFrom low (map (λ w. w.at) ws)
    rise low [] all up first = tt
    rise low (w ∷ ws) all up first = (
      first (omega arith),
      rise (w.at + 4) ws (All-tail {X = CodeRef} (λ word. IsSome (code_word_at bytes word.at)) w ws all) (increasing_tail w.at (map (λ w. w.at) ws) up) (apart ws (All-tail {X = CodeRef} (λ word. IsSome (code_word_at bytes word.at)) w ws all) up),
    )
      where
        here : w.at % 4 ≡ 0
        here = (word_is w.at (All-head {X = CodeRef} (λ word. IsSome (code_word_at bytes word.at)) w ws all)).0

        apart : (vs : List CodeRef) → All (λ word. IsSome (code_word_at bytes word.at)) vs → IsStrictlyIncreasing (w.at ∷ map (λ w. w.at) vs) → 0 < length vs → w.at + 4 ≤ get_or (map (λ w. w.at) vs) 0 0
        apart [] some increasing h = absurd (omega arith)
        apart (v ∷ vs) some increasing h =
            let next = increasing 0 (omega arith) in
            let even = (word_is v.at (All-head {X = CodeRef} (λ word. IsSome (code_word_at bytes word.at)) v vs some)).0 in
            omega (arith, next, here, even)

    pub few_code_words : (ws : List CodeRef) → All (λ word. IsSome (code_word_at bytes word.at)) ws → IsStrictlyIncreasing (map (λ w. w.at) ws) → length ws ≤ 4194304
    few_code_words ws all up =
        let few = few_in_all (segments_of bytes) 0 (map (λ w. w.at) ws) (rise 0 ws all up (λ h. omega arith)) (all_in ws all) in
        omega (arith, few, length-map ws (λ (w : CodeRef). w.at), few_file_bytes bytes accepted)
