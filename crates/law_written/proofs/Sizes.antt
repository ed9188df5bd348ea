-- How many pieces stand around text, and how many bytes of them in the file.
use Rattle.std.proofs.Common.{◌≡◌, ℕ, zero, suc, ◌+◌, ◌-◌, ◌<◌, ◌≤◌, Bool, true, false, ◌&&◌, ◌⊎◌, inl, inr, ⊎_elim, nat_eq, nat_lt, nat_le, min, List, [], ◌∷◌, map, filter, length, sum_by, Option, None, if◌then◌else◌, refl, sym, subst, ◌∙◌, arith, length-append}
use Rattle.std.specs.List.{AllByRecursion}
use Rattle.std.proofs.lemmas.Bool.{cases_Bool, cases_eq, cases_lt, ltb-true, ltb-false, lt-ltb, le-leb, eq-eqb}
use Rattle.std.proofs.lemmas.Bool.Decides.{nat_tests}
use Rattle.std.proofs.lemmas.List.Sorted.{sum_by-IsPermutation}
use Rattle.std.proofs.lemmas.List.Sums.{sum_by-cons}
use Rattle.sq_elf.specs.declared.segment.Segment.{Segment}
use Rattle.sq_elf.specs.Headers.{phnum_of, is_load, segment_of}
use Rattle.sq_elf.specs.Memory.{has_memory, segments_of}
use Rattle.sq_elf.specs.Refusing.{too_many_pieces, too_many_bytes, bad_entry, file_refusal_of}
use Rattle.sq_elf.specs.Sizes.{total, loaded_at, loaded_of, parts_of, pieces_at, piece_count_of}
use Rattle.sq_elf.specs.Text.{text_of, text_segment_of}
use Rattle.sq_elf.proofs.Accepted.{sizes_accepted}
use Rattle.sq_elf.proofs.Passing.{row_passes}
use Rattle.sq_write.specs.Output.{Piece, piece_bytes}
use Rattle.sq_write.specs.Pieces.{by_address, part_before, part_behind, is_some_piece, pieces_before, pieces_behind}
use Rattle.sq_write.proofs.SegmentFacts.{IsShaped, shaped_at}
use Rattle.sq_write.proofs.Segments.{by_address_moves}
use Rattle.law_written.proofs.Sound.{HasText, IsAside, IsSound, facts, has_text, is_aside, sound_at, sum_of_segments}
use Rattle.law_written.proofs.Cut.{part_length}
use Rattle.law_written.proofs.Ordered.{ordered_sound}

-- Sums

sum_of_three : (f g h : Segment → ℕ) (ss : List Segment) → sum_by (λ s. f s + g s + h s) ss ≡ sum_by f ss + sum_by g ss + sum_by h ss
sum_of_three f g h [] = refl
sum_of_three f g h (s ∷ ss) =
    omega (arith, sum_of_three f g h ss, sum_by-cons (λ t. f t + g t + h t) s ss, sum_by-cons f s ss, sum_by-cons g s ss, sum_by-cons h s ss)

-- a value at one place alone
only_at : ℕ → ℕ → ℕ → ℕ
only_at place value k = if nat_eq k place then value else 0

only_here : (place value : ℕ) → only_at place value place ≡ value
unfolding only_at
only_here place value = let same : nat_eq place place ≡ true = eq-eqb place place refl in rw same refl

only_elsewhere : (place value k : ℕ) → (k ≡ place → ⊥) → only_at place value k ≡ 0
unfolding only_at
only_elsewhere place value k apart = let other : nat_eq k place ≡ false = not_equal k place apart in rw other refl
  where
    not_equal : (x y : ℕ) → (x ≡ y → ⊥) → nat_eq x y ≡ false
    not_equal x y apart = grind (arith, nat_tests)

none_before : (place value n : ℕ) → n ≤ place → total (only_at place value) n ≡ 0
unfolding total
none_before place value zero below = refl
none_before place value (suc n) below =
    omega (arith, none_before place value n (omega arith), only_elsewhere place value n (λ same. omega arith))

total_only : (place value n : ℕ) → place < n → total (only_at place value) n ≡ value
unfolding total
total_only place value zero within = absurd (omega arith)
total_only place value (suc n) within = by_case (λ less. total_only place value n less) (cases_eq n place)
  where
    by_case : (place < n → total (only_at place value) n ≡ value) → (n ≡ place) ⊎ (n ≡ place → ⊥) → total (only_at place value) n + only_at place value n ≡ value
    by_case more (inl same) =
        let here : only_at place value n ≡ value = subst (λ k. only_at place value k ≡ value) (sym same) (only_here place value) in
        omega (arith, none_before place value n (omega arith), here)
    by_case more (inr apart) = omega (arith, more (below n apart within), only_elsewhere place value n apart)
      where
        below : (n : ℕ) → (n ≡ place → ⊥) → place < suc n → place < n
        below n apart within = ⊎_elim (λ (less : place < n). less) (λ (above : n ≤ place). absurd (apart (omega arith))) (cases_lt place n)

-- Pieces that are kept

abbrev one_if : Bool → ℕ
one_if test = if test then 1 else 0

counted : Piece → ℕ
counted p = one_if (is_some_piece p)

counted_kept : (p : Piece) → is_some_piece p ≡ true → counted p ≡ 1
unfolding counted
counted_kept p e = rw e refl

counted_left : (p : Piece) → is_some_piece p ≡ false → counted p ≡ 0
unfolding counted
counted_left p e = rw e refl

kept_count : (f : Segment → Piece) (ss : List Segment) → length (filter is_some_piece (map f ss)) ≡ sum_by (λ s. counted (f s)) ss
kept_count f [] = refl
kept_count f (s ∷ ss) = by_test (cases_Bool (is_some_piece (f s))) (kept_count f ss)
  where
    by_test : (is_some_piece (f s) ≡ true) ⊎ (is_some_piece (f s) ≡ false) → length (filter is_some_piece (map f ss)) ≡ sum_by (λ t. counted (f t)) ss → length (filter is_some_piece (map f (s ∷ ss))) ≡ sum_by (λ t. counted (f t)) (s ∷ ss)
    by_test (inl e) more = rw e (omega (arith, more, counted_kept (f s) e, sum_by-cons (λ t. counted (f t)) s ss))
    by_test (inr e) more = rw e (omega (arith, more, counted_left (f s) e, sum_by-cons (λ t. counted (f t)) s ss))

kept_bytes : (f : Segment → Piece) (ss : List Segment) → AllByRecursion (λ s. length (f s).bytes ≤ (f s).size) ss → length (piece_bytes (filter is_some_piece (map f ss))) ≡ sum_by (λ s. length (f s).bytes) ss
kept_bytes f [] all = refl
kept_bytes f (s ∷ ss) all = by_test (cases_Bool (is_some_piece (f s))) (kept_bytes f ss all.1)
  where
    by_test : (is_some_piece (f s) ≡ true) ⊎ (is_some_piece (f s) ≡ false) → length (piece_bytes (filter is_some_piece (map f ss))) ≡ sum_by (λ t. length (f t).bytes) ss → length (piece_bytes (filter is_some_piece (map f (s ∷ ss)))) ≡ sum_by (λ t. length (f t).bytes) (s ∷ ss)
    by_test (inl e) more = rw e (omega (arith, more, sum_by-cons (λ t. length (f t).bytes) s ss, length-append (f s).bytes (piece_bytes (filter is_some_piece (map f ss)))))
    by_test (inr e) more = rw e (omega (arith, more, ltb-false 0 (f s).size e, all.0, sum_by-cons (λ t. length (f t).bytes) s ss))

module _ (bytes : List ℕ) (accepted : file_refusal_of bytes ≡ None) (set : ℕ → Option ℕ) where
  some_text : (text_of bytes).lo < (text_of bytes).hi
  some_text = (facts bytes accepted).inside.some

  -- the value at the segment where text stands
  marked : ℕ → Segment → ℕ
  marked value s = if nat_le s.address (text_of bytes).lo && nat_le (text_of bytes).hi (s.address + s.filesz) then value else 0

  marked_text : (value : ℕ) (s : Segment) → HasText bytes s → marked value s ≡ value
  unfolding marked
  marked_text value s text =
      let low : nat_le s.address (text_of bytes).lo ≡ true = le-leb s.address (text_of bytes).lo text.low in
      let high : nat_le (text_of bytes).hi (s.address + s.filesz) ≡ true = le-leb (text_of bytes).hi (s.address + s.filesz) text.high in
      rw (low, high) refl

  marked_aside : (value : ℕ) (s : Segment) → IsSound bytes s → IsAside bytes s → marked value s ≡ 0
  unfolding marked
  marked_aside value s sound aside =
      let none : (nat_le s.address (text_of bytes).lo && nat_le (text_of bytes).hi (s.address + s.filesz)) ≡ false =
      outside s.address (text_of bytes).lo (text_of bytes).hi (s.address + s.filesz)
      (λ low high.
      ⊎_elim (λ (before : s.address + s.memsz ≤ (text_of bytes).lo). omega (arith, before, high, sound.stored, some_text))
      (λ (behind : (text_of bytes).hi ≤ s.address). omega (arith, behind, low, some_text))
      aside.memory)
      in
      rw none refl
    where
      outside : (a l h e : ℕ) → (a ≤ l → h ≤ e → ⊥) → (nat_le a l && nat_le h e) ≡ false
      outside a l h e apart = grind (arith, nat_tests)

  -- the place of the segment of text among the program headers
  marked_at : (value k : ℕ) → k < phnum_of bytes → is_load bytes k ≡ true → 0 < (segment_of bytes k).memsz → marked value (segment_of bytes k) ≡ only_at (text_segment_of bytes) value k
  marked_at value k within load some =
      ⊎_elim
      (λ (same : k ≡ text_segment_of bytes).
      subst (λ j. marked value (segment_of bytes j) ≡ only_at (text_segment_of bytes) value j) (sym same)
      (marked_text value (segment_of bytes (text_segment_of bytes)) (has_text bytes accepted) ∙ sym (only_here (text_segment_of bytes) value)))
      (λ (apart : k ≡ text_segment_of bytes → ⊥).
      marked_aside value (segment_of bytes k) (sound_at bytes accepted k within load some) (is_aside bytes accepted k within apart load some)
      ∙ sym (only_elsewhere (text_segment_of bytes) value k apart))
      (cases_eq k (text_segment_of bytes))

  -- the segment of text has memory
  text_has_memory : has_memory bytes (text_segment_of bytes) ≡ true
  text_has_memory =
      let f = facts bytes accepted in
      let shaped : IsShaped (segment_of bytes (text_segment_of bytes)) = shaped_at bytes accepted (text_segment_of bytes) f.within f.load in
      let size : nat_lt 0 (segment_of bytes (text_segment_of bytes)).memsz ≡ true = lt-ltb 0 (segment_of bytes (text_segment_of bytes)).memsz (omega (arith, shaped.stored, f.inside.low, f.inside.high, some_text)) in
      rw (f.load, size) refl

  sum_of_marked : (value : ℕ) → sum_by (marked value) (segments_of bytes) ≡ value
  sum_of_marked value =
      sum_of_segments bytes accepted (marked value) (only_at (text_segment_of bytes) value) (marked_at value)
      (λ k within none. only_elsewhere (text_segment_of bytes) value k (λ same. absurd (cc (subst (λ j. has_memory bytes j ≡ false) same none, text_has_memory))))
      ∙ total_only (text_segment_of bytes) value (phnum_of bytes) (facts bytes accepted).within

  -- the file bytes of a segment: those before text, those behind it, and text

  part_sizes : Segment → ℕ
  part_sizes s =
      length (part_before bytes set s).bytes + length (part_behind bytes set s).bytes + marked ((text_of bytes).hi - (text_of bytes).lo) s

  before_size : (s : Segment) → IsSound bytes s → length (part_before bytes set s).bytes ≡ min (min s.memsz ((text_of bytes).lo - s.address)) s.filesz
  before_size s sound = omega (arith, part_length bytes set 0 (min s.memsz ((text_of bytes).lo - s.address)) s sound.whole)

  behind_size : (s : Segment) → IsSound bytes s → length (part_behind bytes set s).bytes ≡ s.filesz - ((text_of bytes).hi - s.address)
  behind_size s sound = omega (arith, sound.stored, part_length bytes set ((text_of bytes).hi - s.address) (s.memsz - ((text_of bytes).hi - s.address)) s sound.whole)

  parts_are_whole : (s : Segment) → IsSound bytes s → part_sizes s ≡ s.filesz
  unfolding part_sizes
  parts_are_whole s sound = by_text sound.text
    where
      by_side : (s.address + s.memsz ≤ (text_of bytes).lo) ⊎ ((text_of bytes).hi ≤ s.address) → marked ((text_of bytes).hi - (text_of bytes).lo) s ≡ 0 → length (part_before bytes set s).bytes + length (part_behind bytes set s).bytes + marked ((text_of bytes).hi - (text_of bytes).lo) s ≡ s.filesz
      by_side (inl before) none = omega (arith, before_size s sound, behind_size s sound, none, sound.stored, some_text)
      by_side (inr behind) none = omega (arith, before_size s sound, behind_size s sound, none, sound.stored, some_text)

      by_text : HasText bytes s ⊎ IsAside bytes s → length (part_before bytes set s).bytes + length (part_behind bytes set s).bytes + marked ((text_of bytes).hi - (text_of bytes).lo) s ≡ s.filesz
      by_text (inl text) =
          omega (arith, before_size s sound, behind_size s sound, marked_text ((text_of bytes).hi - (text_of bytes).lo) s text, sound.stored, some_text, text.low, text.high)
      by_text (inr aside) = by_side aside.memory (marked_aside ((text_of bytes).hi - (text_of bytes).lo) s sound aside)

  no_bytes : (k : ℕ) → k < phnum_of bytes → has_memory bytes k ≡ false → loaded_at bytes k ≡ 0
  no_bytes k within none = by_load (cases_Bool (is_load bytes k))
    where
      no_memory : is_load bytes k ≡ true → (segment_of bytes k).memsz ≤ 0
      no_memory load = let small : nat_lt 0 (segment_of bytes k).memsz ≡ false = rw load at none in ltb-false 0 (segment_of bytes k).memsz small

      by_load : (is_load bytes k ≡ true) ⊎ (is_load bytes k ≡ false) → loaded_at bytes k ≡ 0
      by_load (inr e) = rw e refl
      by_load (inl e) = let shaped : IsShaped (segment_of bytes k) = shaped_at bytes accepted k within e in rw e (omega (arith, no_memory e, shaped.stored))

  sum_of_parts : sum_by part_sizes (segments_of bytes) ≡ loaded_of bytes
  sum_of_parts =
      sum_of_segments bytes accepted part_sizes (loaded_at bytes)
      (λ k within load some. let here : loaded_at bytes k ≡ (segment_of bytes k).filesz = rw load refl in parts_are_whole (segment_of bytes k) (sound_at bytes accepted k within load some) ∙ sym here)
      no_bytes

  moved : (size : Segment → ℕ) → sum_by size (by_address (segments_of bytes)) ≡ sum_by size (segments_of bytes)
  moved size = sum_by-IsPermutation size (segments_of bytes) (by_address (segments_of bytes)) (by_address_moves (segments_of bytes))

  stored_before : (ss : List Segment) → AllByRecursion (IsSound bytes) ss → AllByRecursion (λ s. length (part_before bytes set s).bytes ≤ (part_before bytes set s).size) ss
  stored_before [] all = tt
  stored_before (s ∷ ss) all = (omega (arith, before_size s all.0), stored_before ss all.1)

  stored_behind : (ss : List Segment) → AllByRecursion (IsSound bytes) ss → AllByRecursion (λ s. length (part_behind bytes set s).bytes ≤ (part_behind bytes set s).size) ss
  stored_behind [] all = tt
  stored_behind (s ∷ ss) all = (omega (arith, behind_size s all.0, all.0.stored), stored_behind ss all.1)

  -- THE bytes around text, and text, are what is loaded
  pub bytes_around : length (piece_bytes (pieces_before bytes set)) + length (piece_bytes (pieces_behind bytes set)) + ((text_of bytes).hi - (text_of bytes).lo) ≡ loaded_of bytes
  unfolding part_sizes
  bytes_around =
      let ss = by_address (segments_of bytes) in
      let size = (text_of bytes).hi - (text_of bytes).lo in
      let sound = ordered_sound bytes accepted set in
      omega (
        arith,
        kept_bytes (part_before bytes set) ss (stored_before ss sound),
        kept_bytes (part_behind bytes set) ss (stored_behind ss sound),
        moved (marked size) ∙ sum_of_marked size,
        moved part_sizes ∙ sum_of_parts,
        sum_of_three (λ s. length (part_before bytes set s).bytes) (λ s. length (part_behind bytes set s).bytes) (marked size) ss,
      )

  -- the pieces of a segment: what is before text, what is behind it, and text

  part_counts : Segment → ℕ
  part_counts s = counted (part_before bytes set s) + counted (part_behind bytes set s) + marked 1 s

  counted_if : (p : Piece) (test : Bool) → ((0 < p.size → test ≡ true) × (p.size ≤ 0 → test ≡ false)) → counted p ≡ one_if test
  unfolding counted
  counted_if p test same = by_test (cases_Bool (is_some_piece p))
    where
      by_test : (is_some_piece p ≡ true) ⊎ (is_some_piece p ≡ false) → one_if (is_some_piece p) ≡ one_if test
      by_test (inl e) = rw (e, same.0 (ltb-true 0 p.size e)) refl
      by_test (inr e) = rw (e, same.1 (ltb-false 0 p.size e)) refl

  less_if : (a b : ℕ) → (a < b → nat_lt a b ≡ true) × (b ≤ a → nat_lt a b ≡ false)
  less_if a b = (λ less. lt-ltb a b less, λ more. not_less a b more)
    where
      not_less : (a b : ℕ) → b ≤ a → nat_lt a b ≡ false
      not_less a b more = grind (arith, nat_tests)

  text_counts : (s : Segment) → IsSound bytes s → HasText bytes s → part_counts s ≡ parts_of s (text_of bytes)
  unfolding part_counts
  text_counts s sound text =
      let before = less_if s.address (text_of bytes).lo in
      let behind = less_if (text_of bytes).hi (s.address + s.memsz) in
      let first = counted_if (part_before bytes set s) (nat_lt s.address (text_of bytes).lo) (λ some. before.0 (omega arith), λ none. before.1 (omega (arith, sound.some))) in
      let last = counted_if (part_behind bytes set s) (nat_lt (text_of bytes).hi (s.address + s.memsz)) (λ some. behind.0 (omega (arith, text.low, some_text)), λ none. behind.1 (omega (arith, text.low, some_text))) in
      omega (arith, first, last, marked_text 1 s text)

  aside_counts : (s : Segment) → IsSound bytes s → IsAside bytes s → part_counts s ≡ 1
  unfolding part_counts
  aside_counts s sound aside = by_side aside.memory (marked_aside 1 s sound aside)
    where
      by_side : (s.address + s.memsz ≤ (text_of bytes).lo) ⊎ ((text_of bytes).hi ≤ s.address) → marked 1 s ≡ 0 → counted (part_before bytes set s) + counted (part_behind bytes set s) + marked 1 s ≡ 1
      by_side (inl before) none =
          let first = counted_if (part_before bytes set s) true (λ some. refl, λ empty. absurd (omega (arith, sound.some, before))) in
          let last = counted_if (part_behind bytes set s) false (λ some. absurd (omega (arith, some, before, some_text)), λ empty. refl) in
          omega (arith, first, last, none)
      by_side (inr behind) none =
          let first = counted_if (part_before bytes set s) false (λ some. absurd (omega (arith, some, behind, some_text)), λ empty. refl) in
          let last = counted_if (part_behind bytes set s) true (λ some. refl, λ empty. absurd (omega (arith, sound.some, behind))) in
          omega (arith, first, last, none)

  counts_at : (k : ℕ) → k < phnum_of bytes → is_load bytes k ≡ true → 0 < (segment_of bytes k).memsz → part_counts (segment_of bytes k) ≡ pieces_at bytes (text_of bytes) (text_segment_of bytes) k
  counts_at k within load some =
      let sound = sound_at bytes accepted k within load some in
      let memory : nat_lt 0 (segment_of bytes k).memsz ≡ true = lt-ltb 0 (segment_of bytes k).memsz some in
      ⊎_elim
      (λ (same : k ≡ text_segment_of bytes).
      let text = subst (λ j. HasText bytes (segment_of bytes j)) (sym same) (has_text bytes accepted) in
      let here : nat_eq k (text_segment_of bytes) ≡ true = eq-eqb k (text_segment_of bytes) same in
      rw (load, memory, here) (text_counts (segment_of bytes k) sound text))
      (λ (apart : k ≡ text_segment_of bytes → ⊥).
      let there : nat_eq k (text_segment_of bytes) ≡ false = not_equal k (text_segment_of bytes) apart in
      rw (load, memory, there) (aside_counts (segment_of bytes k) sound (is_aside bytes accepted k within apart load some)))
      (cases_eq k (text_segment_of bytes))
    where
      not_equal : (x y : ℕ) → (x ≡ y → ⊥) → nat_eq x y ≡ false
      not_equal x y apart = grind (arith, nat_tests)

  sum_of_counts : sum_by part_counts (segments_of bytes) ≡ piece_count_of bytes
  sum_of_counts =
      sum_of_segments bytes accepted part_counts (pieces_at bytes (text_of bytes) (text_segment_of bytes)) counts_at (λ k within none. rw none refl)

  -- THE pieces around text, and text, are as many as the file was counted to have
  pub pieces_around : length (pieces_before bytes set) + length (pieces_behind bytes set) + 1 ≡ piece_count_of bytes
  unfolding part_counts
  pieces_around =
      let ss = by_address (segments_of bytes) in
      omega (
        arith,
        kept_count (part_before bytes set) ss,
        kept_count (part_behind bytes set) ss,
        moved (marked 1) ∙ sum_of_marked 1,
        moved part_counts ∙ sum_of_counts,
        sum_of_three (λ s. counted (part_before bytes set s)) (λ s. counted (part_behind bytes set s)) (marked 1) ss,
      )

  pub few_pieces : piece_count_of bytes ≤ 64
  few_pieces =
      ltb-false 64 (piece_count_of bytes) (row_passes (too_many_pieces bytes) (too_many_bytes bytes ∷ bad_entry bytes ∷ []) (sizes_accepted bytes accepted) 0 (omega arith))
