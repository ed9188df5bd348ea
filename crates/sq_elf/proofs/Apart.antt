-- No two pieces of the image of an accepted file meet.
use Rattle.std.proofs.Common.{◌≡◌, ℕ, zero, suc, ◌+◌, ◌<◌, ◌≤◌, Bool, true, false, ◌&&◌, ◌||◌, nat_eq, nat_lt, List, [], ◌∷◌, ◌++◌, Option, Some, None, refl, subst, ◌∙◌, arith}
use Rattle.std.specs.Option.{is_some}
use Rattle.std.specs.List.{AllByRecursion}
use Rattle.std.proofs.lemmas.Bool.{and_parts, or_parts}
use Rattle.sq_num.specs.Refusals.{first_from}
use Rattle.sq_elf.specs.declared.segment.Segment.{Segment}
use Rattle.sq_elf.specs.Headers.{phnum_of, is_load, segment_of}
use Rattle.sq_elf.specs.Ranges.{meets}
use Rattle.sq_elf.specs.Segments.{copy_size, meets_copy, overlaps, overlaps_at, is_overlapping}
use Rattle.sq_elf.specs.Memory.{has_memory, MemoryPiece, own_piece, copy_piece, segment_pieces, image_before, image_of, pieces_meet, AreApart}
use Rattle.sq_elf.specs.Refusing.{bad_segment, segment_kind, segment_overlap, file_refusal_of}
use Rattle.sq_elf.proofs.Passing.{passes_from, row_passes, behind_row}
use Rattle.sq_elf.proofs.Accepted.{segments_accepted}
use Rattle.sq_elf.proofs.TextFacts.{second_false}

-- meeting goes both ways
swap_tests : (w x y z : Bool) → (w && x && y && z) ≡ (x && w && z && y)
swap_tests false false y z = refl
swap_tests false true y z = refl
swap_tests true false y z = refl
swap_tests true true false false = refl
swap_tests true true false true = refl
swap_tests true true true false = refl
swap_tests true true true true = refl

apart_back : (a size b other : ℕ) → meets a size b other ≡ false → meets b other a size ≡ false
apart_back a size b other apart = swap_tests (nat_lt 0 other) (nat_lt 0 size) (nat_lt b (a + size)) (nat_lt a (b + other)) ∙ apart

-- lists of pieces
all_append : (P : MemoryPiece → Type 0) (xs ys : List MemoryPiece) → AllByRecursion P xs → AllByRecursion P ys → AllByRecursion P (xs ++ ys)
all_append P [] ys front back = back
all_append P (x ∷ xs) ys front back = (front.0, all_append P xs ys front.1 back)

-- each of these pieces is apart from each of those
AreApartFrom : List MemoryPiece → List MemoryPiece → Type 0
AreApartFrom ys xs = AllByRecursion (λ p. AllByRecursion (λ q. pieces_meet p q ≡ false) ys) xs

apart_append : (xs ys : List MemoryPiece) → AreApart xs → AreApart ys → AreApartFrom ys xs → AreApart (xs ++ ys)
unfolding AreApartFrom
apart_append [] ys front back cross = back
apart_append (x ∷ xs) ys front back cross = (all_append (λ q. pieces_meet x q ≡ false) xs ys front.0 cross.0, apart_append xs ys front.1 back cross.1)

copy_is_whole : (s : Segment) → nat_lt 0 (copy_size s) ≡ true → copy_size s ≡ s.filesz
copy_is_whole s some = by_test (nat_eq s.load_address s.address) refl
  where
    by_test : (same : Bool) → nat_eq s.load_address s.address ≡ same → copy_size s ≡ s.filesz
    by_test false is = rw is refl
    by_test true is = let none : nat_lt 0 (copy_size s) ≡ false = rw is refl in absurd (cc (some, none))

-- what holds of a segment's piece and of its load copy
each_piece : (P : MemoryPiece → Type 0) (bytes : List ℕ) (s : Segment) → P (own_piece bytes s) → (nat_lt 0 (copy_size s) ≡ true → P (copy_piece bytes s)) → AllByRecursion P (segment_pieces bytes s)
each_piece P bytes s own copy = by_test (nat_lt 0 (copy_size s)) refl
  where
    by_test : (some : Bool) → nat_lt 0 (copy_size s) ≡ some → AllByRecursion P (segment_pieces bytes s)
    by_test false is = rw is (own, tt)
    by_test true is = rw is (own, (copy is, tt))

-- the pieces of two segments that do not overlap
pieces_apart : (bytes : List ℕ) (s t : Segment) → overlaps t s ≡ false → AreApartFrom (segment_pieces bytes t) (segment_pieces bytes s)
unfolding AreApartFrom
pieces_apart bytes s t apart =
    let copies = or_parts (meets t.address t.memsz s.address s.memsz || meets_copy t s || meets_copy s t) (meets t.load_address (copy_size t) s.load_address (copy_size s)) apart in
    let mine = or_parts (meets t.address t.memsz s.address s.memsz || meets_copy t s) (meets_copy s t) copies.0 in
    let memory = or_parts (meets t.address t.memsz s.address s.memsz) (meets_copy t s) mine.0 in
    each_piece (λ p. AllByRecursion (λ q. pieces_meet p q ≡ false) (segment_pieces bytes t)) bytes s
    (each_piece (λ q. pieces_meet (own_piece bytes s) q ≡ false) bytes t
    (apart_back t.address t.memsz s.address s.memsz memory.0)
    (λ some. let M : ℕ → Type 0 = λ size. meets s.address s.memsz t.load_address size ≡ false in subst M (copy_is_whole t some) mine.1))
    (λ some.
    each_piece (λ q. pieces_meet (copy_piece bytes s) q ≡ false) bytes t
    (let M : ℕ → Type 0 = λ size. meets s.load_address size t.address t.memsz ≡ false in subst M (copy_is_whole s some) (apart_back t.address t.memsz s.load_address (copy_size s) memory.1))
    (λ other.
    let M : ℕ → Type 0 = λ size. meets s.load_address size t.load_address (copy_size t) ≡ false in
    let N : ℕ → Type 0 = λ size. meets s.load_address s.filesz t.load_address size ≡ false in
    subst N (copy_is_whole t other) (subst M (copy_is_whole s some) (apart_back t.load_address (copy_size t) s.load_address (copy_size s) copies.1))))

own_apart : (bytes : List ℕ) (s : Segment) → meets_copy s s ≡ false → AreApart (segment_pieces bytes s)
own_apart bytes s apart = by_test (nat_lt 0 (copy_size s)) refl
  where
    by_test : (some : Bool) → nat_lt 0 (copy_size s) ≡ some → AreApart (segment_pieces bytes s)
    by_test false is = rw is (tt, tt)
    by_test true is =
        let M : ℕ → Type 0 = λ size. meets s.address s.memsz s.load_address size ≡ false in
        rw is ((subst M (copy_is_whole s is) apart, tt), (tt, tt))

module _ (bytes : List ℕ) (accepted : file_refusal_of bytes ≡ None) where
  no_overlap : (k : ℕ) → k < phnum_of bytes → is_overlapping bytes k ≡ false
  no_overlap =
      row_passes (segment_overlap bytes) []
      (behind_row (segment_kind bytes) (segment_overlap bytes ∷ [])
      (behind_row (bad_segment bytes) (segment_kind bytes ∷ segment_overlap bytes ∷ []) (segments_accepted bytes accepted)))

  none_found : (found : Option ℕ) → is_some found ≡ false → found ≡ None
  none_found None none = refl
  none_found (Some k) none = absurd (cc none)

  module _ (index : ℕ) (within : index < phnum_of bytes) (load : is_load bytes index ≡ true) where
    tests : (meets_copy (segment_of bytes index) (segment_of bytes index) ≡ false) × (is_some (first_from (overlaps_at bytes index) 0 index) ≡ false)
    tests =
        or_parts (meets_copy (segment_of bytes index) (segment_of bytes index)) (is_some (first_from (overlaps_at bytes index) 0 index))
        (second_false (is_load bytes index) (meets_copy (segment_of bytes index) (segment_of bytes index) || is_some (first_from (overlaps_at bytes index) 0 index)) (no_overlap index within) load)

    earlier_apart : (k : ℕ) → k < index → is_load bytes k ≡ true → overlaps (segment_of bytes index) (segment_of bytes k) ≡ false
    earlier_apart k below other =
        second_false (is_load bytes k) (overlaps (segment_of bytes index) (segment_of bytes k))
        (passes_from (overlaps_at bytes index) 0 index k (none_found (first_from (overlaps_at bytes index) 0 index) tests.1) (omega arith) (omega arith)) other

    -- the pieces of the program headers before it
    before_apart : (count : ℕ) → count ≤ index → AreApartFrom (segment_pieces bytes (segment_of bytes index)) (image_before bytes count)
    unfolding image_before AreApartFrom
    before_apart zero below = tt
    before_apart (suc count) below = by_test (before_apart count (omega arith)) (has_memory bytes count) refl
      where
        by_test : AreApartFrom (segment_pieces bytes (segment_of bytes index)) (image_before bytes count) → (has : Bool) → has_memory bytes count ≡ has → AreApartFrom (segment_pieces bytes (segment_of bytes index)) (image_before bytes (suc count))
        by_test front false is = rw is front
        by_test front true is =
            let loads = and_parts (is_load bytes count) (nat_lt 0 (segment_of bytes count).memsz) is in
            rw is (all_append (λ p. AllByRecursion (λ q. pieces_meet p q ≡ false) (segment_pieces bytes (segment_of bytes index))) (image_before bytes count) (segment_pieces bytes (segment_of bytes count)) front (pieces_apart bytes (segment_of bytes count) (segment_of bytes index) (earlier_apart count (omega arith) loads.0)))

  image_apart : (count : ℕ) → count ≤ phnum_of bytes → AreApart (image_before bytes count)
  unfolding image_before
  image_apart zero within = tt
  image_apart (suc count) within = by_test (image_apart count (omega arith)) (has_memory bytes count) refl
    where
      by_test : AreApart (image_before bytes count) → (has : Bool) → has_memory bytes count ≡ has → AreApart (image_before bytes (suc count))
      by_test front false is = rw is front
      by_test front true is =
          let loads = and_parts (is_load bytes count) (nat_lt 0 (segment_of bytes count).memsz) is in
          let below : count < phnum_of bytes = omega arith in
          rw is
          (apart_append (image_before bytes count) (segment_pieces bytes (segment_of bytes count)) front
          (own_apart bytes (segment_of bytes count) (tests count below loads.0).0)
          (before_apart count below loads.0 count (omega arith)))

  pub pieces_are_apart : AreApart (image_of bytes)
  pieces_are_apart = image_apart (phnum_of bytes) (omega arith)
