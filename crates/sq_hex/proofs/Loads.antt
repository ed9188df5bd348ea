-- The load ranges of an accepted file: none passes the end of memory, and no two of them meet.
use Rattle.std.proofs.Common.{◌≡◌, ℕ, zero, suc, ◌+◌, ◌^◌, ◌<◌, ◌≤◌, Bool, true, false, ◌&&◌, ◌||◌, nat_eq, nat_lt, List, [], ◌∷◌, ◌++◌, None, refl, subst, ◌∙◌, arith}
use Rattle.std.proofs.lemmas.Bool.Decides.{nat_tests}
use Rattle.std.proofs.lemmas.List.Elements.{All-from_recursion}
use Rattle.std.proofs.lemmas.List.Sorted.{All-permutation}
use Rattle.std.proofs.lemmas.Map.Keys.{IsDistinct-head, IsDistinct-tail, IsDistinct-cons, IsDistinct-IsPermutation}
use Rattle.std.specs.List.{AllByRecursion, IsDistinct}
use Rattle.std.proofs.lemmas.Bool.{and_parts, or_parts}
use Rattle.sq_elf.specs.declared.segment.Segment.{Segment}
use Rattle.sq_elf.specs.Headers.{phnum_of, is_load, segment_of}
use Rattle.sq_elf.specs.Ranges.{meets}
use Rattle.sq_elf.specs.Segments.{is_misshapen, is_bad_segment}
use Rattle.sq_elf.specs.Memory.{has_memory, segments_before, segments_of, MemoryPiece, segment_pieces, image_before, pieces_meet, AreApart}
use Rattle.sq_elf.specs.Refusing.{bad_segment, segment_kind, segment_overlap, file_refusal_of}
use Rattle.sq_elf.proofs.Passing.{row_passes}
use Rattle.sq_elf.proofs.Accepted.{segments_accepted}
use Rattle.sq_elf.proofs.Apart.{pieces_are_apart}
use Rattle.sq_elf.proofs.TextFacts.{second_false, lt_of}
use Rattle.sq_hex.specs.Flash.{AreLoads}
use Rattle.sq_hex.specs.States.{AreBounded}

all_push : {A : Type 0} (P : A → Type 0) (xs : List A) (y : A) → AllByRecursion P xs → P y → AllByRecursion P (xs ++ y ∷ [])
all_push P [] y front here = (here, tt)
all_push P (x ∷ xs) y front here = (front.0, all_push P xs y front.1 here)

all_front : {A : Type 0} (P : A → Type 0) (xs ys : List A) → AllByRecursion P (xs ++ ys) → AllByRecursion P xs
all_front P [] ys all = tt
all_front P (x ∷ xs) ys all = (all.0, all_front P xs ys all.1)

all_back : {A : Type 0} (P : A → Type 0) (xs ys : List A) → AllByRecursion P (xs ++ ys) → AllByRecursion P ys
all_back P [] ys all = all
all_back P (x ∷ xs) ys all = all_back P xs ys all.1

pub record IsSound (s : Segment) : Type 0 where
  pub whole : s.filesz ≤ s.memsz
  pub bounded : s.load_address + s.filesz ≤ 2 ^ 32

not_less : (a b : ℕ) → nat_lt a b ≡ false → b ≤ a
not_less a b fails = grind (arith, nat_tests)

sound_shape : (s : Segment) → is_misshapen s ≡ false → IsSound s
sound_shape s good =
    let last = or_parts (nat_lt s.memsz s.filesz || nat_lt (2 ^ 32) (s.address + s.memsz)) (nat_lt (2 ^ 32) (s.load_address + s.filesz)) good in
    let first = or_parts (nat_lt s.memsz s.filesz) (nat_lt (2 ^ 32) (s.address + s.memsz)) last.0 in
    record { whole = not_less s.memsz s.filesz first.0; bounded = not_less (2 ^ 32) (s.load_address + s.filesz) last.1 }

-- two load ranges have a byte in common
abbrev pub loads_meet : Segment → Segment → Bool
loads_meet s t = meets s.load_address s.filesz t.load_address t.filesz

swap_tests : (w x y z : Bool) → (w && x && y && z) ≡ (x && w && z && y)
swap_tests false false y z = refl
swap_tests false true y z = refl
swap_tests true false y z = refl
swap_tests true true false false = refl
swap_tests true true false true = refl
swap_tests true true true false = refl
swap_tests true true true true = refl

meets_back : (a size b other : ℕ) → meets a size b other ≡ meets b other a size
meets_back a size b other = swap_tests (nat_lt 0 size) (nat_lt 0 other) (nat_lt a (b + other)) (nat_lt b (a + size))

-- the piece has no byte of this range
abbrev IsClear : ℕ → ℕ → MemoryPiece → Type 0
IsClear address size p = meets p.address p.length address size ≡ false

lt_test : (a b : ℕ) → a < b → nat_lt a b ≡ true
lt_test a b less = grind (arith, nat_tests)

pub meets_from : (a size b other : ℕ) → 0 < size → 0 < other → a < b + other → b < a + size → meets a size b other ≡ true
meets_from a size b other p q r s = rw (lt_test 0 size p, lt_test 0 other q, lt_test a (b + other) r, lt_test b (a + size) s) refl

pub meeting : (a size b other : ℕ) → meets a size b other ≡ true → (0 < size) × (0 < other) × (a < b + other) × (b < a + size)
meeting a size b other is =
    let x = and_parts (nat_lt 0 size && nat_lt 0 other && nat_lt a (b + other)) (nat_lt b (a + size)) is in
    let y = and_parts (nat_lt 0 size && nat_lt 0 other) (nat_lt a (b + other)) x.0 in
    let z = and_parts (nat_lt 0 size) (nat_lt 0 other) y.0 in
    (lt_of 0 size z.0, lt_of 0 other z.1, lt_of a (b + other) y.1, lt_of b (a + size) x.1)

shorter_meets : (a size less b other : ℕ) → less ≤ size → meets a size b other ≡ false → meets a less b other ≡ false
shorter_meets a size less b other fits apart = by_test (meets a less b other) refl
  where
    by_test : (is : Bool) → meets a less b other ≡ is → meets a less b other ≡ false
    by_test false is = is
    by_test true is =
        let m = meeting a less b other is in
        absurd (cc (meets_from a size b other (omega arith) m.1 m.2 (omega arith), apart))

-- where the pieces of a segment have no byte of a range, its load range has none
load_clear : (file : List ℕ) (address size : ℕ) (s : Segment) → IsSound s → AllByRecursion (IsClear address size) (segment_pieces file s) → meets s.load_address s.filesz address size ≡ false
load_clear file address size s sound clear = by_place (nat_eq s.load_address s.address) refl
  where
    by_size : nat_eq s.load_address s.address ≡ false → (some : Bool) → nat_lt 0 s.filesz ≡ some → AllByRecursion (IsClear address size) (segment_pieces file s) → meets s.load_address s.filesz address size ≡ false
    by_size moved false is = rw is (λ all. refl)
    by_size moved true is = λ all. (rw (moved, is) at all).1.0

    by_place : (same : Bool) → nat_eq s.load_address s.address ≡ same → meets s.load_address s.filesz address size ≡ false
    by_place true is =
        let at : s.address ≡ s.load_address = grind (arith, nat_tests) in
        let M : ℕ → Type 0 = λ a. meets a s.filesz address size ≡ false in
        subst M at (shorter_meets s.address s.memsz s.filesz address size sound.whole clear.0)
    by_place false is = by_size is (nat_lt 0 s.filesz) refl clear

apart_front : (xs ys : List MemoryPiece) → AreApart (xs ++ ys) → AreApart xs
apart_front [] ys apart = tt
apart_front (x ∷ xs) ys apart = (all_front (λ q. pieces_meet x q ≡ false) xs ys apart.0, apart_front xs ys apart.1)

apart_cross : (xs ys : List MemoryPiece) → AreApart (xs ++ ys) → AllByRecursion (λ p. AllByRecursion (λ q. pieces_meet p q ≡ false) ys) xs
apart_cross [] ys apart = tt
apart_cross (x ∷ xs) ys apart = (all_back (λ q. pieces_meet x q ≡ false) xs ys apart.0, apart_cross xs ys apart.1)

pub all_map : {A : Type 0} (P Q : A → Type 0) → ((x : A) → P x → Q x) → (xs : List A) → AllByRecursion P xs → AllByRecursion Q xs
all_map P Q step [] all = tt
all_map P Q step (x ∷ xs) all = (step x all.0, all_map P Q step xs all.1)

-- each of the pieces has no byte of the load range of a segment whose pieces it doesn't meet
crossing_clear : (file : List ℕ) (s : Segment) → IsSound s → (p : MemoryPiece) → AllByRecursion (λ q. pieces_meet p q ≡ false) (segment_pieces file s) → IsClear s.load_address s.filesz p
crossing_clear file s sound p apart =
    meets_back p.address p.length s.load_address s.filesz
    ∙ load_clear file p.address p.length s sound
    (all_map (λ q. pieces_meet p q ≡ false) (IsClear p.address p.length) (λ q no. meets_back q.address q.length p.address p.length ∙ no) (segment_pieces file s) apart)

module _ (file : List ℕ) (accepted : file_refusal_of file ≡ None) where
  not_bad : (k : ℕ) → k < phnum_of file → is_bad_segment file k ≡ false
  not_bad = row_passes (bad_segment file) (segment_kind file ∷ segment_overlap file ∷ []) (segments_accepted file accepted)

  sound_at : (k : ℕ) → k < phnum_of file → has_memory file k ≡ true → IsSound (segment_of file k)
  sound_at k within has =
      let loads = and_parts (is_load file k) (nat_lt 0 (segment_of file k).memsz) has in
      sound_shape (segment_of file k) (second_false (is_load file k) (is_misshapen (segment_of file k)) (not_bad k within) loads.0)

  all_sound : (count : ℕ) → count ≤ phnum_of file → AllByRecursion IsSound (segments_before file count)
  unfolding segments_before
  all_sound zero within = tt
  all_sound (suc count) within = by_test (all_sound count (omega arith)) (has_memory file count) refl
    where
      by_test : AllByRecursion IsSound (segments_before file count) → (has : Bool) → has_memory file count ≡ has → AllByRecursion IsSound (segments_before file (suc count))
      by_test front false is = rw is front
      by_test front true is = rw is (all_push IsSound (segments_before file count) (segment_of file count) front (sound_at count (omega arith) is))

  -- the load ranges of the first program headers have no byte of a range of which their pieces have none
  all_clear : (address size count : ℕ) → count ≤ phnum_of file → AllByRecursion (IsClear address size) (image_before file count) → AllByRecursion (λ t. meets t.load_address t.filesz address size ≡ false) (segments_before file count)
  unfolding segments_before image_before
  all_clear address size zero within = λ clear. tt
  all_clear address size (suc count) within = by_test (all_clear address size count (omega arith)) (has_memory file count) refl
    where
      by_test : (AllByRecursion (IsClear address size) (image_before file count) → AllByRecursion (λ t. meets t.load_address t.filesz address size ≡ false) (segments_before file count)) → (has : Bool) → has_memory file count ≡ has → AllByRecursion (IsClear address size) (image_before file (suc count)) → AllByRecursion (λ t. meets t.load_address t.filesz address size ≡ false) (segments_before file (suc count))
      by_test earlier false is = rw is earlier
      by_test earlier true is = rw is (λ clear.
          all_push (λ t. meets t.load_address t.filesz address size ≡ false) (segments_before file count) (segment_of file count)
          (earlier (all_front (IsClear address size) (image_before file count) (segment_pieces file (segment_of file count)) clear))
          (load_clear file address size (segment_of file count) (sound_at count (omega arith) is)
          (all_back (IsClear address size) (image_before file count) (segment_pieces file (segment_of file count)) clear)))

  distinct_push : (xs : List Segment) (y : Segment) → IsDistinct loads_meet xs → AllByRecursion (λ x. loads_meet x y ≡ false) xs → IsDistinct loads_meet (xs ++ y ∷ [])
  distinct_push [] y front cross = IsDistinct-cons loads_meet y [] tt front
  distinct_push (x ∷ xs) y front cross =
      IsDistinct-cons loads_meet x (xs ++ y ∷ [])
      (all_push (λ z. loads_meet x z ≡ false) xs y (IsDistinct-head loads_meet x xs front) cross.0)
      (distinct_push xs y (IsDistinct-tail loads_meet x xs front) cross.1)

  loads_apart : (count : ℕ) → count ≤ phnum_of file → AreApart (image_before file count) → IsDistinct loads_meet (segments_before file count)
  unfolding segments_before image_before IsDistinct
  loads_apart zero within = λ apart. tt
  loads_apart (suc count) within = by_test (loads_apart count (omega arith)) (has_memory file count) refl
    where
      by_test : (AreApart (image_before file count) → IsDistinct loads_meet (segments_before file count)) → (has : Bool) → has_memory file count ≡ has → AreApart (image_before file (suc count)) → IsDistinct loads_meet (segments_before file (suc count))
      by_test earlier false is = rw is earlier
      by_test earlier true is = rw is (λ apart.
          let s : Segment = segment_of file count in
          let sound = sound_at count (omega arith) is in
          distinct_push (segments_before file count) s
          (earlier (apart_front (image_before file count) (segment_pieces file s) apart))
          (all_clear s.load_address s.filesz count (omega arith)
          (all_map (λ p. AllByRecursion (λ q. pieces_meet p q ≡ false) (segment_pieces file s)) (IsClear s.load_address s.filesz) (crossing_clear file s sound)
          (image_before file count) (apart_cross (image_before file count) (segment_pieces file s) apart))))

  module _ (loads : List Segment) (are : AreLoads file loads) where
    pub loads_bounded : AreBounded loads
    loads_bounded =
        All-permutation (λ s. s.load_address + s.filesz ≤ 2 ^ 32) (segments_of file) loads are.all
        (All-from_recursion (λ s. s.load_address + s.filesz ≤ 2 ^ 32) (segments_of file)
        (all_map IsSound (λ s. s.load_address + s.filesz ≤ 2 ^ 32) (λ s sound. sound.bounded) (segments_of file) (all_sound (phnum_of file) (omega arith))))

    pub loads_distinct : IsDistinct loads_meet loads
    loads_distinct =
        IsDistinct-IsPermutation loads_meet (λ s t. meets_back s.load_address s.filesz t.load_address t.filesz) (segments_of file) loads are.all
        (loads_apart (phnum_of file) (omega arith) (pieces_are_apart file accepted))
