-- What some element of a list has, and the cells of regions by this.
use Rattle.std.proofs.Common.{◌≡◌, ◌⊎◌, inl, inr, ℕ, ◌+◌, ◌-◌, ◌<◌, ◌≤◌, nat_le, nat_lt, Bool, true, false, ◌||◌, List, [], ◌∷◌, ◌++◌, length, map, filter, Option, Some, None, IsSome, if◌then◌else◌, slice_get, refl, sym, ◌∙◌, arith}
use Rattle.std.specs.List.{AllByRecursion, flat_map, list_any}
use Rattle.std.proofs.lemmas.Bool.Decides.{nat_tests}
use Rattle.std.proofs.lemmas.Option.{slice_get_past}
use Rattle.std.proofs.lemmas.Bool.{cases_lt}
use Rattle.sq_elf.specs.declared.segment.Segment.{Segment}
use Rattle.sq_elf.specs.Ranges.{meets}
use Rattle.sq_elf.specs.Memory.{MemoryPiece, pieces_meet}
use Rattle.sq_elf.specs.Memory as elf
use Rattle.sq_memory.specs.Cells.{Agree}
use Rattle.sq_memory.specs.Regions.{Region, region_cell, or_else, get}
use Rattle.sq_write.specs.Pieces.{insert_segment, by_address}

-- SOME ELEMENT

-- P holds of one of these
abbrev pub Somewhere : {X : Type 0} → (X → Type 0) → List X → Type 0
Somewhere P [] = ⊥
Somewhere P (x ∷ xs) = P x ⊎ Somewhere P xs

module _ {X : Type 0} (P : X → Type 0) where
  pub front_of : (xs ys : List X) → Somewhere P xs → Somewhere P (xs ++ ys)
  front_of [] ys h = absurd h
  front_of (x ∷ xs) ys (inl h) = inl h
  front_of (x ∷ xs) ys (inr h) = inr (front_of xs ys h)

  pub back_of : (xs ys : List X) → Somewhere P ys → Somewhere P (xs ++ ys)
  back_of [] ys h = h
  back_of (x ∷ xs) ys h = inr (back_of xs ys h)

  pub either_of : (xs ys : List X) → Somewhere P (xs ++ ys) → Somewhere P xs ⊎ Somewhere P ys
  either_of [] ys h = inr h
  either_of (x ∷ xs) ys (inl h) = inl (inl h)
  either_of (x ∷ xs) ys (inr h) = elim (either_of xs ys h) [ inl f ↦ inl (inr f) | inr f ↦ inr f ]

  pub one_filtered : (test : X → Bool) (xs : List X) → Somewhere P (filter test xs) → Somewhere (λ x. (test x ≡ true) × P x) xs
  one_filtered test [] h = absurd h
  one_filtered test (x ∷ xs) h = go (test x) refl h (one_filtered test xs)
    where
      go : (b : Bool) → test x ≡ b → Somewhere P (if b then x ∷ filter test xs else filter test xs) → (Somewhere P (filter test xs) → Somewhere (λ x. (test x ≡ true) × P x) xs) → Somewhere (λ x. (test x ≡ true) × P x) (x ∷ xs)
      go true e (inl h) rec = inl (e, h)
      go true e (inr h) rec = inr (rec h)
      go false e h rec = inr (rec h)

  pub to_filtered : (test : X → Bool) (xs : List X) → Somewhere (λ x. (test x ≡ true) × P x) xs → Somewhere P (filter test xs)
  to_filtered test [] h = absurd h
  to_filtered test (x ∷ xs) h = go (test x) refl h (to_filtered test xs)
    where
      go : (b : Bool) → test x ≡ b → Somewhere (λ x. (test x ≡ true) × P x) (x ∷ xs) → (Somewhere (λ x. (test x ≡ true) × P x) xs → Somewhere P (filter test xs)) → Somewhere P (if b then x ∷ filter test xs else filter test xs)
      go true e (inl h) rec = inl h.1
      go true e (inr h) rec = inr (rec h)
      go false e (inl h) rec = absurd (let f : true ≡ false = sym h.0 ∙ e in cc)
      go false e (inr h) rec = rec h

pub none_of : {X : Type 0} (P : X → Type 0) (xs : List X) → ((x : X) → P x → ⊥) → Somewhere P xs → ⊥
none_of P [] f h = h
none_of P (x ∷ xs) f (inl h) = f x h
none_of P (x ∷ xs) f (inr h) = none_of P xs f h

-- another property of the same elements, under what holds of all of them
pub some_changed : {X : Type 0} (All P Q : X → Type 0) (xs : List X) → AllByRecursion All xs → ((x : X) → All x → P x → Q x) → Somewhere P xs → Somewhere Q xs
some_changed All P Q [] all f h = absurd h
some_changed All P Q (x ∷ xs) all f (inl h) = inl (f x all.0 h)
some_changed All P Q (x ∷ xs) all f (inr h) = inr (some_changed All P Q xs all.1 f h)

module _ {X Y : Type 0} (P : Y → Type 0) where
  pub one_mapped : (f : X → Y) (xs : List X) → Somewhere P (map f xs) → Somewhere (λ x. P (f x)) xs
  one_mapped f [] h = absurd h
  one_mapped f (x ∷ xs) (inl h) = inl h
  one_mapped f (x ∷ xs) (inr h) = inr (one_mapped f xs h)

  pub to_mapped : (f : X → Y) (xs : List X) → Somewhere (λ x. P (f x)) xs → Somewhere P (map f xs)
  to_mapped f [] h = absurd h
  to_mapped f (x ∷ xs) (inl h) = inl h
  to_mapped f (x ∷ xs) (inr h) = inr (to_mapped f xs h)

  pub one_flat : (f : X → List Y) (xs : List X) → Somewhere P (flat_map f xs) → Somewhere (λ x. Somewhere P (f x)) xs
  one_flat f [] h = absurd h
  one_flat f (x ∷ xs) h = elim (either_of P (f x) (flat_map f xs) h) [ inl g ↦ inl g | inr g ↦ inr (one_flat f xs g) ]

  pub to_flat : (f : X → List Y) (xs : List X) → Somewhere (λ x. Somewhere P (f x)) xs → Somewhere P (flat_map f xs)
  to_flat f [] h = absurd h
  to_flat f (x ∷ xs) (inl h) = front_of P (f x) (flat_map f xs) h
  to_flat f (x ∷ xs) (inr h) = back_of P (f x) (flat_map f xs) (to_flat f xs h)

module _ {X : Type 0} (test : X → Bool) where
  pub one_is : (xs : List X) → list_any test xs ≡ true → Somewhere (λ x. test x ≡ true) xs
  one_is [] e = absurd (cc)
  one_is (x ∷ xs) e = go (test x) refl e (one_is xs)
    where
      go : (b : Bool) → test x ≡ b → (b || list_any test xs) ≡ true → (list_any test xs ≡ true → Somewhere (λ x. test x ≡ true) xs) → Somewhere (λ x. test x ≡ true) (x ∷ xs)
      go true f e rec = inl f
      go false f e rec = inr (rec e)

  pub is_one : (xs : List X) → Somewhere (λ x. test x ≡ true) xs → list_any test xs ≡ true
  is_one [] h = absurd h
  is_one (x ∷ xs) (inl h) = rw h refl
  is_one (x ∷ xs) (inr h) = let e = is_one xs h in rw e (either_true (test x))
    where
      either_true : (b : Bool) → (b || true) ≡ true
      either_true true = refl
      either_true false = refl

-- two tests that say the same
pub same_test : (a b : Bool) → (a ≡ true → b ≡ true) → (b ≡ true → a ≡ true) → a ≡ b
same_test true b f g = sym (f refl)
same_test false true f g = g refl
same_test false false f g = refl

-- SEGMENTS BY ADDRESS

module _ (P : Segment → Type 0) where
  one_inserted : (s : Segment) (ts : List Segment) → Somewhere P (insert_segment s ts) → Somewhere P (s ∷ ts)
  one_inserted s [] h = h
  one_inserted s (t ∷ ts) h = go (nat_le s.address t.address) h (one_inserted s ts)
    where
      go : (b : Bool) → Somewhere P (if b then s ∷ t ∷ ts else t ∷ insert_segment s ts) → (Somewhere P (insert_segment s ts) → Somewhere P (s ∷ ts)) → Somewhere P (s ∷ t ∷ ts)
      go true h rec = h
      go false (inl h) rec = inr (inl h)
      go false (inr h) rec = elim (rec h) [ inl f ↦ inl f | inr f ↦ inr (inr f) ]

  to_inserted : (s : Segment) (ts : List Segment) → Somewhere P (s ∷ ts) → Somewhere P (insert_segment s ts)
  to_inserted s [] h = h
  to_inserted s (t ∷ ts) h = go (nat_le s.address t.address) h (to_inserted s ts)
    where
      go : (b : Bool) → Somewhere P (s ∷ t ∷ ts) → (Somewhere P (s ∷ ts) → Somewhere P (insert_segment s ts)) → Somewhere P (if b then s ∷ t ∷ ts else t ∷ insert_segment s ts)
      go true h rec = h
      go false (inl h) rec = inr (rec (inl h))
      go false (inr (inl h)) rec = inl h
      go false (inr (inr h)) rec = inr (rec (inr h))

  pub one_ordered : (ss : List Segment) → Somewhere P (by_address ss) → Somewhere P ss
  one_ordered [] h = h
  one_ordered (s ∷ ss) h = elim (one_inserted s (by_address ss) h) [ inl f ↦ inl f | inr f ↦ inr (one_ordered ss f) ]

  pub to_ordered : (ss : List Segment) → Somewhere P ss → Somewhere P (by_address ss)
  to_ordered [] h = h
  to_ordered (s ∷ ss) (inl h) = to_inserted s (by_address ss) (inl h)
  to_ordered (s ∷ ss) (inr h) = to_inserted s (by_address ss) (inr (to_ordered ss h))

-- CELLS OF REGIONS

-- no two regions have a cell at one address
abbrev pub AreApart : {C : Type 0} → List (Region C) → Type 0
AreApart [] = Unit {0}
AreApart (r ∷ rs) = ((x : ℕ) → IsSome (region_cell r x) → get rs x ≡ None) × AreApart rs

abbrev pub HasCell : {C : Type 0} → ℕ → C → Region C → Type 0
HasCell x c r = region_cell r x ≡ Some c

module _ {C : Type 0} where
  pub one_has : (rs : List (Region C)) (x : ℕ) (c : C) → get rs x ≡ Some c → Somewhere (HasCell x c) rs
  one_has [] x c e = absurd (cc)
  one_has (r ∷ rs) x c e = go (region_cell r x) refl e (one_has rs x c)
    where
      go : (o : Option C) → region_cell r x ≡ o → or_else o (get rs x) ≡ Some c → (get rs x ≡ Some c → Somewhere (HasCell x c) rs) → Somewhere (HasCell x c) (r ∷ rs)
      go None f e rec = inr (rec e)
      go (Some d) f e rec = inl (f ∙ e)

  pub has_one : (rs : List (Region C)) (x : ℕ) (c : C) → Somewhere (HasCell x c) rs → IsSome (get rs x)
  has_one [] x c h = absurd h
  has_one (r ∷ rs) x c (inl h) = rw h refl
  has_one (r ∷ rs) x c (inr h) = go (region_cell r x) (has_one rs x c h)
    where
      go : (o : Option C) → IsSome (get rs x) → IsSome (or_else o (get rs x))
      go None s = s
      go (Some d) s = refl

  pub has_only : (rs : List (Region C)) (x : ℕ) (c : C) → AreApart rs → Somewhere (HasCell x c) rs → get rs x ≡ Some c
  has_only [] x c apart h = absurd h
  has_only (r ∷ rs) x c apart (inl h) = rw h refl
  has_only (r ∷ rs) x c apart (inr h) = go (region_cell r x) refl (has_only rs x c apart.1 h)
    where
      go : (o : Option C) → region_cell r x ≡ o → get rs x ≡ Some c → or_else o (get rs x) ≡ Some c
      go None f e = e
      go (Some d) f e =
          let none : get rs x ≡ None = apart.0 x (rw f refl) in
          absurd (let g : None ≡ Some c = sym none ∙ e in cc)

pub none_some : {C : Type 0} (o : Option C) → o ≡ None → IsSome o → ⊥
none_some None e h = absurd (cc)
none_some (Some c) e h = absurd (cc)

-- Two memories agree at an address where a cell of either leads to a cell of the other, and the first has one alone there.
pub agree_by : {C D : Type 0} (R : C → D → Type 0) (rs : List (Region C)) (qs : List (Region D)) (x : ℕ) → AreApart rs → ((d : D) → Somewhere (HasCell x d) qs → (c : C) × Somewhere (HasCell x c) rs × R c d) → ((c : C) → Somewhere (HasCell x c) rs → (d : D) × Somewhere (HasCell x d) qs) → Agree R (get rs x) (get qs x)
agree_by {C} {D} R rs qs x apart sound complete = go (get qs x) refl
  where
    none : (o : Option C) → get rs x ≡ o → get qs x ≡ None → Agree R o None
    none None e f = tt
    none (Some c) e f =
        let found = complete c (one_has rs x c e) in
        absurd (none_some (get qs x) f (has_one qs x found.0 found.1))

    go : (o : Option D) → get qs x ≡ o → Agree R (get rs x) o
    go None f = none (get rs x) refl f
    go (Some d) f =
        let found = sound d (one_has qs x d f) in
        let e : get rs x ≡ Some found.0 = has_only rs x found.0 apart found.1 in
        rw e found.2

-- REGIONS THAT ARE APART

both_inside : (a size b other x : ℕ) → meets a size b other ≡ false → a ≤ x → x < a + size → b ≤ x → x < b + other → ⊥
both_inside a size b other x e l m p q =
    let s : nat_lt 0 size ≡ true = lt_is 0 size (omega (arith, l, m)) in
    let t : nat_lt 0 other ≡ true = lt_is 0 other (omega (arith, p, q)) in
    let u : nat_lt a (b + other) ≡ true = lt_is a (b + other) (omega (arith, l, q)) in
    let v : nat_lt b (a + size) ≡ true = lt_is b (a + size) (omega (arith, p, m)) in
    let yes : meets a size b other ≡ true = rw (s, t, u, v) refl in
    let no : true ≡ false = sym yes ∙ e in
    cc
  where
    lt_is : (a b : ℕ) → a < b → nat_lt a b ≡ true
    lt_is a b lt = grind (arith, nat_tests)

-- each region stands where its piece does
abbrev pub AreParallel : {C : Type 0} → List MemoryPiece → List (Region C) → Type 0
AreParallel [] [] = Unit {0}
AreParallel [] (r ∷ rs) = ⊥
AreParallel (m ∷ ms) [] = ⊥
AreParallel (m ∷ ms) (r ∷ rs) = (r.start ≡ m.address) × (length r.cells ≡ m.length) × AreParallel ms rs

module _ {C : Type 0} where
  pub parallel_append : (ms ns : List MemoryPiece) (rs qs : List (Region C)) → AreParallel ms rs → AreParallel ns qs → AreParallel (ms ++ ns) (rs ++ qs)
  parallel_append [] ns [] qs h k = k
  parallel_append [] ns (r ∷ rs) qs h k = absurd h
  parallel_append (m ∷ ms) ns [] qs h k = absurd h
  parallel_append (m ∷ ms) ns (r ∷ rs) qs h k = (h.0, h.1, parallel_append ms ns rs qs h.2 k)

  some_inside : (r : Region C) (x : ℕ) → IsSome (region_cell r x) → (r.start ≤ x) × (x < r.start + length r.cells)
  some_inside r x h = go (nat_le r.start x) refl h
    where
      go : (b : Bool) → nat_le r.start x ≡ b → IsSome (if b then slice_get r.cells (x - r.start) else None) → (r.start ≤ x) × (x < r.start + length r.cells)
      go false e h = absurd (cc)
      go true e h =
          let low : r.start ≤ x = grind (arith, nat_tests) in
          elim (cases_lt x (r.start + length r.cells)) [
            | inl less ↦ (low, less)
            | inr past ↦
                let none : slice_get r.cells (x - r.start) ≡ None = slice_get_past r.cells (x - r.start) (omega (arith, low, past)) in
                absurd (none_some (slice_get r.cells (x - r.start)) none h)
          ]

  alone : (m : MemoryPiece) (r : Region C) (ms : List MemoryPiece) (rs : List (Region C)) (x : ℕ) → r.start ≡ m.address → length r.cells ≡ m.length → AreParallel ms rs → AllByRecursion (λ q. pieces_meet m q ≡ false) ms → IsSome (region_cell r x) → get rs x ≡ None
  alone m r [] [] x start size par all h = refl
  alone m r [] (q ∷ rs) x start size par all h = absurd par
  alone m r (n ∷ ms) [] x start size par all h = absurd par
  alone m r (n ∷ ms) (q ∷ rs) x start size par all h = go (region_cell q x) refl (alone m r ms rs x start size par.2 all.1 h)
    where
      go : (o : Option C) → region_cell q x ≡ o → get rs x ≡ None → or_else o (get rs x) ≡ None
      go None e none = none
      go (Some c) e none =
          let here = some_inside r x h in
          let there = some_inside q x (rw e refl) in
          let a = par.0 in
          let b = par.1 in
          absurd (both_inside m.address m.length n.address n.length x all.0 (omega (arith, here.0, start)) (omega (arith, here.1, start, size)) (omega (arith, there.0, a)) (omega (arith, there.1, a, b)))

  pub regions_apart : (ms : List MemoryPiece) (rs : List (Region C)) → AreParallel ms rs → elf.AreApart ms → AreApart rs
  regions_apart [] [] par apart = tt
  regions_apart [] (r ∷ rs) par apart = absurd par
  regions_apart (m ∷ ms) [] par apart = absurd par
  regions_apart (m ∷ ms) (r ∷ rs) par apart = (λ x h. alone m r ms rs x par.0 par.1 par.2 apart.0 h, regions_apart ms rs par.2 apart.1)
