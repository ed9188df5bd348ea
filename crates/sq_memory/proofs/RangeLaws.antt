-- Laws of contents, a range of addresses at a time.
use Rattle.std.proofs.Common.{◌≡◌, ◌↔◌, ℕ, true, zero, suc, ◌+◌, ◌<◌, ◌≤◌, ◌⊎◌, inl, inr, List, [], ◌∷◌, ◌++◌, length, map, Option, Some, None, IsSome, is_some, option_map, slice_get, refl, ap, ap₂, ◌∙◌, subst, arith}
use Rattle.std.proofs.Math.Nat.{suc-add}
use Rattle.sq_memory.specs.Cells.{Cells, with_cell, with_cells, cons_some, cells_from, map_cells, ArePresent, Agree, AllAgree, AgreeOn}
use Rattle.sq_memory.proofs.CellLaws.{with_cell-same, with_cell-other, with_cell-present, map_cells-with_cell, with_cell-agree}

-- before the range and behind it nothing changes
pub with_cells-before : {C : Type 0} (cs : List C) (m : Cells C) (x y : ℕ) → y < x → with_cells m x cs y ≡ m y
with_cells-before [] m x y l = refl
with_cells-before (c ∷ cs) m x y l = with_cells-before cs (with_cell m x c) (x + 1) y (omega arith) ∙ with_cell-other m x y c (omega arith)

pub with_cells-behind : {C : Type 0} (cs : List C) (m : Cells C) (x y : ℕ) → x + length cs ≤ y → with_cells m x cs y ≡ m y
with_cells-behind [] m x y l = refl
with_cells-behind (c ∷ cs) m x y l = with_cells-behind cs (with_cell m x c) (x + 1) y (omega arith) ∙ with_cell-other m x y c (omega arith)

pub with_cells-present : {C : Type 0} (cs : List C) (m : Cells C) (x y : ℕ) → is_some (with_cells m x cs y) ≡ is_some (m y)
with_cells-present [] m x y = refl
with_cells-present (c ∷ cs) m x y = with_cells-present cs (with_cell m x c) (x + 1) y ∙ with_cell-present m x c y

-- in the range the cells stand in their order
pub with_cells-inside : {C : Type 0} (cs : List C) (m : Cells C) (x i : ℕ) → i < length cs → IsSome (m (x + i)) → with_cells m x cs (x + i) ≡ slice_get cs i
with_cells-inside [] m x i l h = absurd (omega arith)
with_cells-inside (c ∷ cs) m x zero l h =
    let e : x + 0 ≡ x = omega arith in
    rw e (with_cells-before cs (with_cell m x c) (x + 1) x (omega arith) ∙ with_cell-same m x c (subst (λ y. IsSome (m y)) e h))
with_cells-inside (c ∷ cs) m x (suc i) l h =
    let e : x + suc i ≡ (x + 1) + i = omega arith in
    let there : IsSome (with_cell m x c ((x + 1) + i)) = with_cell-present m x c ((x + 1) + i) ∙ subst (λ y. IsSome (m y)) e h in
    rw e (with_cells-inside cs (with_cell m x c) (x + 1) i (omega arith) there)

pub map_cells-with_cells : {C D : Type 0} (f : C → D) (cs : List C) (m : Cells C) (x : ℕ) → map_cells f (with_cells m x cs) ≡ with_cells (map_cells f m) x (map f cs)
map_cells-with_cells f [] m x = refl
map_cells-with_cells f (c ∷ cs) m x = map_cells-with_cells f cs (with_cell m x c) (x + 1) ∙ ap (λ k. with_cells k (x + 1) (map f cs)) (map_cells-with_cell f m x c)

pub with_cells-agree : {C D : Type 0} (P : ℕ → Type 0) (R : C → D → Type 0) (cs : List C) (ds : List D) (m : Cells C) (n : Cells D) (x : ℕ) → AllAgree R cs ds → AgreeOn P R m n → AgreeOn P R (with_cells m x cs) (with_cells n x ds)
with_cells-agree P R [] [] m n x r a = a
with_cells-agree P R [] (d ∷ ds) m n x r a = absurd r
with_cells-agree P R (c ∷ cs) [] m n x r a = absurd r
with_cells-agree P R (c ∷ cs) (d ∷ ds) m n x r a =
    with_cells-agree P R cs ds (with_cell m x c) (with_cell n x d) (x + 1) r.1 (with_cell-agree P R m n x c d r.0 a)

pub with_cells-append : {C : Type 0} (cs ds : List C) (m : Cells C) (x : ℕ) → with_cells m x (cs ++ ds) ≡ with_cells (with_cells m x cs) (x + length cs) ds
with_cells-append [] ds m x = let e : x + 0 ≡ x = omega arith in rw e refl
with_cells-append (c ∷ cs) ds m x =
    let e : x + suc (length cs) ≡ (x + 1) + length cs = omega arith in rw e (with_cells-append cs ds (with_cell m x c) (x + 1))

-- the cells of a range of two contents that agree there
pub joined_both : {C D : Type 0} (R : C → D → Type 0) (o : Option C) (p : Option D) (os : Option (List C)) (ps : Option (List D)) → Agree R o p → Agree (AllAgree R) os ps → Agree (AllAgree R) (cons_some o os) (cons_some p ps)
joined_both R None None os ps b bs = tt
joined_both R None (Some d) os ps b bs = absurd b
joined_both R (Some c) None os ps b bs = absurd b
joined_both R (Some c) (Some d) None None b bs = tt
joined_both R (Some c) (Some d) None (Some ds) b bs = absurd bs
joined_both R (Some c) (Some d) (Some cs) None b bs = absurd bs
joined_both R (Some c) (Some d) (Some cs) (Some ds) b bs = (b, bs)

pub cells_from-agree : {C D : Type 0} (P : ℕ → Type 0) (R : C → D → Type 0) (k : ℕ) (m : Cells C) (n : Cells D) (x : ℕ) → ((i : ℕ) → i < k → P (x + i)) → AgreeOn P R m n → Agree (AllAgree R) (cells_from m x k) (cells_from n x k)
cells_from-agree P R zero m n x p a = tt
cells_from-agree P R (suc k) m n x p a =
    let e : x + 0 ≡ x = omega arith in
    joined_both R (m x) (n x) (cells_from m (x + 1) k) (cells_from n (x + 1) k) (a x (subst P e (p 0 (omega arith))))
    (cells_from-agree P R k m n (x + 1) (λ i l. let f : x + suc i ≡ (x + 1) + i = omega arith in subst P f (p (suc i) (omega arith))) a)

pub cells_from-same : {C : Type 0} (k : ℕ) (m n : Cells C) (x : ℕ) → ((i : ℕ) → i < k → m (x + i) ≡ n (x + i)) → cells_from m x k ≡ cells_from n x k
cells_from-same zero m n x h = refl
cells_from-same (suc k) m n x h =
    let e : x + 0 ≡ x = omega arith in
    ap₂ cons_some (subst (λ y. m y ≡ n y) e (h 0 (omega arith)))
    (cells_from-same k m n (x + 1) (λ i l. let f : x + suc i ≡ (x + 1) + i = omega arith in subst (λ y. m y ≡ n y) f (h (suc i) (omega arith))))

joined_mapped : {C D : Type 0} (f : C → D) (o : Option C) (os : Option (List C)) → cons_some (option_map f o) (option_map (map f) os) ≡ option_map (map f) (cons_some o os)
joined_mapped f None os = refl
joined_mapped f (Some c) None = refl
joined_mapped f (Some c) (Some cs) = refl

pub cells_from-map_cells : {C D : Type 0} (f : C → D) (k : ℕ) (m : Cells C) (x : ℕ) → cells_from (map_cells f m) x k ≡ option_map (map f) (cells_from m x k)
cells_from-map_cells f zero m x = refl
cells_from-map_cells f (suc k) m x = ap (cons_some (option_map f (m x))) (cells_from-map_cells f k m (x + 1)) ∙ joined_mapped f (m x) (cells_from m (x + 1) k)

-- the cells of a range stand there, one by one
abbrev Taken : {C : Type 0} → Cells C → ℕ → ℕ → List C → Type 0
Taken m x k cs = (length cs ≡ k) × ((i : ℕ) → i < k → m (x + i) ≡ slice_get cs i)

more_taken : {C : Type 0} (k : ℕ) (m : Cells C) (x : ℕ) (o : Option C) (os : Option (List C)) (cs : List C) → m x ≡ o → ((ds : List C) → os ≡ Some ds → Taken m (x + 1) k ds) → cons_some o os ≡ Some cs → Taken m x (suc k) cs
more_taken k m x None os cs p f h = absurd (cc)
more_taken k m x (Some c) None cs p f h = absurd (cc)
more_taken {C} k m x (Some c) (Some ds) cs p f h =
    let e : c ∷ ds ≡ cs = cc in
    let r = f ds refl in
    subst (λ (l : List C). Taken m x (suc k) l) e (ap suc r.0, at r.1)
  where
    at : ((i : ℕ) → i < k → m ((x + 1) + i) ≡ slice_get ds i) → (i : ℕ) → i < suc k → m (x + i) ≡ slice_get (c ∷ ds) i
    at g zero l = let z : x + 0 ≡ x = omega arith in rw z p
    at g (suc i) l = let z : x + suc i ≡ (x + 1) + i = omega arith in rw z (g i (omega arith))

pub cells_from_some : {C : Type 0} (k : ℕ) (m : Cells C) (x : ℕ) (cs : List C) → cells_from m x k ≡ Some cs → (length cs ≡ k) × ((i : ℕ) → i < k → m (x + i) ≡ slice_get cs i)
cells_from_some {C} zero m x cs h = let e : [] ≡ cs = cc in subst (λ (l : List C). Taken m x 0 l) e (refl, λ i l. absurd (omega arith))
cells_from_some (suc k) m x cs h = more_taken k m x (m x) (cells_from m (x + 1) k) cs refl (λ ds. cells_from_some k m (x + 1) ds) h

pub cells_from_is : {C : Type 0} (cs : List C) (m : Cells C) (x : ℕ) → ((i : ℕ) → i < length cs → m (x + i) ≡ slice_get cs i) → cells_from m x (length cs) ≡ Some cs
cells_from_is [] m x h = refl
cells_from_is (c ∷ cs) m x h =
    let e : x + 0 ≡ x = omega arith in
    let here : m x ≡ Some c = subst (λ y. m y ≡ Some c) e (h 0 (omega arith)) in
    let rest : cells_from m (x + 1) (length cs) ≡ Some cs = cells_from_is cs m (x + 1) (λ i l. let f : x + suc i ≡ (x + 1) + i = omega arith in subst (λ y. m y ≡ slice_get cs i) f (h (suc i) (omega arith))) in
    rw (here, rest) refl

joined_some : {C : Type 0} (o : Option C) (os : Option (List C)) → IsSome o → IsSome os → IsSome (cons_some o os)
joined_some None os a b = absurd (cc)
joined_some (Some c) None a b = absurd (cc)
joined_some (Some c) (Some cs) a b = refl

some_joined : {C : Type 0} (o : Option C) (os : Option (List C)) → IsSome (cons_some o os) → IsSome o × IsSome os
some_joined None os h = absurd (cc)
some_joined (Some c) None h = absurd (cc)
some_joined (Some c) (Some cs) h = (refl, refl)

-- a range has its cells exactly where all of them are there
pub present_cells_from : {C : Type 0} (k : ℕ) (m : Cells C) (x : ℕ) → ArePresent m x k → IsSome (cells_from m x k)
present_cells_from zero m x h = refl
present_cells_from (suc k) m x h =
    let e : x + 0 ≡ x = omega arith in
    joined_some (m x) (cells_from m (x + 1) k) (subst (λ y. IsSome (m y)) e (h 0 (omega arith)))
    (present_cells_from k m (x + 1) (λ i l. let f : x + suc i ≡ (x + 1) + i = omega arith in subst (λ y. IsSome (m y)) f (h (suc i) (omega arith))))

pub cells_from_present : {C : Type 0} (k : ℕ) (m : Cells C) (x : ℕ) → IsSome (cells_from m x k) → ArePresent m x k
cells_from_present zero m x h i l = absurd (omega arith)
cells_from_present (suc k) m x h zero l = let e : x + 0 ≡ x = omega arith in rw e (some_joined (m x) (cells_from m (x + 1) k) h).0
cells_from_present (suc k) m x h (suc i) l =
    let e : x + suc i ≡ (x + 1) + i = omega arith in
    rw e (cells_from_present k m (x + 1) (some_joined (m x) (cells_from m (x + 1) k) h).1 i (omega arith))

-- what was written is read back
pub cells_from-with_cells : {C : Type 0} (cs : List C) (m : Cells C) (x : ℕ) → ArePresent m x (length cs) → cells_from (with_cells m x cs) x (length cs) ≡ Some cs
cells_from-with_cells cs m x h = cells_from_is cs (with_cells m x cs) x (λ i l. with_cells-inside cs m x i l (h i l))

-- and a range apart is as before
pub cells_from-apart : {C : Type 0} (cs : List C) (m : Cells C) (x y k : ℕ) → (y + k ≤ x) ⊎ (x + length cs ≤ y) → cells_from (with_cells m x cs) y k ≡ cells_from m y k
cells_from-apart cs m x y k (inl l) = cells_from-same k (with_cells m x cs) m y (λ i h. with_cells-before cs m x (y + i) (omega arith))
cells_from-apart cs m x y k (inr l) = cells_from-same k (with_cells m x cs) m y (λ i h. with_cells-behind cs m x (y + i) (omega arith))

pub with_cells-apart : {C : Type 0} (cs : List C) (m : Cells C) (x y : ℕ) → (y < x) ⊎ (x + length cs ≤ y) → with_cells m x cs y ≡ m y
with_cells-apart cs m x y (inl l) = with_cells-before cs m x y l
with_cells-apart cs m x y (inr l) = with_cells-behind cs m x y l

pub cells_from_exact : {C : Type 0} (m : Cells C) (x n : ℕ) (cs : List C) → (cells_from m x n ≡ Some cs) ↔ ((length cs ≡ n) × ((i : ℕ) → i < n → m (x + i) ≡ slice_get cs i))
cells_from_exact m x n cs = (
  cells_from_some n m x cs,
  λ h. subst (λ k. cells_from m x k ≡ Some cs) h.0 (cells_from_is cs m x (λ i l. h.1 i (subst (λ k. i < k) h.0 l))),
)

pub cells_from_where_present : {C : Type 0} (m : Cells C) (x n : ℕ) → IsSome (cells_from m x n) ↔ ArePresent m x n
cells_from_where_present m x n = (cells_from_present n m x, present_cells_from n m x)

-- one cell more
pub cells_from-more : {C : Type 0} (n : ℕ) (m : Cells C) (x : ℕ) (cs : List C) (c : C) → cells_from m x n ≡ Some cs → m (x + n) ≡ Some c → cells_from m x (n + 1) ≡ Some (cs ++ c ∷ [])
cells_from-more {C} zero m x cs c t h =
    let e : x + 0 ≡ x = omega arith in
    let f : [] ≡ cs = cc in
    let here : m x ≡ Some c = subst (λ y. m y ≡ Some c) e h in
    rw here (ap (λ (l : List C). Some (l ++ c ∷ [])) f)
cells_from-more (suc n) m x cs c t h =
    let e : x + suc n ≡ (x + 1) + n = omega arith in
    rw suc-add (more_joined (m x) (cells_from m (x + 1) n) (cells_from m (x + 1) (n + 1)) cs c t (λ ds f. cells_from-more n m (x + 1) ds c f (subst (λ y. m y ≡ Some c) e h)))
  where
    more_joined : {C : Type 0} (o : Option C) (os more : Option (List C)) (cs : List C) (c : C) → cons_some o os ≡ Some cs → ((ds : List C) → os ≡ Some ds → more ≡ Some (ds ++ c ∷ [])) → cons_some o more ≡ Some (cs ++ c ∷ [])
    more_joined None os more cs c t f = absurd (cc)
    more_joined (Some b) None more cs c t f = absurd (cc)
    more_joined {C} (Some b) (Some ds) more cs c t f =
        let e : b ∷ ds ≡ cs = cc in rw (f ds refl) (ap (λ (l : List C). Some (l ++ c ∷ [])) e)

-- one of them absent
pub cells_from-none : {C : Type 0} (m : Cells C) (x n i : ℕ) → i < n → m (x + i) ≡ None → cells_from m x n ≡ None
cells_from-none {C} m x n i l h = tell (cells_from m x n) (λ s. cells_from_present n m x s i l)
  where
    tell : (o : Option (List C)) → (IsSome o → IsSome (m (x + i))) → o ≡ None
    tell None f = refl
    tell (Some cs) f = let e : is_some (m (x + i)) ≡ true = f refl in absurd (cc)
