-- Pages that change: what stands where behind it.
use Rattle.std.proofs.Common.{◌≡◌, ◌≢◌, ℕ, zero, suc, ◌<◌, ◌/◌, ◌%◌, Bool, true, false, nat_eq, List, [], ◌∷◌, ◌++◌, length, map, get_or, replicate, slice_set, Option, Some, None, if◌then◌else◌, refl, sym, ap, subst, ◌∙◌, arith, ne_eqb}
use Rattle.std.proofs.lemmas.Bool.{eqb-true, eqb-false}
use Rattle.std.proofs.lemmas.List.{get_or-replicate, get_or-set_same, get_or-set_other, get_or-map, length-map, length-set}
use Rattle.sq_memory.specs.Regions.{or_else}
use Rattle.sq_pages.specs.declared.page.Page.{Page}
use Rattle.sq_pages.specs.Pages.{Sheet, Alike, sheet_of, sheet_cell, sheet_at, cells_of, is_ready, is_ready_sheet}

-- a page with the same entry for each place
pub same_at : {C : Type 0} (items : List (Option C)) (o : Option C) → items ≡ replicate 4096 o → (i : ℕ) → i < 4096 → get_or items i None ≡ o
same_at items o e i h = ap (λ xs. get_or xs i None) e ∙ get_or-replicate 4096 i o None h

pub map-set : {A B : Type 0} (f : A → B) (xs : List A) (i : ℕ) (y : A) → map f (slice_set xs i y) ≡ slice_set (map f xs) i (f y)
map-set f [] i y = refl
map-set f (x ∷ xs) zero y = refl
map-set f (x ∷ xs) (suc i) y = ap (λ ys. f x ∷ ys) (map-set f xs i y)

module _ {C : Type 0} (ss : List (Sheet C)) (p : ℕ) (s : Sheet C) (within : p < length ss) where
  in_page : (y : ℕ) → y / 4096 ≡ p → sheet_at (slice_set ss p s) y ≡ s
  in_page y e = ap (λ q. get_or (slice_set ss p s) q (Alike None)) e ∙ get_or-set_same ss p s (Alike None) within

  elsewhere : (y : ℕ) → y / 4096 ≢ p → sheet_at (slice_set ss p s) y ≡ sheet_at ss y
  elsewhere y n = get_or-set_other ss p (y / 4096) s (Alike None) n

  -- a page that changes what stands there by f, which changes nothing elsewhere
  pub by_page : (f : ℕ → Option C → Option C) → ((y : ℕ) → y / 4096 ≡ p → sheet_cell s (y % 4096) ≡ f y (cells_of ss y)) →
      ((y : ℕ) → y / 4096 ≢ p → f y (cells_of ss y) ≡ cells_of ss y) → cells_of (slice_set ss p s) ≡ (λ y. f y (cells_of ss y))
  by_page f there other = λ i y. tell y (nat_eq (y / 4096) p) refl i
    where
      tell : (y : ℕ) (b : Bool) → nat_eq (y / 4096) p ≡ b → cells_of (slice_set ss p s) y ≡ f y (cells_of ss y)
      tell y true e = ap (λ t. sheet_cell t (y % 4096)) (in_page y (eqb-true (y / 4096) p e)) ∙ there y (eqb-true (y / 4096) p e)
      tell y false e = ap (λ t. sheet_cell t (y % 4096)) (elsewhere y (eqb-false (y / 4096) p e)) ∙ sym (other y (eqb-false (y / 4096) p e))

same_place : (x y : ℕ) → x / 4096 ≡ y / 4096 → x % 4096 ≡ y % 4096 → x ≡ y
same_place x y e f = omega arith

eq_self : (n : ℕ) → nat_eq n n ≡ true
eq_self n = grind arith

-- in a page addresses are told apart by their places
pub place_tests : (x y : ℕ) → y / 4096 ≡ x / 4096 → nat_eq (y % 4096) (x % 4096) ≡ nat_eq y x
place_tests x y e = tell (nat_eq y x) refl
  where
    tell : (b : Bool) → nat_eq y x ≡ b → nat_eq (y % 4096) (x % 4096) ≡ b
    tell true f = ap (λ z. nat_eq (z % 4096) (x % 4096)) (eqb-true y x f) ∙ eq_self (x % 4096)
    tell false f = ne_eqb (y % 4096) (x % 4096) (λ g. eqb-false y x f (same_place y x e g))

other_page : (x y : ℕ) → y / 4096 ≢ x / 4096 → nat_eq y x ≡ false
other_page x y n = ne_eqb y x (λ e. n (ap (λ z. z / 4096) e))

-- what becomes of one address
abbrev at_address : {C : Type 0} → ℕ → (Option C → Option C) → ℕ → Option C → Option C
at_address x f y o = if nat_eq y x then f o else o

-- A page in which one place changes by f.
pub by_place : {C : Type 0} (ss : List (Sheet C)) (x : ℕ) (s : Sheet C) (f : Option C → Option C) → x / 4096 < length ss →
    ((i : ℕ) → i < 4096 → sheet_cell s i ≡ (if nat_eq i (x % 4096) then f (sheet_cell (sheet_at ss x) i) else sheet_cell (sheet_at ss x) i)) →
    cells_of (slice_set ss (x / 4096) s) ≡ (λ y. if nat_eq y x then f (cells_of ss y) else cells_of ss y)
by_place ss x s f within is = by_page ss (x / 4096) s within (at_address x f) there (λ y n. ap (λ b. if b then f (cells_of ss y) else cells_of ss y) (other_page x y n))
  where
    there : (y : ℕ) → y / 4096 ≡ x / 4096 → sheet_cell s (y % 4096) ≡ at_address x f y (cells_of ss y)
    there y e =
        let small : y % 4096 < 4096 = omega arith in
        let same : sheet_at ss x ≡ sheet_at ss y = ap (λ q. get_or ss q (Alike None)) (sym e) in
        is (y % 4096) small ∙ ap (λ t. if nat_eq (y % 4096) (x % 4096) then f (sheet_cell t (y % 4096)) else sheet_cell t (y % 4096)) same
        ∙ ap (λ b. if b then f (cells_of ss y) else cells_of ss y) (place_tests x y e)

-- A page in which no place changes.
pub by_none : {C : Type 0} (ss : List (Sheet C)) (p : ℕ) (s : Sheet C) → p < length ss →
    ((i : ℕ) → i < 4096 → sheet_cell s i ≡ sheet_cell (get_or ss p (Alike None)) i) → cells_of (slice_set ss p s) ≡ cells_of ss
by_none ss p s within is = by_page ss p s within (λ y o. o) there (λ y n. refl)
  where
    there : (y : ℕ) → y / 4096 ≡ p → sheet_cell s (y % 4096) ≡ cells_of ss y
    there y e =
        let small : y % 4096 < 4096 = omega arith in
        is (y % 4096) small ∙ ap (λ q. sheet_cell (get_or ss q (Alike None)) (y % 4096)) (sym e)

pub within_of : {C : Type 0} (items : List (Page C)) (ss : List (Sheet C)) (p : ℕ) → map sheet_of items ≡ ss → p < length ss → p < length items
within_of items ss p view h = let e : length items ≡ length ss = sym (length-map items sheet_of) ∙ ap length view in omega arith

-- A page in the list of pages, before and behind a change.
module _ {C : Type 0} (items : List (Page C)) (ss : List (Sheet C)) (p : ℕ) (old new : Page C) (view : map sheet_of items ≡ ss) (within : p < length items) (at : old ≡ get_or items p old) where
  inside : p < length ss
  inside = let e : length items ≡ length ss = sym (length-map items sheet_of) ∙ ap length view in omega arith

  old_is : sheet_of old ≡ get_or ss p (Alike None)
  old_is = ap sheet_of at ∙ sym (get_or-map sheet_of items p old (Alike None) within) ∙ ap (λ xs. get_or xs p (Alike None)) view

  new_is : map sheet_of (slice_set items p new) ≡ slice_set ss p (sheet_of new)
  new_is = map-set sheet_of items p new ∙ ap (λ xs. slice_set xs p (sheet_of new)) view

  pub place_changed : (x place : ℕ) → p ≡ x / 4096 → place ≡ x % 4096 → (f : Option C → Option C) →
      ((i : ℕ) → sheet_cell (sheet_of new) i ≡ (if nat_eq i place then f (sheet_cell (sheet_of old) i) else sheet_cell (sheet_of old) i)) →
      cells_of (map sheet_of (slice_set items p new)) ≡ (λ y. if nat_eq y x then f (cells_of ss y) else cells_of ss y)
  place_changed x place e e' f is =
      let within' : x / 4096 < length ss = subst (λ q. q < length ss) e inside in
      let old' : sheet_of old ≡ sheet_at ss x = old_is ∙ ap (λ q. get_or ss q (Alike None)) e in
      let is' : (i : ℕ) → i < 4096 → sheet_cell (sheet_of new) i ≡ (if nat_eq i (x % 4096) then f (sheet_cell (sheet_at ss x) i) else sheet_cell (sheet_at ss x) i) =
      λ i h. is i ∙ ap (λ q. if nat_eq i q then f (sheet_cell (sheet_of old) i) else sheet_cell (sheet_of old) i) e' ∙ ap (λ t. if nat_eq i (x % 4096) then f (sheet_cell t i) else sheet_cell t i) old' in
      ap cells_of new_is ∙ ap (λ q. cells_of (slice_set ss q (sheet_of new))) e ∙ by_place ss x (sheet_of new) f within' is'

  pub page_kept : ((i : ℕ) → i < 4096 → sheet_cell (sheet_of new) i ≡ sheet_cell (sheet_of old) i) → cells_of (map sheet_of (slice_set items p new)) ≡ cells_of ss
  page_kept is = ap cells_of new_is ∙ by_none ss p (sheet_of new) inside (λ i h. is i h ∙ ap (λ t. sheet_cell t i) old_is)

  pub ready_kept : (is_ready_sheet (sheet_of old) ≡ true → is_ready_sheet (sheet_of new) ≡ true) → (y : ℕ) → is_ready ss y ≡ true → is_ready (map sheet_of (slice_set items p new)) y ≡ true
  ready_kept r y h = ap (λ ts. is_ready ts y) new_is ∙ tell (nat_eq (y / 4096) p) refl
    where
      tell : (b : Bool) → nat_eq (y / 4096) p ≡ b → is_ready (slice_set ss p (sheet_of new)) y ≡ true
      tell true e =
          let q : y / 4096 ≡ p = eqb-true (y / 4096) p e in
          let before : is_ready_sheet (sheet_of old) ≡ true = ap is_ready_sheet (old_is ∙ ap (λ z. get_or ss z (Alike None)) (sym q)) ∙ h in
          ap is_ready_sheet (in_page ss p (sheet_of new) inside y q) ∙ r before
      tell false e = ap is_ready_sheet (elsewhere ss p (sheet_of new) inside y (eqb-false (y / 4096) p e)) ∙ h

  pub ready_now : is_ready_sheet (sheet_of new) ≡ true → (y : ℕ) → p ≡ y / 4096 → is_ready (map sheet_of (slice_set items p new)) y ≡ true
  ready_now r y e = ap (λ ts. is_ready ts y) new_is ∙ ap is_ready_sheet (in_page ss p (sheet_of new) inside y (sym e)) ∙ r

  was_ready : (y : ℕ) → p ≡ y / 4096 → is_ready ss y ≡ true → is_ready_sheet (sheet_of old) ≡ true
  was_ready y e h = ap is_ready_sheet (old_is ∙ ap (λ z. get_or ss z (Alike None)) e) ∙ h

  pub page_is : sheet_of new ≡ get_or (map sheet_of (slice_set items p new)) p (Alike None)
  page_is = sym (ap (λ ts. get_or ts p (Alike None)) new_is ∙ get_or-set_same ss p (sheet_of new) (Alike None) inside)

  pub inside_still : p < length (map sheet_of (slice_set items p new))
  inside_still = let e : length (slice_set ss p (sheet_of new)) ≡ length ss = length-set ss p (sheet_of new) in subst (λ ts. p < length ts) (sym new_is) (subst (λ n. p < n) (sym e) inside)

  pub page_filled : (c : C) → ((i : ℕ) → i < 4096 → sheet_cell (sheet_of new) i ≡ or_else (sheet_cell (sheet_of old) i) (Some c)) →
      (map sheet_of (slice_set items p new) ≡ slice_set ss p (sheet_of new)) × (p < length ss) × ((i : ℕ) → i < 4096 → sheet_cell (sheet_of new) i ≡ or_else (sheet_cell (get_or ss p (Alike None)) i) (Some c))
  page_filled c is = (new_is, inside, λ i h. is i h ∙ ap (λ t. or_else (sheet_cell t i) (Some c)) old_is)

-- a page more, in which nothing stands
pub pushed : {C : Type 0} (ss : List (Sheet C)) → cells_of (ss ++ Alike None ∷ []) ≡ cells_of ss
pushed ss = λ i x. ap (λ t. sheet_cell t (x % 4096)) (past ss (x / 4096)) i
  where
    past : {C : Type 0} (ss : List (Sheet C)) (k : ℕ) → get_or (ss ++ Alike None ∷ []) k (Alike None) ≡ get_or ss k (Alike None)
    past [] zero = refl
    past [] (suc k) = refl
    past (s ∷ ss) zero = refl
    past (s ∷ ss) (suc k) = past ss k
