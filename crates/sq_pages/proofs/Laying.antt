-- Contents over others.
use Rattle.std.proofs.Common.{◌≡◌, ◌≢◌, ℕ, zero, suc, ◌+◌, ◌-◌, ◌*◌, ◌<◌, ◌≤◌, ◌/◌, ◌%◌, Bool, true, false, ◌&&◌, ◌||◌, nat_eq, nat_le, nat_lt, min, max, List, [], ◌∷◌, ◌++◌, length, get_or, take, slice_get, slice_set, Option, Some, None, IsSome, Result, Ok, Err, OnOk, OnErr, if◌then◌else◌, refl, sym, ap, subst, ◌∙◌, arith}
use Rattle.std.proofs.lemmas.Grind.{take_at_read, common_steps}
use Rattle.sq_memory.specs.Cells.{Cells}
use Rattle.sq_memory.specs.Regions.{region_cell, or_else}
use Rattle.sq_pages.specs.Pages.{Sheet, sheet_cell, cells_of, over, one_cell, same_cell, Keeps}
use Rattle.sq_pages.proofs.Sheets.{by_page}

pub or_none : {C : Type 0} (o : Option C) → or_else o None ≡ o
or_none None = refl
or_none (Some c) = refl

or_twice : {C : Type 0} (o p q : Option C) → or_else (or_else o p) q ≡ or_else o (or_else p q)
or_twice None p q = refl
or_twice (Some c) p q = refl

pub over_twice : {C : Type 0} (m r s : Cells C) → over (over m r) s ≡ over m (over r s)
over_twice m r s = λ i x. or_twice (m x) (r x) (s x) i

or_keeps : {C : Type 0} (o p : Option C) → IsSome o → or_else o p ≡ o
or_keeps None p h = absurd (cc)
or_keeps (Some c) p h = refl

-- what stands above stays
pub over_keeps : {C : Type 0} (m r n : Cells C) → n ≡ over m r → Keeps m n
over_keeps m r n e x h = ap (λ k. k x) e ∙ or_keeps (m x) (r x) h

-- what stood stays, whatever keeps it from then on
pub keeps_over : {C : Type 0} (m r s n : Cells C) → s ≡ over m r → Keeps s n → Keeps m n
keeps_over m r s n e k x h =
    let same : s x ≡ m x = over_keeps m r s e x h in
    k x (subst IsSome (sym same) h) ∙ same

-- either cells were laid under it, or nothing changed
pub keeps_either : {A E C : Type 0} (result : Result A E) (m r n : Cells C) → OnOk result (n ≡ over m r) → OnErr result (n ≡ m) → Keeps m n
keeps_either (Ok a) m r n e f = over_keeps m r n e
keeps_either (Err a) m r n e f = λ x h. ap (λ k. k x) f

pub one_over : {C : Type 0} (m : Cells C) (x : ℕ) (c : C) → (λ y. if nat_eq y x then or_else (m y) (Some c) else m y) ≡ over m (one_cell x c)
one_over {C = C} m x c = λ i y. tell (m y) (nat_eq y x) i
  where
    tell : (o : Option C) (b : Bool) → (if b then or_else o (Some c) else o) ≡ or_else o (if b then Some c else None)
    tell o true = refl
    tell o false = sym (or_none o)

-- the cells of a list, and one more
push_get : {C : Type 0} (cs : List C) (c : C) (k : ℕ) → slice_get (cs ++ c ∷ []) k ≡ or_else (slice_get cs k) (if nat_eq k (length cs) then Some c else None)
push_get [] c zero = refl
push_get [] c (suc k) = let e : nat_eq (suc k) 0 ≡ false = grind arith in rw e refl
push_get (d ∷ cs) c zero = refl
push_get (d ∷ cs) c (suc k) = let e : nat_eq (suc k) (suc (length cs)) ≡ nat_eq k (length cs) = grind arith in rw e (push_get cs c k)

region_push : {C : Type 0} (a : ℕ) (cs : List C) (c : C) (y : ℕ) →
    or_else (region_cell (record { start = a; cells = cs }) y) (one_cell (a + length cs) c y) ≡ region_cell (record { start = a; cells = cs ++ c ∷ [] }) y
region_push a cs c y = tell (nat_le a y) refl
  where
    tell : (b : Bool) → nat_le a y ≡ b → or_else (if b then slice_get cs (y - a) else None) (one_cell (a + length cs) c y) ≡ (if b then slice_get (cs ++ c ∷ []) (y - a) else None)
    tell true e = let f : nat_eq y (a + length cs) ≡ nat_eq (y - a) (length cs) = grind arith in rw f (sym (push_get cs c (y - a)))
    tell false e = let f : nat_eq y (a + length cs) ≡ false = grind arith in rw f refl

pub region_more : {C : Type 0} (a : ℕ) (cs : List C) (i : ℕ) (d : C) → i < length cs →
    over (region_cell (record { start = a; cells = take i cs })) (one_cell (a + i) (get_or cs i d)) ≡ region_cell (record { start = a; cells = take (i + 1) cs })
region_more a cs i d within = λ j y.
    (let e : length (take i cs) ≡ i = grind (arith, common_steps) in
    ap (λ n. or_else (region_cell (record { start = a; cells = take i cs }) y) (one_cell (a + n) (get_or cs i d) y)) (sym e)
    ∙ region_push a (take i cs) (get_or cs i d) y
    ∙ ap (λ ds. region_cell (record { start = a; cells = ds }) y) (sym ((take_at_read cs i d within).1))) j

-- the same cell at the addresses of both ranges
pub or_same : {C : Type 0} (p q : Bool) (c : C) → or_else (if p then Some c else None) (if q then Some c else None) ≡ (if p || q then Some c else None)
or_same true q c = refl
or_same false q c = refl

one_more : (low at x : ℕ) → low ≤ at → ((nat_le low x && nat_lt x at) || nat_eq x at) ≡ (nat_le low x && nat_lt x (at + 1))
one_more low at x h = grind arith

pub same_more : {C : Type 0} (low at : ℕ) (c : C) → low ≤ at → over (same_cell low at c) (one_cell at c) ≡ same_cell low (at + 1) c
same_more low at c h = λ i x. (or_same (nat_le low x && nat_lt x at) (nat_eq x at) c ∙ ap (λ b. if b then Some c else None) (one_more low at x h)) i

same_until : (low high at x : ℕ) → high ≤ at → at ≤ max low high → (nat_le low x && nat_lt x at) ≡ (nat_le low x && nat_lt x high)
same_until low high at x h k = grind arith

pub same_end : {C : Type 0} (low high at : ℕ) (c : C) → high ≤ at → at ≤ max low high → same_cell low at c ≡ same_cell low high c
same_end low high at c h k = λ i x. ap (λ b. if b then Some c else None) (same_until low high at x h k) i

-- the addresses of a range on one page more
pub page_more : (low high q x : ℕ) → ((nat_le low x && nat_lt x (min high q)) || (nat_le (max low q) x && nat_lt x (min high (q + 4096)))) ≡ (nat_le low x && nat_lt x (min high (q + 4096)))
page_more low high q x = grind arith

pub pages_more : {C : Type 0} (low high q : ℕ) (c : C) → over (same_cell low (min high q) c) (same_cell (max low q) (min high (q + 4096)) c) ≡ same_cell low (min high (q + 4096)) c
pages_more low high q c = λ i x.
    (or_same (nat_le low x && nat_lt x (min high q)) (nat_le (max low q) x && nat_lt x (min high (q + 4096))) c
    ∙ ap (λ b. if b then Some c else None) (page_more low high q x)) i

on_page : (p y : ℕ) → y / 4096 ≡ p → (nat_le (4096 * p) y && nat_lt y (4096 * p + 4096)) ≡ true
on_page p y e = let low : 4096 * p ≤ y = omega arith in let high : y < 4096 * p + 4096 = omega arith in grind arith

off_page : (p y : ℕ) → y / 4096 ≢ p → (nat_le (4096 * p) y && nat_lt y (4096 * p + 4096)) ≡ false
off_page p y n = tell (nat_le (4096 * p) y && nat_lt y (4096 * p + 4096)) refl
  where
    tell : (b : Bool) → (nat_le (4096 * p) y && nat_lt y (4096 * p + 4096)) ≡ b → b ≡ false
    tell false e = refl
    tell true e =
        let low : 4096 * p ≤ y = grind arith in
        let high : y < 4096 * p + 4096 = grind arith in
        absurd (n (omega arith))

-- a page whose places are filled
pub page_over : {C : Type 0} (ss : List (Sheet C)) (p : ℕ) (s : Sheet C) (c : C) → p < length ss →
    ((i : ℕ) → i < 4096 → sheet_cell s i ≡ or_else (sheet_cell (get_or ss p (Sheet.Alike None)) i) (Some c)) →
    cells_of (slice_set ss p s) ≡ over (cells_of ss) (same_cell (4096 * p) (4096 * p + 4096) c)
page_over ss p s c within is = by_page ss p s within (λ y o. or_else o (same_cell (4096 * p) (4096 * p + 4096) c y)) there other
  where
    there : (y : ℕ) → y / 4096 ≡ p → sheet_cell s (y % 4096) ≡ or_else (cells_of ss y) (same_cell (4096 * p) (4096 * p + 4096) c y)
    there y e =
        let small : y % 4096 < 4096 = omega arith in
        is (y % 4096) small ∙ ap (λ q. or_else (sheet_cell (get_or ss q (Sheet.Alike None)) (y % 4096)) (Some c)) (sym e)
        ∙ ap (λ b. or_else (cells_of ss y) (if b then Some c else None)) (sym (on_page p y e))

    other : (y : ℕ) → y / 4096 ≢ p → or_else (cells_of ss y) (same_cell (4096 * p) (4096 * p + 4096) c y) ≡ cells_of ss y
    other y n = ap (λ b. or_else (cells_of ss y) (if b then Some c else None)) (off_page p y n) ∙ or_none (cells_of ss y)
