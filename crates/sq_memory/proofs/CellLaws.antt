-- Laws of contents, one cell at a time.
use Rattle.std.proofs.Common.{◌≡◌, ◌≢◌, ℕ, Bool, true, false, Option, Some, None, IsSome, is_some, nat_eq, option_map, if◌then◌else◌, refl, sym, ◌∙◌, subst, eq-eqb, ne_eqb}
use Rattle.std.proofs.lemmas.Bool.{cond_both, eqb-true, eqb-false}
use Rattle.sq_memory.specs.Cells.{Cells, replaced, with_cell, map_cells, Agree, AgreeOn}

-- by whether the address is the one that is written
pub with_cell-cases : {C : Type 0} (m : Cells C) (x y : ℕ) (c : C) (P : Option C → Type 0) → (y ≡ x → P (replaced (m y) c)) → (y ≢ x → P (m y)) → P (with_cell m x c y)
with_cell-cases m x y c P here there =
    cond_both (nat_eq y x) (replaced (m y) c) (m y) P (λ e. here (eqb-true y x e)) (λ e. there (eqb-false y x e))

replaced_some : {C : Type 0} (o : Option C) (c : C) → IsSome o → replaced o c ≡ Some c
replaced_some None c h = absurd (cc)
replaced_some (Some d) c h = refl

replaced_there : {C : Type 0} (o : Option C) (c : C) → is_some (replaced o c) ≡ is_some o
replaced_there None c = refl
replaced_there (Some d) c = refl

replaced_mapped : {C D : Type 0} (f : C → D) (o : Option C) (c : C) → option_map f (replaced o c) ≡ replaced (option_map f o) (f c)
replaced_mapped f None c = refl
replaced_mapped f (Some d) c = refl

replaced_both : {C D : Type 0} (R : C → D → Type 0) (o : Option C) (p : Option D) (c : C) (d : D) → R c d → Agree R o p → Agree R (replaced o c) (replaced p d)
replaced_both R None None c d r b = b
replaced_both R None (Some e) c d r b = b
replaced_both R (Some e) None c d r b = b
replaced_both R (Some e) (Some f) c d r b = r

-- a cell after a write at its address
pub with_cell-same : {C : Type 0} (m : Cells C) (x : ℕ) (c : C) → IsSome (m x) → with_cell m x c x ≡ Some c
with_cell-same m x c h = rw (eq-eqb x x refl) (replaced_some (m x) c h)

-- at another
pub with_cell-other : {C : Type 0} (m : Cells C) (x y : ℕ) (c : C) → y ≢ x → with_cell m x c y ≡ m y
with_cell-other m x y c ne = rw (ne_eqb y x ne) refl

-- the same addresses are there
pub with_cell-present : {C : Type 0} (m : Cells C) (x : ℕ) (c : C) (y : ℕ) → is_some (with_cell m x c y) ≡ is_some (m y)
with_cell-present m x c y = with_cell-cases m x y c (λ o. is_some o ≡ is_some (m y)) (λ e. replaced_there (m y) c) (λ ne. refl)

-- where nothing is there nothing changes
pub with_cell-absent : {C : Type 0} (m : Cells C) (x : ℕ) (c : C) → m x ≡ None → with_cell m x c ≡ m
with_cell-absent m x c h = λ i y. with_cell-cases m x y c (λ o. o ≡ m y) (λ e. rw (e, h) refl) (λ ne. refl) i

mapped_if : {C D : Type 0} (f : C → D) (b : Bool) (o : Option C) (c : C) → option_map f (if b then replaced o c else o) ≡ (if b then replaced (option_map f o) (f c) else option_map f o)
mapped_if f true o c = replaced_mapped f o c
mapped_if f false o c = refl

-- a write and a function over the cells
pub map_cells-with_cell : {C D : Type 0} (f : C → D) (m : Cells C) (x : ℕ) (c : C) → map_cells f (with_cell m x c) ≡ with_cell (map_cells f m) x (f c)
map_cells-with_cell f m x c = λ i y. mapped_if f (nat_eq y x) (m y) c i

both_if : {C D : Type 0} (R : C → D → Type 0) (b : Bool) (o : Option C) (p : Option D) (c : C) (d : D) → R c d → Agree R o p → Agree R (if b then replaced o c else o) (if b then replaced p d else p)
both_if R true o p c d r h = replaced_both R o p c d r h
both_if R false o p c d r h = h

-- related cells at one address
pub with_cell-agree : {C D : Type 0} (P : ℕ → Type 0) (R : C → D → Type 0) (m : Cells C) (n : Cells D) (x : ℕ) (c : C) (d : D) → R c d → AgreeOn P R m n → AgreeOn P R (with_cell m x c) (with_cell n x d)
with_cell-agree P R m n x c d r a = λ y p. both_if R (nat_eq y x) (m y) (n y) c d r (a y p)

-- a cell of one side, at an address that doesn't matter
pub with_cell-beside : {C D : Type 0} (P : ℕ → Type 0) (R : C → D → Type 0) (m : Cells C) (n : Cells D) (x : ℕ) (c : C) → (P x → ⊥) → AgreeOn P R m n → AgreeOn P R (with_cell m x c) n
with_cell-beside P R m n x c out a = λ y p. with_cell-cases m x y c (λ o. Agree R o (n y)) (λ e. absurd (out (subst P e p))) (λ ne. a y p)

pub beside-with_cell : {C D : Type 0} (P : ℕ → Type 0) (R : C → D → Type 0) (m : Cells C) (n : Cells D) (x : ℕ) (d : D) → (P x → ⊥) → AgreeOn P R m n → AgreeOn P R m (with_cell n x d)
beside-with_cell P R m n x d out a = λ y p. with_cell-cases n x y d (λ o. Agree R (m y) o) (λ e. absurd (out (subst P e p))) (λ ne. a y p)

twice_if : {C : Type 0} (b : Bool) (o : Option C) (c d : C) → (if b then replaced (if b then replaced o c else o) d else if b then replaced o c else o) ≡ (if b then replaced o d else o)
twice_if true None c d = refl
twice_if true (Some e) c d = refl
twice_if false o c d = refl

apart_if : {C : Type 0} (a b : Bool) (o : Option C) (c d : C) → (a ≡ true → b ≡ true → ⊥) → (if b then replaced (if a then replaced o c else o) d else if a then replaced o c else o) ≡ (if a then replaced (if b then replaced o d else o) c else if b then replaced o d else o)
apart_if true true o c d h = absurd (h refl refl)
apart_if true false o c d h = refl
apart_if false true o c d h = refl
apart_if false false o c d h = refl

-- two writes at one address, and at two
pub with_cell-twice : {C : Type 0} (m : Cells C) (x : ℕ) (c d : C) → with_cell (with_cell m x c) x d ≡ with_cell m x d
with_cell-twice m x c d = λ i y. twice_if (nat_eq y x) (m y) c d i

pub with_cell-apart : {C : Type 0} (m : Cells C) (x y : ℕ) (c d : C) → x ≢ y → with_cell (with_cell m x c) y d ≡ with_cell (with_cell m y d) x c
with_cell-apart m x y c d ne = λ i z. apart_if (nat_eq z x) (nat_eq z y) (m z) c d (λ e f. ne (sym (eqb-true z x e) ∙ eqb-true z y f)) i
