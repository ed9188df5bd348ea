-- What a list of codes says of the operation that stands at a code, and the code of each operation.
use Rattle.std.proofs.Common.{◌≡◌, ℕ, Bool, true, false, Option, Some, None, List, [], ◌∷◌, ◌==◌, cond, refl, subst, sym}
use Rattle.std.specs.Option.{option_map}
use Rattle.std.proofs.lemmas.Bool.{eqb-true}
use Rattle.sq_isa.specs.Codes.{coded_by}

-- the value in a `Some`
pub some_value : {A : Type 0} (x y : A) → Some x ≡ Some y → x ≡ y
some_value x y e = cc

pub none_is_none : {A : Type 0} (P : Type 0) (x : A) → None ≡ Some x → P
none_is_none P x e = cc

-- a choice that has a value has it by its test
pub by_test : {A : Type 0} (b : Bool) (x y : Option A) (v : A) (P : Type 0) → (b ≡ true → x ≡ Some v → P) → (b ≡ false → y ≡ Some v → P) → cond b x y ≡ Some v → P
by_test true x y v P at_true at_false e = at_true refl e
by_test false x y v P at_true at_false e = at_false refl e

-- what holds of the image of each value holds of the value that was mapped to
pub by_map : {A B : Type 0} (f : A → B) (P : B → Type 0) (o : Option A) (b : B) → ((x : A) → o ≡ Some x → P (f x)) → option_map f o ≡ Some b → P b
by_map f P None b each e = none_is_none (P b) b e
by_map f P (Some x) b each e = subst P (some_value (f x) b e) (each x refl)

-- P holds of each row
abbrev pub AllRows : {A : Type 0} → (ℕ → A → Type 0) → List (ℕ × A) → Type 0
AllRows P [] = Unit {0}
AllRows P (row ∷ rows) = P row.0 row.1 × AllRows P rows

-- so it holds of the operation that is found
pub by_row : {A : Type 0} (P : ℕ → A → Type 0) (rows : List (ℕ × A)) (code : ℕ) (v : A) → AllRows P rows → coded_by rows code ≡ Some v → P code v
by_row P [] code v all e = none_is_none (P code v) v e
by_row P (row ∷ rows) code v all e =
    by_test (code == row.0) (Some row.1) (coded_by rows code) v (P code v)
    (λ t f. subst (λ k. P k v) (sym (eqb-true code row.0 t)) (subst (λ o. P row.0 o) (some_value row.1 v f) all.0))
    (λ t f. by_row P rows code v all.1 f)
    e
