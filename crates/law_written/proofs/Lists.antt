-- Elements of lists by their places.
use Rattle.std.proofs.Common.{◌≡◌, ℕ, zero, suc, ◌<◌, List, [], ◌∷◌, ◌++◌, take, length, Some, slice_get, refl, ap, subst, arith}
use Rattle.std.specs.List.{AllByRecursion}

pub some_at : {X : Type 0} (xs : List X) (k : ℕ) → k < length xs → (x : X) × (slice_get xs k ≡ Some x)
some_at [] k within = absurd (omega arith)
some_at (x ∷ xs) zero within = (x, refl)
some_at (x ∷ xs) (suc k) within = some_at xs k (omega arith)

pub all_at : {X : Type 0} (P : X → Type 0) (xs : List X) → AllByRecursion P xs → (k : ℕ) (x : X) → slice_get xs k ≡ Some x → P x
all_at P [] all k x is = absurd (cc is)
all_at P (y ∷ xs) all zero x is = let same : y ≡ x = cc is in subst P same all.0
all_at P (y ∷ xs) all (suc k) x is = all_at P xs all.1 k x is

pub take_one_more : {X : Type 0} (xs : List X) (k : ℕ) (x : X) → slice_get xs k ≡ Some x → take (suc k) xs ≡ take k xs ++ x ∷ []
take_one_more [] k x is = absurd (cc is)
take_one_more (y ∷ xs) zero x is = let same : y ≡ x = cc is in ap (λ z. z ∷ []) same
take_one_more (y ∷ xs) (suc k) x is = ap (λ zs. y ∷ zs) (take_one_more xs k x is)

pub all_middle : {X : Type 0} (P : X → Type 0) (xs : List X) (y : X) (ys : List X) → AllByRecursion P (xs ++ y ∷ ys) → P y
all_middle P [] y ys all = all.0
all_middle P (x ∷ xs) y ys all = all_middle P xs y ys all.1
