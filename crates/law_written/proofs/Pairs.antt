-- What holds of each pair of elements of a list, the earlier first.
use Rattle.std.proofs.Common.{◌≡◌, Bool, true, false, ◌⊎◌, inl, inr, List, [], ◌∷◌, ◌++◌, map, filter}
use Rattle.std.specs.List.{AllByRecursion}
use Rattle.std.proofs.lemmas.Bool.{cases_Bool}

abbrev pub Pairwise : {X : Type 0} → (X → X → Type 0) → List X → Type 0
Pairwise R [] = Unit {0}
Pairwise R (x ∷ xs) = AllByRecursion (R x) xs × Pairwise R xs

-- lists of elements

pub all_append : {X : Type 0} (P : X → Type 0) (xs ys : List X) → AllByRecursion P xs → AllByRecursion P ys → AllByRecursion P (xs ++ ys)
all_append P [] ys front back = back
all_append P (x ∷ xs) ys front back = (front.0, all_append P xs ys front.1 back)

pub all_map : {X : Type 0} (P Q : X → Type 0) → ((x : X) → P x → Q x) → (xs : List X) → AllByRecursion P xs → AllByRecursion Q xs
all_map P Q implies [] all = tt
all_map P Q implies (x ∷ xs) all = (implies x all.0, all_map P Q implies xs all.1)

pub all_both : {X : Type 0} (P Q : X → Type 0) (xs : List X) → AllByRecursion P xs → AllByRecursion Q xs → AllByRecursion (λ x. P x × Q x) xs
all_both P Q [] all more = tt
all_both P Q (x ∷ xs) all more = ((all.0, more.0), all_both P Q xs all.1 more.1)

-- pairs of two lists

pub pairs_append : {X : Type 0} (R : X → X → Type 0) (xs ys : List X) → Pairwise R xs → Pairwise R ys → AllByRecursion (λ x. AllByRecursion (R x) ys) xs → Pairwise R (xs ++ ys)
pairs_append R [] ys front back cross = back
pairs_append R (x ∷ xs) ys front back cross = (all_append (R x) xs ys front.0 cross.0, pairs_append R xs ys front.1 back cross.1)

-- an element and each of the list, both ways
pub all_pairs : {X : Type 0} (R S : X → X → Type 0) → ((x : X) → S x x) → ((x y : X) → R x y → S x y) → ((x y : X) → R x y → S y x) → (xs : List X) → Pairwise R xs → AllByRecursion (λ x. AllByRecursion (S x) xs) xs
all_pairs R S same there back [] pairs = tt
all_pairs R S same there back (x ∷ xs) pairs = (
  (same x, all_map (R x) (S x) (there x) xs pairs.0),
  each xs pairs.0 (all_pairs R S same there back xs pairs.1),
)
  where
    each : (ys : List _) → AllByRecursion (R x) ys → AllByRecursion (λ y. AllByRecursion (S y) xs) ys → AllByRecursion (λ y. S y x × AllByRecursion (S y) xs) ys
    each [] first all = tt
    each (y ∷ ys) first all = ((back x y first.0, all.0), each ys first.1 all.1)

-- elements of a list that is made of those of another, some left out

pub all_kept : {X Y : Type 0} (keep : Y → Bool) (f : X → Y) (P : X → Type 0) (Q : Y → Type 0) → ((x : X) → P x → keep (f x) ≡ true → Q (f x)) → (xs : List X) → AllByRecursion P xs → AllByRecursion Q (filter keep (map f xs))
all_kept keep f P Q implies [] all = tt
all_kept keep f P Q implies (x ∷ xs) all = by_test (all_kept keep f P Q implies xs all.1) (cases_Bool (keep (f x)))
  where
    by_test : AllByRecursion Q (filter keep (map f xs)) → (keep (f x) ≡ true) ⊎ (keep (f x) ≡ false) → AllByRecursion Q (filter keep (map f (x ∷ xs)))
    by_test more (inl e) = rw e (implies x all.0 e, more)
    by_test more (inr e) = rw e more

pub pairs_kept : {X Y : Type 0} (keep : Y → Bool) (f : X → Y) (P : X → Type 0) (R : X → X → Type 0) (S : Y → Y → Type 0) → ((x y : X) → P x → P y → R x y → keep (f x) ≡ true → keep (f y) ≡ true → S (f x) (f y)) → (xs : List X) → AllByRecursion P xs → Pairwise R xs → Pairwise S (filter keep (map f xs))
pairs_kept keep f P R S implies [] all pairs = tt
pairs_kept keep f P R S implies (x ∷ xs) all pairs = by_test (pairs_kept keep f P R S implies xs all.1 pairs.1) (cases_Bool (keep (f x)))
  where
    by_test : Pairwise S (filter keep (map f xs)) → (keep (f x) ≡ true) ⊎ (keep (f x) ≡ false) → Pairwise S (filter keep (map f (x ∷ xs)))
    by_test more (inl e) =
        rw e
        (all_kept keep f (λ y. P y × R x y) (S (f x)) (λ y both kept. implies x y all.0 both.0 both.1 e kept) xs (all_both P (R x) xs all.1 pairs.0), more)
    by_test more (inr e) = rw e more
