-- What stands in a list before a place from which on it is changed, and what is left of a list behind each step of a walk.
use Rattle.std.proofs.Common.{◌≡◌, ℕ, zero, suc, ◌+◌, ◌-◌, ◌≤◌, ◌<◌, List, [], ◌∷◌, ◌++◌, reverse, take, drop, length, get_or, add-one, refl, sym, ap, ◌∙◌, subst, arith}
use Rattle.std.specs.List.{All}
use Rattle.std.proofs.Math.Seq.{drop-cons, take-suc}
use Rattle.std.proofs.lemmas.List.{reverse-append}
use Rattle.std.proofs.lemmas.List.Elements.{All-push}

pub first_part : {X : Type 0} (xs ys : List X) (at m : ℕ) → m ≤ at → at ≤ length xs → take m (take at xs ++ ys) ≡ take m xs
first_part xs ys at zero before there = refl
first_part [] ys at (suc m) before there = absurd (omega arith)
first_part (x ∷ xs) ys zero (suc m) before there = absurd (omega arith)
first_part (x ∷ xs) ys (suc at) (suc m) before there = ap (λ zs. x ∷ zs) (first_part xs ys at m (omega arith) (omega arith))

pub early_part : {X : Type 0} (xs ys : List X) (at from m : ℕ) → from + m ≤ at → at ≤ length xs → take m (drop from (take at xs ++ ys)) ≡ take m (drop from xs)
early_part xs ys at zero m before there = first_part xs ys at m (omega arith) there
early_part [] ys at (suc from) m before there = absurd (omega arith)
early_part (x ∷ xs) ys zero (suc from) m before there = absurd (omega arith)
early_part (x ∷ xs) ys (suc at) (suc from) m before there = early_part xs ys at from m (omega arith) (omega arith)

-- what is left at a step
pub left_at : {X : Type 0} (xs : List X) (i : ℕ) (d : X) → i < length xs → drop i xs ≡ get_or xs i d ∷ drop (i + 1) xs
left_at xs i d there = rw add-one (drop-cons xs i d there)

-- what holds of those so far and of the next one
pub one_more : {X : Type 0} (P : X → Type 0) (xs : List X) (i : ℕ) (d : X) → i < length xs → All P (take i xs) → P (get_or xs i d) → All P (take (i + 1) xs)
one_more {X} P xs i d there all next =
    let is : take (i + 1) xs ≡ take i xs ++ get_or xs i d ∷ [] = rw add-one (take-suc xs i d there) in
    subst (λ (ys : List X). All P ys) (sym is) (All-push P (take i xs) (get_or xs i d) all next)

-- the last of the first ones, where so many at the end are done
pub last_left : {X : Type 0} (xs : List X) (i : ℕ) (d : X) → i < length xs → reverse (take (length xs - i) xs) ≡ get_or xs (length xs - 1 - i) d ∷ reverse (take (length xs - (i + 1)) xs)
last_left xs i d there =
    let k = length xs - 1 - i in
    let more : length xs - i ≡ suc (length xs - 1 - i) = omega (arith, there) in
    let less : length xs - 1 - i ≡ length xs - (i + 1) = omega (arith, there) in
    ap (λ j. reverse (take j xs)) more
    ∙ ap reverse (take-suc xs k d (omega (arith, there)))
    ∙ reverse-append (take k xs) (get_or xs k d ∷ [])
    ∙ ap (λ j. get_or xs k d ∷ reverse (take j xs)) less
