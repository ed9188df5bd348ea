-- Lists of those for which something holds.
use Rattle.std.proofs.Common.{◌≡◌, ℕ, zero, suc, nat_eq, false, ◌+◌, ◌≤◌, ◌<◌, List, [], ◌∷◌, ◌++◌, take, length, get_or, add-one, inl, inr, ◌⊎◌, refl, sym, ap, subst, arith}
use Rattle.std.specs.List.{All, AllByRecursion, Contains, IsDistinct}
use Rattle.std.specs.Set.{is_member}
use Rattle.std.specs.Bool.{Decides}
use Rattle.std.specs.Cmp.{IsEquivalence}
use Rattle.std.proofs.Math.Seq.{take-suc}
use Rattle.std.proofs.lemmas.Bool.{eqb-true, eq-eqb}
use Rattle.std.proofs.lemmas.Bool.Decides.{Decides-eqb, same_from_decides}
use Rattle.std.proofs.lemmas.List.Elements.{All-weaker, All-contains, All-contains_itself, All-from_recursion, recursion_from_All}
use Rattle.std.proofs.lemmas.Map.Keys.{IsDistinct-cons, IsDistinct-head, IsDistinct-tail}
use Rattle.std.proofs.lemmas.Map.Made.{length-le_from_is_member, is_member-Decides}
use Rattle.sq_outline.specs.Sets.{Keeps, nothing, kept, left_out}

-- members

pub first_in : (x : ℕ) (xs : List ℕ) → Contains (x ∷ xs) x
first_in x xs = (0, omega arith, refl)

pub later_in : (x y : ℕ) (xs : List ℕ) → Contains xs y → Contains (x ∷ xs) y
later_in x y xs (k, there, is) = (suc k, omega (arith, there), is)

pub first_or_later : (x y : ℕ) (xs : List ℕ) → Contains (x ∷ xs) y → (y ≡ x) ⊎ Contains xs y
first_or_later x y xs (zero, there, is) = inl (sym is)
first_or_later x y xs (suc k, there, is) = inr (k, omega (arith, there), is)

pub none_in : (y : ℕ) → Contains [] y → ⊥
none_in y (k, there, is) = absurd (omega (arith, there))

pub each_in : (P : ℕ → Type 0) (xs : List ℕ) → ((x : ℕ) → Contains xs x → P x) → All P xs
each_in P xs h = All-weaker (Contains xs) P h xs (All-contains_itself xs)

module _ (P : ℕ → Type 0) where
  pub keeps_from : {xs ys : List ℕ} → Keeps P xs ys → (y : ℕ) → Contains ys y → Contains xs y × P y
  keeps_from nothing y there = absurd (none_in y there)
  keeps_from (kept x {xs} {ys} holds rest) y there =
      elim (first_or_later x y ys there) [
        | inl is ↦ (subst (Contains (x ∷ xs)) (sym is) (first_in x xs), subst P (sym is) holds)
        | inr later ↦ let from = keeps_from rest y later in (later_in x y xs from.0, from.1)
      ]
  keeps_from (left_out x {xs} {ys} fails rest) y there = let from = keeps_from rest y there in (later_in x y xs from.0, from.1)

  pub keeps_each : {xs ys : List ℕ} → Keeps P xs ys → (y : ℕ) → Contains xs y → P y → Contains ys y
  keeps_each nothing y there holds = absurd (none_in y there)
  keeps_each (kept x {xs} {ys} own rest) y there holds =
      elim (first_or_later x y xs there) [
        | inl is ↦ subst (Contains (x ∷ ys)) (sym is) (first_in x ys)
        | inr later ↦ later_in x y ys (keeps_each rest y later holds)
      ]
  keeps_each (left_out x {xs} {ys} fails rest) y there holds =
      elim (first_or_later x y xs there) [
        | inl is ↦ absurd (fails (subst P is holds))
        | inr later ↦ keeps_each rest y later holds
      ]

  still_each : {xs ys : List ℕ} → Keeps P xs ys → (Q : ℕ → Type 0) → AllByRecursion Q xs → AllByRecursion Q ys
  still_each {xs} {ys} keeps Q all =
      recursion_from_All Q ys (each_in Q ys (λ y there. All-contains Q xs y (All-from_recursion Q xs all) (keeps_from keeps y there).0))

  pub keeps_distinct : {xs ys : List ℕ} → Keeps P xs ys → IsDistinct nat_eq xs → IsDistinct nat_eq ys
  keeps_distinct nothing distinct = distinct
  keeps_distinct (kept x {xs} {ys} holds rest) distinct =
      IsDistinct-cons nat_eq x ys (still_each rest (λ y. nat_eq x y ≡ false) (IsDistinct-head nat_eq x xs distinct)) (keeps_distinct rest (IsDistinct-tail nat_eq x xs distinct))
  keeps_distinct (left_out x {xs} {ys} fails rest) distinct = keeps_distinct rest (IsDistinct-tail nat_eq x xs distinct)

  pub keeps_fewer : {xs ys : List ℕ} → Keeps P xs ys → length ys ≤ length xs
  keeps_fewer nothing = omega arith
  keeps_fewer (kept x holds rest) = let l = keeps_fewer rest in omega arith
  keeps_fewer (left_out x fails rest) = let l = keeps_fewer rest in omega arith

  -- one more at the end
  kept_last : {xs ys : List ℕ} → Keeps P xs ys → (x : ℕ) → P x → Keeps P (xs ++ x ∷ []) (ys ++ x ∷ [])
  kept_last nothing x holds = kept x holds nothing
  kept_last (kept y own rest) x holds = kept y own (kept_last rest x holds)
  kept_last (left_out y fails rest) x holds = left_out y fails (kept_last rest x holds)

  left_out_last : {xs ys : List ℕ} → Keeps P xs ys → (x : ℕ) → ¬ P x → Keeps P (xs ++ x ∷ []) ys
  left_out_last nothing x fails = left_out x fails nothing
  left_out_last (kept y own rest) x fails = kept y own (left_out_last rest x fails)
  left_out_last (left_out y none rest) x fails = left_out y none (left_out_last rest x fails)

  pub keeps_next : (xs ys : List ℕ) (i : ℕ) → i < length xs → Keeps P (take i xs) ys → P (get_or xs i 0) → Keeps P (take (i + 1) xs) (ys ++ get_or xs i 0 ∷ [])
  keeps_next xs ys i there keeps holds =
      let is : take (i + 1) xs ≡ take i xs ++ get_or xs i 0 ∷ [] = rw add-one (take-suc xs i 0 there) in
      subst (λ zs. Keeps P zs (ys ++ get_or xs i 0 ∷ [])) (sym is) (kept_last keeps (get_or xs i 0) holds)

  pub leaves_next : (xs ys : List ℕ) (i : ℕ) → i < length xs → Keeps P (take i xs) ys → ¬ P (get_or xs i 0) → Keeps P (take (i + 1) xs) ys
  leaves_next xs ys i there keeps fails =
      let is : take (i + 1) xs ≡ take i xs ++ get_or xs i 0 ∷ [] = rw add-one (take-suc xs i 0 there) in
      subst (λ zs. Keeps P zs ys) (sym is) (left_out_last keeps (get_or xs i 0) fails)

-- different numbers that all are in a list are no more than it has

pub same_numbers : IsEquivalence nat_eq
same_numbers = record {
  refl = λ x. eq-eqb x x refl;
  symm = λ x y. same_from_decides (nat_eq x y) (nat_eq y x) (Decides-eqb x y) (let d = Decides-eqb y x in (λ e. sym (d.0 e), λ e. d.1 (sym e)));
  congr = λ x y z same. ap (λ n. nat_eq n z) (eqb-true x y same);
}

member_is : (xs : List ℕ) (x : ℕ) → Decides (is_member nat_eq xs x) (Contains xs x)
member_is xs x = is_member-Decides Decides-eqb xs x

pub no_more : (xs ys : List ℕ) → IsDistinct nat_eq xs → ((x : ℕ) → Contains xs x → Contains ys x) → length xs ≤ length ys
no_more xs ys distinct inside =
    length-le_from_is_member same_numbers xs ys distinct (λ x is. (member_is ys x).1 (inside x ((member_is xs x).0 is)))
