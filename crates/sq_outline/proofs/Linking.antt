-- The link is one of x1 to x31, and may be the link.
use Rattle.std.proofs.Common.{◌≡◌, ◌≢◌, ℕ, zero, suc, ◌↔◌, ◌+◌, ◌<◌, ◌≤◌, ◌%◌, drop, length, get_or, nat_lt, ◌&&◌, Bool, true, List, [], ◌∷◌, inl, inr, refl, sym, subst, arith}
use Rattle.std.proofs.lemmas.Bool.Decides.{nat_tests}
use Rattle.std.proofs.lemmas.List.{drop_all}
use Rattle.std.proofs.lemmas.Bool.{and_parts}
use Rattle.sq_graph.specs.declared.item.Item.{Item}
use Rattle.sq_graph.specs.Graph.{Graph}
use Rattle.sq_outline.specs.declared.sites.Site.{Site}
use Rattle.sq_outline.proofs.Early.{left_at}
use Rattle.sq_outline.specs.Links.{link_order, MayLink, IsFirstOf, IsLink}

pub first_holds : (xs : List ℕ) (P : ℕ → Type 0) (r : ℕ) → IsFirstOf xs P r → P r
first_holds [] P r first = absurd first
first_holds (x ∷ xs) P r (inl is) = subst P (sym is.0) is.1
first_holds (x ∷ xs) P r (inr later) = first_holds xs P r later.1

abbrev all_registers : List ℕ → Bool
all_registers [] = true
all_registers (x ∷ xs) = (nat_lt 0 x && nat_lt x 32) && all_registers xs

first_register : (xs : List ℕ) (P : ℕ → Type 0) (r : ℕ) → all_registers xs ≡ true → IsFirstOf xs P r → (nat_lt 0 r && nat_lt r 32) ≡ true
first_register [] P r all first = absurd first
first_register (x ∷ xs) P r all (inl is) =
    subst (λ y. (nat_lt 0 y && nat_lt y 32) ≡ true) (sym is.0) (and_parts (nat_lt 0 x && nat_lt x 32) (all_registers xs) all).0
first_register (x ∷ xs) P r all (inr later) =
    first_register xs P r (and_parts (nat_lt 0 x && nat_lt x 32) (all_registers xs) all).1 later.1

first_as : (xs : List ℕ) (P Q : ℕ → Type 0) (r : ℕ) → all_registers xs ≡ true → ((x : ℕ) → 0 < x → x < 32 → P x ↔ Q x) → IsFirstOf xs P r → IsFirstOf xs Q r
first_as [] P Q r all same first = absurd first
first_as (x ∷ xs) P Q r all same first =
    let parts = and_parts (nat_lt 0 x && nat_lt x 32) (all_registers xs) all in
    let own = and_parts (nat_lt 0 x) (nat_lt x 32) parts.0 in
    let above : 0 < x = let e = own.0 in grind (arith, nat_tests) in
    let below : x < 32 = let e = own.1 in grind (arith, nat_tests) in
    elim first [
      | inl is ↦ inl (is.0, (same x above below).0 is.1)
      | inr later ↦ inr ((λ holds. later.0 ((same x above below).1 holds)), first_as xs P Q r parts.1 same later.1)
    ]

-- of two that hold of the same registers the first is the same
pub link_as : (P Q : ℕ → Type 0) (r : ℕ) → ((x : ℕ) → 0 < x → x < 32 → P x ↔ Q x) → IsFirstOf link_order P r → IsFirstOf link_order Q r
link_as P Q r same first = first_as link_order P Q r refl same first

-- the walk over the registers in their order
pub first_here : (xs : List ℕ) (P : ℕ → Type 0) (i : ℕ) → i < length xs → P (get_or xs i 0) → IsFirstOf (drop i xs) P (get_or xs i 0)
first_here xs P i there holds = subst (λ ys. IsFirstOf ys P (get_or xs i 0)) (sym (left_at xs i 0 there)) (inl (refl, holds))

pub first_later : (xs : List ℕ) (P : ℕ → Type 0) (i : ℕ) → i < length xs → ¬ P (get_or xs i 0) → (r : ℕ) → IsFirstOf (drop (i + 1) xs) P r → IsFirstOf (drop i xs) P r
first_later xs P i there fails r later = subst (λ ys. IsFirstOf ys P r) (sym (left_at xs i 0 there)) (inr (fails, later))

pub first_skips : (xs : List ℕ) (P : ℕ → Type 0) (i : ℕ) → i < length xs → ¬ P (get_or xs i 0) → (r : ℕ) → IsFirstOf (drop i xs) P r → IsFirstOf (drop (i + 1) xs) P r
first_skips xs P i there fails r first =
    elim (subst (λ ys. IsFirstOf ys P r) (left_at xs i 0 there) first) [ inl is ↦ absurd (fails is.1) | inr later ↦ later.1 ]

pub none_left : (xs : List ℕ) (P : ℕ → Type 0) (i : ℕ) → length xs ≤ i → (r : ℕ) → IsFirstOf (drop i xs) P r → ⊥
none_left xs P i past r first = subst (λ ys. IsFirstOf ys P r) (drop_all i xs past) first

registers_at : (xs : List ℕ) (i : ℕ) → all_registers xs ≡ true → i < length xs → nat_lt (get_or xs i 0) 32 ≡ true
registers_at [] i all there = absurd (omega arith)
registers_at (x ∷ xs) zero all there = (and_parts (nat_lt 0 x) (nat_lt x 32) (and_parts (nat_lt 0 x && nat_lt x 32) (all_registers xs) all).0).1
registers_at (x ∷ xs) (suc i) all there = registers_at xs i (and_parts (nat_lt 0 x && nat_lt x 32) (all_registers xs) all).1 (omega arith)

-- each of them is the register of its low bits
pub register_at : (i : ℕ) → i < length link_order → get_or link_order i 0 % 32 ≡ get_or link_order i 0
register_at i there =
    let e = registers_at link_order i refl there in
    let below : get_or link_order i 0 < 32 = grind (arith, nat_tests) in
    omega arith

module _ (g : Graph) (body : List Item) (places : List Site) (link : ℕ) (is : IsLink g body places link) where
  pub link_may : MayLink g body places link
  link_may = first_holds link_order (MayLink g body places) link is

  is_register : (nat_lt 0 link ≡ true) × (nat_lt link 32 ≡ true)
  is_register = and_parts (nat_lt 0 link) (nat_lt link 32) (first_register link_order (MayLink g body places) link refl is)

  pub link_above : 0 < link
  link_above = let e = is_register.0 in grind (arith, nat_tests)

  pub link_below : link < 32
  link_below = let e = is_register.1 in grind (arith, nat_tests)

  pub link_some : link ≢ 0
  link_some none = let above = link_above in absurd (omega arith)
