-- Two Branches are widened, one after the other.
use Rattle.std.proofs.Common.{◌≡◌, ℕ, ◌==◌, Bool, true, false, ◌||◌, Option, None, Some, refl, sym, ap, ◌∙◌, subst}
use Rattle.std.specs.Prelude.{IfSome}
use Rattle.std.proofs.lemmas.Bool.{eq-eqb, ne_eqb, or_left, or_right}
use Rattle.std.proofs.Math.Bool.{or-false}
use Rattle.sq_graph.specs.declared.item.Term.TheVariants.{Branch}
use Rattle.sq_graph.specs.Graph.{Graph}
use Rattle.sq_graph.specs.Rules.{IsGraph}
use Rattle.sq_lookup.proofs.Targets.{has_term}
use Rattle.sq_chain.specs.Bare.{is_it}
use Rattle.sq_chain.specs.Settled.{is_wide, AreWide}
use Rattle.sq_chain.specs.Widening.{EndsInBranch, IsOneWider}
use Rattle.sq_chain.specs.declared.shift.Wide.{Wide}
use Rattle.sq_chain.proofs.Widens.{IsWider, wider_itself, still_branch, one_step}

-- what holds of each of at most one name
pub if_some : (P : ℕ → Type 0) (o : Option ℕ) → ((n : ℕ) → is_it o n ≡ true → P n) → IfSome o P
if_some P None each = tt
if_some P (Some n) each = each n (eq-eqb n n refl)

some_step : (g h h' : Graph) (S S' : ℕ → Bool) (o : Option ℕ) → IsGraph g → IsWider g h S → ((n : ℕ) → S' n ≡ (S n || is_it o n)) → ((n : ℕ) → is_it o n ≡ true → S n ≡ false) → ((n : ℕ) → is_it o n ≡ true → EndsInBranch g n) → IfSome o (λ n. IsOneWider h h' n) → (o ≡ None → h' ≡ h) → IsWider g h' S'
some_step g h h' S S' None rules w set out ends wider same =
    let sets : S ≡ S' = λ i n. (sym (set n ∙ or-false (S n))) i in
    subst (IsWider g h') sets (subst (λ (k : Graph). IsWider g k S) (sym (same refl)) w)
some_step g h h' S S' (Some m) rules w set out ends wider same =
    one_step g h h' S S' m rules w (out m (eq-eqb m m refl)) (set m ∙ or_right (S m) (m == m) (eq-eqb m m refl))
    (λ k differs. set k ∙ ap (λ t. S k || t) (ne_eqb m k (λ e. differs (sym e))) ∙ or-false (S k)) (ends m (eq-eqb m m refl)) wider

module _ (g : Graph) (wide : Wide) (rules : IsGraph g) (are : AreWide g wide) where
  pub first_branch : IfSome wide.one (λ n. EndsInBranch g n)
  first_branch = if_some (λ n. EndsInBranch g n) wide.one (λ n e. are.branches n (or_left (is_it wide.one n) (is_it wide.other n) e))

  module _ (h : Graph) (wider : IfSome wide.one (λ n. IsOneWider g h n)) (same : wide.one ≡ None → h ≡ g) where
    pub first_wider : IsWider g h (is_it wide.one)
    first_wider =
        some_step g g h (λ n. false) (is_it wide.one) wide.one rules (wider_itself g (λ n. false) rules (λ n. refl)) (λ n. refl) (λ n e. refl)
        (λ n e. are.branches n (or_left (is_it wide.one n) (is_it wide.other n) e)) wider same

    not_first : (n : ℕ) → is_it wide.other n ≡ true → is_it wide.one n ≡ false
    not_first n e = by_test (is_it wide.one n) refl
      where
        by_test : (t : Bool) → is_it wide.one n ≡ t → t ≡ false
        by_test true is = absurd (let out = are.apart n is in cc)
        by_test false is = refl

    pub other_branch : IfSome wide.other (λ n. EndsInBranch h n)
    other_branch =
        if_some (λ n. EndsInBranch h n) wide.other
        (λ n e.
        let b = are.branches n (or_right (is_it wide.one n) (is_it wide.other n) e) in
        still_branch g h (is_it wide.one) rules first_wider n (has_term g n (Branch b.cond b.a b.b b.to) b.is) (not_first n e) b)

    pub both_wider : (k : Graph) → IfSome wide.other (λ n. IsOneWider h k n) → (wide.other ≡ None → k ≡ h) → IsWider g k (is_wide wide)
    both_wider k wider' same' =
        some_step g h k (is_it wide.one) (is_wide wide) wide.other rules first_wider (λ n. refl) not_first
        (λ n e. are.branches n (or_right (is_it wide.one n) (is_it wide.other n) e)) wider' same'
