-- What a survey finds of a graph.
use Rattle.std.proofs.Common.{◌≡◌, ◌↔◌, ◌⊎◌, ℕ, ◌+◌, ◌<◌, ◌≤◌, true, false, nat_eq, List, [], length, get_or, Option, None, Some, option_to_list, inl, inr, refl, sym, ap, ◌∙◌, subst, arith}
use Rattle.std.proofs.lemmas.Bool.{cases_lt, eqb-true, eq-eqb, or_cases, or_left, or_right}
use Rattle.sq_graph.specs.Graph.{Graph}
use Rattle.sq_graph.specs.Blocks.{HasBlock}
use Rattle.sq_graph.specs.Parts.{names_of}
use Rattle.sq_lookup.specs.Names.{is_listed, Adds}
use Rattle.sq_lookup.proofs.Targets.{name_listed}
use Rattle.sq_jumps.specs.Surveys.{Needs}

-- A set of names, in midst of a walk over the blocks

pub record IsGathered (g : Graph) (names : List ℕ) (k : ℕ) (found : List ℕ) : Type 0 where
  pub only : (n : ℕ) → is_listed found n ≡ true → (from : ℕ) × Needs g from n
  pub all : (i n : ℕ) → i < k → Needs g (get_or names i 0) n → is_listed found n ≡ true

pub none_gathered : (g : Graph) (names found : List ℕ) → found ≡ [] → IsGathered g names 0 found
none_gathered g names found e = record {
  only = λ n is. absurd (nothing n (subst (λ ns. is_listed ns n ≡ true) e is));
  all = λ i n below. absurd (omega (arith, below));
}
  where
    nothing : (n : ℕ) → is_listed [] n ≡ true → ⊥
    nothing n is = cc

-- the name that came, if one did
came : (o : Option ℕ) (n : ℕ) → is_listed (option_to_list o) n ≡ true → o ≡ Some n
came None n e = absurd (cc)
came (Some m) n e =
    elim (or_cases (nat_eq n m) false e) [
      | inl same ↦ ap Some (sym (eqb-true n m same))
      | inr none ↦ absurd (cc)
    ]

pub comes : (o : Option ℕ) (n : ℕ) → o ≡ Some n → is_listed (option_to_list o) n ≡ true
comes o n e = subst (λ p. is_listed (option_to_list p) n ≡ true) (sym e) (or_left (nat_eq n n) false (eq-eqb n n refl))

pub one_gathered : (g : Graph) (names : List ℕ) (k : ℕ) (first second : Option ℕ) (old between new : List ℕ) → IsGathered g names k old
    → ((n : ℕ) → first ≡ Some n → Needs g (get_or names k 0) n) → ((n : ℕ) → second ≡ Some n → Needs g (get_or names k 0) n)
    → ((n : ℕ) → Needs g (get_or names k 0) n → (first ≡ Some n) ⊎ (second ≡ Some n))
    → Adds (option_to_list first) old between → Adds (option_to_list second) between new → IsGathered g names (k + 1) new
one_gathered g names k first second old between new so_far first_needs second_needs needs came_first came_second = record {
  only = λ n is.
      elim (or_cases (is_listed between n) (is_listed (option_to_list second) n) (sym (came_second.each n) ∙ is)) [
        | inr now ↦ (get_or names k 0, second_needs n (came second n now))
        | inl before ↦
            elim (or_cases (is_listed old n) (is_listed (option_to_list first) n) (sym (came_first.each n) ∙ before)) [
              | inl earlier ↦ so_far.only n earlier
              | inr now ↦ (get_or names k 0, first_needs n (came first n now))
            ]
      ];
  all = λ i n below need.
      elim (below_or i below) [
        | inl earlier ↦ later n (was n (so_far.all i n earlier need))
        | inr here ↦
            elim (needs n (subst (λ j. Needs g (get_or names j 0) n) here need)) [
              | inl e ↦ later n (came_first.each n ∙ or_right (is_listed old n) (is_listed (option_to_list first) n) (comes first n e))
              | inr e ↦ came_second.each n ∙ or_right (is_listed between n) (is_listed (option_to_list second) n) (comes second n e)
            ]
      ];
}
  where
    below_or : (i : ℕ) → i < k + 1 → (i < k) ⊎ (i ≡ k)
    below_or i below = elim (cases_lt i k) [ inl l ↦ inl l | inr m ↦ inr (omega (arith, m, below)) ]

    was : (n : ℕ) → is_listed old n ≡ true → is_listed between n ≡ true
    was n is = came_first.each n ∙ or_left (is_listed old n) (is_listed (option_to_list first) n) is

    later : (n : ℕ) → is_listed between n ≡ true → is_listed new n ≡ true
    later n is = came_second.each n ∙ or_left (is_listed between n) (is_listed (option_to_list second) n) is

-- once the walk is done
pub all_gathered : (g : Graph) (names : List ℕ) (k : ℕ) (found : List ℕ) → names ≡ names_of g → length names ≤ k → ((from n : ℕ) → Needs g from n → HasBlock g from) → IsGathered g names k found → (n : ℕ) → (is_listed found n ≡ true) ↔ ((from : ℕ) × Needs g from n)
all_gathered g names k found e past there done n = (
  λ is. done.only n is,
  λ need.
      let at = name_listed g.blocks need.0 (there need.0 n need.1) in
      done.all at.0 n (omega (arith, at.1, past, ap (λ ns. length ns) e)) (subst (λ m. Needs g m n) (sym (ap (λ ns. get_or ns at.0 0) e ∙ at.2)) need.1),
)
