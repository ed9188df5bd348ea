-- Under each number the last place of a block whose term takes a word.
use Rattle.std.proofs.Common.{◌≡◌, ℕ, ◌+◌, ◌≤◌, nat_eq, List, Option, Some, None, get_or, slice_get, inl, inr, sym, ap, ◌∙◌, subst, arith}
use Rattle.std.specs.Map.{update}
use Rattle.std.proofs.lemmas.Bool.{cases_Bool, cases_lt, eqb-true, eqb-false}
use Rattle.sq_graph.specs.Graph.{Graph}
use Rattle.sq_tail.specs.Tails.{end_words}
use Rattle.sq_tail.specs.Numbers.{AreWords}

module _ (g : Graph) (names : List ℕ) (numbers : List (Option ℕ)) (i : ℕ) where
  -- where the next block has no number or its term takes no word
  pub words_skip : (at : ℕ → Option ℕ) → ((m : ℕ) → slice_get numbers i ≡ Some (Some m) → end_words g (get_or names i 0) ≡ 0) → AreWords g names numbers i at → AreWords g names numbers (i + 1) at
  words_skip at none words = record {
    known = words.known;
    all = λ m k absent below stands. elim (cases_lt k i) [
      | inl before ↦ words.all m k absent before stands
      | inr past ↦
          let here : k ≡ i = omega (arith, past, below) in
          subst (λ x. end_words g (get_or names x 0) ≡ 0) (sym here) (none m (subst (λ x. slice_get numbers x ≡ Some (Some m)) here stands))
    ];
  }

  -- where it is put under its number
  pub words_put : (at new : ℕ → Option ℕ) (number : ℕ) → slice_get numbers i ≡ Some (Some number) → 1 ≤ end_words g (get_or names i 0) → ((n : ℕ) → new n ≡ update nat_eq at number (Some i) n) → AreWords g names numbers i at → AreWords g names numbers (i + 1) new
  words_put at new number stands word put words = record {
    known = λ m k e. elim (cases_Bool (nat_eq number m)) [
      | inl here ↦
          let found : Some i ≡ Some k = sym (rw here at (put m)) ∙ e in
          let same : i ≡ k = cc in
          (subst (λ x. slice_get numbers x ≡ Some (Some m)) same (stands ∙ ap (λ x. Some (Some x)) (eqb-true number m here)), subst (λ x. 1 ≤ end_words g (get_or names x 0)) same word)
      | inr apart ↦ words.known m k (sym (rw apart at (put m)) ∙ e)
    ];
    all = λ m k absent below there. elim (cases_Bool (nat_eq number m)) [
      | inl here ↦ absurd (let none : Some i ≡ None = sym (rw here at (put m)) ∙ absent in cc)
      | inr apart ↦
          elim (cases_lt k i) [
            | inl before ↦ words.all m k (sym (rw apart at (put m)) ∙ absent) before there
            | inr past ↦
                let at_i : k ≡ i = omega (arith, past, below) in
                let same : Some (Some number) ≡ Some (Some m) = sym stands ∙ ap (slice_get numbers) (sym at_i) ∙ there in
                absurd (eqb-false number m apart (cc))
          ]
    ];
  }
