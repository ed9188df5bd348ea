-- One name in place of another.
use Rattle.std.proofs.Common.{◌≡◌, ◌≢◌, ℕ, ◌≤◌, ◌==◌, List, [], ◌∷◌, map, inl, inr, refl, sym, ap, ◌∙◌, arith}
use Rattle.std.proofs.lemmas.Bool.{cases_Bool, eqb-true, eq-eqb, ne_eqb}
use Rattle.sq_graph.specs.Renames.{swapped}
use Rattle.sq_lookup.specs.Counts.{times_named}

module _ (bare next : ℕ) where
  pub swapped_bare : (to : ℕ) → to ≡ bare → swapped bare next to ≡ next
  swapped_bare to same = rw (eq-eqb to bare same) refl

  pub swapped_next : swapped bare next next ≡ next
  swapped_next = elim (cases_Bool (next == bare)) [ inl here ↦ rw here refl | inr apart ↦ rw apart refl ]

  -- where both names go to the same, it doesn't matter which one it is
  module _ (f : ℕ → ℕ) (same : f bare ≡ f next) where
    swap_stays : (k : ℕ) → f (swapped bare next k) ≡ f k
    swap_stays k =
        elim (cases_Bool (k == bare)) [
          | inl here ↦ rw here (sym same ∙ ap f (sym (eqb-true k bare here)))
          | inr apart ↦ rw apart refl
        ]

    pub swap_goes : (λ k. f (swapped bare next k)) ≡ f
    swap_goes = λ i k. swap_stays k i

  pub swaps_once : ◌≡◌ {A = ℕ → ℕ} (λ k. swapped bare next (swapped bare next k)) (swapped bare next)
  swaps_once = swap_goes (swapped bare next) (swapped_bare bare refl ∙ sym swapped_next)

  -- each use of another name stays
  pub times_swapped : (us : List ℕ) (m : ℕ) → m ≢ bare → times_named us m ≤ times_named (map (swapped bare next) us) m
  times_swapped [] m other = omega arith
  times_swapped (u ∷ us) m other =
      elim (cases_Bool (u == bare)) [
        | inl here ↦
            let away = ne_eqb u m (λ is. other (sym is ∙ eqb-true u bare here)) in
            rw (here, away) (omega (arith, times_swapped us m other))
        | inr apart ↦ rw apart (omega (arith, times_swapped us m other))
      ]
