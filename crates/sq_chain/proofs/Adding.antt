-- A round adds the Branches that don't reach, one after another.
use Rattle.std.proofs.Common.{◌≡◌, ℕ, suc, ◌+◌, ◌-◌, ◌≤◌, ◌==◌, Bool, true, false, ◌||◌, [], ◌∷◌, length, Option, inl, inr, refl, sym, ap, ◌∙◌, subst, arith}
use Rattle.std.specs.Prelude.{unwrap_or}
use Rattle.std.proofs.lemmas.Bool.{cases_Bool, eqb-true, eqb-false, or_right}
use Rattle.std.proofs.Math.Bool.{or-false}
use Rattle.sq_graph.specs.Graph.{Block, Graph}
use Rattle.sq_graph.specs.Rules.{IsGraph}
use Rattle.sq_layout.specs.Weights.{address_by}
use Rattle.sq_live.proofs.Layouts.{IsBlockAt}
use Rattle.sq_lookup.specs.Addresses.{address_at}
use Rattle.sq_lookup.specs.Names.{is_listed}
use Rattle.sq_chain.specs.Least.{stands_at, falls_short, grown, after_rounds, least}
use Rattle.sq_chain.proofs.Rounds.{IsClosed, rounds_stay, short_there}
use Rattle.sq_chain.proofs.Widens.{upto, upto_in, upto_others, upto_same, upto_all, upto_none}

-- addresses in a table
pub stands_are : (weight : Block → ℕ) (g : Graph) (address : ℕ → Option ℕ) → ((n : ℕ) → address n ≡ address_by weight g.blocks 0 n) → address_at address ≡ stands_at weight g
stands_are weight g address same = λ i n. unwrap_or (same n i) 0

-- the old set, and what is added to it so far
abbrev pub Added : (ℕ → Bool) → (ℕ → Bool) → (ℕ → Bool) → Graph → ℕ → Type 0
Added S F now g k = (n : ℕ) → now n ≡ (S n || upto F g k n)

pub none_added : (S F : ℕ → Bool) (g : Graph) → Added S F S g 0
none_added S F g n = sym (ap (λ t. S n || t) (upto_none F g n) ∙ or-false (S n))

module _ (S F now : ℕ → Bool) (g : Graph) (rules : IsGraph g) (k name : ℕ) (b : IsBlockAt g k name) (added : Added S F now g k) where
  -- the block reaches
  pub add_none : F name ≡ false → Added S F now g (k + 1)
  add_none out n = added n ∙ ap (λ (T : ℕ → Bool). S n || T n) (sym (upto_same F g rules k name b out))

  -- or is in the set already
  pub add_there : F name ≡ true → now name ≡ true → Added S F now g (k + 1)
  add_there within there n =
      elim (cases_Bool (n == name)) [
        | inl here ↦
            let same = eqb-true n name here in
            subst (λ m. now m ≡ (S m || upto F g (k + 1) m)) (sym same) (there ∙ sym (or_right (S name) (upto F g (k + 1) name) (upto_in F g rules k name b within)))
        | inr apart ↦ added n ∙ ap (λ t. S n || t) (sym (upto_others F g rules k name b n (eqb-false n name apart)))
      ]

  -- or is put there
  pub add_one : (new : ℕ → Bool) → F name ≡ true → ((n : ℕ) → new n ≡ (now n || is_listed (name ∷ []) n)) → Added S F new g (k + 1)
  add_one new within came n =
      elim (cases_Bool (n == name)) [
        | inl here ↦
            let one : is_listed (name ∷ []) n ≡ true = rw here refl in
            came n ∙ or_right (now n) (is_listed (name ∷ []) n) one
            ∙ sym (or_right (S n) (upto F g (k + 1) n) (subst (λ m. upto F g (k + 1) m ≡ true) (sym (eqb-true n name here)) (upto_in F g rules k name b within)))
        | inr apart ↦
            let none : is_listed (name ∷ []) n ≡ false = rw apart refl in
            came n ∙ ap (λ t. now n || t) none ∙ or-false (now n) ∙ added n ∙ ap (λ t. S n || t) (sym (upto_others F g rules k name b n (eqb-false n name apart)))
      ]

-- in the end each that doesn't reach is added
pub all_added : (S now : ℕ → Bool) (g : Graph) (k : ℕ) → IsGraph g → length g.blocks ≤ k → Added S (falls_short g S) now g k → (n : ℕ) → now n ≡ grown g S n
all_added S now g k rules past added n =
    added n ∙ ap (λ (T : ℕ → Bool). S n || T n) (upto_all (falls_short g S) g k past (λ m e. short_there g S m rules e))

-- ROUND AFTER ROUND

grown_by : (g : Graph) (S T : ℕ → Bool) → ((n : ℕ) → S n ≡ T n) → (n : ℕ) → grown g S n ≡ grown g T n
grown_by g S T same n = let e : S ≡ T = λ i m. same m i in ap (λ (U : ℕ → Bool). grown g U n) e

pub next_round : (g : Graph) (k : ℕ) (old new : ℕ → Bool) → ((n : ℕ) → old n ≡ after_rounds g k n) → ((n : ℕ) → new n ≡ grown g old n) → (n : ℕ) → new n ≡ after_rounds g (k + 1) n
next_round g k old new was grew n =
    let more : suc k ≡ k + 1 = omega arith in
    grew n ∙ grown_by g old (after_rounds g k) was n ∙ ap (λ (j : ℕ). after_rounds g j n) more

pub last_round : (g : Graph) (k : ℕ) (old new : ℕ → Bool) → k ≤ length g.blocks → ((n : ℕ) → old n ≡ after_rounds g k n) → ((n : ℕ) → new n ≡ grown g old n) → ((n : ℕ) → new n ≡ old n) → (n : ℕ) → new n ≡ least g n
last_round g k old new few was grew same n =
    let closed : IsClosed g (after_rounds g k) = λ m short. sym (was m) ∙ sym (same m) ∙ grew m ∙ grown_by g old (after_rounds g k) was m ∙ or_right (after_rounds g k m) (falls_short g (after_rounds g k) m) short in
    same n ∙ was n ∙ ap (λ (T : ℕ → Bool). T n) (sym (rounds_stay g k (length g.blocks - k) (length g.blocks) (omega (arith, few)) closed))

pub all_rounds : (g : Graph) (k : ℕ) (now : ℕ → Bool) → k ≡ length g.blocks → ((n : ℕ) → now n ≡ after_rounds g k n) → (n : ℕ) → now n ≡ least g n
all_rounds g k now e was n = was n ∙ ap (λ (j : ℕ). after_rounds g j n) e
