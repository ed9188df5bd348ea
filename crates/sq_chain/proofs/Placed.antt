-- A loop that gives each block its address when each Branch in a set counts one word more, and tests by such addresses.
use Rattle.std.proofs.Common.{◌≡◌, ℕ, pos, ◌-ℤ◌, ◌+◌, ◌*◌, ◌≤◌, ◌<◌, ◌^◌, ◌==◌, nat_eq, IsTrue, Bool, List, [], ◌∷◌, length, sum_by, Option, Some, None, IsSome, refl, sym, ap, ◌∙◌, inl, inr, arith}
use Rattle.std.specs.Prelude.{unwrap_or}
use Rattle.std.specs.Map.{update}
use Rattle.std.specs.Option.{option_or}
use Rattle.std.proofs.lemmas.Bool.{cases_Bool, false_from_ne_true, both_ways}
use Rattle.std.proofs.lemmas.List.Sums.{sum_by-cons}
use Rattle.sq_arena.specs.Entries.{HasDistinctKeys, value_of}
use Rattle.sq_graph.specs.Graph.{Block, Graph}
use Rattle.sq_graph.specs.Blocks.{named}
use Rattle.sq_graph.specs.Places.{Reaches}
use Rattle.sq_graph.specs.Words.{block_words, words_of}
use Rattle.sq_layout.specs.Weights.{address_by}
use Rattle.sq_layout.proofs.Shrinking.{some_is}
use Rattle.sq_layout.proofs.Walks.{fresh}
use Rattle.sq_lookup.specs.Addresses.{address_at}
use Rattle.sq_chain.specs.Widening.{swollen}
use Rattle.sq_chain.specs.Least.{is_near}
use Rattle.sq_chain.proofs.Shortness.{near_reaches, reaches_near}

module _ (weight : Block → ℕ) where
  -- these addresses are kept, and those of the rest, which stands from `at` on, are still to come
  pub record IsPlacedBy (blocks : List Block) (kept : ℕ → Option ℕ) (rest : List Block) (at : ℕ) : Type 0 where
    pub at_is : at + 4 * sum_by weight rest ≡ 4 * sum_by weight blocks
    pub fresh : (n : ℕ) → IsSome (value_of (named rest) n) → kept n ≡ None
    pub known : (n : ℕ) → option_or (kept n) (address_by weight rest at n) ≡ address_by weight blocks 0 n

  pub none_placed_by : (blocks : List Block) (kept : ℕ → Option ℕ) → ((n : ℕ) → kept n ≡ None) → IsPlacedBy blocks kept blocks 0
  none_placed_by blocks kept none = record {
    at_is = omega arith;
    fresh = λ n there. none n;
    known = λ n. ap (λ o. option_or o (address_by weight blocks 0 n)) (none n);
  }

  pub all_placed_by : (blocks : List Block) (at : ℕ) (kept : ℕ → Option ℕ) → IsPlacedBy blocks kept [] at → (n : ℕ) → kept n ≡ address_by weight blocks 0 n
  all_placed_by blocks at kept placed n = or_none (kept n) ∙ placed.known n
    where
      or_none : (o : Option ℕ) → o ≡ option_or o None
      or_none None = refl
      or_none (Some x) = refl

  -- where the blocks behind one begin
  pub behind_by : (blocks : List Block) (at : ℕ) (kept : ℕ → Option ℕ) (b : Block) (rest : List Block) → IsPlacedBy blocks kept (b ∷ rest) at → at + 4 * weight b + 4 * sum_by weight rest ≡ 4 * sum_by weight blocks
  behind_by blocks at kept b rest placed = omega (arith, placed.at_is, sum_by-cons weight b rest)

  pub one_placed_by : (blocks : List Block) (at : ℕ) (kept more : ℕ → Option ℕ) (b : Block) (rest : List Block) → IsPlacedBy blocks kept (b ∷ rest) at → HasDistinctKeys (named (b ∷ rest)) → ((n : ℕ) → more n ≡ update nat_eq kept b.name (Some at) n) → IsPlacedBy blocks more rest (at + 4 * weight b)
  one_placed_by blocks at kept more b rest placed distinct is = record {
    at_is = behind_by blocks at kept b rest placed;
    fresh = λ n there.
        let apart = fresh b rest n distinct there in
        is n ∙ rw apart (placed.fresh n (rw apart there));
    known = λ n. ap (λ o. option_or o (address_by weight rest (at + 4 * weight b) n)) (is n) ∙ elim (cases_Bool (b.name == n)) [
      | inl same ↦
          let none : kept n ≡ None = placed.fresh n (rw same refl) in
          let known : option_or (kept n) (Some at) ≡ address_by weight blocks 0 n = rw same at (placed.known n) in
          rw same (rw none at known)
      | inr apart ↦ rw apart (rw apart at (placed.known n))
    ];
  }

  -- an address is no further than the end
  pub most : (bs : List Block) (at n x : ℕ) → address_by weight bs at n ≡ Some x → x ≤ at + 4 * sum_by weight bs
  most [] at n x e = absurd (cc)
  most (b ∷ bs) at n x e =
      elim (cases_Bool (b.name == n)) [
        | inl here ↦ let s = some_is at x (rw here at e) in omega arith
        | inr apart ↦ let l = most bs (at + 4 * weight b) n x (rw apart at e) in omega (arith, sum_by-cons weight b bs)
      ]

-- each block counts at most a word more
pub swollen_few : (S : ℕ → Bool) (bs : List Block) → sum_by (swollen S) bs ≤ sum_by block_words bs + length bs
swollen_few S [] = omega arith
swollen_few S (b ∷ bs) =
    let more : swollen S b ≤ block_words b + 1 = elim (cases_Bool (S b.name)) [ inl listed ↦ rw listed (omega arith) | inr absent ↦ rw absent (omega arith) ] in
    omega (arith, swollen_few S bs, more, sum_by-cons (swollen S) b bs, sum_by-cons block_words b bs)

pub swollen_small : (g : Graph) (S : ℕ → Bool) (address : ℕ → Option ℕ) → ((n : ℕ) → address n ≡ address_by (swollen S) g.blocks 0 n) → words_of g < 2 ^ 31 → length g.blocks < 2 ^ 29 → (n : ℕ) → address_at address n < 2 ^ 34
swollen_small g S address same few few' n = by_place (address n) refl
  where
    by_place : (o : Option ℕ) → address n ≡ o → unwrap_or (address n) 0 < 2 ^ 34
    by_place None e = rw e (omega arith)
    by_place (Some x) e =
        let l = most (swollen S) g.blocks 0 n x (sym (same n) ∙ e) in
        rw e (omega (arith, few, few', swollen_few S g.blocks))

-- the test of a distance
pub near_test : (t : Bool) (at target : ℕ) → (IsTrue t → Reaches (pos target -ℤ pos at)) → (Reaches (pos target -ℤ pos at) → IsTrue t) → t ≡ is_near at target
near_test t at target gives given =
    elim (cases_Bool (is_near at target)) [
      | inl near ↦ given (near_reaches at target near) ∙ sym near
      | inr far ↦ false_from_ne_true t (λ e. both_ways (is_near at target) far (reaches_near at target (gives e))) ∙ sym far
    ]
