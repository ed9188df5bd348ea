-- A loop that gives the blocks of a list their addresses, one behind another.
use Rattle.std.proofs.Common.{◌≡◌, ℕ, ◌+◌, ◌*◌, ◌≤◌, ◌<◌, ◌^◌, ◌==◌, nat_eq, false, List, [], ◌∷◌, Option, Some, None, IsSome, sum_by, refl, ap, ◌∙◌, inl, inr, arith}
use Rattle.std.specs.Map.{update}
use Rattle.std.specs.Option.{option_or}
use Rattle.std.proofs.lemmas.Bool.{cases_Bool}
use Rattle.std.proofs.lemmas.List.Sums.{sum_by-cons}
use Rattle.sq_arena.specs.Entries.{HasDistinctKeys, value_of}
use Rattle.sq_graph.specs.Graph.{Block}
use Rattle.sq_graph.specs.Blocks.{named}
use Rattle.sq_graph.specs.Rules.{last_goes_on}
use Rattle.sq_graph.specs.Words.{block_words}
use Rattle.sq_graph.specs.Places.{address_in}
use Rattle.sq_layout.proofs.Counts.{word_is_left}
use Rattle.sq_layout.proofs.Walks.{fresh}

-- these addresses are kept, and those of the rest, which stands from `at` on, are still to come
pub record IsPlaced (blocks : List Block) (lo : ℕ) (kept : ℕ → Option ℕ) (rest : List Block) (at : ℕ) : Type 0 where
  pub at_is : at + 4 * sum_by block_words rest ≡ lo + 4 * sum_by block_words blocks
  pub fresh : (n : ℕ) → IsSome (value_of (named rest) n) → kept n ≡ None
  pub known : (n : ℕ) → option_or (kept n) (address_in rest at n) ≡ address_in blocks lo n

pub none_placed : (blocks : List Block) (lo : ℕ) (kept : ℕ → Option ℕ) → ((n : ℕ) → kept n ≡ None) → IsPlaced blocks lo kept blocks lo
none_placed blocks lo kept none = record {
  at_is = refl;
  fresh = λ n there. none n;
  known = λ n. ap (λ o. option_or o (address_in blocks lo n)) (none n);
}

pub all_placed : (blocks : List Block) (lo at : ℕ) (kept : ℕ → Option ℕ) → IsPlaced blocks lo kept [] at → (n : ℕ) → kept n ≡ address_in blocks lo n
all_placed blocks lo at kept placed n = or_none (kept n) ∙ placed.known n
  where
    or_none : (o : Option ℕ) → o ≡ option_or o None
    or_none None = refl
    or_none (Some x) = refl

-- where the blocks behind one begin
pub at_behind : (blocks : List Block) (lo at : ℕ) (kept : ℕ → Option ℕ) (b : Block) (rest : List Block) → IsPlaced blocks lo kept (b ∷ rest) at → at + 4 * block_words b + 4 * sum_by block_words rest ≡ lo + 4 * sum_by block_words blocks
at_behind blocks lo at kept b rest placed = omega (arith, placed.at_is, sum_by-cons block_words b rest)

-- a block's own address is one of 32 bits
pub at_small : (blocks : List Block) (lo at : ℕ) (kept : ℕ → Option ℕ) (b : Block) (rest : List Block) → IsPlaced blocks lo kept (b ∷ rest) at → last_goes_on (b ∷ rest) ≡ false → lo + 4 * sum_by block_words blocks ≤ 2 ^ 32 → at < 2 ^ 32
at_small blocks lo at kept b rest placed last fits = omega (arith, placed.at_is, word_is_left b rest last)

pub one_placed : (blocks : List Block) (lo at : ℕ) (kept more : ℕ → Option ℕ) (b : Block) (rest : List Block) → IsPlaced blocks lo kept (b ∷ rest) at → HasDistinctKeys (named (b ∷ rest)) → ((n : ℕ) → more n ≡ update nat_eq kept b.name (Some at) n) → IsPlaced blocks lo more rest (at + 4 * block_words b)
one_placed blocks lo at kept more b rest placed distinct is = record {
  at_is = at_behind blocks lo at kept b rest placed;
  fresh = λ n there.
      let apart = fresh b rest n distinct there in
      is n ∙ rw apart (placed.fresh n (rw apart there));
  known = λ n. ap (λ o. option_or o (address_in rest (at + 4 * block_words b) n)) (is n) ∙ elim (cases_Bool (b.name == n)) [
    | inl same ↦
        let none : kept n ≡ None = placed.fresh n (rw same refl) in
        let known : option_or (kept n) (Some at) ≡ address_in blocks lo n = rw same at (placed.known n) in
        rw same (rw none at known)
    | inr apart ↦ rw apart (rw apart at (placed.known n))
  ];
}
