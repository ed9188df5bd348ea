-- No Branch near an address, by the marks on names and by where the blocks stand.
use Rattle.std.proofs.Common.{◌≡◌, ℕ, ◌+◌, ◌*◌, ◌≤◌, ◌<◌, true, Bool, List, length, get_or, Option, Some, inl, inr, refl, sym, ap, ◌∙◌, arith}
use Rattle.std.specs.Prelude.{nat_lt, unwrap_or}
use Rattle.std.proofs.lemmas.Bool.{cases_Bool, ltb-true}
use Rattle.sq_arena.specs.Entries.{ContainsKey, value_of, before}
use Rattle.sq_graph.specs.declared.item.Term.TheVariants.{Branch}
use Rattle.sq_graph.specs.Graph.{Graph}
use Rattle.sq_graph.specs.Blocks.{named, HasBlock, block_of, items_of}
use Rattle.sq_graph.specs.Places.{IsInReach}
use Rattle.sq_graph.specs.Rules.{IsGraph}
use Rattle.sq_graph.specs.Words.{block_words}
use Rattle.sq_layout.specs.Weights.{address_by}
use Rattle.sq_lookup.specs.Lowering.{nowhere}
use Rattle.sq_lookup.specs.Marks.{is_marked}
use Rattle.sq_lookup.proofs.Targets.{has_term}
use Rattle.sq_chain.specs.Around.{IsClear, IsStart}
use Rattle.sq_chain.specs.Least.{stands_at}
use Rattle.sq_chain.specs.Places.{address_behind, placed_at}
use Rattle.sq_chain.specs.Settled.{IsSettled, none_wide}
use Rattle.sq_chain.specs.Surveys.{AreMarked}
use Rattle.sq_chain.specs.Widening.{EndsInBranch}
use Rattle.sq_chain.specs.declared.shift.Shift.{Shift}
use Rattle.sq_chain.proofs.Ahead.{branch_ahead, not_ahead}
use Rattle.sq_chain.proofs.Found.{none_found, none_short}
use Rattle.sq_chain.proofs.Missed.{none_missed}
use Rattle.sq_chain.proofs.Reordered.{some_or_none}
use Rattle.sq_chain.proofs.Resurveyed.{absent}
use Rattle.sq_chain.proofs.Seen.{less_or}
use Rattle.sq_chain.proofs.Shortness.{stands_there}
use Rattle.sq_chain.proofs.Tabled.{behind_is}

behind_few : (words at : ℕ) → address_behind words ≡ Some at → words < nowhere
behind_few words at is = elim (cases_Bool (nat_lt words nowhere)) [ inl few ↦ ltb-true words nowhere few | inr none ↦ absurd (cc (rw none at is)) ]

module _ (g : Graph) (rules : IsGraph g) (addresses : List ℕ) (marks : List Bool) (placed : (n : ℕ) → placed_at addresses n ≡ address_by block_words g.blocks 0 n) (are : AreMarked g marks) where
  words_of_block : (n : ℕ) → HasBlock g n → (get_or addresses n nowhere < nowhere) × (4 * get_or addresses n nowhere ≡ stands_at block_words g n)
  words_of_block n has =
      let w : ℕ = get_or addresses n nowhere in
      let at = placed n ∙ stands_there block_words g n has in
      (behind_few w (stands_at block_words g n) at, behind_is w (stands_at block_words g n) at)

  -- a block stands there
  found_there : (r at : ℕ) → placed_at addresses r ≡ Some at → HasBlock g r × (stands_at block_words g r ≡ at)
  found_there r at there =
      let is : address_by block_words g.blocks 0 r ≡ Some at = sym (placed r) ∙ there in
      (elim (some_or_none (block_of g r)) [ inl some ↦ some | inr none ↦ absurd (cc (absent g.blocks r 0 none, is)) ], ap (λ (o : Option ℕ). unwrap_or o 0) is)

  -- a Branch that starts before such a block ends there or before
  ends_before : (r n : ℕ) → HasBlock g r → EndsInBranch g n → HasBlock g n → stands_at block_words g n < stands_at block_words g r → stands_at block_words g n + 4 * length (items_of g n) + 4 ≤ stands_at block_words g r
  ends_before r n there branch has less =
      elim (some_or_none (value_of (before (named g.blocks) r) n)) [
        | inl some ↦ branch_ahead g rules r there n branch some
        | inr none ↦ absurd (omega (arith, less, not_ahead g rules r there n has (λ (some : ContainsKey (before (named g.blocks) r) n). cc (none, some))))
      ]

  pub clear_between : (first last words start behind : ℕ) → IsStart addresses words start → (1 ≤ words → 4 * words + 4200 ≤ first) → ((w : ℕ) → w < nowhere → behind < w → last + 4096 < 4 * w)
      → ((n : ℕ) → is_marked marks n ≡ true → start ≤ get_or addresses n nowhere → behind < get_or addresses n nowhere)
      → (seam : ℕ) → first ≤ seam → seam ≤ last → IsClear g seam
  clear_between first last words start behind is far near none seam from to n branch =
      let has = has_term g n (Branch branch.cond branch.a branch.b branch.to) branch.is in
      let w : ℕ = get_or addresses n nowhere in
      let own = words_of_block n has in
      elim (less_or (get_or addresses n nowhere) start) [
        | inl less ↦
            elim is [
              | inl zero ↦ absurd (omega (arith, less, zero))
              | inr some ↦
                  let r = found_there some.1.0 (4 * start) some.1.1 in
                  let ends = ends_before some.1.0 n r.0 branch has (omega (arith, own.1, r.1, less)) in
                  inl (omega (arith, ends, r.1, far (omega (arith, less, some.0)), some.0, from))
            ]
        | inr more ↦ inr (omega (arith, near w own.0 (none n (are n branch) more), own.1, to))
      ]

-- where each Branch is far from each seam, each reaches once the chain has moved
pub clear_reaches : (g h : Graph) (shift : Shift) → IsGraph g → IsSettled g h shift → IsInReach g → IsClear g shift.seams.first → IsClear g shift.seams.second → IsClear g shift.seams.end → IsInReach h
clear_reaches g h shift rules s reach first second end =
    none_short g h shift s none_wide 0 (none_found g h shift s)
    (none_missed g h shift rules s reach none_wide (λ n branch. inr (first n branch)) (λ n branch. inr (second n branch)) (λ n branch. inr (end n branch)) tt tt) refl refl
