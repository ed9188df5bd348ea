-- A walk along the chain of a block.
use Rattle.std.proofs.Common.{◌≡◌, ◌≢◌, ℕ, ◌+◌, ◌<◌, ◌^◌, ◌==◌, nat_eq, true, false, if◌then◌else◌, List, [], ◌∷◌, length, Option, None, Some, IsSome, is_some, inl, inr, refl, sym, ap, ◌∙◌, subst, arith, append_assoc, ◌++◌}
use Rattle.std.specs.Map.{update}
use Rattle.std.proofs.lemmas.Bool.{cases_Bool, eqb-true, eq-eqb, ne_eqb, both_ways}
use Rattle.std.proofs.lemmas.List.Elements.{All-head, All-nil}
use Rattle.sq_arena.specs.Entries.{HasDistinctKeys, value_of, ContainsKey, before, through, starting_at, behind, run, first_key}
use Rattle.sq_arena.proofs.EntriesLemmas.{starting_at-behind, split_at as split_at_key, some_value}
use Rattle.sq_arena.proofs.EntriesLaws.{absent_ahead, starting_at-append, value_of-append, or_value, distinct_back}
use Rattle.sq_graph.specs.declared.item.Term.{Term}
use Rattle.sq_graph.specs.declared.item.Term.TheVariants.{Jump}
use Rattle.sq_graph.specs.Graph.{Block, Graph}
use Rattle.sq_graph.specs.Blocks.{named, HasBlock, block_of, block_term, next_of, term_of}
use Rattle.sq_graph.specs.Rules.{IsGraph}
use Rattle.sq_graph.specs.Terms.{goes_on}
use Rattle.sq_graph.proofs.Kept.{absent_behind}
use Rattle.sq_graph.proofs.Located.{value_of-at}
use Rattle.sq_layout.proofs.Shrinking.{block_with}
use Rattle.sq_lookup.specs.Tables.{number_at}
use Rattle.sq_lookup.proofs.Targets.{targets_there}
use Rattle.sq_chain.specs.Moves.{end_of, chain_end, AreEnds, AreChains, IsInChain}
use Rattle.sq_chain.specs.declared.along.Chain.{Chain}
use Rattle.sq_chain.proofs.Reordered.{end_there, apart_from, some_or_none}

-- the walk has come to this block, ahead of which the other one isn't
pub record IsOnChain (g : Graph) (to from at : ℕ) : Type 0 where
  pub there : HasBlock g at
  pub end : end_of (starting_at (named g.blocks) at) at ≡ chain_end g to
  pub ahead : is_some (value_of (through (starting_at (named g.blocks) at) (chain_end g to)) from) ≡ is_some (value_of (run (named g.blocks) to (chain_end g to)) from)

pub chain_starts : (g : Graph) (to from : ℕ) → HasBlock g to → IsOnChain g to from to
chain_starts g to from has = record { there = has; end = refl; ahead = refl }

module _ (g : Graph) (to from at : ℕ) (rules : IsGraph g) (on : IsOnChain g to from at) (t : Term) (is : term_of g at ≡ Some t) where
  abbrev es : List (ℕ × Block)
  es = named g.blocks

  block : (b : Block) × (block_of g at ≡ Some b) × (b.term ≡ t)
  block = block_with (block_of g at) t is

  start : starting_at es at ≡ (at, block.0) ∷ behind es at
  start = starting_at-behind es at block.0 block.1

  distinct : HasDistinctKeys ((at, block.0) ∷ behind es at)
  distinct = distinct_back (before es at) ((at, block.0) ∷ behind es at) (subst (λ (xs : List (ℕ × Block)). HasDistinctKeys xs) (split_at_key es at block.0 block.1) rules.distinct)

  -- the block that is looked for is in the chain where it is this one
  pub chain_has : at ≡ from → IsInChain g to from
  chain_has same =
      sym on.ahead ∙ ap (λ (xs : List (ℕ × Block)). is_some (value_of (through xs (chain_end g to)) from)) start ∙ found (behind es at) (chain_end g to)
    where
      found : (rest : List (ℕ × Block)) (k : ℕ) → is_some (value_of (through ((at, block.0) ∷ rest) k) from) ≡ true
      found rest k =
          let here : (at == from) ≡ true = eq-eqb at from same in
          elim (cases_Bool (at == k)) [ inl last ↦ rw last (rw here refl) | inr more ↦ rw more (rw here refl) ]

  -- the chain ends here
  pub chain_ends : goes_on t ≡ false → at ≡ chain_end g to
  chain_ends off =
      let stops : goes_on block.0.term ≡ false = ap goes_on block.2 ∙ off in
      let end : end_of ((at, block.0) ∷ behind es at) at ≡ at = ap (λ u. if u then end_of (behind es at) at else at) stops in
      sym end ∙ ap (λ (xs : List (ℕ × Block)). end_of xs at) (sym start) ∙ on.end

  -- and the other block isn't in it
  pub chain_lacks : goes_on t ≡ false → at ≢ from → ¬ IsInChain g to from
  chain_lacks off apart inside =
      let e : is_some (value_of (through ((at, block.0) ∷ behind es at) at) from) ≡ true =
      ap (λ (xs : List (ℕ × Block)). is_some (value_of (through xs at) from)) (sym start)
      ∙ ap (λ k. is_some (value_of (through (starting_at es at) k) from)) (chain_ends off) ∙ on.ahead ∙ inside in
      none (behind es at) e
    where
      none : (rest : List (ℕ × Block)) → is_some (value_of (through ((at, block.0) ∷ rest) at) from) ≡ true → ⊥
      none rest f =
          let one : is_some (value_of ((at, block.0) ∷ []) from) ≡ true = rw (eq-eqb at at refl) at f in
          let no : (at == from) ≡ false = ne_eqb at from apart in
          cc (rw no at one)

  -- the walk goes on
  module _ (goes : goes_on t ≡ true) (apart : at ≢ from) (next : ℕ) (slot : next_of g at ≡ Some next) where
    rest : (c : Block) × ((others : List (ℕ × Block)) × (behind es at ≡ (next, c) ∷ others))
    rest = by_rest (behind es at) slot
      where
        by_rest : (xs : List (ℕ × Block)) → first_key xs ≡ Some next → (c : Block) × ((others : List (ℕ × Block)) × (xs ≡ (next, c) ∷ others))
        by_rest [] e = absurd (cc)
        by_rest (x ∷ xs) e = let same : x.0 ≡ next = cc in (x.1, (xs, ap (λ k. (k, x.1) ∷ xs) same))

    abbrev front : List (ℕ × Block)
    front = before es at ++ (at, block.0) ∷ []

    whole : es ≡ (before es at ++ (at, block.0) ∷ []) ++ (next, rest.0) ∷ rest.1.0
    whole =
        split_at_key es at block.0 block.1 ∙ ap (λ (xs : List (ℕ × Block)). before es at ++ (at, block.0) ∷ xs) rest.1.1
        ∙ sym (append_assoc (before es at) ((at, block.0) ∷ []) ((next, rest.0) ∷ rest.1.0))

    none_ahead : value_of (before es at ++ (at, block.0) ∷ []) next ≡ None
    none_ahead = absent_ahead front rest.1.0 next rest.0 (subst (λ (xs : List (ℕ × Block)). HasDistinctKeys xs) whole rules.distinct)

    -- what starts at the next slot
    next_start : starting_at es next ≡ behind es at
    next_start = ap (λ (xs : List (ℕ × Block)). starting_at xs next) whole ∙ starting_at-append front rest.1.0 next rest.0 none_ahead ∙ sym rest.1.1

    end_is : end_of ((next, rest.0) ∷ rest.1.0) at ≡ chain_end g to
    end_is =
        let on_block : goes_on block.0.term ≡ true = ap goes_on block.2 ∙ goes in
        let step : end_of ((at, block.0) ∷ behind es at) at ≡ end_of (behind es at) at = ap (λ u. if u then end_of (behind es at) at else at) on_block in
        ap (λ (xs : List (ℕ × Block)). end_of xs at) (sym rest.1.1) ∙ sym step ∙ ap (λ (xs : List (ℕ × Block)). end_of xs at) (sym start) ∙ on.end

    -- the end is behind this block
    not_end : (at == chain_end g to) ≡ false
    not_end =
        elim (cases_Bool (at == chain_end g to)) [
          | inl same ↦
              let there : ContainsKey (behind es at) (chain_end g to) = subst (λ (xs : List (ℕ × Block)). ContainsKey xs (chain_end g to)) (sym rest.1.1) (subst (λ k. ContainsKey ((next, rest.0) ∷ rest.1.0) k) end_is (end_there (next, rest.0) rest.1.0 at)) in
              let none : value_of (behind es at) (chain_end g to) ≡ None = subst (λ k. value_of (behind es at) k ≡ None) (eqb-true at (chain_end g to) same) (absent_behind (at, block.0) (behind es at) distinct) in
              absurd (cc (ap is_some none))
          | inr apart' ↦ apart'
        ]

    pub chain_goes_on : IsOnChain g to from next
    chain_goes_on = record {
      there = ap is_some (ap (λ (xs : List (ℕ × Block)). value_of xs next) whole ∙ value_of-at front rest.1.0 next rest.0 none_ahead);
      end = ap (λ (xs : List (ℕ × Block)). end_of xs next) (next_start ∙ rest.1.1) ∙ end_is;
      ahead =
          ap (λ (xs : List (ℕ × Block)). is_some (value_of (through xs (chain_end g to)) from)) next_start
          ∙ sym (passes (behind es at) (chain_end g to) not_end)
          ∙ ap (λ (xs : List (ℕ × Block)). is_some (value_of (through xs (chain_end g to)) from)) (sym start)
          ∙ on.ahead;
    }
      where
        passes : (xs : List (ℕ × Block)) (k : ℕ) → (at == k) ≡ false → is_some (value_of (through ((at, block.0) ∷ xs) k) from) ≡ is_some (value_of (through xs k) from)
        passes xs k other = let no : (at == from) ≡ false = ne_eqb at from apart in rw other (rw no refl)

    pub chain_shorter : length (starting_at es next) + 1 ≡ length (starting_at es at)
    chain_shorter = omega (arith, ap (λ (xs : List (ℕ × Block)). length xs) next_start, ap (λ (xs : List (ℕ × Block)). length xs) start)

-- a block that is there has a term
pub term_there : (g : Graph) (n : ℕ) → HasBlock g n → (t : Term) × (term_of g n ≡ Some t)
term_there g n has = by_block (block_of g n) has
  where
    by_block : (o : Option Block) → IsSome o → (t : Term) × (block_term o ≡ Some t)
    by_block None some = absurd (cc)
    by_block (Some b) some = (b.term, refl)

-- the target of a Jump is there
pub target_there : (g : Graph) (from to : ℕ) → IsGraph g → term_of g from ≡ Some (Jump to) → HasBlock g to
target_there g from to rules jump = All-head (HasBlock g) to [] (targets_there g from (Jump to) rules jump)

alone_has : (e : ℕ × Block) (n : ℕ) → ContainsKey (e ∷ []) n → e.0 ≡ n
alone_has e n one = elim (cases_Bool (e.0 == n)) [ inl same ↦ eqb-true e.0 n same | inr apart ↦ absurd (cc (rw apart at one)) ]

-- of the blocks as far as the first that doesn't go on, no other one doesn't
stops_last : (es : List (ℕ × Block)) (d n : ℕ) (b : Block) → value_of es n ≡ Some b → goes_on b.term ≡ false → ContainsKey (through es (end_of es d)) n → n ≡ end_of es d
stops_last [] d n b found off there = absurd (cc)
stops_last (e ∷ es) d n b found off there =
    elim (cases_Bool (goes_on e.1.term)) [
      | inl on ↦
          let is : end_of (e ∷ es) d ≡ end_of es e.0 = ap (λ t. if t then end_of es e.0 else e.0) on in
          let later : ContainsKey (through (e ∷ es) (end_of es e.0)) n = subst (λ k. ContainsKey (through (e ∷ es) k) n) is there in
          elim (cases_Bool (e.0 == n)) [
            | inl same ↦
                let block : Some e.1 ≡ Some b = rw same at found in
                let this : e.1 ≡ b = cc in
                absurd (both_ways (goes_on e.1.term) (ap (λ (c : Block). goes_on c.term) this ∙ off) on)
            | inr apart ↦
                elim (cases_Bool (e.0 == end_of es e.0)) [
                  | inl last ↦ absurd (cc (rw apart at (rw last at later)))
                  | inr further ↦ stops_last es e.0 n b (rw apart at found) off (rw apart at (rw further at later)) ∙ sym is
                ]
          ]
      | inr stops ↦
          let is : end_of (e ∷ es) d ≡ e.0 = ap (λ t. if t then end_of es e.0 else e.0) stops in
          let here : ContainsKey (through (e ∷ es) e.0) n = subst (λ k. ContainsKey (through (e ∷ es) k) n) is there in
          sym (alone_has e n (rw (eq-eqb e.0 e.0 refl) at here)) ∙ sym is
    ]

through_has : (es : List (ℕ × Block)) (k n : ℕ) → ContainsKey (through es k) n → ContainsKey es n
through_has [] k n there = absurd (cc)
through_has (e ∷ es) k n there =
    elim (cases_Bool (e.0 == n)) [
      | inl here ↦ rw here refl
      | inr apart ↦
          elim (cases_Bool (e.0 == k)) [
            | inl last ↦ absurd (cc (rw apart at (rw last at there)))
            | inr further ↦ rw apart (through_has es k n (rw apart at (rw further at there)))
          ]
    ]

has_through : (es : List (ℕ × Block)) (k : ℕ) → ContainsKey es k → ContainsKey (through es k) k
has_through [] k there = there
has_through (e ∷ es) k there =
    elim (cases_Bool (e.0 == k)) [ inl here ↦ rw here (rw here refl) | inr apart ↦ rw apart (rw apart (has_through es k (rw apart at there))) ]

module _ (g : Graph) (to : ℕ) (there : HasBlock g to) where
  abbrev all : List (ℕ × Block)
  all = named g.blocks

  first : (b : Block) × (value_of all to ≡ Some b)
  first = some_value (value_of all to) there

  starts : starting_at all to ≡ (to, first.0) ∷ behind all to
  starts = starting_at-behind all to first.0 first.1

  -- the last block of a chain is in it
  pub end_inside : IsInChain g to (chain_end g to)
  end_inside =
      has_through (starting_at all to) (chain_end g to)
      (subst (λ (xs : List (ℕ × Block)). ContainsKey xs (end_of xs to)) (sym starts) (end_there (to, first.0) (behind all to) to))

  -- a block that is in a chain, and goes on to none, is its last one
  pub stops_at_end : (n : ℕ) (t : Term) → IsGraph g → term_of g n ≡ Some t → goes_on t ≡ false → IsInChain g to n → n ≡ chain_end g to
  stops_at_end n t rules is off inside =
      stops_last (starting_at all to) to n block.0 here (ap goes_on block.2 ∙ off) inside
    where
      block : (b : Block) × (block_of g n ≡ Some b) × (b.term ≡ t)
      block = block_with (block_of g n) t is

      split : all ≡ before all to ++ starting_at all to
      split = split_at_key all to first.0 first.1 ∙ ap (λ (xs : List (ℕ × Block)). before all to ++ xs) (sym starts)

      here : value_of (starting_at all to) n ≡ Some block.0
      here =
          elim (some_or_none (value_of (before all to) n)) [
            | inl ahead ↦
                let none = apart_from (before all to) (starting_at all to) n (subst (λ (xs : List (ℕ × Block)). HasDistinctKeys xs) split rules.distinct) ahead in
                absurd (cc (none, through_has (starting_at all to) (chain_end g to) n inside))
            | inr none ↦
                let whole : value_of all n ≡ or_value (value_of (before all to) n) (value_of (starting_at all to) n) =
                ap (λ (xs : List (ℕ × Block)). value_of xs n) split ∙ value_of-append (before all to) (starting_at all to) n in
                sym (rw none at whole) ∙ block.1
          ]

-- no end is known at first
pub none_known : (g : Graph) (ends : List (Option ℕ)) → ends ≡ [] → AreEnds g ends
none_known g ends empty n end found =
    let none : number_at ends n ≡ None = ap (λ (es : List (Option ℕ)). number_at es n) empty in
    absurd (cc (none, found))

-- no chain is known at first
pub no_chains : (g : Graph) (chains : List Chain) → chains ≡ [] → AreChains g chains
no_chains g chains empty = subst (λ (cs : List Chain). AreChains g cs) (sym empty) (All-nil (λ (chain : Chain). chain.end ≡ chain_end g chain.head))

-- one end more is known
pub ends_with : (g : Graph) (ends more : List (Option ℕ)) (to end : ℕ) → end ≡ chain_end g to → end < 2 ^ 32 → AreEnds g ends → ((n : ℕ) → number_at more n ≡ update nat_eq (number_at ends) to (Some end) n) → AreEnds g more
ends_with g ends more to end is small known added n last found =
    elim (cases_Bool (to == n)) [
      | inl here ↦
          let this : Some end ≡ Some last = sym (rw here at (added n)) ∙ found in
          let same : end ≡ last = cc in
          (sym same ∙ is ∙ ap (chain_end g) (eqb-true to n here), subst (λ k. k < 2 ^ 32) same small)
      | inr apart ↦ known n last (sym (rw apart at (added n)) ∙ found)
    ]
