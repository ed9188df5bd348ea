-- Blocks of a canonical graph have the items that they had, and maybe more behind them.
use Rattle.std.proofs.Common.{◌≡◌, ℕ, suc, ◌≤◌, ◌==◌, Bool, true, false, List, [], ◌∷◌, map, length, Option, None, IsSome, inl, inr, refl, sym, ap, subst, arith, length-append}
use Rattle.std.proofs.lemmas.Bool.{cases_Bool, eqb-true}
use Rattle.sq_arena.specs.Entries.{HasDistinctKeys, value_of}
use Rattle.sq_arena.proofs.EntriesLaws.{distinct_back}
use Rattle.sq_graph.specs.declared.item.Item.{Item}
use Rattle.sq_graph.specs.Graph.{Block, Graph}
use Rattle.sq_graph.specs.Blocks.{named, HasBlock, block_items, items_of}
use Rattle.sq_graph.specs.Bypasses.{kept, passed, all_bypassed}
use Rattle.sq_graph.specs.Canonical.{joined_blocks, joined, canonical_of}
use Rattle.sq_graph.specs.Leaders.{is_bare, is_leader}
use Rattle.sq_graph.specs.Renames.{retargeted_items, retargeted_block}
use Rattle.sq_graph.specs.Rules.{IsGraph}
use Rattle.sq_graph.proofs.Bypassing.{bare_items}
use Rattle.sq_graph.proofs.CanonicalLaws.{all_bypassed_is_graph, canonical_is_joined}
use Rattle.sq_graph.proofs.Joining.{takes, with_next, joined_from, joined_blocks-from}
use Rattle.sq_graph.proofs.Kept.{absent_behind}
use Rattle.law_patch.proofs.Joining.{joined_there}

abbrev items_at : List Block → ℕ → ℕ
items_at bs n = length (block_items (value_of (named bs) n))

abbrev IsIn : List Block → ℕ → Type 0
IsIn bs n = IsSome (value_of (named bs) n)

-- BLOCKS THAT ARE JOINED

module _ (leads : ℕ → Bool) (n : ℕ) where
  -- the first one keeps its items
  first_grown : (b : Block) (rest : List Block) → (b.name == n) ≡ true → length b.items ≤ items_at (joined_from leads b rest) n
  first_grown b [] here = rw here (omega arith)
  first_grown b (next ∷ rest) here =
      elim (cases_Bool (takes leads b next)) [
        | inl joins ↦ rw joins (let more = first_grown (with_next leads b next) rest here in omega (arith, more, length-append b.items next.items))
        | inr apart ↦ rw (apart, here) (omega arith)
      ]

  -- the others were there
  others_there : (b : Block) (rest : List Block) → (b.name == n) ≡ false → IsIn (joined_from leads b rest) n → IsIn rest n
  others_there b [] other some = absurd (cc (rw other at some))
  others_there b (next ∷ rest) other some =
      elim (cases_Bool (next.name == n)) [
        | inl here ↦ rw here refl
        | inr differs ↦
            elim (cases_Bool (takes leads b next)) [
              | inl joins ↦ rw differs (others_there (with_next leads b next) rest other (rw joins at some))
              | inr apart ↦ rw differs (others_there next rest differs (rw (apart, other) at some))
            ]
      ]

  others_grown : (b : Block) (rest : List Block) → HasDistinctKeys (named rest) → (b.name == n) ≡ false → IsIn (joined_from leads b rest) n → items_at rest n ≤ items_at (joined_from leads b rest) n
  others_grown b [] distinct other some = omega arith
  others_grown b (next ∷ rest) distinct other some =
      let later = distinct_back (named (next ∷ [])) (named rest) distinct in
      elim (cases_Bool (takes leads b next)) [
        | inl joins ↦
            elim (cases_Bool (next.name == n)) [
              | inl here ↦
                  let still : IsIn rest n = others_there (with_next leads b next) rest other (rw joins at some) in
                  let gone = absent_behind (next.name, next) (named rest) distinct in
                  let none : value_of (named rest) n ≡ None = subst (λ m. value_of (named rest) m ≡ None) (eqb-true next.name n here) gone in
                  absurd (cc (subst (λ (o : Option Block). IsSome o) none still))
              | inr differs ↦ rw (joins, differs) (others_grown (with_next leads b next) rest later other (rw joins at some))
            ]
        | inr apart ↦
            elim (cases_Bool (next.name == n)) [
              | inl here ↦ rw (apart, other, here) (first_grown next rest here)
              | inr differs ↦ rw (apart, other, differs) (others_grown next rest later differs (rw (apart, other) at some))
            ]
      ]

  blocks_grown : (bs : List Block) → HasDistinctKeys (named bs) → IsIn (joined_blocks leads bs) n → items_at bs n ≤ items_at (joined_blocks leads bs) n
  blocks_grown [] distinct some = omega arith
  blocks_grown (b ∷ rest) distinct some =
      let is = joined_blocks-from leads b rest in
      subst (λ (bs : List Block). items_at (b ∷ rest) n ≤ items_at bs n) (sym is)
      (elim (cases_Bool (b.name == n)) [
        | inl here ↦ rw here (first_grown b rest here)
        | inr other ↦ rw other (others_grown b rest (distinct_back (named (b ∷ [])) (named rest) distinct) other (subst (λ (bs : List Block). IsIn bs n) is some))
      ])

-- BLOCKS THAT ARE BYPASSED

module _ (f : ℕ → ℕ) (n : ℕ) where
  as_many : (items : List Item) → length (retargeted_items f items) ≡ length items
  as_many [] = refl
  as_many (item ∷ items) = ap suc (as_many items)

  kept_there : (bs : List Block) → IsIn (map (retargeted_block f) (kept bs)) n → IsIn bs n
  kept_there [] some = some
  kept_there (b ∷ bs) some =
      elim (cases_Bool (b.name == n)) [
        | inl here ↦ rw here refl
        | inr other ↦
            elim (cases_Bool (is_bare b)) [
              | inl bare ↦ rw other (kept_there bs (rw bare at some))
              | inr solid ↦ rw other (kept_there bs (rw (solid, other) at some))
            ]
      ]

  kept_grown : (bs : List Block) → IsIn (map (retargeted_block f) (kept bs)) n → items_at bs n ≤ items_at (map (retargeted_block f) (kept bs)) n
  kept_grown [] some = omega arith
  kept_grown (b ∷ bs) some =
      elim (cases_Bool (is_bare b)) [
        | inl bare ↦
            elim (cases_Bool (b.name == n)) [
              | inl here ↦ rw here (let none = ap (λ (is : List Item). length is) (bare_items b bare) in omega (arith, none))
              | inr other ↦ rw (bare, other) (kept_grown bs (rw bare at some))
            ]
        | inr solid ↦
            elim (cases_Bool (b.name == n)) [
              | inl here ↦ rw (solid, here) (omega (arith, as_many b.items))
              | inr other ↦ rw (solid, other) (kept_grown bs (rw (solid, other) at some))
            ]
      ]

-- A CANONICAL GRAPH

module _ (g : Graph) (rules : IsGraph g) (n : ℕ) (left : HasBlock (canonical_of g) n) where
  abbrev mid : Graph
  mid = all_bypassed g

  in_joined : HasBlock (joined mid) n
  in_joined = subst (λ (k : Graph). HasBlock k n) (canonical_is_joined g rules) left

  between : HasBlock mid n
  between = joined_there mid (all_bypassed_is_graph g rules) n in_joined

  -- its blocks were there
  pub canonical_there : HasBlock g n
  canonical_there = kept_there (passed g.blocks) n g.blocks between

  -- and have no fewer items
  pub canonical_grown : length (items_of g n) ≤ length (items_of (canonical_of g) n)
  canonical_grown =
      let first : length (items_of g n) ≤ length (items_of mid n) = kept_grown (passed g.blocks) n g.blocks between in
      let second : length (items_of mid n) ≤ length (items_of (joined mid) n) = blocks_grown (is_leader mid) n mid.blocks (all_bypassed_is_graph g rules).distinct in_joined in
      subst (λ (k : Graph). length (items_of g n) ≤ length (items_of k n)) (sym (canonical_is_joined g rules)) (omega (arith, first, second))
