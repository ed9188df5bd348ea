-- A block that takes over the next one: that is joining where every other block leads.
use Rattle.std.proofs.Common.{◌≡◌, ◌≢◌, ℕ, ◌+◌, ◌==◌, Bool, true, false, not, List, [], ◌∷◌, ◌++◌, Option, Some, None, IsSome, is_some, refl, sym, ap, ◌∙◌, subst, inl, inr, append_assoc}
use Rattle.std.proofs.lemmas.Bool.{cases_Bool, eqb-true, eq-eqb, ne_eqb}
use Rattle.std.proofs.lemmas.List.Elements.{All-weaker}
use Rattle.std.specs.List.{All, sum_by}
use Rattle.sq_arena.specs.Entries.{HasDistinctKeys, value_of, first_key, next_key}
use Rattle.sq_arena.proofs.EntriesLaws.{absent_ahead, distinct_back}
use Rattle.sq_graph.specs.declared.item.Term.{Term}
use Rattle.sq_graph.specs.declared.item.Term.TheVariants.{Fall}
use Rattle.sq_graph.specs.Graph.{Block, Graph}
use Rattle.sq_graph.specs.Blocks.{named, HasBlock, block_term, term_of, next_of}
use Rattle.sq_graph.specs.Terms.{goes_on}
use Rattle.sq_graph.specs.Uses.{uses}
use Rattle.sq_graph.specs.Rules.{IsGraph, last_goes_on}
use Rattle.sq_graph.specs.Words.{procedure_words, words_of}
use Rattle.sq_graph.specs.Leaders.{is_fall, FallsIntoLeaders}
use Rattle.sq_graph.specs.Canonical.{joined_onto, joined_blocks, joined_by, all_but}
use Rattle.sq_graph.specs.Operations.{with_next_taken, joined_at, joined_with_next}
use Rattle.sq_graph.proofs.Located.{IsAt, located, named-append}
use Rattle.sq_graph.proofs.SlotReads.{block_at}
use Rattle.sq_graph.proofs.SplitRules.{last_goes_on-append}
use Rattle.sq_graph.proofs.Kept.{absent_behind}
use Rattle.sq_graph.proofs.Joined.{words-joined}
use Rattle.sq_graph.proofs.BlockPasses.{head_apart, rest_apart, IsHead, head_joined}
use Rattle.sq_graph.proofs.OperationRules.{next_of-at}
use Rattle.sq_graph.proofs.CanonicalLaws.{joined_by_is_graph, none_joined}

module _ (leads : ℕ → Bool) where
  -- a block stays that falls into no other block than a leader
  stays : (b : Block) (n : ℕ) (rest : List Block) → IsHead rest n → (is_fall b.term ≡ true → leads n ≡ true) → joined_onto leads b rest ≡ b ∷ rest
  stays b n [] head leader = absurd head
  stays b n (next ∷ rest) head leader =
      elim (cases_Bool (is_fall b.term)) [
        | inl falls ↦ rw (falls, ap leads head ∙ leader falls) refl
        | inr other ↦ rw other refl
      ]

  -- blocks of which at most this one falls into another block than a leader
  pub joined_but_one : (front : List Block) (b next : Block) (back : List Block) → FallsIntoLeaders leads (front ++ b ∷ []) → FallsIntoLeaders leads (next ∷ back) → joined_blocks leads (front ++ b ∷ next ∷ back) ≡ front ++ joined_onto leads b (next ∷ back)
  joined_but_one [] b next back ahead behind = ap (joined_onto leads b) (none_joined leads (next ∷ back) behind)
  joined_but_one (f ∷ []) b next back ahead behind =
      ap (joined_onto leads f) (joined_but_one [] b next back tt behind)
      ∙ stays f b.name (joined_onto leads b (next ∷ back)) (head_joined leads b (next ∷ back)) ahead.0
  joined_but_one (f ∷ h ∷ front) b next back ahead behind =
      ap (joined_onto leads f) (joined_but_one (h ∷ front) b next back ahead.1 behind)
      ∙ stays f h.name ((h ∷ front) ++ joined_onto leads b (next ∷ back)) refl ahead.0

falls_but : (b : Block) (bs : List Block) (n : ℕ) → value_of (named bs) n ≡ None → FallsIntoLeaders (all_but n) (b ∷ bs)
falls_but b [] n none = tt
falls_but b (next ∷ bs) n none =
    (λ falls. ap not (head_apart next bs n none), falls_but next bs n (rest_apart next bs n none))

falls_but_all : (bs : List Block) (n : ℕ) → value_of (named bs) n ≡ None → FallsIntoLeaders (all_but n) bs
falls_but_all [] n none = tt
falls_but_all (b ∷ bs) n none = falls_but b bs n (rest_apart b bs n none)

pub joined_at_parts : (front : List Block) (b : Block) (rest : List Block) (name : ℕ) → b.name ≡ name → value_of (named front) name ≡ None → joined_at (front ++ b ∷ rest) name ≡ front ++ with_next_taken b rest
joined_at_parts [] b rest name is ahead = rw (eq-eqb b.name name is) refl
joined_at_parts (x ∷ front) b rest name is ahead =
    elim (cases_Bool (x.name == name)) [
      | inl here ↦ absurd (cc (rw here at ahead))
      | inr apart ↦ rw apart (ap (λ bs. x ∷ bs) (joined_at_parts front b rest name is (rw apart at ahead)))
    ]

-- the block of the name falls into the next one
pub record FallsToNext (g : Graph) (name : ℕ) : Type 0 where
  pub at : IsAt g.blocks name
  pub next : Block
  pub back : List Block
  pub back_is : at.back ≡ next ∷ back
  pub falls : is_fall at.block.term ≡ true
  pub slot : next_of g name ≡ Some next.name

pub falls_to_next : (g : Graph) (name : ℕ) → IsGraph g → term_of g name ≡ Some Fall → FallsToNext g name
falls_to_next g name rules fall =
    let at = located g.blocks name (some_block (value_of (named g.blocks) name) fall) in
    let term : at.block.term ≡ Fall = let same : Some at.block.term ≡ Some Fall = sym (ap block_term (block_at g.blocks name at)) ∙ fall in cc in
    by_back at at.back refl term
  where
    some_block : (o : Option Block) → block_term o ≡ Some Fall → IsSome o
    some_block None none = absurd (cc)
    some_block (Some b) some = refl

    by_back : (at : IsAt g.blocks name) (back : List Block) → at.back ≡ back → at.block.term ≡ Fall → FallsToNext g name
    by_back at [] is term =
        let last : last_goes_on g.blocks ≡ goes_on at.block.term =
        ap last_goes_on at.whole ∙ last_goes_on-append at.front at.block at.back ∙ ap (λ bs. last_goes_on (at.block ∷ bs)) is in
        let on : goes_on at.block.term ≡ true = ap goes_on term in
        absurd (cc (rules.ends, last, on))
    by_back at (next ∷ back) is term =
        record {
          at = at;
          next = next;
          back = back;
          back_is = is;
          falls = ap is_fall term;
          slot = next_of-at g.blocks name at ∙ ap (λ bs. first_key (named bs)) is;
        }

module _ (g : Graph) (name : ℕ) (rules : IsGraph g) (pair : FallsToNext g name) where
  pub pair_there : HasBlock g name
  pair_there = ap is_some (block_at g.blocks name pair.at)

  pair_whole : g.blocks ≡ pair.at.front ++ pair.at.block ∷ pair.next ∷ pair.back
  pair_whole = pair.at.whole ∙ ap (λ bs. pair.at.front ++ pair.at.block ∷ bs) pair.back_is

  pair_joined : joined_at g.blocks name ≡ pair.at.front ++ with_next_taken pair.at.block (pair.next ∷ pair.back)
  pair_joined =
      ap (λ bs. joined_at bs name) pair_whole
      ∙ joined_at_parts pair.at.front pair.at.block (pair.next ∷ pair.back) name pair.at.has_name pair.at.ahead

  joined_by_others : joined_with_next g name ≡ joined_by (all_but pair.next.name) g
  joined_by_others =
      let front = pair.at.front in
      let b = pair.at.block in
      let next = pair.next in
      let whole : g.blocks ≡ (pair.at.front ++ pair.at.block ∷ []) ++ pair.next ∷ pair.back = pair_whole ∙ sym (append_assoc front (b ∷ []) (next ∷ pair.back)) in
      let keyed : HasDistinctKeys (named (pair.at.front ++ pair.at.block ∷ []) ++ (pair.next.name, pair.next) ∷ named pair.back) =
      subst (λ (es : List (ℕ × Block)). HasDistinctKeys es) (ap named whole ∙ named-append (front ++ b ∷ []) (next ∷ pair.back)) rules.distinct in
      let ahead = absent_ahead (named (front ++ b ∷ [])) (named pair.back) next.name next keyed in
      let none = absent_behind (next.name, next) (named pair.back) (distinct_back (named (front ++ b ∷ [])) ((next.name, next) ∷ named pair.back) keyed) in
      let unled : all_but pair.next.name pair.next.name ≡ false = ap not (eq-eqb next.name next.name refl) in
      let takes : with_next_taken pair.at.block (pair.next ∷ pair.back) ≡ joined_onto (all_but pair.next.name) pair.at.block (pair.next ∷ pair.back) = rw (pair.falls, unled) refl in
      ap (λ bs. record g { blocks = bs })
      (pair_joined
      ∙ ap (λ bs. front ++ bs) takes
      ∙ sym (joined_but_one (all_but next.name) front b next pair.back (falls_but_all (front ++ b ∷ []) next.name ahead) (falls_but next pair.back next.name none))
      ∙ sym (ap (joined_blocks (all_but next.name)) pair_whole))

  pub joined_words : words_of (joined_with_next g name) ≡ words_of g
  joined_words = ap words_of joined_by_others ∙ ap (λ n. n + sum_by procedure_words g.procedures) (words-joined (all_but pair.next.name) g.blocks)

  -- where the name of the next one isn't used, the rules hold afterwards
  pub joined_rules : All (λ n. next_of g name ≢ Some n) (uses g) → IsGraph (joined_with_next g name)
  joined_rules unused =
      let leads = all_but pair.next.name in
      subst IsGraph (sym joined_by_others)
      (joined_by_is_graph leads g rules
      (All-weaker (λ n. next_of g name ≢ Some n) (λ n. all_but pair.next.name n ≡ true) (λ n apart. ap not (ne_eqb n pair.next.name (λ same. apart (pair.slot ∙ ap Some (sym same))))) (uses g) unused))

-- joining the next one to a block, by the name of the next one
pub joined_next_is : (g : Graph) (name next : ℕ) → IsGraph g → term_of g name ≡ Some Fall → next_of g name ≡ Some next → joined_with_next g name ≡ joined_by (all_but next) g
joined_next_is g name next rules fall slot =
    let pair = falls_to_next g name rules fall in
    let same : Some pair.next.name ≡ Some next = sym pair.slot ∙ slot in
    let is : pair.next.name ≡ next = cc in
    joined_by_others g name rules pair ∙ ap (λ n. joined_by (all_but n) g) is

-- no block falls into this one
unfallen : (bs : List Block) (n : ℕ) → HasDistinctKeys (named bs) → ((m : ℕ) (t : Term) → next_key (named bs) m ≡ Some n → block_term (value_of (named bs) m) ≡ Some t → is_fall t ≡ false) → FallsIntoLeaders (all_but n) bs
unfallen [] n distinct none = tt
unfallen (b ∷ []) n distinct none = tt
unfallen (b ∷ next ∷ bs) n distinct none = (here, unfallen (next ∷ bs) n (distinct_back ((b.name, b) ∷ []) (named (next ∷ bs)) distinct) later)
  where
    here : is_fall b.term ≡ true → not (next.name == n) ≡ true
    here falls =
        elim (cases_Bool (next.name == n)) [
          | inr apart ↦ rw apart refl
          | inl same ↦
              let own = eq-eqb b.name b.name refl in
              let other : is_fall b.term ≡ false = none b.name b.term (rw own (ap Some (eqb-true next.name n same))) (rw own refl) in
              absurd (cc)
        ]

    later : (m : ℕ) (t : Term) → next_key (named (next ∷ bs)) m ≡ Some n → block_term (value_of (named (next ∷ bs)) m) ≡ Some t → is_fall t ≡ false
    later m t slot is =
        elim (cases_Bool (b.name == m)) [
          | inr apart ↦ none m t (rw apart slot) (rw apart is)
          | inl same ↦
              let gone : value_of (named (next ∷ bs)) m ≡ None = subst (λ k. value_of (named (next ∷ bs)) k ≡ None) (eqb-true b.name m same) (absent_behind (b.name, b) (named (next ∷ bs)) distinct) in
              absurd (cc (ap block_term gone, is))
        ]

pub joined_none_is : (g : Graph) (n : ℕ) → IsGraph g → ((m : ℕ) (t : Term) → next_of g m ≡ Some n → term_of g m ≡ Some t → is_fall t ≡ false) → joined_by (all_but n) g ≡ g
joined_none_is g n rules none = ap (λ bs. record g { blocks = bs }) (none_joined (all_but n) g.blocks (unfallen g.blocks n rules.distinct none))
