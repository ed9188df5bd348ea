-- Where blocks stand in canonical graphs: graphs that differ in the names of new blocks alone have the others in the same places.
use Rattle.std.proofs.Common.{◌≡◌, ◌⊎◌, ℕ, ◌+◌, ◌==◌, true, false, if◌then◌else◌, List, [], ◌∷◌, map, Option, Some, None, is_some, inl, inr, refl, sym, ap, ◌∙◌, subst}
use Rattle.std.specs.List.{AllByRecursion}
use Rattle.std.specs.Option.{unwrap_or}
use Rattle.std.proofs.lemmas.Bool.{cases_Bool, both_ways, eqb-false, ne_eqb}
use Rattle.std.proofs.lemmas.List.Elements.{All-head, All-tail, All-cons, All-weaker, All-from_recursion, recursion_from_All}
use Rattle.sq_arena.specs.Entries.{value_of}
use Rattle.sq_graph.specs.Alike.{AreAlike, IsOneToOne}
use Rattle.sq_graph.specs.Blocks.{named, HasBlock, block_of}
use Rattle.sq_graph.specs.Bypasses.{passed}
use Rattle.sq_graph.specs.Canonical.{canonical_of}
use Rattle.sq_graph.specs.Graph.{Block, Graph}
use Rattle.sq_graph.specs.Leaders.{is_bare}
use Rattle.sq_graph.specs.Parts.{names_of}
use Rattle.sq_graph.specs.Renames.{renamed_block, renamed}
use Rattle.sq_graph.specs.Rules.{IsGraph}
use Rattle.sq_graph.specs.Slotted.{number_in}
use Rattle.sq_graph.proofs.AlikeCanonical.{canonical_there, canonical_renamed}
use Rattle.sq_graph.proofs.AlikeGraphs.{alike_rules}
use Rattle.sq_graph.proofs.CanonicalLaws.{canonical_is_graph, canonical_entry}
use Rattle.sq_graph.proofs.Renamed.{names_there, same_test, there_too, renamed_rules}
use Rattle.sq_graph.proofs.Slotting.{positions_apart}
use Rattle.sq_pass.specs.Applied.{KeepsNames}

-- PLACES

-- a name has a number where it is that of a block
pub number_there : (bs : List Block) (k n : ℕ) → is_some (number_in (map (λ b. b.name) bs) k n) ≡ is_some (value_of (named bs) n)
number_there [] k n = refl
number_there (b ∷ bs) k n =
    elim (cases_Bool (b.name == n)) [
      | inl here ↦ rw here refl
      | inr apart ↦ rw apart (number_there bs (k + 1) n)
    ]

pub absent : (o : Option ℕ) → is_some o ≡ false → o ≡ None
absent None e = refl
absent (Some n) e = absurd (cc)

-- other names have the same numbers
module _ (g : Graph) (f : ℕ → ℕ) (apart : IsOneToOne f g) where
  number_named : (bs : List Block) (k n : ℕ) → AllByRecursion (λ b. HasBlock g b.name) bs → HasBlock g n → number_in (map (λ b. b.name) (map (renamed_block f) bs)) k (f n) ≡ number_in (map (λ b. b.name) bs) k n
  number_named [] k n names has = refl
  number_named (b ∷ bs) k n names has =
      ap (λ t. if t then Some k else number_in (map (λ b. b.name) (map (renamed_block f) bs)) (k + 1) (f n)) (same_test f (HasBlock g) apart b.name n names.0 has)
      ∙ ap (λ o. if b.name == n then Some k else o) (number_named bs (k + 1) n names.1 has)

  pub number_renamed : (n : ℕ) → HasBlock g n → number_in (names_of (renamed f g)) 0 (f n) ≡ number_in (names_of g) 0 n
  number_renamed n has = number_named g.blocks 0 n (names_there g.blocks) has

-- THE CANONICAL GRAPH

-- the name of no block is passed to no other one
passed_by : (bs : List Block) (n : ℕ) → is_some (value_of (named bs) n) ≡ false → passed bs n ≡ n
passed_by [] n none = refl
passed_by (b ∷ bs) n none =
    elim (cases_Bool (b.name == n)) [
      | inl here ↦ absurd (cc (rw here at none))
      | inr apart ↦
          let differs : (n == b.name) ≡ false = ne_eqb n b.name (λ e. absurd (eqb-false b.name n apart (sym e))) in
          let rest = passed_by bs n (rw apart at none) in
          elim (cases_Bool (is_bare b)) [
            | inl bare ↦ rw (bare, differs) rest
            | inr solid ↦ rw solid rest
          ]
    ]

-- the graph that enters by this block
abbrev entered : Graph → ℕ → Graph
entered g n = record g { entry = n }

entered_rules : (g : Graph) (n : ℕ) → IsGraph g → HasBlock g n → IsGraph (entered g n)
entered_rules g n rules has = record {
  distinct = rules.distinct;
  named_all = All-cons (HasBlock g) n _ has (All-tail (HasBlock g) g.entry _ rules.named_all);
  called_all = rules.called_all;
  ends = rules.ends;
  code_words = rules.code_words;
  items = rules.items;
  terms = rules.terms;
  procedures = rules.procedures;
}

pub entry_there : (g : Graph) → IsGraph g → HasBlock g g.entry
entry_there g rules = All-head (HasBlock g) g.entry _ rules.named_all

-- the name of a block is passed to one that stays in the canonical graph
passed_there : (g : Graph) (n : ℕ) → IsGraph g → HasBlock g n → HasBlock g (passed g.blocks n)
passed_there g n rules has =
    let by = entered_rules g n rules has in
    let c = canonical_of (entered g n) in
    let last = entry_there (canonical_of (entered g n)) (canonical_is_graph (entered g n) by) in
    subst (HasBlock g) (canonical_entry (entered g n) by) (canonical_there (entered g n) c.entry by last)

-- under other names it is passed to that one's other name
passed_renamed : (f : ℕ → ℕ) (g : Graph) (n : ℕ) → IsGraph g → IsOneToOne f g → HasBlock g n → passed (renamed f g).blocks (f n) ≡ f (passed g.blocks n)
passed_renamed f g n rules apart has =
    let by = entered_rules g n rules has in
    sym (canonical_entry (renamed f (entered g n)) (renamed_rules f (entered g n) apart by))
    ∙ ap (λ (h : Graph). h.entry) (canonical_renamed f (entered g n) by apart)
    ∙ ap f (canonical_entry (entered g n) by)

-- the blocks of the canonical graph are those of the graph
canonical_names : (g : Graph) → IsGraph g → AllByRecursion (λ b. HasBlock g b.name) (canonical_of g).blocks
canonical_names g rules =
    let blocks = (canonical_of g).blocks in
    let own = All-from_recursion (λ (b : Block). HasBlock (canonical_of g) b.name) blocks (names_there blocks) in
    recursion_from_All (λ (b : Block). HasBlock g b.name) blocks
    (All-weaker (λ (b : Block). HasBlock (canonical_of g) b.name) (λ (b : Block). HasBlock g b.name) (λ b has. canonical_there g b.name rules has) blocks own)

-- where a block stands in the canonical graph
abbrev pub place_of : Graph → ℕ → Option ℕ
place_of g n = number_in (names_of (canonical_of g)) 0 (passed g.blocks n)

place_renamed : (f : ℕ → ℕ) (g : Graph) (n : ℕ) → IsGraph g → IsOneToOne f g → HasBlock g n → place_of (renamed f g) (f n) ≡ place_of g n
place_renamed f g n rules apart has =
    (λ i. number_in (names_of (canonical_renamed f g rules apart i)) 0 (passed_renamed f g n rules apart has i))
    ∙ number_named g f apart (canonical_of g).blocks 0 (passed g.blocks n) (canonical_names g rules) (passed_there g n rules has)

-- a name of no block has no place
place_absent : (g : Graph) (n : ℕ) → IsGraph g → is_some (block_of g n) ≡ false → place_of g n ≡ None
place_absent g n rules none =
    ap (number_in (names_of (canonical_of g)) 0) (passed_by g.blocks n none)
    ∙ absent (number_in (names_of (canonical_of g)) 0 n) (not_there (cases_Bool (is_some (block_of (canonical_of g) n))))
  where
    not_there : (is_some (block_of (canonical_of g) n) ≡ true) ⊎ (is_some (block_of (canonical_of g) n) ≡ false) → is_some (number_in (names_of (canonical_of g)) 0 n) ≡ false
    not_there (inl has) = absurd (both_ways (is_some (block_of g n)) none (canonical_there g n rules has))
    not_there (inr not) = number_there (canonical_of g).blocks 0 n ∙ not

-- BLOCKS THAT KEEP THEIR NAMES

module _ (old made told : Graph) (rules : IsGraph made) (alike : AreAlike made told) (kept : KeepsNames old told made) where
  pub same_there : (n : ℕ) → HasBlock old n → is_some (block_of made n) ≡ is_some (block_of told n)
  same_there n has = sym (number_there made.blocks 0 n) ∙ ap is_some (kept n has) ∙ number_there told.blocks 0 n

  same_name : (n : ℕ) → HasBlock old n → HasBlock made n → alike.name n ≡ n
  same_name n has here =
      let f = alike.name in
      let there : HasBlock told n = sym (same_there n has) ∙ here in
      let other : HasBlock told (alike.name n) = subst (λ (k : Graph). HasBlock k (alike.name n)) (sym alike.is) (there_too alike.name made alike.one_to_one n here) in
      let number : number_in (names_of told) 0 (alike.name n) ≡ number_in (names_of told) 0 n =
      ap (λ (k : Graph). number_in (names_of k) 0 (alike.name n)) alike.is ∙ number_renamed made alike.name alike.one_to_one n here ∙ kept n has
      in
      positions_apart told (alike.name n) n other there (ap (λ o. unwrap_or o 0) number)

  -- they stand in the same places of the canonical graphs
  pub same_place : (n : ℕ) → HasBlock old n → place_of made n ≡ place_of told n
  same_place n has =
      elim (cases_Bool (is_some (block_of made n))) [
        | inl here ↦
            sym (place_renamed alike.name made n rules alike.one_to_one here)
            ∙ ap (λ (k : Graph). place_of k (alike.name n)) (sym alike.is)
            ∙ ap (place_of told) (same_name n has here)
        | inr none ↦
            place_absent made n rules none
            ∙ sym (place_absent told n (alike_rules made told rules alike) (sym (same_there n has) ∙ none))
      ]
