-- A walk over the blocks of a graph in layout order.
use Rattle.std.proofs.Common.{◌≡◌, ℕ, ◌+◌, ◌≤◌, ◌<◌, ◌^◌, ◌==◌, length, sum_by, option_map, arith, false, inl, inr, List, [], ◌∷◌, ◌++◌, map, Option, Some, None, IsSome, refl, sym, ap, ◌∙◌, subst}
use Rattle.std.proofs.lemmas.Bool.{cases_Bool}
use Rattle.std.proofs.lemmas.List.Sums.{sum_by-cons}
use Rattle.sq_arena.specs.Entries.{HasDistinctKeys, value_of, before, behind, starting_at, first_key, next_key}
use Rattle.sq_arena.proofs.EntriesLaws.{absent_ahead, distinct_back, behind-append, starting_at-append}
use Rattle.sq_arena.proofs.EntriesLemmas.{some_value, split_at}
use Rattle.sq_graph.specs.Graph.{Block, Graph}
use Rattle.sq_graph.specs.Blocks.{named, block_of, block_items, items_of}
use Rattle.sq_graph.specs.Words.{block_words, words_of}
use Rattle.sq_graph.specs.Rules.{IsGraph, last_goes_on}
use Rattle.sq_graph.specs.Cursor.{IsPlace, rest_from}
use Rattle.sq_graph.proofs.Located.{located, named-append, value_of-at}
use Rattle.sq_graph.proofs.CursorLaws.{behind_parts, from_first}
use Rattle.sq_layout.proofs.Counts.{last_behind}

-- the blocks from the place on
abbrev pub blocks_from : List Block → Option ℕ → List Block
blocks_from blocks place = map (λ e. e.1) (rest_from (named blocks) place)

unnamed : (blocks : List Block) → map (λ e. e.1) (named blocks) ≡ blocks
unnamed [] = refl
unnamed (b ∷ blocks) = ap (λ bs. b ∷ bs) (unnamed blocks)

pub starts : (blocks : List Block) → (IsPlace (named blocks) (first_key (named blocks))) × (blocks_from blocks (first_key (named blocks)) ≡ blocks)
starts blocks =
    let first = from_first (named blocks) in
    (first.0, ap (λ es. map (λ e. e.1) es) first.1.1 ∙ unnamed blocks)

-- the block at a place, and those behind it, none of which has its name
pub record Step (blocks : List Block) (name : ℕ) : Type 0 where
  pub block : Block
  pub others : List Block
  pub has_name : block.name ≡ name
  pub found : value_of (named blocks) name ≡ Some block
  pub from : blocks_from blocks (Some name) ≡ block ∷ others
  pub next : blocks_from blocks (next_key (named blocks) name) ≡ others
  pub there : IsPlace (named blocks) (next_key (named blocks) name)
  pub distinct : HasDistinctKeys (named (block ∷ others))
  pub last : last_goes_on blocks ≡ last_goes_on (block ∷ others)

step_at : (front : List Block) (b : Block) (back : List Block) → HasDistinctKeys (named (front ++ b ∷ back)) → value_of (named front) b.name ≡ None → Step (front ++ b ∷ back) b.name
step_at front b back distinct ahead =
    let split : named (front ++ b ∷ back) ≡ named front ++ (b.name, b) ∷ named back = named-append front (b ∷ back) in
    let parts = behind_parts (named front) (named back) (b.name, b) (subst HasDistinctKeys split distinct) in
    let next : next_key (named (front ++ b ∷ back)) b.name ≡ first_key (named back) =
    ap (λ es. next_key es b.name) split ∙ ap first_key (behind-append (named front) (named back) b.name b ahead) in
    record {
      block = b;
      others = back;
      has_name = refl;
      found = ap (λ es. value_of es b.name) split ∙ value_of-at (named front) (named back) b.name b ahead;
      from =
          ap (λ es. map (λ e. e.1) (starting_at es b.name)) split
          ∙ ap (λ es. map (λ e. e.1) es) (starting_at-append (named front) (named back) b.name b ahead)
          ∙ ap (λ bs. b ∷ bs) (unnamed back);
      next =
          ap (λ p. blocks_from (front ++ b ∷ back) p) next
          ∙ ap (λ es. map (λ e. e.1) (rest_from es (first_key (named back)))) split
          ∙ ap (λ es. map (λ e. e.1) es) parts.rest
          ∙ unnamed back;
      there = rw (next, split) parts.place;
      distinct = distinct_back (named front) (named (b ∷ back)) (subst HasDistinctKeys split distinct);
      last = last_behind front b back;
    }

pub step : (blocks : List Block) (name : ℕ) → HasDistinctKeys (named blocks) → IsSome (value_of (named blocks) name) → Step blocks name
step blocks name distinct there =
    let at = located blocks name there in
    let here = step_at at.front at.block at.back (subst (λ bs. HasDistinctKeys (named bs)) at.whole distinct) (subst (λ n. value_of (named at.front) n ≡ None) (sym at.has_name) at.ahead) in
    subst (λ bs. Step bs name) (sym at.whole) (subst (λ n. Step (at.front ++ at.block ∷ at.back) n) at.has_name here)

-- no other block has the name of the first
pub fresh : (b : Block) (others : List Block) (n : ℕ) → HasDistinctKeys (named (b ∷ others)) → IsSome (value_of (named others) n) → (b.name == n) ≡ false
fresh b others n distinct there =
    let v = some_value (value_of (named others) n) there in
    let split = split_at (named others) n v.0 v.1 in
    let ahead = absent_ahead ((b.name, b) ∷ before (named others) n) (behind (named others) n) n v.0 (subst (λ es. HasDistinctKeys ((b.name, b) ∷ es)) split distinct) in
    elim (cases_Bool (b.name == n)) [
      | inl same ↦ absurd (cc (rw same at ahead))
      | inr apart ↦ apart
    ]

words_of_one : (blocks : List Block) (name : ℕ) (b : Block) → value_of (named blocks) name ≡ Some b → block_words b ≤ sum_by block_words blocks
words_of_one [] name b found = absurd (cc)
words_of_one (x ∷ blocks) name b found =
    elim (cases_Bool (x.name == name)) [
      | inl same ↦
          let e : Some x ≡ Some b = rw same at found in
          let one : x ≡ b = cc in
          omega (arith, sum_by-cons block_words x blocks, ap block_words one)
      | inr apart ↦ omega (arith, sum_by-cons block_words x blocks, words_of_one blocks name b (rw apart at found))
    ]

-- what a loop knows at a block
pub record Here (g : Graph) (place : Option ℕ) (name : ℕ) : Type 0 where
  pub step : Step g.blocks name
  pub rest : blocks_from g.blocks place ≡ step.block ∷ step.others
  pub words : sum_by block_words (blocks_from g.blocks place) ≡ block_words step.block + sum_by block_words step.others
  pub few : block_words step.block ≤ sum_by block_words g.blocks
  pub items : items_of g name ≡ step.block.items
  pub ends : last_goes_on (step.block ∷ step.others) ≡ false

pub here : (g : Graph) (place : Option ℕ) (name : ℕ) → IsGraph g → place ≡ Some name → IsPlace (named g.blocks) place → Here g place name
here g place name rules is there =
    let s = step g.blocks name rules.distinct (rw is at there) in
    let rest : blocks_from g.blocks place ≡ s.block ∷ s.others = ap (blocks_from g.blocks) is ∙ s.from in
    record {
      step = s;
      rest = rest;
      words = ap (sum_by block_words) rest ∙ sum_by-cons block_words s.block s.others;
      few = words_of_one g.blocks name s.block s.found;
      items = ap block_items s.found;
      ends = sym s.last ∙ rules.ends;
    }

-- what a call tells of the words of the block
pub words_here : (g : Graph) (name words : ℕ) (b : Block) → block_of g name ≡ Some b → option_map block_words (block_of g name) ≡ Some words → words ≡ block_words b
words_here g name words b found told = let e : Some (block_words b) ≡ Some words = sym (ap (option_map block_words) found) ∙ told in cc

-- a block has few items
found_few : (bs : List Block) (n : ℕ) → length (block_items (value_of (named bs) n)) ≤ sum_by block_words bs
found_few [] n = omega arith
found_few (b ∷ bs) n =
    elim (cases_Bool (b.name == n)) [
      | inl here ↦ rw here (omega (arith, sum_by-cons block_words b bs))
      | inr apart ↦ rw apart (omega (arith, sum_by-cons block_words b bs, found_few bs n))
    ]

pub items_few : (g : Graph) (n : ℕ) → words_of g < 2 ^ 31 → length (items_of g n) < 2 ^ 31
items_few g n few = let l = found_few g.blocks n in omega (arith, few)
