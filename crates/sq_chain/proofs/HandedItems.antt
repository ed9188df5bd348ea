-- One item of a block comes to name the next block in place of one that is empty with Fall.
use Rattle.std.proofs.Common.{◌≡◌, ◌≢◌, ℕ, ◌+◌, ◌≤◌, ◌<◌, ◌==◌, true, if◌then◌else◌, List, [], ◌∷◌, ◌++◌, map, take, drop, length, get_or, IsSome, refl, sym, ap, ◌∙◌, subst, take-append-drop, append_assoc, arith}
use Rattle.std.specs.List.{All, flat_map}
use Rattle.std.proofs.lemmas.Bool.{eq-eqb, ne_eqb}
use Rattle.std.proofs.lemmas.List.{append-nil, map-append, take_more}
use Rattle.std.proofs.lemmas.List.Elements.{All-nil, All-cons, All-head}
use Rattle.sq_arena.specs.Entries.{value_of}
use Rattle.sq_isa.specs.Registers.{is_among}
use Rattle.sq_graph.specs.declared.item.Item.{Item}
use Rattle.sq_graph.specs.declared.item.Item.TheVariants.{Op, Hi, Lo, Out}
use Rattle.sq_graph.specs.Graph.{Block, Procedure, Graph}
use Rattle.sq_graph.specs.Blocks.{named, HasBlock, HasProcedure, block_items, items_of, all_items}
use Rattle.sq_graph.specs.Operations.{replaced_items, replaced}
use Rattle.sq_graph.specs.Renames.{retargeted_item, swapped}
use Rattle.sq_graph.specs.Rules.{IsGraph, ItemFits, mentions}
use Rattle.sq_graph.specs.Uses.{code_word_uses, item_calls, item_uses, items_uses, term_uses, terms_uses}
use Rattle.sq_graph.proofs.Changes.{with_blocks-at}
use Rattle.sq_graph.proofs.Eachs.{All-right}
use Rattle.sq_graph.proofs.Located.{IsAt, located}
use Rattle.sq_graph.proofs.OperationRules.{block_there, replaced_rules}
use Rattle.sq_graph.proofs.RulesByBlock.{ItemStands}
use Rattle.sq_graph.proofs.SlotReads.{block_at}
use Rattle.sq_graph.proofs.SplitRules.{flat_map-at, flat_map-changed}
use Rattle.sq_lookup.specs.Counts.{count_at, times_named, AreUses, IsItemed}
use Rattle.sq_lookup.specs.Names.{held_uses}
use Rattle.sq_lookup.specs.declared.counts.Uses.{Uses}
use Rattle.sq_lookup.proofs.Counting.{times-append, times_flat, times_all, some_times, times_some}
use Rattle.sq_chain.specs.Passing.{handed_block, IsItemHanded, IsHandedOn}
use Rattle.sq_chain.proofs.Swapped.{swapped_bare, swaps_once}

module _ (bare next : ℕ) where
  item_once : (i : Item) → retargeted_item (swapped bare next) (retargeted_item (swapped bare next) i) ≡ retargeted_item (swapped bare next) i
  item_once (Op insn) = refl
  item_once (Hi rd to) = ap (λ f. Hi rd (f to)) (swaps_once bare next)
  item_once (Lo rd rs to) = ap (λ f. Lo rd rs (f to)) (swaps_once bare next)
  item_once (Out procedure) = refl

  uses_new : (old new : Item) → IsItemHanded bare next old new → item_uses new ≡ next ∷ []
  uses_new (Op insn) new turns = absurd (cc (turns.was))
  uses_new (Hi rd to) new turns = let same : to ≡ bare = let was = turns.was in cc in ap item_uses turns.is ∙ ap (λ n. n ∷ []) (swapped_bare bare next to same)
  uses_new (Lo rd rs to) new turns = let same : to ≡ bare = let was = turns.was in cc in ap item_uses turns.is ∙ ap (λ n. n ∷ []) (swapped_bare bare next to same)
  uses_new (Out procedure) new turns = absurd (cc (turns.was))

  pub calls_new : (old new : Item) → IsItemHanded bare next old new → item_calls new ≡ []
  calls_new (Op insn) new turns = absurd (cc (turns.was))
  calls_new (Hi rd to) new turns = ap item_calls turns.is
  calls_new (Lo rd rs to) new turns = ap item_calls turns.is
  calls_new (Out procedure) new turns = absurd (cc (turns.was))

  pub mentions_new : (old new : Item) → IsItemHanded bare next old new → (r : ℕ) → mentions new r ≡ mentions old r
  mentions_new (Op insn) new turns r = absurd (cc (turns.was))
  mentions_new (Hi rd to) new turns r = ap (λ i. mentions i r) turns.is
  mentions_new (Lo rd rs to) new turns r = ap (λ i. mentions i r) turns.is
  mentions_new (Out procedure) new turns r = absurd (cc (turns.was))

  fits_new : (old new : Item) → IsItemHanded bare next old new → ItemFits old → ItemFits new
  fits_new (Op insn) new turns fits = absurd (cc (turns.was))
  fits_new (Hi rd to) new turns fits = subst ItemFits (sym turns.is) fits
  fits_new (Lo rd rs to) new turns fits = subst ItemFits (sym turns.is) fits
  fits_new (Out procedure) new turns fits = absurd (cc (turns.was))

-- ONE OF THESE ITEMS

module _ (items : List Item) (at bare next : ℕ) (old new : Item) (within : at < length items) (here : old ≡ get_or items at old) (turns : IsItemHanded bare next old new) where
  abbrev front : List Item
  front = take at items

  abbrev back : List Item
  back = drop (at + 1) items

  parts : items ≡ take at items ++ old ∷ drop (at + 1) items
  parts =
      sym (take-append-drop (at + 1) items)
      ∙ ap (λ is. is ++ back) (take_more items at old within ∙ ap (λ i. front ++ i ∷ []) (sym here))
      ∙ append_assoc front (old ∷ []) back

  pub items_same : map (retargeted_item (swapped bare next)) (replaced_items items at 1 (new ∷ [])) ≡ map (retargeted_item (swapped bare next)) items
  items_same =
      let R = retargeted_item (swapped bare next) in
      map-append R front (new ∷ back)
      ∙ ap (λ i. map R front ++ i ∷ map R back) (ap R turns.is ∙ item_once bare next old)
      ∙ sym (ap (map R) parts ∙ map-append R front (old ∷ back))

  -- one use more of the one, and one less of the other
  pub times_replaced : (k : ℕ) → (if bare == k then 1 else 0) + times_named (items_uses (replaced_items items at 1 (new ∷ []))) k ≡ (if next == k then 1 else 0) + times_named (items_uses items) k
  times_replaced k =
      let T = λ (us : List ℕ). times_named us k in
      omega (
        arith,
        ap T (ap items_uses parts),
        times_flat item_uses front (old ∷ back) k,
        times_flat item_uses front (new ∷ back) k,
        times-append (item_uses old) (items_uses back) k,
        times-append (item_uses new) (items_uses back) k,
        ap T turns.was,
        ap T (uses_new bare next old new turns),
      )

  pub holds_old : (P : Item → Type 0) → All P items → P old
  holds_old P all = All-head P old back (All-right P front (old ∷ back) (subst (λ (is : List Item). All P is) parts all))

  pub item_stands : (Named Called : ℕ → Type 0) → Named next → All (ItemStands Named Called) items → ItemStands Named Called new
  item_stands Named Called there all =
      let was = holds_old (ItemStands Named Called) all in
      record {
        names = subst (λ us. All Named us) (sym (uses_new bare next old new turns)) (All-cons Named next [] there (All-nil Named));
        calls = subst (λ us. All Called us) (sym (calls_new bare next old new turns)) (All-nil Called);
        fits = fits_new bare next old new turns was.fits;
      }

-- A GRAPH

-- one of its items names the other block
module _ (g : Graph) (bs : List Block) (ps : List Procedure) (bare next : ℕ) (times : (k : ℕ) → (if bare == k then 1 else 0) + times_named (items_uses (all_items (record g { blocks = bs; procedures = ps }))) k ≡ (if next == k then 1 else 0) + times_named (items_uses (all_items g)) k) where
  abbrev h : Graph
  h = record g { blocks = bs; procedures = ps }

  pub still_used : (m : ℕ) → m ≢ bare → is_among (held_uses g) m ≡ true → is_among (held_uses (record g { blocks = bs; procedures = ps })) m ≡ true
  still_used m other used =
      let none : ◌≡◌ {A = ℕ} (if bare == m then 1 else 0) 0 = ap (λ t. if t then 1 else 0) (ne_eqb bare m (λ same. other (sym same))) in
      times_some (held_uses h) m
      (omega (
        arith,
        some_times (held_uses g) m used,
        times m,
        none,
        times-append (code_word_uses g.code_words) (items_uses (all_items g)) m,
        times-append (code_word_uses g.code_words) (items_uses (all_items h)) m,
      ))

  module _ (first more : Uses) (are : AreUses g first) (counted : IsItemed next first more) where
    pub one_counted : 1 ≤ count_at more.items.items bare
    one_counted =
        let one : ◌≡◌ {A = ℕ} (if bare == bare then 1 else 0) 1 = ap (λ t. if t then 1 else 0) (eq-eqb bare bare refl) in
        omega (arith, counted.items bare, are.items bare, times bare, one)

    pub one_less : terms_uses g.blocks ≡ terms_uses bs → (they : Uses) → IsItemed bare they more → AreUses (record g { blocks = bs; procedures = ps }) they
    one_less terms they less = record {
      items = λ k. omega (arith, less.items k, counted.items k, are.items k, times k);
      words = λ k. ap (λ ws. count_at ws.items k) (sym less.words ∙ counted.words) ∙ are.words k;
      terms = λ k.
          ap (λ ts. count_at ts.items k) (sym less.terms ∙ counted.terms) ∙ are.terms k ∙ ap (λ us. times_named us k) terms;
    }

-- ONE OF THE ITEMS OF A BLOCK

module _ (g : Graph) (block at bare next : ℕ) (old new : Item) (has : HasBlock g block) (within : at < length (items_of g block)) (here : old ≡ get_or (items_of g block) at old) (turns : IsItemHanded bare next old new) where
  spot : IsAt g.blocks block
  spot = located g.blocks block has

  own : items_of g block ≡ spot.block.items
  own = ap block_items (block_at g.blocks block spot)

  own_within : at < length spot.block.items
  own_within = omega (arith, within, ap length own)

  own_here : old ≡ get_or spot.block.items at old
  own_here = here ∙ ap (λ is. get_or is at old) own

  abbrev turn : Block → Block
  turn b = record b { items = replaced_items b.items at 1 (new ∷ []) }

  abbrev turned : Graph
  turned = replaced g block at 1 (new ∷ [])

  times_item : (k : ℕ) → (if bare == k then 1 else 0) + times_named (items_uses (all_items (replaced g block at 1 (new ∷ [])))) k ≡ (if next == k then 1 else 0) + times_named (items_uses (all_items g)) k
  times_item k =
      let T = λ (us : List ℕ). times_named us k in
      let own_uses = λ (b : Block). items_uses b.items in
      let ahead = flat_map own_uses spot.front in
      let behind = flat_map own_uses spot.back in
      omega (
        arith,
        times_all g k,
        times_all turned k,
        ap T (flat_map-at own_uses g.blocks block spot),
        ap T (flat_map-changed own_uses (λ b. turn b ∷ []) g.blocks block spot),
        times-append ahead (items_uses spot.block.items ++ behind) k,
        times-append (items_uses spot.block.items) behind k,
        times-append ahead ((items_uses (turn spot.block).items ++ []) ++ behind) k,
        times-append (items_uses (turn spot.block).items ++ []) behind k,
        times-append (items_uses (turn spot.block).items) [] k,
        times_replaced spot.block.items at bare next old new own_within own_here turns k,
      )

  terms_same : terms_uses g.blocks ≡ terms_uses (replaced g block at 1 (new ∷ [])).blocks
  terms_same =
      let own_terms = λ (b : Block). term_uses b.term in
      flat_map-at own_terms g.blocks block spot
      ∙ sym
      (flat_map-changed own_terms (λ b. turn b ∷ []) g.blocks block spot
      ∙ ap (λ (us : List ℕ). flat_map own_terms spot.front ++ (us ++ flat_map own_terms spot.back)) (append-nil (term_uses spot.block.term)))

  abbrev S : Block → Block
  S b = handed_block bare next b

  own_same : S (turn spot.block) ≡ S spot.block
  own_same = ap (λ (is : List Item). record spot.block { items = is }) (items_same spot.block.items at bare next old new own_within own_here turns)

  blocks_same : map S turned.blocks ≡ map S g.blocks
  blocks_same =
      ap (map S) (with_blocks-at (λ b. turn b ∷ []) g.blocks block spot) ∙ map-append S spot.front (turn spot.block ∷ spot.back)
      ∙ ap (λ b. map S spot.front ++ b ∷ map S spot.back) own_same
      ∙ sym (ap (map S) spot.whole ∙ map-append S spot.front (spot.block ∷ spot.back))

  pub item_handed : IsHandedOn bare next g (replaced g block at 1 (new ∷ []))
  item_handed = record {
    blocks = blocks_same;
    procedures = refl;
    entry = refl;
    words = refl;
    used = still_used g turned.blocks g.procedures bare next times_item;
  }

  pub item_rules : IsGraph g → HasBlock g next → IsGraph (replaced g block at 1 (new ∷ []))
  item_rules rules there =
      let N = HasBlock g in
      let C = HasProcedure g in
      let itself : (b : Block) → IsSome (value_of (named (b ∷ [])) b.name) = λ b. rw (eq-eqb b.name b.name refl) refl in
      let stands = block_there (λ b. b ∷ []) g block rules spot itself in
      replaced_rules g block at 1 (new ∷ []) rules has
      (All-cons (ItemStands N C) new [] (item_stands spot.block.items at bare next old new own_within own_here turns N C there stands.items) (All-nil (ItemStands N C)))

  module _ (first more : Uses) (are : AreUses g first) (counted : IsItemed next first more) where
    pub item_counted : 1 ≤ count_at more.items.items bare
    item_counted = one_counted g turned.blocks g.procedures bare next times_item first more are counted

    pub item_uses_are : (they : Uses) → IsItemed bare they more → AreUses (replaced g block at 1 (new ∷ [])) they
    item_uses_are = one_less g turned.blocks g.procedures bare next times_item first more are counted terms_same
