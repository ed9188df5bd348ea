-- A split of a block leaves the names that are used, and more blocks are fallen into by the new one alone.
use Rattle.std.proofs.Common.{◌≡◌, ℕ, ◌<◌, ◌≤◌, ◌==◌, Bool, true, false, ◌&&◌, ◌||◌, List, [], ◌∷◌, ◌++◌, take, drop, length, Option, refl, sym, ap, ◌∙◌, subst, arith, length-take, length-drop}
use Rattle.std.specs.List.{All}
use Rattle.std.proofs.lemmas.Bool.{or_left, or_right, eq-eqb}
use Rattle.std.proofs.lemmas.List.Concat.{flat_map-append}
use Rattle.std.proofs.lemmas.List.Elements.{All-cons, All-tail, All-append}
use Rattle.sq_isa.specs.Registers.{is_among}
use Rattle.sq_graph.specs.declared.item.Item.{Item}
use Rattle.sq_graph.specs.declared.item.Term.TheVariants.{Fall}
use Rattle.sq_graph.specs.Graph.{Block, Graph}
use Rattle.sq_graph.specs.Blocks.{HasBlock, block_items, items_of, items_of_blocks, items_of_bodies, all_items}
use Rattle.sq_graph.specs.Leaders.{has_no_items, is_fall, is_bare, FallsIntoLeaders}
use Rattle.sq_graph.specs.Operations.{IsNew, halves, split_at}
use Rattle.sq_graph.specs.Uses.{term_uses, items_uses, terms_uses, code_word_uses, uses}
use Rattle.sq_graph.proofs.BlockWrites.{split_items}
use Rattle.sq_graph.proofs.Changes.{with_blocks-at, items_of_blocks-kept}
use Rattle.sq_graph.proofs.Eachs.{All-left, All-right}
use Rattle.sq_graph.proofs.Located.{IsAt, located}
use Rattle.sq_graph.proofs.SlotReads.{block_at}
use Rattle.sq_tail.proofs.Uses.{falls_more}

-- a list with items isn't empty
filled : (items : List Item) (t : Bool) → 1 ≤ length items → (has_no_items items && t) ≡ false
filled [] t some = absurd (omega (arith, some))
filled (item ∷ items) t some = refl

module _ (g : Graph) (new kept from : ℕ) (unused : IsNew g new) (has : HasBlock g kept) (some : 1 ≤ from) (within : from < length (items_of g kept)) (solid : All (λ b. is_bare b ≡ false) g.blocks) (led : FallsIntoLeaders (is_among (uses g)) g.blocks) where
  abbrev s : Graph
  s = split_at g new kept from

  spot : IsAt g.blocks kept
  spot = located g.blocks kept has

  abbrev first : Block
  first = record spot.block { items = take from spot.block.items; term = Fall }

  abbrev second : Block
  second = record spot.block { name = new; items = drop from spot.block.items }

  now : s.blocks ≡ spot.front ++ (first ∷ second ∷ spot.back)
  now = with_blocks-at (halves new from) g.blocks kept spot

  many : length spot.block.items ≡ length (items_of g kept)
  many = ap (λ (o : Option Block). length (block_items o)) (sym (block_at g.blocks kept spot))

  pub terms_same : terms_uses (split_at g new kept from).blocks ≡ terms_uses g.blocks
  terms_same =
      ap terms_uses now
      ∙ flat_map-append (λ (c : Block). term_uses c.term) spot.front (first ∷ second ∷ spot.back)
      ∙ sym (ap terms_uses spot.whole ∙ flat_map-append (λ (c : Block). term_uses c.term) spot.front (spot.block ∷ spot.back))

  items_same : items_of_blocks s.blocks ≡ items_of_blocks g.blocks
  items_same = items_of_blocks-kept (halves new from) g.blocks kept spot (split_items new from spot.block)

  uses_same : uses s ≡ uses g
  uses_same = λ i. g.entry ∷ (code_word_uses g.code_words ++ (terms_same i ++ items_uses (items_same i ++ items_of_bodies g.procedures)))

  pub item_uses_same : items_uses (all_items (split_at g new kept from)) ≡ items_uses (all_items g)
  item_uses_same = λ i. items_uses (items_same i ++ items_of_bodies g.procedures)

  abbrev leads : ℕ → Bool
  leads k = is_among (uses s) k || k == new

  leads_still : (k : ℕ) → is_among (uses g) k ≡ true → leads k ≡ true
  leads_still k e = or_left (is_among (uses s) k) (k == new) (ap (λ us. is_among us k) uses_same ∙ e)

  new_leads : leads new ≡ true
  new_leads = or_right (is_among (uses s) new) (new == new) (eq-eqb new new refl)

  falls_halved : (front : List Block) → FallsIntoLeaders (is_among (uses g)) (front ++ spot.block ∷ spot.back) → FallsIntoLeaders leads (front ++ (first ∷ second ∷ spot.back))
  falls_halved [] falls = (λ fall. new_leads, by_back spot.back falls)
    where
      by_back : (back : List Block) → FallsIntoLeaders (is_among (uses g)) (spot.block ∷ back) → FallsIntoLeaders leads (second ∷ back)
      by_back [] falls = tt
      by_back (d ∷ back) falls = (λ fall. leads_still d.name (falls.0 fall), falls_more (is_among (uses g)) leads leads_still (d ∷ back) falls.1)
  falls_halved (x ∷ []) falls = (λ fall. leads_still spot.block.name (falls.0 fall), falls_halved [] falls.1)
  falls_halved (x ∷ y ∷ front) falls = (λ fall. leads_still y.name (falls.0 fall), falls_halved (y ∷ front) falls.1)

  pub split_falls : FallsIntoLeaders (λ k. is_among (uses (split_at g new kept from)) k || k == new) (split_at g new kept from).blocks
  split_falls = subst (λ (bs : List Block). FallsIntoLeaders leads bs) (sym now) (falls_halved spot.front (subst (λ (bs : List Block). FallsIntoLeaders (is_among (uses g)) bs) spot.whole led))

  pub split_solid : All (λ b. is_bare b ≡ false) (split_at g new kept from).blocks
  split_solid =
      let P : Block → Type 0 = λ b. is_bare b ≡ false in
      let all = subst (λ (bs : List Block). All (λ b. is_bare b ≡ false) bs) spot.whole solid in
      let taken = length-take from spot.block.items in
      let left = length-drop from spot.block.items in
      subst (λ (bs : List Block). All (λ b. is_bare b ≡ false) bs) (sym now)
      (All-append P spot.front (first ∷ second ∷ spot.back) (All-left P spot.front (spot.block ∷ spot.back) all)
      (All-cons P first (second ∷ spot.back) (filled (take from spot.block.items) true (omega (arith, taken, many, some, within)))
      (All-cons P second spot.back (filled (drop from spot.block.items) (is_fall spot.block.term) (omega (arith, left, many, within))) (All-tail P spot.block spot.back (All-right P spot.front (spot.block ∷ spot.back) all)))))
