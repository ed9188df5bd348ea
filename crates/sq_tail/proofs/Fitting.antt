-- The items of a block fit.
use Rattle.std.proofs.Common.{◌≡◌, ℕ, ◌-◌, [], ◌∷◌, Option, None, Some, IsSome, is_some, length, refl, sym, ap, subst, arith}
use Rattle.std.specs.List.{All}
use Rattle.std.proofs.lemmas.Bool.{eq-eqb}
use Rattle.std.proofs.lemmas.List.Elements.{All-nil}
use Rattle.sq_arena.specs.Entries.{value_of}
use Rattle.sq_graph.specs.declared.item.Item.{Item}
use Rattle.sq_graph.specs.Graph.{Block, Graph}
use Rattle.sq_graph.specs.Blocks.{named, HasBlock, block_of, block_items, items_of}
use Rattle.sq_graph.specs.Rules.{IsGraph, ItemFits}
use Rattle.sq_graph.proofs.Located.{located}
use Rattle.sq_graph.proofs.SlotReads.{block_at}
use Rattle.sq_graph.proofs.OperationRules.{block_there}
use Rattle.sq_tail.specs.Ends.{item_back}
use Rattle.sq_tail.proofs.Ending.{some_item, back_is}

pub items_fit : (g : Graph) (block : ℕ) → IsGraph g → All ItemFits (items_of g block)
items_fit g block rules = by_block (block_of g block) refl
  where
    own : (b : Block) → IsSome (value_of (named (b ∷ [])) b.name)
    own b = rw (eq-eqb b.name b.name refl) refl

    by_block : (o : Option Block) → block_of g block ≡ o → All ItemFits (items_of g block)
    by_block None is = subst (λ items. All ItemFits items) (sym (ap block_items is)) (All-nil ItemFits)
    by_block (Some b) is =
        let has : HasBlock g block = ap is_some is in
        let at = located g.blocks block has in
        let stands = block_there (λ b. b ∷ []) g block rules at own in
        subst (λ items. All ItemFits items) (sym (ap block_items (block_at g.blocks block at))) (λ k d l. let item = stands.items k d l in item.fits)

pub back_fits : (g : Graph) → IsGraph g → (name n : ℕ) (item : Item) → item_back n (items_of g name) ≡ Some item → ItemFits item
back_fits g rules name n item e =
    let b = back_is n (items_of g name) item e in
    subst ItemFits (sym b.is) (items_fit g name rules (length (items_of g name) - 1 - n) some_item (omega (arith, b.within)))
