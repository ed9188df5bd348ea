-- Room for a rewrite, and what the canonical graph keeps.
use Rattle.std.proofs.Common.{◌≡◌, ◌+◌, ◌≤◌, false, List, [], ◌∷◌, length, sum_by, sym, subst, arith, length-append}
use Rattle.std.specs.List.{AllByRecursion}
use Rattle.std.proofs.lemmas.List.Elements.{recursion_from_All}
use Rattle.std.proofs.lemmas.List.Sums.{sum_by-cons}
use Rattle.sq_graph.proofs.CanonicalReach.{canonical_in_reach}
use Rattle.sq_graph.specs.declared.item.Item.{Item}
use Rattle.sq_graph.specs.declared.item.Term.{Term}
use Rattle.sq_graph.specs.declared.item.Term.TheVariants.{Fall, Jump, Branch, Call, PartJump, Indirect, Stop}
use Rattle.sq_graph.specs.declared.parts.Room.{Room}
use Rattle.sq_graph.specs.Graph.{Block, Procedure, Graph}
use Rattle.sq_graph.specs.Blocks.{items_of_blocks, items_of_bodies}
use Rattle.sq_graph.specs.Canonical.{canonical_of}
use Rattle.sq_graph.specs.Leaders.{is_bare, IsCanonical}
use Rattle.sq_graph.specs.Places.{IsInReach}
use Rattle.sq_graph.specs.Room.{IsSmall, sum_of, count_of}
use Rattle.sq_graph.specs.Rules.{IsGraph}
use Rattle.sq_graph.specs.Soundness.{IsSound}
use Rattle.sq_graph.specs.Words.{block_words, procedure_words, words_of, most_words}
use Rattle.law_follow.specs.Follows.{Follows}
use Rattle.law_patch.proofs.Joining.{canonical_follows, canonical_sound}
use Rattle.sq_pass.specs.Applied.{IsWithin}
use Rattle.sq_pass.specs.Rewrites.{IsLighter}

-- HOW MUCH A CANONICAL GRAPH HAS

pub some_word : (b : Block) → is_bare b ≡ false → 1 ≤ block_words b
some_word b e = go b.items b.term e
  where
    go : (items : List Item) (term : Term) → is_bare (record { name = b.name; items = items; term = term }) ≡ false → 1 ≤ block_words (record { name = b.name; items = items; term = term })
    go (item ∷ items) term e = omega arith
    go [] Fall e = absurd (cc)
    go [] (Jump to) e = omega arith
    go [] (Branch c a b to) e = omega arith
    go [] (Call link to) e = omega arith
    go [] (PartJump link part to) e = omega arith
    go [] (Indirect link at offset) e = omega arith
    go [] (Stop word) e = omega arith

few_blocks : (bs : List Block) → AllByRecursion (λ b. is_bare b ≡ false) bs → length bs ≤ sum_by block_words bs
few_blocks [] all = omega arith
few_blocks (b ∷ bs) all = omega (arith, few_blocks bs all.1, some_word b all.0, sum_by-cons block_words b bs)

few_items : (bs : List Block) → length (items_of_blocks bs) ≤ sum_by block_words bs
few_items [] = omega arith
few_items (b ∷ bs) = omega (arith, few_items bs, sum_by-cons block_words b bs, length-append b.items (items_of_blocks bs))

few_bodies : (ps : List Procedure) → length ps + length (items_of_bodies ps) ≤ sum_by procedure_words ps
few_bodies [] = omega arith
few_bodies (p ∷ ps) = omega (arith, few_bodies ps, sum_by-cons procedure_words p ps, length-append p.body (items_of_bodies ps))

-- room for as much as a canonical graph has words is small
pub small_room : (g : Graph) (room : Room) → IsCanonical g → words_of g ≤ most_words → IsWithin (words_of g) room → IsSmall (sum_of (count_of g) room)
small_room g room canonical few within =
    let blocks = few_blocks g.blocks (recursion_from_All (λ b. is_bare b ≡ false) g.blocks canonical.no_bare) in
    let items = few_items g.blocks in
    let bodies = few_bodies g.procedures in
    let all = length-append (items_of_blocks g.blocks) (items_of_bodies g.procedures) in
    let a = within.blocks in
    let b = within.items in
    let c = within.procedures in
    record { blocks = omega (arith, blocks, few, a); items = omega (arith, all, items, bodies, few, b); procedures = omega (arith, bodies, few, c) }

-- THE CANONICAL GRAPH

-- it keeps what a rewrite keeps, and has as many words
pub made_canonical : (mid new : Graph) → IsGraph mid → new ≡ canonical_of mid → IsCanonical new → words_of new ≡ words_of mid → IsLighter 0 mid new
made_canonical mid new rules made canonical words = record {
  follows = subst (Follows mid) (sym made) (canonical_follows mid rules);
  sound = λ s. subst IsSound (sym made) (canonical_sound mid rules s);
  reach = λ r. subst IsInReach (sym made) (canonical_in_reach mid rules r);
  canonical = canonical;
  words = omega (arith, words);
}
