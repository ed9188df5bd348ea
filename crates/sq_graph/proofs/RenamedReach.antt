-- Other names take as many words, and change no address and no reach.
use Rattle.std.proofs.Common.{◌≡◌, ℕ, ◌+◌, ◌*◌, ◌==◌, if◌then◌else◌, List, [], ◌∷◌, map, length, sum_by, Some, refl, sym, ap, ◌∙◌, subst, arith}
use Rattle.std.specs.List.{All, AllByRecursion}
use Rattle.std.proofs.lemmas.List.{length-map}
use Rattle.std.proofs.lemmas.List.Elements.{All-head, All-tail}
use Rattle.std.proofs.lemmas.List.Sums.{sum_by-cons}
use Rattle.sq_graph.specs.declared.item.Item.{Item}
use Rattle.sq_graph.specs.declared.item.Term.{Term}
use Rattle.sq_graph.specs.declared.item.Term.TheVariants.{Fall, Jump, Branch, Call, PartJump, Indirect, Stop}
use Rattle.sq_graph.specs.Graph.{Block, Procedure, Graph}
use Rattle.sq_graph.specs.Alike.{IsOneToOne, AreAlike}
use Rattle.sq_graph.specs.Blocks.{HasBlock, HasProcedure}
use Rattle.sq_graph.specs.Places.{address_in, procedure_addresses, TermReaches, BranchesReach, IsInReach}
use Rattle.sq_graph.specs.Renames.{retargeted_item, retargeted_items, retargeted_term, retargeted_procedure, renamed_block, renamed}
use Rattle.sq_graph.specs.Rules.{IsGraph}
use Rattle.sq_graph.specs.Uses.{term_uses}
use Rattle.sq_graph.specs.Words.{block_words, procedure_words, words_of}
use Rattle.sq_graph.proofs.CanonicalLaws.{term_words-other, procedure_words-other}
use Rattle.sq_graph.proofs.Renamed.{names_there, same_test}
use Rattle.sq_graph.proofs.RulesByBlock.{BlockStands, by_block}

module _ (f : ℕ → ℕ) where
  pub same_length : (items : List Item) → length (retargeted_items f items) ≡ length items
  same_length items = length-map items (retargeted_item f)

  pub same_block : (b : Block) → block_words (renamed_block f b) ≡ block_words b
  same_block b = omega (arith, same_length b.items, term_words-other f b.term)

  pub same_procedure : (p : Procedure) → procedure_words (retargeted_procedure f p) ≡ procedure_words p
  same_procedure p = omega (arith, same_length p.body)

  pub same_sum : (bs : List Block) → sum_by block_words (map (renamed_block f) bs) ≡ sum_by block_words bs
  same_sum [] = refl
  same_sum (b ∷ bs) =
      omega (arith, same_sum bs, same_block b, sum_by-cons block_words b bs, sum_by-cons block_words (renamed_block f b) (map (renamed_block f) bs))

  pub same_starts : (ps : List Procedure) (at : ℕ) → procedure_addresses (map (retargeted_procedure f) ps) at ≡ procedure_addresses ps at
  same_starts [] at = refl
  same_starts (p ∷ ps) at =
      ap (λ n. at ∷ procedure_addresses (map (retargeted_procedure f) ps) (at + 4 * n)) (same_procedure p)
      ∙ ap (λ xs. at ∷ xs) (same_starts ps (at + 4 * procedure_words p))

  pub words_kept : (g : Graph) → words_of (renamed f g) ≡ words_of g
  words_kept g = omega (arith, same_sum g.blocks, procedure_words-other f g.procedures)

  module _ (g : Graph) (one : IsOneToOne f g) where
    pub same_address : (bs : List Block) (at n : ℕ) → AllByRecursion (λ b. HasBlock g b.name) bs → HasBlock g n → address_in (map (renamed_block f) bs) at (f n) ≡ address_in bs at n
    same_address [] at n all there = refl
    same_address (b ∷ bs) at n all there =
        let test = same_test f (HasBlock g) one b.name n all.0 there in
        let rest = same_address bs (at + 4 * block_words b) n all.1 there in
        let words : at + 4 * block_words (renamed_block f b) ≡ at + 4 * block_words b = omega (arith, same_block b) in
        ap (λ t. if t then Some at else address_in (map (renamed_block f) bs) (at + 4 * block_words (renamed_block f b)) (f n)) test
        ∙ ap (λ m. if b.name == n then Some at else address_in (map (renamed_block f) bs) m (f n)) words
        ∙ ap (λ o. if b.name == n then Some at else o) rest

    reach_term : (t : Term) (at : ℕ) → All (HasBlock g) (term_uses t) → TermReaches g at t → TermReaches (renamed f g) at (retargeted_term f t)
    reach_term Fall at names h = tt
    reach_term (Jump to) at names h = tt
    reach_term (Branch c a b to) at names h =
        λ target e. h target (sym (same_address g.blocks 0 to (names_there g.blocks) (All-head (HasBlock g) to [] names)) ∙ e)
    reach_term (Call link to) at names h = tt
    reach_term (PartJump link part to) at names h = tt
    reach_term (Indirect link register offset) at names h = tt
    reach_term (Stop word) at names h = tt

    reach_blocks : (bs : List Block) (at : ℕ) → All (BlockStands (HasBlock g) (HasProcedure g)) bs → BranchesReach g at bs → BranchesReach (renamed f g) at (map (renamed_block f) bs)
    reach_blocks [] at all h = tt
    reach_blocks (b ∷ bs) at all h =
        let here = All-head (BlockStands (HasBlock g) (HasProcedure g)) b bs all in
        let rest = reach_blocks bs (at + 4 * block_words b) (All-tail (BlockStands (HasBlock g) (HasProcedure g)) b bs all) h.1 in (
          subst (λ n. TermReaches (renamed f g) (at + 4 * n) (retargeted_term f b.term)) (sym (same_length b.items)) (reach_term b.term (at + 4 * length b.items) here.names h.0),
          subst (λ n. BranchesReach (renamed f g) (at + 4 * n) (map (renamed_block f) bs)) (sym (same_block b)) rest,
        )

    pub reach_kept : IsGraph g → IsInReach g → IsInReach (renamed f g)
    reach_kept rules h = let by = by_block (HasBlock g) (HasProcedure g) g rules rules.named_all rules.called_all in reach_blocks g.blocks 0 by.blocks h

pub alike_words : (g h : Graph) → AreAlike g h → words_of h ≡ words_of g
alike_words g h alike = ap words_of alike.is ∙ words_kept alike.name g

pub alike_in_reach : (g h : Graph) → IsGraph g → AreAlike g h → IsInReach g → IsInReach h
alike_in_reach g h rules alike reach = subst IsInReach (sym alike.is) (reach_kept alike.name g alike.one_to_one rules reach)
