-- What the rules of a graph say of a block's items and term, and of a procedure.
use Rattle.std.proofs.Common.{◌≡◌, ℕ, zero, suc, List, [], ◌∷◌, Option, None, Some, is_some, refl, sym, ap, ◌∙◌, subst}
use Rattle.std.specs.Prelude.{slice_get}
use Rattle.std.specs.List.{All}
use Rattle.std.proofs.lemmas.List.Elements.{All-nil, All-head, All-tail, All-weaker}
use Rattle.sq_graph.specs.declared.item.Term.{Term}
use Rattle.sq_graph.specs.Graph.{Block, Procedure, Graph}
use Rattle.sq_graph.specs.Blocks.{HasBlock, HasProcedure, block_of, block_items, block_term, items_of, term_of}
use Rattle.sq_graph.specs.Rules.{IsGraph, ItemFits, TermFits, ProcedureFits}
use Rattle.sq_graph.proofs.Eachs.{All-right}
use Rattle.sq_graph.proofs.Located.{located}
use Rattle.sq_graph.proofs.SlotReads.{block_at}
use Rattle.sq_graph.proofs.RulesByBlock.{ItemStands, BlockStands, by_block}

-- a block that is there keeps the rules
pub block_stands : (g : Graph) (name : ℕ) (b : Block) → IsGraph g → block_of g name ≡ Some b → BlockStands (HasBlock g) (HasProcedure g) b
block_stands g name b rules here =
    let B = BlockStands (HasBlock g) (HasProcedure g) in
    let at = located g.blocks name (ap is_some here) in
    let by = by_block (HasBlock g) (HasProcedure g) g rules rules.named_all rules.called_all in
    let all = subst (λ (bs : List Block). All B bs) at.whole by.blocks in
    let same : Some at.block ≡ Some b = sym (block_at g.blocks name at) ∙ here in
    let is : at.block ≡ b = cc in
    subst B is (All-head B at.block at.back (All-right B at.front (at.block ∷ at.back) all))

pub term_fits : (g : Graph) (name : ℕ) (t : Term) → IsGraph g → term_of g name ≡ Some t → TermFits t
term_fits g name t rules here = by_block_of (block_of g name) refl here
  where
    by_block_of : (o : Option Block) → block_of g name ≡ o → block_term o ≡ Some t → TermFits t
    by_block_of None is e = absurd (cc)
    by_block_of (Some b) is e = let stands = block_stands g name b rules is in let same : b.term ≡ t = cc in subst TermFits same stands.fits

pub items_fit : (g : Graph) (name : ℕ) → IsGraph g → All ItemFits (items_of g name)
items_fit g name rules = by_block_of (block_of g name) refl
  where
    by_block_of : (o : Option Block) → block_of g name ≡ o → All ItemFits (block_items o)
    by_block_of None is = All-nil ItemFits
    by_block_of (Some b) is = let stands = block_stands g name b rules is in All-weaker (ItemStands (HasBlock g) (HasProcedure g)) ItemFits (λ item i. i.fits) b.items stands.items

pub procedure_fits : (ps : List Procedure) (number : ℕ) (p : Procedure) → All ProcedureFits ps → slice_get ps number ≡ Some p → ProcedureFits p
procedure_fits [] number p all here = absurd (cc)
procedure_fits (q ∷ ps) zero p all here = let same : q ≡ p = cc in subst ProcedureFits same (All-head ProcedureFits q ps all)
procedure_fits (q ∷ ps) (suc number) p all here = procedure_fits ps number p (All-tail ProcedureFits q ps all) here
