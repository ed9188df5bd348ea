-- Blocks whose bodies match have one print.
use Rattle.std.proofs.Common.{◌≡◌, ℕ, ◌==◌, zero, suc, List, [], ◌∷◌, slice_get, Option, false, inl, inr, refl, sym, subst}
use Rattle.std.specs.List.{All}
use Rattle.std.proofs.lemmas.Bool.{cases_Bool}
use Rattle.std.proofs.lemmas.List.Elements.{All-nil}
use Rattle.sq_arena.specs.Entries.{value_of}
use Rattle.sq_graph.specs.declared.item.Item.{Item}
use Rattle.sq_graph.specs.Graph.{Block, Procedure, Graph}
use Rattle.sq_graph.specs.Blocks.{named, HasProcedure, block_items, items_of, body_of, procedure_body, items_of_blocks, items_of_bodies}
use Rattle.sq_graph.specs.Rules.{ItemFits, IsGraph}
use Rattle.sq_graph.proofs.Eachs.{All-left, All-right}
use Rattle.sq_rename.specs.Bodies.{IsLiveBehind, IsBodyMatch}
use Rattle.sq_rename.proofs.Prints.{match_print}
use Rattle.sq_outline.specs.declared.spans.Span.{Span}
use Rattle.sq_outline.specs.Called.{MayCall}
use Rattle.sq_outline.specs.Prints.{print_of_items, print_of, HasPrints}
use Rattle.sq_outline.specs.Spans.{IsIn}

-- THE ITEMS OF A BLOCK FIT

blocks_fit : (bs : List Block) (name : ℕ) → All ItemFits (items_of_blocks bs) → All ItemFits (block_items (value_of (named bs) name))
blocks_fit [] name all = All-nil ItemFits
blocks_fit (b ∷ bs) name all =
    elim (cases_Bool (b.name == name)) [
      | inl here ↦ rw here (All-left ItemFits b.items (items_of_blocks bs) all)
      | inr apart ↦ rw apart (blocks_fit bs name (All-right ItemFits b.items (items_of_blocks bs) all))
    ]

pub items_fit : (g : Graph) (name : ℕ) → IsGraph g → All ItemFits (items_of g name)
items_fit g name rules = blocks_fit g.blocks name (All-left ItemFits (items_of_blocks g.blocks) (items_of_bodies g.procedures) rules.items)

bodies_fit : (ps : List Procedure) (p : ℕ) → All ItemFits (items_of_bodies ps) → All ItemFits (procedure_body (slice_get ps p))
bodies_fit [] p all = All-nil ItemFits
bodies_fit (q ∷ ps) zero all = All-left ItemFits q.body (items_of_bodies ps) all
bodies_fit (q ∷ ps) (suc p) all = bodies_fit ps p (All-right ItemFits q.body (items_of_bodies ps) all)

pub body_fits : (g : Graph) (p : ℕ) → IsGraph g → All ItemFits (body_of g p)
body_fits g p rules = bodies_fit g.procedures p (All-right ItemFits (items_of_blocks g.blocks) (items_of_bodies g.procedures) rules.items)

-- BODIES THAT MATCH

same_print : (ps : List Procedure) (items others : List Item) (Lives : ℕ → Type 0) → All ItemFits items → All ItemFits others → IsBodyMatch ps items others Lives → print_of_items others ≡ print_of_items items
same_print ps items others Lives fits fits' match = sym (match_print ps items others Lives (λ r. false) (λ r some small dead. refl) match 0 fits fits')

pub one_print : (g : Graph) (a b : ℕ) → IsGraph g → IsBodyMatch g.procedures (items_of g a) (items_of g b) (IsLiveBehind g a) → print_of g b ≡ print_of g a
one_print g a b rules match = same_print g.procedures (items_of g a) (items_of g b) (IsLiveBehind g a) (items_fit g a rules) (items_fit g b rules) match

-- a procedure that may be called for a block is in the span of its print
pub in_span : (g : Graph) (block : ℕ) (prints : ℕ → Option Span) → IsGraph g → HasPrints g prints → (procedure : ℕ) → HasProcedure g procedure → MayCall g block procedure → IsIn (prints (print_of g block)) procedure
in_span g block prints rules has procedure there may =
    let same : print_of_items (body_of g procedure) ≡ print_of g block =
    same_print g.procedures (items_of g block) (body_of g procedure) (IsLiveBehind g block) (items_fit g block rules) (body_fits g procedure rules) may.body.match in
    subst (λ n. IsIn (prints n) procedure) same (has procedure there)
