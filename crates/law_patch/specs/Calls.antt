-- Items of a block that become a call of a procedure.
use Rattle.std.specs.Prelude.{◌≡◌, ℕ, ◌+◌, ◌≤◌, length, List, [], ◌∷◌, Some}
use Rattle.std.specs.List.{slice_range}
use Rattle.sq_graph.specs.declared.item.Item.{Item}
use Rattle.sq_graph.specs.declared.item.Item.TheVariants.{Out}
use Rattle.sq_graph.specs.Graph.{Graph}
use Rattle.sq_graph.specs.Blocks.{HasBlock, HasProcedure, items_of, body_of, link_of}
use Rattle.sq_graph.specs.Rules.{IsGraph}
use Rattle.sq_graph.specs.Operations.{replaced}
use Rattle.sq_graph.specs.Lines.{place_lines}
use Rattle.sq_graph.specs.Walks.{IsLive}
use Rattle.sq_graph.specs.Matches.{Match, PairsDie}
use Rattle.sq_graph.specs.Soundness.{IsSound}
use Rattle.law_follow.specs.Follows.{Follows}

-- where the items end that stand in a block from `at` on and are as many as the procedure's body has
abbrev pub call_end : Graph → ℕ → ℕ → ℕ
call_end g at procedure = at + length (body_of g procedure)

-- These items are the procedure's body, and its link is dead behind them.
pub record IsCallable (g : Graph) (block at procedure : ℕ) : Type 0 where
  pub block_there : HasBlock g block
  pub procedure_there : HasProcedure g procedure
  pub within : call_end g at procedure ≤ length (items_of g block)
  pub items : slice_range (items_of g block) at (call_end g at procedure) ≡ body_of g procedure
  pub dead : (link : ℕ) → link_of g procedure ≡ Some link → ¬ IsLive g link (place_lines g block (call_end g at procedure))

-- They become an Out of it.
abbrev pub called_there : Graph → ℕ → ℕ → ℕ → Graph
called_there g block at procedure = replaced g block at (length (body_of g procedure)) (Out procedure ∷ [])

-- A graph with a call in place of the items of a procedure's body follows it, and is sound where it is.
abbrev pub CallFollows : Type 0
CallFollows = (g : Graph) (block at procedure : ℕ) → IsGraph g → IsCallable g block at procedure → Follows g (called_there g block at procedure)

abbrev pub CallIsSound : Type 0
CallIsSound = (g : Graph) (block at procedure : ℕ) → IsGraph g → IsCallable g block at procedure → IsSound g → IsSound (called_there g block at procedure)

-- the items that become the call
abbrev pub call_items : Graph → ℕ → ℕ → ℕ → List Item
call_items g block at procedure = slice_range (items_of g block) at (call_end g at procedure)

-- These items match the procedure's body. Behind them its link is dead, and so are both registers of each pair of
-- different ones.
pub record IsMatching (g : Graph) (block at procedure : ℕ) : Type 0 where
  pub block_there : HasBlock g block
  pub procedure_there : HasProcedure g procedure
  pub within : call_end g at procedure ≤ length (items_of g block)
  pub match : Match g.procedures (call_items g block at procedure) (body_of g procedure)
  pub pairs_die : PairsDie g.procedures (call_items g block at procedure) (body_of g procedure) (λ r. IsLive g r (place_lines g block (call_end g at procedure)))
  pub link_dies : (link : ℕ) → link_of g procedure ≡ Some link → ¬ IsLive g link (place_lines g block (call_end g at procedure))

-- A graph with a call in place of such items follows it, and is sound where it is.
abbrev pub MatchFollows : Type 0
MatchFollows = (g : Graph) (block at procedure : ℕ) → IsGraph g → IsMatching g block at procedure → Follows g (called_there g block at procedure)

abbrev pub MatchIsSound : Type 0
MatchIsSound = (g : Graph) (block at procedure : ℕ) → IsGraph g → IsMatching g block at procedure → IsSound g → IsSound (called_there g block at procedure)
