-- Rewrites that keep a graph in reach.
use Rattle.std.specs.Prelude.{◌≡◌, ◌⊎◌, ℕ, ◌≤◌, length, Some}
use Rattle.sq_arena.specs.Entries.{HasDistinctKeys}
use Rattle.sq_isa.specs.declared.instructions.Cond.{Cond}
use Rattle.sq_graph.specs.declared.item.Term.TheVariants.{Branch}
use Rattle.sq_graph.specs.Graph.{Block, Graph}
use Rattle.sq_graph.specs.Blocks.{named, term_of}
use Rattle.sq_graph.specs.Operations.{IsNew, split_at}
use Rattle.sq_graph.specs.Places.{IsInReach}
use Rattle.sq_graph.specs.Rules.{IsGraph}
use Rattle.sq_layout.specs.Branches.{BranchReaches}
use Rattle.sq_layout.specs.Shrinks.{Shrinks}
use Rattle.sq_layout.specs.Weights.{BranchReachesBy}

-- each branch of the second graph led where it leads, or is known to reach
abbrev pub LedThere : Graph → Graph → Type 0
LedThere g h =
    (n : ℕ) (cond : Cond) (a b to : ℕ) → term_of h n ≡ Some (Branch cond a b to)
    → ((old : Cond) × (x : ℕ) × (y : ℕ) × (term_of g n ≡ Some (Branch old x y to))) ⊎ BranchReaches h n to

pub record KeepReach : Type 0 where
  -- where blocks went or lost words, and branches lead where they led or are known to reach
  pub shrink : (g h : Graph) → HasDistinctKeys (named g.blocks) → HasDistinctKeys (named h.blocks) → Shrinks g.blocks h.blocks → LedThere g h → IsInReach g → IsInReach h
  -- where a block is split in two
  pub split : (g : Graph) (new block at : ℕ) → IsGraph g → IsNew g new → IsInReach g → IsInReach (split_at g new block at)
  -- what is reached by some weights is reached by lesser ones that cover the items
  pub lighten : (heavy light : Block → ℕ) (g : Graph) (from to : ℕ) → ((b : Block) → light b ≤ heavy b) → ((b : Block) → length b.items ≤ light b) → BranchReachesBy heavy g from to → BranchReachesBy light g from to
