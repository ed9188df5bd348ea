-- Row J3: a Branch over a lone Jump is inverted, and the Jump goes.
use Rattle.std.specs.Prelude.{◌≡◌, ℕ, Some, Option, None, ◌<◌, ◌^◌, false, List}
use Rattle.sq_isa.specs.declared.instructions.Cond.{Cond}
use Rattle.sq_graph.specs.declared.item.Term.TheVariants.{Branch}
use Rattle.sq_graph.specs.Graph.{Graph}
use Rattle.sq_graph.specs.Blocks.{next_of, term_of, named}
use Rattle.law_patch.specs.LoneJumps.{IsJumpedOver, inverted_over}
use Rattle.sq_layout.specs.Branches.{BranchReaches}
use Rattle.sq_graph.specs.declared.item.Term.{Term}
use Rattle.sq_graph.specs.Resolve.{jump_from}
use Rattle.std.specs.List.{Contains}
use Rattle.sq_arena.specs.Entries.{HasDistinctKeys}
use Rattle.sq_graph.specs.Places.{block_address}
use Rattle.sq_graph.specs.Uses.{uses}
use Rattle.sq_graph.specs.Words.{words_of}
use Rattle.sq_lookup.specs.Names.{is_listed}
use Rattle.sq_layout.specs.Shrinks.{Shrinks}

-- J3: a Branch over the next slot, which is a lone Jump block to another block and is named by nothing, to the slot
-- after it, and the inverted Branch reaches the Jump's target once the block is gone. A lone Jump block to itself is
-- named by its own Jump
pub record BranchesOverJump (g : Graph) (block : ℕ) : Type 0 where
  pub cond : Cond
  pub a : ℕ
  pub b : ℕ
  pub over : ℕ
  pub behind : ℕ
  pub to : ℕ
  pub jumped : IsJumpedOver g block cond a b over behind to
  pub near : BranchReaches (inverted_over g block cond a b over to) block to

-- J3: the Branch is inverted, to the target of the Jump, and the lone Jump block goes
abbrev pub inverted_to : Graph → ℕ → Option Term → Option ℕ → Option ℕ → Graph
inverted_to g block (Some (Branch cond a b behind)) (Some over) (Some to) = inverted_over g block cond a b over to
inverted_to g block term next target = g

abbrev pub target_of : Graph → Option ℕ → Option ℕ
target_of g None = None
target_of g (Some over) = jump_from g over

abbrev pub inverted : Graph → ℕ → Graph
inverted g block = inverted_to g block (term_of g block) (next_of g block) (target_of g (next_of g block))

-- These are the addresses of the blocks of a graph before this one, of which since then some went and others lost words,
-- so that no two that are left are further apart. And no name is used but these.
pub record IsStillSafe (address : ℕ → Option ℕ) (used : List ℕ) (g : Graph) : Type 0 where
  pub before : Graph
  pub distinct : HasDistinctKeys (named before.blocks)
  pub few : words_of before < 2 ^ 31
  pub addresses : (n : ℕ) → address n ≡ block_address before 0 n
  pub shrinks : Shrinks before.blocks g.blocks
  pub unused : (n : ℕ) → is_listed used n ≡ false → ¬ Contains (uses g) n
