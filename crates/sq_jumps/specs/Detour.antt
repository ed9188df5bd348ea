-- Row J2: a lone Jump block gives its names to its target, and goes.
use Rattle.std.specs.Prelude.{◌≡◌, ℕ, Some, Option, None}
use Rattle.sq_isa.specs.declared.instructions.Cond.{Cond}
use Rattle.sq_graph.specs.declared.item.Term.TheVariants.{Branch}
use Rattle.sq_graph.specs.Graph.{Graph}
use Rattle.sq_graph.specs.Blocks.{term_of}
use Rattle.law_patch.specs.LoneJumps.{IsDetourTo, without_jump}
use Rattle.sq_layout.specs.Branches.{BranchReaches}
use Rattle.sq_graph.specs.Resolve.{jump_from}

-- J2: a lone Jump block to another block, nothing goes on into it from the slot before, and each Branch to it reaches
-- the target once it is gone
pub record IsDetour (g : Graph) (block : ℕ) : Type 0 where
  pub to : ℕ
  pub leads : IsDetourTo g block to
  pub near : (from : ℕ) (cond : Cond) (a b : ℕ) → term_of g from ≡ Some (Branch cond a b block) → BranchReaches (without_jump g block to) from to

-- J2: the block gives all its names to its target, and goes
abbrev pub without_detour_to : Graph → ℕ → Option ℕ → Graph
without_detour_to g block None = g
without_detour_to g block (Some to) = without_jump g block to

abbrev pub without_detour : Graph → ℕ → Graph
without_detour g block = without_detour_to g block (jump_from g block)
