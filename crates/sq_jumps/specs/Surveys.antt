-- What is gathered of a graph before its blocks are tested. No public clause cites this module.
use Rattle.std.specs.Prelude.{◌≡◌, ◌≢◌, ◌↔◌, ◌⊎◌, ℕ, pos, ◌-ℤ◌, ◌+◌, ◌*◌, true, List, length, Option, Some}
use Rattle.sq_isa.specs.declared.instructions.Cond.{Cond}
use Rattle.sq_graph.specs.declared.item.Term.{Term}
use Rattle.sq_graph.specs.declared.item.Term.TheVariants.{Branch}
use Rattle.sq_graph.specs.Graph.{Graph}
use Rattle.sq_graph.specs.Blocks.{items_of, next_of, term_of}
use Rattle.sq_graph.specs.Terms.{goes_on}
use Rattle.sq_graph.specs.Uses.{uses}
use Rattle.sq_graph.specs.Operations.{redirected, without_block}
use Rattle.sq_graph.specs.Resolve.{jump_from}
use Rattle.sq_graph.specs.Places.{block_address, Reaches}
use Rattle.sq_lookup.specs.Addresses.{address_of}
use Rattle.sq_layout.specs.Branches.{BranchReaches, lifted}
use Rattle.sq_lookup.specs.Names.{is_listed}

-- by these addresses, once a block of one word is gone, a Branch behind so many items of a block reaches another one
abbrev pub ReachesBy : (ℕ → ℕ) → ℕ → ℕ → ℕ → ℕ → Type 0
ReachesBy address items gone from to =
    Reaches (pos (lifted (address gone) (address to)) -ℤ pos (lifted (address gone) (address from) + 4 * items))

-- once a block of one word is gone, the Branch at the end of a block reaches another one
abbrev pub ReachesWithout : Graph → ℕ → ℕ → ℕ → Type 0
ReachesWithout g gone from to = ReachesBy (address_of g) (length (items_of g from)) gone from to

-- the block goes on into the other one, in the slot behind it
pub record GoesInto (g : Graph) (from n : ℕ) : Type 0 where
  pub term : Term
  pub is : term_of g from ≡ Some term
  pub on : goes_on term ≡ true
  pub next : next_of g from ≡ Some n

-- the block ends in a Branch to a lone Jump to another block, whose target the Branch wouldn't reach once the Jump is
-- gone
pub record IsTooFar (g : Graph) (from n : ℕ) : Type 0 where
  pub to : ℕ
  pub cond : Cond
  pub a : ℕ
  pub b : ℕ
  pub branch : term_of g from ≡ Some (Branch cond a b n)
  pub jump : jump_from g n ≡ Some to
  pub other : to ≢ n
  pub far : ¬ BranchReaches (without_block (redirected g n to) n) from to

-- the first block can't do without the second one
abbrev pub Needs : Graph → ℕ → ℕ → Type 0
Needs g from n = GoesInto g from n ⊎ IsTooFar g from n

-- the addresses of blocks, the names that are used, and those of blocks without which another one can't do
pub record IsSurvey (g : Graph) (address : ℕ → Option ℕ) (used needed : List ℕ) : Type 0 where
  pub addresses : (n : ℕ) → address n ≡ block_address g 0 n
  pub uses_are : (n : ℕ) → is_listed used n ≡ is_listed (uses g) n
  pub needs_are : (n : ℕ) → (is_listed needed n ≡ true) ↔ ((from : ℕ) × Needs g from n)
