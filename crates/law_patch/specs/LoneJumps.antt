-- Lone Jump blocks that go.
use Rattle.std.specs.Prelude.{◌≡◌, ◌≢◌, ℕ, false, Some}
use Rattle.std.specs.List.{Contains}
use Rattle.sq_isa.specs.Branches.{inverse_of}
use Rattle.sq_isa.specs.declared.instructions.Cond.{Cond}
use Rattle.sq_graph.specs.declared.item.Term.{Term}
use Rattle.sq_graph.specs.declared.item.Term.TheVariants.{Jump, Branch}
use Rattle.sq_graph.specs.Graph.{Graph}
use Rattle.sq_graph.specs.Blocks.{next_of, term_of}
use Rattle.sq_graph.specs.Terms.{goes_on}
use Rattle.sq_graph.specs.Uses.{uses}
use Rattle.sq_graph.specs.Rules.{IsGraph}
use Rattle.sq_graph.specs.Operations.{redirected, without_block, with_term}
use Rattle.sq_graph.specs.Resolve.{jump_from}
use Rattle.sq_graph.specs.Soundness.{IsSound}
use Rattle.law_follow.specs.Follows.{Follows}

-- nothing goes on into the block from the slot before
abbrev pub IsApart : Graph → ℕ → Type 0
IsApart g block = (before : ℕ) (term : Term) → next_of g before ≡ Some block → term_of g before ≡ Some term → goes_on term ≡ false

-- a lone Jump block to another block, into which nothing goes on
pub record IsDetourTo (g : Graph) (block to : ℕ) : Type 0 where
  pub jump : jump_from g block ≡ Some to
  pub other : to ≢ block
  pub apart : IsApart g block

-- Every use of its name becomes one of its target's, and it goes.
abbrev pub without_jump : Graph → ℕ → ℕ → Graph
without_jump g block to = without_block (redirected g block to) block

-- A graph in which a lone Jump block gave its name to its target follows it, and is sound where it is.
abbrev pub DetourFollows : Type 0
DetourFollows = (g : Graph) (block to : ℕ) → IsGraph g → IsDetourTo g block to → Follows g (without_jump g block to)

abbrev pub DetourIsSound : Type 0
DetourIsSound = (g : Graph) (block to : ℕ) → IsGraph g → IsDetourTo g block to → IsSound g → IsSound (without_jump g block to)

-- A Branch over the next slot, which is a lone Jump block that nothing names, to the slot behind that.
pub record IsJumpedOver (g : Graph) (block : ℕ) (cond : Cond) (a b over behind to : ℕ) : Type 0 where
  pub branch : term_of g block ≡ Some (Branch cond a b behind)
  pub next : next_of g block ≡ Some over
  pub slot : next_of g over ≡ Some behind
  pub jump : jump_from g over ≡ Some to
  pub unused : ¬ Contains (uses g) over

-- The Branch is inverted, to the target of the Jump, and the Jump goes.
abbrev pub inverted_over : Graph → ℕ → Cond → ℕ → ℕ → ℕ → ℕ → Graph
inverted_over g block cond a b over to = without_block (with_term g block (Branch (inverse_of cond) a b to)) over

-- A graph in which a Branch over a lone Jump became the inverted one to its target follows it, and is sound where it is.
abbrev pub InvertFollows : Type 0
InvertFollows =
    (g : Graph) (block : ℕ) (cond : Cond) (a b over behind to : ℕ) → IsGraph g → IsJumpedOver g block cond a b over behind to → Follows g (inverted_over g block cond a b over to)

abbrev pub InvertIsSound : Type 0
InvertIsSound =
    (g : Graph) (block : ℕ) (cond : Cond) (a b over behind to : ℕ) → IsGraph g → IsJumpedOver g block cond a b over behind to → IsSound g → IsSound (inverted_over g block cond a b over to)

-- A Branch over the next slot, which is a lone Jump block that nothing names.
pub record IsOverJump (g : Graph) (block : ℕ) (cond : Cond) (a b over away to : ℕ) : Type 0 where
  pub branch : term_of g block ≡ Some (Branch cond a b away)
  pub next : next_of g block ≡ Some over
  pub jump : jump_from g over ≡ Some to
  pub unnamed : ¬ Contains (uses g) over

-- The two exchange their targets, and the Branch is inverted.
abbrev pub exchanged : Graph → ℕ → Cond → ℕ → ℕ → ℕ → ℕ → ℕ → Graph
exchanged g block cond a b over away to = with_term (with_term g block (Branch (inverse_of cond) a b to)) over (Jump away)

-- A graph in which the two exchanged their targets follows it, and is sound where it is.
abbrev pub ExchangeFollows : Type 0
ExchangeFollows =
    (g : Graph) (block : ℕ) (cond : Cond) (a b over away to : ℕ) → IsGraph g → IsOverJump g block cond a b over away to → Follows g (exchanged g block cond a b over away to)

abbrev pub ExchangeIsSound : Type 0
ExchangeIsSound =
    (g : Graph) (block : ℕ) (cond : Cond) (a b over away to : ℕ) → IsGraph g → IsOverJump g block cond a b over away to → IsSound g → IsSound (exchanged g block cond a b over away to)
