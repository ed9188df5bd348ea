-- Chains of blocks, and their moves.
use Rattle.std.specs.Prelude.{◌≡◌, ℕ, Bool, ◌≤◌, ◌<◌, ◌^◌, ◌==◌, List, [], ◌∷◌, Option, Some, if◌then◌else◌}
use Rattle.std.specs.List.{All}
use Rattle.sq_arena.specs.Entries.{ContainsKey, starting_at, run}
use Rattle.sq_graph.specs.declared.item.Term.{Term}
use Rattle.sq_graph.specs.declared.item.Term.TheVariants.{Fall, Jump}
use Rattle.sq_graph.specs.Graph.{Block, Graph}
use Rattle.sq_graph.specs.Blocks.{named, next_of, term_of}
use Rattle.sq_graph.specs.Operations.{moved_after}
use Rattle.sq_graph.specs.Terms.{goes_on}
use Rattle.sq_graph.specs.Words.{words_of}
use Rattle.sq_lookup.specs.Tables.{number_at}
use Rattle.law_patch.specs.LoneJumps.{IsApart}
use Rattle.sq_chain.specs.declared.along.Chain.{Chain}
use Rattle.sq_chain.specs.Least.{least_widened}

-- the name of the first of these blocks that doesn't go on to its next slot
abbrev pub end_of : List (ℕ × Block) → ℕ → ℕ
end_of [] name = name
end_of (entry ∷ rest) name = if goes_on entry.1.term then end_of rest entry.0 else entry.0

-- A block's chain is the blocks from it on, as far as each goes on to its next slot. Its last block doesn't.
abbrev pub chain_end : Graph → ℕ → ℕ
chain_end g to = end_of (starting_at (named g.blocks) to) to

abbrev pub IsInChain : Graph → ℕ → ℕ → Type 0
IsInChain g to n = ContainsKey (run (named g.blocks) to (chain_end g to)) n

-- each of these numbers is the last block of the chain of its name
abbrev pub AreEnds : Graph → List (Option ℕ) → Type 0
AreEnds g ends = (n end : ℕ) → number_at ends n ≡ Some end → (end ≡ chain_end g n) × (end < 2 ^ 32)

-- each of these chains ends in its last block
abbrev pub AreChains : Graph → List Chain → Type 0
AreChains g chains = All (λ chain. chain.end ≡ chain_end g chain.head) chains

-- A block ends in a Jump to another one, into which no block goes on, and isn't in that one's chain.
pub record IsMovable (g : Graph) (from to : ℕ) : Type 0 where
  pub jump : term_of g from ≡ Some (Jump to)
  pub apart : IsApart g to
  pub outside : ¬ IsInChain g to from

-- a block ends in a Jump to the next slot
pub record JumpsToNext (g : Graph) (block : ℕ) : Type 0 where
  pub to : ℕ
  pub jump : term_of g block ≡ Some (Jump to)
  pub next : next_of g block ≡ Some to

-- this term is a Jump to this next slot
pub record JumpsTo (term : Term) (next : Option ℕ) : Type 0 where
  pub to : ℕ
  pub jump : term ≡ Jump to
  pub slot : next ≡ Some to

-- a Jump to the next slot becomes Fall
abbrev pub fallen_term : ℕ → Term → Term
fallen_term next (Jump to) = if to == next then Fall else Jump to
fallen_term next term = term

abbrev pub fallen_blocks : List Block → List Block
fallen_blocks [] = []
fallen_blocks (b ∷ []) = b ∷ []
fallen_blocks (b ∷ next ∷ rest) = record b { term = fallen_term next.name b.term } ∷ fallen_blocks (next ∷ rest)

-- the graph in which each Jump to the next slot is Fall
abbrev pub fallen : Graph → Graph
fallen g = record g { blocks = fallen_blocks g.blocks }

-- a Jump to the next slot becomes Fall where the name of that slot is one of these
abbrev pub fallen_into : (ℕ → Bool) → List Block → List Block
fallen_into among [] = []
fallen_into among (b ∷ []) = b ∷ []
fallen_into among (b ∷ next ∷ rest) =
    (if among next.name then record b { term = fallen_term next.name b.term } else b) ∷ fallen_into among (next ∷ rest)

-- the graph in which the Jump of the block before this one is Fall, where it is one to this block
abbrev pub fallen_before : Graph → ℕ → Graph
fallen_before g name = record g { blocks = fallen_into (λ n. n == name) g.blocks }

-- the graph in which the chain of `to` stands behind `from`
abbrev pub carried : Graph → ℕ → ℕ → Graph
carried g from to = moved_after g to (chain_end g to) from

-- The chain of `to` stands behind `from`, each Jump to the next slot is Fall, and the least set of Branches is widened.
abbrev pub moved : Graph → ℕ → ℕ → Graph
moved g from to = least_widened (fallen (carried g from to))

-- No movable pair has a move after which the words are fewer.
abbrev pub IsStill : Graph → Type 0
IsStill g = (from to : ℕ) → IsMovable g from to → words_of g ≤ words_of (moved g from to)
