-- How a sweep of rows V and W goes on: its graph keeps its blocks, and what it took becomes calls when it ends. No public clause cites this
-- module.
use Rattle.std.specs.Prelude.{◌≡◌, ℕ, ◌+◌, ◌≤◌, List, length}
use Rattle.sq_num.specs.declared.packed.Savings.{Savings}
use Rattle.sq_num.specs.Saved.{words_saved}
use Rattle.sq_graph.specs.Graph.{Graph}
use Rattle.sq_graph.specs.Blocks.{items_of_blocks}
use Rattle.sq_graph.specs.Calls.{with_calls}
use Rattle.sq_graph.specs.Leaders.{IsCanonical}
use Rattle.sq_graph.specs.Rules.{IsGraph}
use Rattle.sq_graph.specs.Words.{words_of, most_words}
use Rattle.law_follow.specs.Follows.{Follows}
use Rattle.sq_live.specs.Liveness.{IsLivenessOf}
use Rattle.sq_pass.specs.Rewrites.{IsRewritten}
use Rattle.sq_outline.specs.declared.windows.taken.Taken.{Taken}
use Rattle.sq_outline.specs.WindowsCandidates.{IsWindowsCandidate, windows_described}
use Rattle.sq_outline.specs.WindowsTaken.{KeepsLive, IsTakenOf}

-- the graph as it is with the calls that a sweep took
abbrev pub swept : Graph → Taken → Graph
swept g taken = with_calls taken.fates.items g

-- what is known of a graph and what a sweep took of it, which saved so many words by now
pub record IsSweeping (g : Graph) (taken : Taken) (savings : Savings) : Type 0 where
  pub fates : IsTakenOf g taken
  pub keeps : KeepsLive g taken.fates.items
  pub rules : IsGraph (swept g taken)
  pub canonical : IsCanonical (swept g taken)
  pub few : length (items_of_blocks g.blocks) ≤ most_words
  pub words : words_of (swept g taken) + words_saved savings ≤ most_words

-- rewrites by the two rows lead from what is swept of the one graph to what is swept of the other
abbrev pub AreSwept : Graph → Taken → Graph → Taken → Savings → Savings → Type 0
AreSwept g taken h more before after = IsRewritten IsWindowsCandidate windows_described before after (swept g taken) (swept h more)

-- the second graph has the blocks of the first, follows it, and has its live registers
pub record HasBlocksOf (g h : Graph) : Type 0 where
  pub blocks : h.blocks ≡ g.blocks
  pub follows : Follows g h
  pub lives : (live : List (ℕ × List ℕ)) → IsLivenessOf g live → IsLivenessOf h live
