-- What becomes of a graph when a candidate is applied to it.
use Rattle.std.specs.Prelude.{◌≡◌, ℕ, ◌+◌, ◌≤◌}
use Rattle.sq_graph.specs.declared.parts.Room.{Room}
use Rattle.sq_graph.specs.Blocks.{HasBlock}
use Rattle.sq_graph.specs.Graph.{Graph}
use Rattle.sq_graph.specs.Parts.{names_of}
use Rattle.sq_graph.specs.Rules.{IsGraph}
use Rattle.sq_graph.specs.Words.{words_of}
use Rattle.sq_graph.specs.Places.{IsInReach}
use Rattle.sq_graph.specs.Soundness.{IsSound}
use Rattle.sq_graph.specs.Slotted.{number_in}
use Rattle.sq_graph.specs.Alike.{AreAlike}
use Rattle.law_follow.specs.Follows.{Follows}

-- Each block of the old graph keeps its name: it stands in the new graph where it does in the one that is described, or is in neither.
abbrev pub KeepsNames : Graph → Graph → Graph → Type 0
KeepsNames old rewritten new = (n : ℕ) → HasBlock old n → number_in (names_of new) 0 n ≡ number_in (names_of rewritten) 0 n

-- The new graph keeps the rules, follows the old one, is sound and in reach where that was, has fewer words by the saving, and is, but for
-- the names of new blocks, the graph that the row describes.
pub record IsApplied (saving : ℕ) (rewritten old new : Graph) : Type 0 where
  pub rules : IsGraph new
  pub follows : Follows old new
  pub sound : IsSound old → IsSound new
  pub reach : IsInReach old → IsInReach new
  pub words : words_of new + saving ≡ words_of old
  pub described : AreAlike new rewritten
  pub kept : KeepsNames old rewritten new

-- each number is at most this
pub record IsWithin (limit : ℕ) (room : Room) : Type 0 where
  pub blocks : room.blocks ≤ limit
  pub items : room.items ≤ limit
  pub procedures : room.procedures ≤ limit
