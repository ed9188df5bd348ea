-- The candidates of row T, and what becomes of a graph by them.
use Rattle.std.specs.Prelude.{◌≡◌, ◌⊎◌, ℕ, ◌≤◌, List, [], ◌∷◌, length}
use Rattle.std.proofs.Common.{inl, inr}
use Rattle.sq_graph.specs.declared.parts.Room.{Room}
use Rattle.sq_graph.specs.Graph.{Graph}
use Rattle.sq_graph.specs.Blocks.{items_of}
use Rattle.sq_pass.specs.declared.cut.Cut.{Cut}
use Rattle.law_patch.specs.Bodies.{HaveBodies}
use Rattle.sq_rename.specs.Reservations.{HasNoReservations}
use Rattle.sq_tail.specs.Tails.{tail_cut, IsTailCut, tails_joined}

-- a cut of row T on whole bodies: the dropped one's matches the kept one's, no LR and no SC is among its items, and the resolved terms are equal
pub record IsBodyCut (g : Graph) (cut : Cut) : Type 0 where
  pub dropped : ℕ
  pub kept : ℕ
  pub bodies : HaveBodies g dropped kept
  pub plain : HasNoReservations (items_of g dropped)
  pub is : cut ≡ tail_cut g dropped kept (length (items_of g kept))
  pub some : 1 ≤ cut.saving

-- a candidate of the pass
abbrev pub IsCandidate : Graph → Cut → Type 0
IsCandidate g cut = IsTailCut g cut ⊎ IsBodyCut g cut

-- what row T makes of the graph at the blocks of a cut. Bodies that match have equally many items, so that the kept block stays whole
abbrev pub rewritten : Graph → List ℕ → ℕ → Graph
rewritten g (dropped ∷ kept ∷ []) k = tails_joined g dropped kept k
rewritten g blocks k = g

abbrev pub described : Graph → Cut → Graph
described g cut = rewritten g cut.blocks cut.length

-- what applying a candidate needs
abbrev pub one_block : Room
one_block = record { blocks = 1; items = 0; procedures = 0 }

-- a candidate saves a word
abbrev pub saves_a_word : (g : Graph) (cut : Cut) → IsCandidate g cut → 1 ≤ cut.saving
saves_a_word g cut (inl tails) = tails.some
saves_a_word g cut (inr bodies) = bodies.some
