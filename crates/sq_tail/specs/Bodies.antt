-- Pairs of blocks of which the one may be dropped, since its whole body matches that of the other.
use Rattle.std.specs.Prelude.{◌≡◌, ℕ, ◌+◌, ◌-◌, ◌<◌, ◌≤◌, ◌↔◌, true, List, length, slice_index}
use Rattle.sq_isa.specs.Registers.{is_member}
use Rattle.sq_graph.specs.Graph.{Graph}
use Rattle.sq_graph.specs.Blocks.{items_of}
use Rattle.law_patch.specs.Bodies.{HaveBodies}
use Rattle.sq_rename.specs.Bodies.{IsLiveBehind}
use Rattle.sq_rename.specs.Reservations.{HasNoReservations}
use Rattle.sq_tail.specs.Tails.{end_words}

-- The body of the dropped block matches that of the kept one, no LR and no SC is among its items, and the two resolved terms are equal. A
-- word at least is saved: the words of its items and its term are more than that of a Jump.
pub record IsBodyPair (g : Graph) (dropped kept : ℕ) : Type 0 where
  pub bodies : HaveBodies g dropped kept
  pub plain : HasNoReservations (items_of g dropped)
  pub some : 1 ≤ length (items_of g kept) - 1 + end_words g dropped

-- what is asked of the dropped block alone
pub record MayDrop (g : Graph) (block : ℕ) : Type 0 where
  pub some : 1 ≤ length (items_of g block)
  pub plain : HasNoReservations (items_of g block)
  pub words : 2 ≤ length (items_of g block) + end_words g block

-- these are the registers that are dead behind the items of a block
abbrev pub AreDeadBehind : ℕ → Graph → ℕ → Type 0
AreDeadBehind dead g block = (r : ℕ) → 0 < r → r < 32 → (is_member dead r ≡ true) ↔ ¬ IsLiveBehind g block r

-- no block of the list may be dropped for one that stands ahead of it
abbrev pub NoneAhead : Graph → List ℕ → Type 0
NoneAhead g names = (i j : ℕ) → j < i → i < length names → ¬ IsBodyPair g (slice_index names i) (slice_index names j)
