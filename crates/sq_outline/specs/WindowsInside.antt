-- Row V: items inside a block that equal a procedure's body become a call of it.
use Rattle.std.specs.Prelude.{◌≡◌, ◌≢◌, ℕ, ◌+◌, ◌≤◌, [], ◌∷◌, length}
use Rattle.sq_graph.specs.Graph.{Graph}
use Rattle.sq_graph.specs.Blocks.{items_of, body_of}
use Rattle.sq_rename.specs.Reservations.{HasNoReservations}
use Rattle.law_patch.specs.Calls.{IsCallable, called_there}
use Rattle.sq_pass.specs.declared.cut.Cut.{Cut}
use Rattle.sq_pass.specs.declared.cut.Row.TheVariants.{V}
use Rattle.sq_outline.specs.Called.{call_saving}
use Rattle.sq_outline.specs.WindowsPlaces.{StandAt}

-- V: a place in a block, not its whole body, where n items stand that equal a procedure's body of n items, without LR and
-- SC, with the procedure's link dead behind them. The call stands for n words: n - 1 are saved, at least one
pub record IsCalledInside (g : Graph) (block at procedure saving : ℕ) : Type 0 where
  pub callable : IsCallable g block at procedure
  pub plain : HasNoReservations (body_of g procedure)
  pub part : length (items_of g block) ≢ length (body_of g procedure)
  pub saves : saving + 1 ≡ length (body_of g procedure)
  pub some : 1 ≤ saving

-- but for the link, with the one saving that there is
pub record StandsInside (g : Graph) (block at procedure : ℕ) : Type 0 where
  pub stands : StandAt g block at (body_of g procedure)
  pub plain : HasNoReservations (body_of g procedure)
  pub part : length (items_of g block) ≢ length (body_of g procedure)
  pub some : 2 ≤ length (body_of g procedure)

-- V with that saving
abbrev pub MayCallInside : Graph → ℕ → ℕ → ℕ → Type 0
MayCallInside g block at procedure = IsCalledInside g block at procedure (call_saving g procedure)

-- V: the items become the call
abbrev pub called_inside : Graph → ℕ → ℕ → ℕ → Graph
called_inside g block at procedure = called_there g block at procedure

-- the cut of a block, a place in it and a procedure of so many items
abbrev pub inside_cut : ℕ → ℕ → ℕ → ℕ → ℕ → Cut
inside_cut block at procedure length saving =
    record { row = V; blocks = block ∷ []; procedure = procedure; other = at; length = length; link = 0; saving = saving }

-- a cut of V
pub record IsInsideCut (g : Graph) (cut : Cut) : Type 0 where
  pub block : ℕ
  pub called : IsCalledInside g block cut.other cut.procedure cut.saving
  pub is : cut ≡ inside_cut block cut.other cut.procedure (length (body_of g cut.procedure)) cut.saving
