-- Row O2: the body of a block that matches a procedure's becomes a call of it.
use Rattle.std.specs.Prelude.{◌≡◌, ℕ, ◌+◌, ◌-◌, ◌≤◌, Some, [], ◌∷◌, length}
use Rattle.sq_graph.specs.Graph.{Graph}
use Rattle.sq_graph.specs.Blocks.{HasProcedure, body_of, link_of}
use Rattle.sq_rename.specs.Bodies.{IsLiveBehind}
use Rattle.law_patch.specs.Calls.{called_there}
use Rattle.sq_pass.specs.declared.cut.Cut.{Cut}
use Rattle.sq_pass.specs.declared.cut.Row.TheVariants.{O2}
use Rattle.sq_outline.specs.Made.{HasBody}

-- O2: a block whose body matches a procedure's of n items, with the procedure's link dead behind it. The call stands for n
-- words: n - 1 are saved, at least one
pub record IsCalled (g : Graph) (block procedure saving : ℕ) : Type 0 where
  pub there : HasProcedure g procedure
  pub body : HasBody g (body_of g procedure) block
  pub link_dies : (link : ℕ) → link_of g procedure ≡ Some link → ¬ IsLiveBehind g block link
  pub saves : saving + 1 ≡ length (body_of g procedure)
  pub some : 1 ≤ saving

-- so with the one saving that there is
abbrev pub call_saving : Graph → ℕ → ℕ
call_saving g procedure = length (body_of g procedure) - 1

abbrev pub MayCall : Graph → ℕ → ℕ → Type 0
MayCall g block procedure = IsCalled g block procedure (call_saving g procedure)

-- O2: the body becomes the call
abbrev pub called : Graph → ℕ → ℕ → Graph
called g block procedure = called_there g block 0 procedure

-- the cut of a block and a procedure
abbrev pub call_cut : ℕ → ℕ → ℕ → Cut
call_cut block procedure saving =
    record { row = O2; blocks = block ∷ []; procedure = procedure; other = 0; length = 0; link = 0; saving = saving }

-- a cut of O2
pub record IsCalledCut (g : Graph) (cut : Cut) : Type 0 where
  pub block : ℕ
  pub called : IsCalled g block cut.procedure cut.saving
  pub is : cut ≡ call_cut block cut.procedure cut.saving
