-- Row O3: of two procedures with equal bodies and equal links one goes.
use Rattle.std.specs.Prelude.{◌≡◌, ◌≢◌, ℕ, ◌+◌, [], length}
use Rattle.sq_graph.specs.Graph.{Graph}
use Rattle.sq_graph.specs.Blocks.{HasProcedure, body_of}
use Rattle.sq_graph.specs.Operations.{redirected_calls, without_procedure}
use Rattle.law_patch.specs.Recalls.{AreEqual}
use Rattle.sq_pass.specs.declared.cut.Cut.{Cut}
use Rattle.sq_pass.specs.declared.cut.Row.TheVariants.{O3}

-- O3: two procedures with equal bodies and equal links
pub record AreDoubles (g : Graph) (stays goes : ℕ) : Type 0 where
  pub apart : stays ≢ goes
  pub there : HasProcedure g goes
  pub equal : AreEqual g goes stays

-- O3: the calls of the one are given to the other, and it goes
abbrev pub without_double : Graph → ℕ → ℕ → Graph
without_double g stays goes = without_procedure (redirected_calls g goes stays) goes

-- the cut of the two, which saves the items of a body and the return
abbrev pub recall_cut : Graph → ℕ → ℕ → Cut
recall_cut g stays goes =
    record { row = O3; blocks = []; procedure = stays; other = goes; length = 0; link = 0; saving = length (body_of g goes) + 1 }

-- a cut of O3
pub record IsRecalled (g : Graph) (cut : Cut) : Type 0 where
  pub stays : ℕ
  pub goes : ℕ
  pub doubles : AreDoubles g stays goes
  pub is : cut ≡ recall_cut g stays goes
