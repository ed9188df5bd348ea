-- Replaying the steps of a certificate. Blocks are told by their places in layout order: the blocks of each graph are named so.
use Rattle.std.specs.Prelude.{◌≡◌, ℕ, List, [], ◌∷◌, ◌++◌, length}
use Rattle.sq_graph.specs.Graph.{Graph}
use Rattle.sq_graph.specs.Blocks.{body_of}
use Rattle.sq_graph.specs.Canonical.{canonical_of}
use Rattle.sq_graph.specs.Slotted.{slotted}
use Rattle.sq_pass.specs.declared.cut.Cut.{Cut}
use Rattle.sq_pass.specs.Cuts.{IsCompleted}
use Rattle.sq_cert.specs.declared.step.Step.{Step}
use Rattle.sq_cert.specs.declared.step.Step.TheVariants.{U, J1, J2, J3, C, T, O1, O2, O3, O4, W, V, L}
use Rattle.sq_cert.specs.Steps.{row_of}
use Rattle.sq_drive.specs.Rows.{IsCandidate, described}

-- what a step tells of its cut
abbrev pub blocks_of : Step → List ℕ
blocks_of U = []
blocks_of (J1 block) = block ∷ []
blocks_of (J2 block) = block ∷ []
blocks_of (J3 block) = block ∷ []
blocks_of (C block) = block ∷ []
blocks_of (T dropped kept many) = dropped ∷ kept ∷ []
blocks_of (O1 blocks) = blocks
blocks_of (O2 block procedure) = block ∷ []
blocks_of (O3 stays goes) = []
blocks_of (O4 procedure) = []
blocks_of (W block at many) = block ∷ []
blocks_of (V block at procedure) = block ∷ []
blocks_of (L from to) = from ∷ to ∷ []

abbrev pub procedure_of : Step → ℕ
procedure_of (O2 block procedure) = procedure
procedure_of (O3 stays goes) = stays
procedure_of (O4 procedure) = procedure
procedure_of (V block at procedure) = procedure
procedure_of step = 0

-- the procedure that goes, or the place of the first item
abbrev pub other_of : Step → ℕ
other_of (O3 stays goes) = goes
other_of (W block at many) = at
other_of (V block at procedure) = at
other_of step = 0

-- how many items: of V those of the procedure
abbrev pub length_of : Graph → Step → ℕ
length_of g (T dropped kept many) = many
length_of g (W block at many) = many
length_of g (V block at procedure) = length (body_of g procedure)
length_of g step = 0

-- the cut of a step, but for what its row determines: the link and the saving, and of U the blocks
abbrev pub cut_of : Graph → Step → Cut
cut_of g step = record {
  row = row_of step;
  blocks = blocks_of step;
  procedure = procedure_of step;
  other = other_of step;
  length = length_of g step;
  link = 0;
  saving = 0;
}

-- some cut that differs from this one in nothing else is a candidate
pub record IsGiven (g : Graph) (told : Cut) : Type 0 where
  pub cut : Cut
  pub completed : IsCompleted told cut
  pub candidate : IsCandidate g cut

-- a step is a candidate of the graph
abbrev pub MayStep : Graph → Step → Type 0
MayStep g step = IsGiven g (cut_of g step)

-- the next graph is what the row of a candidate makes of the old one, made canonical, with its blocks named by their places
pub record IsTaken (told : Cut) (old new : Graph) : Type 0 where
  pub given : IsGiven old told
  pub is : new ≡ slotted (canonical_of (described old given.cut))

abbrev pub IsStep : Step → Graph → Graph → Type 0
IsStep step old new = IsTaken (cut_of old step) old new

-- THE REPLAY: each step is a candidate of the graph before it, and leads to the next one
abbrev pub IsReplay : List Step → Graph → Graph → Type 0
IsReplay [] old new = new ≡ old
IsReplay (step ∷ steps) old new = (next : Graph) × (IsStep step old next × IsReplay steps next new)

-- The steps in front of this number lead to a graph of which the next step is no candidate.
pub record FailsAt (steps : List Step) (old : Graph) (number : ℕ) : Type 0 where
  pub front : List Step
  pub step : Step
  pub back : List Step
  pub steps_are : steps ≡ front ++ step ∷ back
  pub number_is : number ≡ length front
  pub before : Graph
  pub replay : IsReplay front old before
  pub none : ¬ MayStep before step
