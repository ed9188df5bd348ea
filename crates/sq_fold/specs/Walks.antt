-- Walks that tell two blocks apart, by numbers of references.
use Rattle.std.specs.Prelude.{◌≡◌, ◌≢◌, ℕ, List, [], ◌∷◌, map, Option, Some, slice_get}
use Rattle.sq_graph.specs.Graph.{Graph}
use Rattle.sq_finger.specs.Lines.{line_of}
use Rattle.sq_finger.specs.Numbers.{AreNumbersOf}
use Rattle.sq_fold.specs.declared.rounds.Node.{Node}
use Rattle.sq_fold.specs.Index.{IsIndex}
use Rattle.sq_fold.specs.Labels.{bare_at}
use Rattle.sq_fold.specs.Nodes.{At, AreNodes, class_by}
use Rattle.sq_fold.specs.Partition.{references_of, shape_of, IsCoarsestPartition}
use Rattle.sq_fold.specs.Stable.{AreAllRounds}

-- the two blocks have a reference of this number, to these
pub record RefersTo (g : Graph) (x y number m n : ℕ) : Type 0 where
  pub first : slice_get (references_of g x) number ≡ Some m
  pub second : slice_get (references_of g y) number ≡ Some n

-- The walk can be followed from both blocks, and at its end two blocks stand that differ apart from their references.
pub data TellsApart (g : Graph) : ℕ → ℕ → List ℕ → Type 0 where
  differs : {x y : ℕ} → shape_of g x ≢ shape_of g y → TellsApart g x y []
  goes : {x y m n : ℕ} {walk : List ℕ} (number : ℕ) → RefersTo g x y number m n → TellsApart g m n walk → TellsApart g x y (number ∷ walk)

-- the two blocks are of one class of the coarsest stable partition
abbrev pub AreOfOneClass : Graph → ℕ → ℕ → Type 0
AreOfOneClass g x y = (class : ℕ → Option ℕ) → IsCoarsestPartition g class → class x ≡ class y

-- the two are referred to under one number, and are of different classes
pub record Parts (g : Graph) (class : ℕ → Option ℕ) (x y number m n : ℕ) : Type 0 where
  pub refers : RefersTo g x y number m n
  pub apart : class m ≢ class n

-- references in equal places are of one class
abbrev pub ReferAlike : Graph → (ℕ → Option ℕ) → ℕ → ℕ → Type 0
ReferAlike g class x y = (number m n : ℕ) → RefersTo g x y number m n → class m ≡ class n

-- the two are of different classes after so many of these rounds
abbrev pub ArePartedAt : (At → Option ℕ) → List (List (Option ℕ)) → ℕ → ℕ → ℕ → Type 0
ArePartedAt find rounds level x y = (classes : List (Option ℕ)) → slice_get rounds level ≡ Some classes → class_by find classes x ≢ class_by find classes y

-- These are the numbers of the places of the graph in their line, and the rounds of the nodes that stand there, labelled by
-- what stands at the places but for names.
pub record IsSurveyed (g : Graph) (find : At → Option ℕ) (rounds : List (List (Option ℕ))) : Type 0 where
  pub labels : List (Option ℕ)
  pub nodes : List Node
  pub index : IsIndex (line_of g) find
  pub labelled : AreNumbersOf (map (λ p. Some (bare_at g p)) (line_of g)) labels
  pub are : AreNodes g (line_of g) labels find nodes
  pub all : AreAllRounds nodes rounds
