-- Row L: a chain that moves behind the Jump to it, where the words are fewer then.
use Rattle.std.specs.Prelude.{◌≡◌, ℕ, ◌+◌, ◌≤◌, List, [], ◌∷◌}
use Rattle.sq_graph.specs.Graph.{Graph}
use Rattle.sq_graph.specs.Canonical.{canonical_of}
use Rattle.sq_graph.specs.Words.{words_of}
use Rattle.sq_pass.specs.declared.cut.Cut.{Cut}
use Rattle.sq_pass.specs.declared.cut.Row.TheVariants.{L}
use Rattle.sq_pass.specs.Applied.{IsApplied}
use Rattle.sq_chain.specs.Moves.{IsMovable, moved}

-- the cut of a movable pair
abbrev pub cut_of : ℕ → ℕ → ℕ → Cut
cut_of from to saving =
    record { row = L; blocks = from ∷ to ∷ []; procedure = 0; other = 0; length = 0; link = 0; saving = saving }

-- a movable pair, whose saving is the words before the move less those after it, at least one
pub record IsCandidate (g : Graph) (cut : Cut) : Type 0 where
  pub from : ℕ
  pub to : ℕ
  pub movable : IsMovable g from to
  pub words : words_of (moved g from to) + cut.saving ≡ words_of g
  pub some : 1 ≤ cut.saving
  pub is : cut ≡ cut_of from to cut.saving

-- what becomes of a graph by the move of these two blocks
abbrev pub moved_by : Graph → List ℕ → Graph
moved_by g (from ∷ to ∷ []) = moved g from to
moved_by g blocks = g

abbrev pub described : Graph → Cut → Graph
described g cut = moved_by g cut.blocks

-- a movable pair's chain has moved, and words are saved
pub record IsMoved (from to : ℕ) (old new : Graph) : Type 0 where
  pub movable : IsMovable old from to
  pub saving : ℕ
  pub some : 1 ≤ saving
  pub applied : IsApplied saving (moved old from to) old new

-- so have those of some pair
pub record HasMoved (old new : Graph) : Type 0 where
  pub from : ℕ
  pub to : ℕ
  pub moved : IsMoved from to old new

-- a chain has moved, and the graph was made canonical
pub record IsSwept (old new : Graph) : Type 0 where
  pub mid : Graph
  pub moved : HasMoved old mid
  pub is : new ≡ canonical_of mid

-- no move of a chain behind this block saves a word
abbrev pub IsStillAt : Graph → ℕ → Type 0
IsStillAt g from = (to : ℕ) → IsMovable g from to → words_of g ≤ words_of (moved g from to)
