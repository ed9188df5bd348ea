-- What a certificate says of a graph.
use Rattle.std.specs.Prelude.{◌≡◌, ◌⊎◌, ℕ, ◌+◌, List, Some, length}
use Rattle.std.specs.List.{All}
use Rattle.sq_graph.specs.Graph.{Graph}
use Rattle.sq_cert.specs.declared.step.Step.{Step}
use Rattle.sq_cert.specs.Readings.{reading_of}
use Rattle.sq_cert.specs.Steps.{HasForm}
use Rattle.sq_cert.specs.Texts.{text_of}
use Rattle.sq_drive.specs.Replay.{IsReplay, FailsAt}

-- THE text leads from the old graph to the new one by so many steps: it is that of a certificate, whose steps replay
pub record Leads (text : List ℕ) (old new : Graph) (count : ℕ) : Type 0 where
  pub steps : List Step
  pub form : All HasForm steps
  pub text_is : text ≡ text_of steps
  pub replay : IsReplay steps old new
  pub count_is : count ≡ length steps

-- each line in front of this one has its form and is a candidate, and this one is none
pub record IsNoCandidate (text : List ℕ) (old : Graph) (line : ℕ) : Type 0 where
  pub number : ℕ
  pub fails : FailsAt (reading_of text).cert old number
  pub line_is : line ≡ number + 2

-- each line in front of this one has its form and is a candidate, and this one has no form
pub record HasNoForm (text : List ℕ) (old : Graph) (line : ℕ) : Type 0 where
  pub before : Graph
  pub replay : IsReplay (reading_of text).cert old before
  pub fault : (reading_of text).fault ≡ Some line

-- THE first line of a text that has no form or is no candidate
abbrev pub IsFirstFault : List ℕ → Graph → ℕ → Type 0
IsFirstFault text old line = IsNoCandidate text old line ⊎ HasNoForm text old line
