-- The change in which names and registers stay.
use Rattle.std.proofs.Common.{◌≡◌, ℕ, List}
use Rattle.std.specs.List.{Contains}
use Rattle.sq_graph.specs.Graph.{Graph}
use Rattle.sq_graph.specs.Lines.{Line}
use Rattle.sq_graph.specs.Walks.{code_targets}
use Rattle.law_patch.specs.Changes.{Change, IsCarrier}

-- no mode at all
pub data NoMode : Type 0 where

pub no_stands : NoMode → ℕ → ℕ → Type 0
no_stands m = elim m [ ]

-- A change in which names and registers stay: the names of K may be gone to, and code targets among them may be held.
-- X has the registers that matter, and Z is what makes less be live afterwards.
abbrev pub staying : (ℕ → Type 0) → (List Line → ℕ → Type 0) → Type 0 → Graph → Graph → Change
staying K X Z g h = record {
  before = g;
  after = h;
  MayHold = λ n m. (m ≡ n) × (K n × Contains (code_targets g) n);
  MayGo = λ n m. (m ≡ n) × K n;
  renamed = λ n. n;
  Matters = X;
  Mode = NoMode;
  StandsIn = no_stands;
  Sound = Z;
  MaySkip = Unit {0};
}

-- every register
abbrev pub all_matter : List Line → ℕ → Type 0
all_matter lines r = Unit {0}

pub every_carrier : (g : Graph) → IsCarrier g all_matter
every_carrier g = record { read = λ line rest r e. tt; kept = λ line rest next r e go x. tt }
