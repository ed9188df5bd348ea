-- Bodies of procedures, read item by item from nothing on. No public clause cites this module.
use Rattle.std.specs.Prelude.{ℕ, ◌<◌, ◌^◌, List, length, Option}
use Rattle.sq_graph.specs.Graph.{Graph}
use Rattle.sq_graph.specs.Blocks.{HasProcedure, body_of}
use Rattle.sq_finger.specs.declared.keys.ItemKey.{ItemKey}
use Rattle.sq_outline.specs.RecalledNumbers.{IsNumberOf, StandOnce}
use Rattle.sq_outline.specs.Spans.{IsIn}
use Rattle.sq_outline.specs.declared.spans.Span.{Span}

-- each procedure is in the span of the number that its body has
pub record HasBodies (g : Graph) (pairs : List (ℕ × ItemKey)) (ends : ℕ → Option Span) : Type 0 where
  pub few : length pairs < 2 ^ 31
  pub once : StandOnce pairs
  pub each : (procedure : ℕ) → HasProcedure g procedure → (number : ℕ) × IsNumberOf pairs number 0 (body_of g procedure) × IsIn (ends number) procedure
