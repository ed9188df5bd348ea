-- Procedures among which all are that have a number. No public clause cites this module.
use Rattle.std.specs.Prelude.{ℕ, ◌≤◌, ◌<◌, Option, None, Some}
use Rattle.sq_outline.specs.declared.spans.Span.{Span}

-- the procedure is in the span
abbrev pub IsIn : Option Span → ℕ → Type 0
IsIn None procedure = ⊥
IsIn (Some span) procedure = (span.first ≤ procedure) × (procedure < span.end)

-- what was in the span of a number still is
abbrev pub StillIn : (ℕ → Option Span) → (ℕ → Option Span) → Type 0
StillIn before after = (n p : ℕ) → IsIn (before n) p → IsIn (after n) p
