-- How the live registers lie in the fields of a `Liveness`. No public clause cites this module.
use Rattle.std.specs.Prelude.{ℕ, ◌+◌, List, [], ◌∷◌}
use Rattle.sq_live.specs.declared.liveness.Liveness.TheInside.{Inside}
use Rattle.sq_live.specs.declared.places.Span.{Span}
use Rattle.sq_live.specs.Places.{sets_in}

-- each name from this one on, with the sets that its span tells
abbrev pub named_sets : ℕ → List ℕ → List Span → List (ℕ × List ℕ)
named_sets name sets [] = []
named_sets name sets (span ∷ spans) = (name, sets_in sets span) ∷ named_sets (name + 1) sets spans

abbrev pub shown : Inside → List (ℕ × List ℕ)
shown inside = named_sets 0 inside.places.sets.items inside.places.spans.items
