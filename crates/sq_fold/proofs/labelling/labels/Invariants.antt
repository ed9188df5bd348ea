use Rattle.std.proofs.Common.{◌≡◌, ◌++◌, Some, map, drop}
use Rattle.sq_fold.specs.Labels.{bare_at, key_of_bare}
use Rattle.sq_fold.proofs.labelling.labels.Given as goal

abbrev pub invariant-loop-place : goal.invariant-loop-place
invariant-loop-place l =
    l.keys.items ++ map (λ place. Some (key_of_bare (bare_at l.graph.graph place))) (drop l.place-index l.line)
    ≡ map (λ place. Some (key_of_bare (bare_at l.graph.graph place))) l.line
