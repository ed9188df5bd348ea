use Rattle.std.proofs.Common.{◌≡◌, ◌++◌, map, drop}
use Rattle.std.specs.Option.{option_map}
use Rattle.sq_finger.specs.ItemKeys.{key_of}
use Rattle.sq_finger.specs.Lines.{item_at}
use Rattle.sq_finger.proofs.lines.number_items.Given as goal

abbrev pub invariant-loop-place : goal.invariant-loop-place
invariant-loop-place l =
    l.keys.items ++ map (λ place. option_map key_of (item_at l.graph.graph place)) (drop l.place-index l.line)
    ≡ map (λ place. option_map key_of (item_at l.graph.graph place)) l.line
