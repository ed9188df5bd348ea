use Rattle.std.proofs.Common.{◌≡◌, ◌++◌, map, drop}
use Rattle.std.specs.Option.{option_map}
use Rattle.sq_graph.specs.Blocks.{items_of}
use Rattle.sq_finger.specs.ItemKeys.{key_of}
use Rattle.sq_tail.specs.Ends.{item_back}
use Rattle.sq_tail.proofs.numbers.keys_back.Given as goal

abbrev pub invariant-loop-name : goal.invariant-loop-name
invariant-loop-name l =
    l.keys.items ++ map (λ name. option_map key_of (item_back l.behind (items_of l.graph.graph name))) (drop l.name-index l.names) ≡ map (λ name. option_map key_of (item_back l.behind (items_of l.graph.graph name))) l.names
