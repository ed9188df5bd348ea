use Rattle.std.proofs.Common.{◌≡◌, ◌+◌, ℕ, take}
use Rattle.std.specs.List.{flat_map}
use Rattle.sq_graph.specs.Uses.{items_uses}
use Rattle.sq_lookup.specs.Counts.{count_at, times_named}
use Rattle.sq_lookup.proofs.counts.add_blocks.Given as goal

abbrev pub invariant-loop-name : goal.invariant-loop-name
invariant-loop-name l = (n : ℕ) → count_at l.counts.items n ≡ times_named (flat_map (λ b. items_uses b.items) (take l.name-index l.graph.graph.blocks)) n + count_at l.initial.counts.items n
