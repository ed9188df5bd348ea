use Rattle.std.proofs.Common.{◌≡◌, ◌||◌, ℕ, drop}
use Rattle.sq_isa.specs.Registers.{is_member}
use Rattle.sq_graph.specs.Blocks.{items_of}
use Rattle.sq_tail.specs.BodiesPrints.{is_called}
use Rattle.sq_tail.proofs.bodies.calls.called.Given as goal

abbrev pub invariant-loop-item : goal.invariant-loop-item
invariant-loop-item l = (r : ℕ) → (is_member l.called r || is_called l.graph.graph.procedures (drop l.item-index l.item-items) r) ≡ is_called l.graph.graph.procedures (items_of l.graph.graph l.block) r
