use Rattle.std.proofs.Common.{◌≡◌, ℕ, ◌≤◌, None}
use Rattle.slab.specs.Slab.{get, slab_len}
use Rattle.sq_arena.specs.Links.{node_value}
use Rattle.sq_arena.proofs.links.full_nodes.Given as goal

abbrev pub invariant-loop : goal.invariant-loop
invariant-loop g l = record {
  len : slab_len l.nodes ≡ l.counter;
  capacity : l.nodes.capacity ≡ l.end;
  enough : l.count ≤ l.nodes.capacity;
  empty : (key : ℕ) → node_value (get l.nodes key) ≡ None;
}
