use Rattle.std.proofs.Common.{◌≡◌, vec_capacity, vec_len}
use Rattle.sq_graph.proofs.BodyLowers.{LoweredUpTo}
use Rattle.sq_graph.proofs.edits.lower_starts.Given as goal

abbrev pub invariant-loop-number : goal.invariant-loop-number
invariant-loop-number l = record {
  lowered : LoweredUpTo l.by l.from l.number l.fn.bodies.items l.bodies.items;
  counted : vec_len l.bodies ≡ vec_len l.fn.bodies;
  capacity : vec_capacity l.bodies ≡ vec_capacity l.fn.bodies;
}
