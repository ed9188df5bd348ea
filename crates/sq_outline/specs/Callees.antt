-- Procedures by the prints of their bodies, and by the registers that these write.
use Rattle.std.specs.Prelude.{◌≡◌, ℕ, nat_eq, List, Some, length, slice_get}
use Rattle.std.specs.HashMap.{get}
use Rattle.sq_graph.specs.Graph.{Graph}
use Rattle.sq_graph.specs.Blocks.{body_of}
use Rattle.sq_outline.specs.Marks.{AreWrites}
use Rattle.sq_outline.specs.Prints.{HasPrints}
use Rattle.sq_outline.specs.declared.callees.Callees.{Callees}

-- these are the writes of all procedures' bodies
pub record AreBodyWrites (g : Graph) (writes : List (List ℕ)) : Type 0 where
  pub count : length writes ≡ length g.procedures
  pub each : (p : ℕ) (own : List ℕ) → slice_get writes p ≡ Some own → AreWrites (body_of g p) own

-- these are the procedures: each is in the span of its body's print, with its writes
pub record AreCallees (g : Graph) (callees : Callees) : Type 0 where
  pub spans : HasPrints g (get nat_eq callees.spans)
  pub writes : AreBodyWrites g callees.writes.items
