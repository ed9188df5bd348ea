use Rattle.std.proofs.Common.{◌≡◌, ◌++◌, map, take}
use Rattle.std.specs.List.{flat_map}
use Rattle.sq_graph.specs.Renames.{retargeted_items}
use Rattle.sq_lift.specs.Cuts.{position_by, note_part, body_of}
use Rattle.sq_lift.proofs.cut.bodies.push_bodies.Given as goal

abbrev pub invariant-loop-note : goal.invariant-loop-note
invariant-loop-note l = record {
  items : l.items.items ≡ l.initial.items.items ++ retargeted_items (position_by l.positions) (flat_map (body_of l.text) (take l.note-index l.procedures));
  parts : l.parts.items ≡ map (note_part l.text) (take l.note-index l.procedures);
}
