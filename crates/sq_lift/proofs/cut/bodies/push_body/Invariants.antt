use Rattle.std.proofs.Common.{◌≡◌, ◌++◌, ◌+◌, ◌-◌, ◌≤◌, length}
use Rattle.sq_graph.specs.Renames.{retargeted_items}
use Rattle.law_program.specs.Lifted.{body_from}
use Rattle.sq_lift.specs.Cuts.{position_by}
use Rattle.sq_lift.proofs.cut.bodies.push_body.Given as goal

abbrev pub invariant-loop-index : goal.invariant-loop-index
invariant-loop-index l = record {
  items : l.items.items ++ retargeted_items (position_by l.positions) (body_from l.text l.at (l.note.length - l._index)) ≡ l.initial.items.items ++ retargeted_items (position_by l.positions) (body_from l.text l.note.address l.note.length);
  count : l.count + length (body_from l.text l.at (l.note.length - l._index)) ≡ length (body_from l.text l.note.address l.note.length);
  bound : l.count ≤ l._index;
}
