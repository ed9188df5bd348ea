use Rattle.std.proofs.Common.{◌+◌, ◌*◌, drop}
use Rattle.sq_write.specs.Points.{items_points}
use Rattle.sq_write.specs.Standing.{ItemsStand}
use Rattle.sq_write.proofs.Texts.{Leaves}
use Rattle.sq_write.proofs.text.push_items.Given as goal

abbrev pub invariant-loop-index : goal.invariant-loop-index
invariant-loop-index l = record {
  stand : ItemsStand l.placed.g.now.graph l.placed.lo (l.at + 4 * l.index) (drop l.index l.items);
  left : Leaves (items_points l.placed.g.now.graph l.placed.lo (l.at + 4 * l.index) (drop l.index l.items)) (items_points l.placed.g.now.graph l.placed.lo l.at l.items) l.fn.out l.out;
}
