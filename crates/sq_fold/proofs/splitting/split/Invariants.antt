use Rattle.sq_fold.specs.Splitting.{AreSound, IsWhole}
use Rattle.sq_fold.proofs.splitting.split.Given as goal

abbrev pub invariant-loop-part : goal.invariant-loop-part
invariant-loop-part l = record {
  sound : AreSound l.nodes l.classes;
  whole : IsWhole l.nodes l.changed.items;
}
