use Rattle.sq_fold.specs.Splitting.{AreSound, IsWhole}
use Rattle.sq_fold.proofs.splitting.split_classes.Given as goal

abbrev pub invariant-loop : goal.invariant-loop
invariant-loop l = record {
  sound : AreSound l.nodes l.classes;
  whole : IsWhole l.nodes l.changed.items;
}
