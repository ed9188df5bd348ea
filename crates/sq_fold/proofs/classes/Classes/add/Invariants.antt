use Rattle.std.proofs.Common.{◌≡◌, take}
use Rattle.sq_fold.specs.Splitting.{ArePut}
use Rattle.sq_fold.proofs.classes.Classes.add.Given as goal

abbrev pub invariant-loop-place : goal.invariant-loop-place
invariant-loop-place l = record {
  put : ArePut (take l.place-index l.part) l.class l.initial.self-inside.classes.items l.self-inside.classes.items;
  lists : l.self-inside.lists.items ≡ l.initial.self-inside.lists.items;
}
