use Rattle.std.proofs.Common.{◌≡◌, map, take}
use Rattle.sq_finger.specs.Groups.{groups_of}
use Rattle.sq_fold.proofs.classes.Classes.new.Given as goal

abbrev pub invariant-loop-class : goal.invariant-loop-class
invariant-loop-class l = map (λ list. list.items) l.lists.items ≡ take l.class (groups_of l.numbers.items l.places)
