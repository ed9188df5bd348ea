use Rattle.std.specs.HashMap.{get}
use Rattle.sq_finger.specs.Classes.{is_same_kind}
use Rattle.sq_fold.specs.Index.{IsIndexOf}
use Rattle.sq_fold.proofs.indexing.index_places.Given as goal

abbrev pub invariant-loop-i : goal.invariant-loop-i
invariant-loop-i l = IsIndexOf l.line l.i (get is_same_kind l.index)
