use Rattle.std.proofs.Common.{◌≡◌, ◌+◌, ◌-◌}
use Rattle.sq_lift.specs.Entrances.{entrance_in, some_open}
use Rattle.sq_lift.proofs.procedures.some_open.Given as goal

abbrev pub invariant-loop-index : goal.invariant-loop-index
invariant-loop-index l =
    some_open (entrance_in l.entrances) (l.note.address + 4) l.note.length ≡ some_open (entrance_in l.entrances) (l.at + 4) (l.note.length - l._index)
