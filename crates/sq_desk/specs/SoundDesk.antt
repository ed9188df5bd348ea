-- What a desk in memory that never fails has of the outside.
use Rattle.sq_desk.specs.Outside.{Outside}
use Rattle.sq_desk.specs.Held.{outside_of}
use Rattle.sq_desk.specs.declared.sound_desk.SoundDesk.{SoundDesk}

-- all is told, and there are no faults
abbrev pub sound_outside : SoundDesk → Outside
sound_outside desk = outside_of desk.held (λ _. 0)
