use Rattle.std.proofs.Common.{map, take}
use Rattle.law_program.specs.Programs.{target_of}
use Rattle.sq_lift.specs.declared.entrances.Entrance.TheVariants.{Open}
use Rattle.sq_lift.specs.Search.{is_among}
use Rattle.sq_lift.specs.Entrances.{entrance_if, Adds}
use Rattle.sq_lift.proofs.entrances.Entrances.add_targets.Given as goal

abbrev pub invariant-loop-word : goal.invariant-loop-word
invariant-loop-word l =
    Adds (λ x. entrance_if (is_among (map target_of (take l.word-index l.words)) x) Open) l.initial.self l.self
