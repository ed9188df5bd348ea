use Rattle.std.proofs.Common.{take}
use Rattle.sq_lift.specs.Flags.{is_flagged}
use Rattle.sq_lift.specs.Entrances.{words_entrance, Adds}
use Rattle.sq_lift.proofs.entrances.Entrances.add_words.Given as goal

abbrev pub invariant-loop-place : goal.invariant-loop-place
invariant-loop-place l =
    Adds (λ x. words_entrance (is_flagged l.reached) x l.text.lo (take l.place l.text.words)) l.initial.self l.self
