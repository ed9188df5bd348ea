use Rattle.std.proofs.Common.{◌≡◌, drop, ap, ◌∙◌, arith}
use Rattle.sq_lift.specs.Cuts.{note_number_in}
use Rattle.sq_lift.proofs.Numbering.{note_numbers}
use Rattle.sq_lift.proofs.cut.procedures.numbers.Goals as goal

pub returns : goal.returns
returns c = λ x.
    let first : c.loop-k.k ≡ 0 = omega arith in
    c.loop-k.invariant x
    ∙ ap (λ k. note_number_in (drop k c.args.notes.now) k x) first
    ∙ note_numbers c.args.notes.now x
