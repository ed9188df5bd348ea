use Rattle.std.proofs.Common.{◌≤◌, arith, refl}
use Rattle.sq_rename.proofs.Places.{stand_more, stand_all}
use Rattle.sq_rename.proofs.pairs.Pairs.may_stand_all.Goals as goal

pub returns-then-not-may_stand : goal.returns-then-not-may_stand
returns-then-not-may_stand c = (λ t. absurd (cc), λ all. c.if-not-may_stand.ensures.1 (λ s g ne. all c.from_low_bits.result s g ne))

pub loop-number-preserved : goal.loop-number-preserved
loop-number-preserved c = stand_more c.args.self.now c.args.dead c.args.items.now c.loop-number.number c.from_low_bits.result (omega arith) c.from_low_bits.ensures (c.if-not-may_stand.ensures.0 refl) c.loop-number.invariant

pub returns : goal.returns
returns c =
    let l : 32 ≤ c.loop-number.number = (let t = c.loop-number-test.false in let e = c.loop-number.auto in omega arith) in
    (λ _. stand_all c.args.self.now c.args.dead c.args.items.now c.loop-number.number c.requires l c.loop-number.invariant, λ _. refl)
