use Rattle.std.proofs.Common.{◌≡◌, ◌<◌, length, arith, ap, ◌∙◌}
use Rattle.sq_isa.specs.Registers.{written}
use Rattle.law_follow.specs.Values.{Holds}
use Rattle.sq_tagged.specs.Views.{value_of, registers_of, held}
use Rattle.sq_tagged.proofs.Writes.{held-set, written-x0}
use Rattle.sq_tagged.proofs.registers.Registers.set.Goals as goal

pub returns-then-number-ne0 : goal.returns-then-number-ne0
unfolding registers_of
returns-then-number-ne0 c =
    let e : c.number-number.result ≡ c.args.r = c.number-number.ensures.value in
    let h : c.number-number.result < length c.args.self.now.values = omega arith in
    held-set c.args.self.now.values c.number-number.result c.args.value h c.if-number-ne0.true
    ∙ ap (λ r. written r (Holds (value_of c.args.value)) (held c.args.self.now.values)) e

pub returns-else-number-ne0 : goal.returns-else-number-ne0
returns-else-number-ne0 c =
    let e : c.args.r ≡ 0 = omega arith in
    rw e (written-x0 (Holds (value_of c.args.value)) (registers_of c.args.self.now))
