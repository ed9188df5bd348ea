use Rattle.std.proofs.Common.{◌≡◌, ◌<◌, length, arith, ap, ◌∙◌}
use Rattle.sq_machine.specs.State.{State, with_register}
use Rattle.sq_machine.specs.Views.{state_of}
use Rattle.sq_machine.proofs.RegisterWrites.{registers-written, with_register-x0}
use Rattle.sq_machine.proofs.hart.Hart.set_register.Goals as goal

pub returns-then-number-ne0 : goal.returns-then-number-ne0
unfolding state_of with_register
returns-then-number-ne0 c =
    let e : c.number-number.result ≡ c.args.r = c.number-number.ensures.value in
    let h : c.number-number.result < length c.args.self.now.registers = omega arith in
    let s : State = state_of c.args.self.now in
    ap (λ registers. record s { registers = registers }) (registers-written c.args.self.now.registers c.number-number.result c.args.value h c.if-number-ne0.true)
    ∙ ap (λ r. with_register r c.args.value s) e

pub returns-else-number-ne0 : goal.returns-else-number-ne0
returns-else-number-ne0 c =
    let e : c.args.r ≡ 0 = omega arith in
    rw e (with_register-x0 c.args.value (state_of c.args.self.now))
