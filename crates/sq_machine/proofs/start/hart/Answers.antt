use Rattle.std.proofs.Common.{ℕ, None, replicate, ap, ◌∙◌}
use Rattle.sq_memory.specs.Regions.{get}
use Rattle.sq_machine.specs.State.{State, with_register}
use Rattle.sq_machine.specs.Views.{state_of, numbers}
use Rattle.sq_machine.proofs.FirstStates.{zero_registers}
use Rattle.sq_machine.proofs.start.hart.Goals as goal

pub returns : goal.returns
unfolding state_of
returns c =
    let blank : (ℕ → ℕ) → State = λ registers. record {
      pc = c.args.entry;
      registers = registers;
      memory = get c.args.memory;
      input = c.args.input.items;
      reservation = None;
    } in
    c.set_register.ensures ∙ (ap (λ r. with_register r c.args.pointer (blank (numbers (replicate 32 0)))) c.from_low_bits.ensures ∙ ap (λ registers. with_register 2 c.args.pointer (blank registers)) (zero_registers 32))
