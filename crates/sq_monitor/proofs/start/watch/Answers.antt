use Rattle.std.proofs.Common.{◌≡◌, rules, ◌∙◌}
use Rattle.sq_system.specs.Starts.{start_of, stack_pointer}
use Rattle.sq_monitor.specs.Starts.{state_at}
use Rattle.sq_monitor.proofs.start.watch.Goals as goal

pub returns-clause-state : goal.returns-clause-state
returns-clause-state c =
    let pointer : c.unwrap-pointer.result ≡ stack_pointer (start_of c.args.start.now) = search rules in
    c.from_parts.ensures.state ∙ c.hart-hart.ensures ∙ (λ i. state_at c.args.entry (pointer i) (c.in_ok-lay_ram.ensures i) (c.in_ok-input.ensures.items i))
