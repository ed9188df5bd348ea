use Rattle.std.proofs.Common.{sym, ap, ◌∙◌}
use Rattle.sq_graph.specs.Leaders.{has_no_items}
use Rattle.sq_jumps.proofs.FallJoined.{filled_if}
use Rattle.sq_jumps.proofs.fall.is_plain_fall.Goals as goal

pub returns : goal.returns
returns c = λ yes.
    let filled = ap has_no_items (sym c.items.ensures) ∙ filled_if c.items.result.now (sym c.is_empty.ensures ∙ c.if-is_empty.false) in
    record { jumps = c.jumps_to_next.ensures.0 yes; filled = filled }
