use Rattle.std.proofs.Common.{sym, ap, ◌∙◌}
use Rattle.std.specs.Option.{option_copied_mut}
use Rattle.sq_graph.proofs.Marks.{marked_one, marked_absent}
use Rattle.sq_graph.proofs.canonical.mark.Goals as goal

pub returns-in-Some-clause-entries : goal.returns-in-Some-clause-entries
returns-in-Some-clause-entries c = marked_one c.args.name c.in-Some.slot.now c.args.slots.now.entries c.requires (sym c.in-Some.ensures.value)

pub returns-in_default-clause-entries : goal.returns-in_default-clause-entries
returns-in_default-clause-entries c =
    sym (marked_absent c.args.name c.args.slots.now.entries (sym c.get_mut.ensures.value ∙ ap (λ o. option_copied_mut o) c.in_default.is))
