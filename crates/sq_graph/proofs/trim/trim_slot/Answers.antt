use Rattle.std.proofs.Common.{◌≡◌, ◌-◌, sym, ap, ◌∙◌}
use Rattle.std.specs.Option.{option_copied_mut}
use Rattle.sq_arena.specs.Entries.{with_value}
use Rattle.sq_graph.proofs.Trimming.{cut_found, cut_absent}
use Rattle.sq_graph.proofs.trim.trim_slot.Goals as goal

pub returns-in-Some-clause-entries : goal.returns-in-Some-clause-entries
returns-in-Some-clause-entries c =
    let is : c.saturating_sub-slot.result ≡ c.in-Some.slot.now.length - c.args.most = c.saturating_sub-slot.ensures in
    ap (λ n. with_value c.args.slots.now.entries c.args.name (record c.in-Some.slot.now { length = n })) is
    ∙ cut_found c.args.most c.args.name c.in-Some.slot.now c.args.slots.now.entries (sym c.in-Some.ensures.value)

pub returns-in_default-clause-entries : goal.returns-in_default-clause-entries
returns-in_default-clause-entries c =
    sym (cut_absent c.args.most c.args.name c.args.slots.now.entries (sym c.get_mut.ensures.value ∙ ap (λ o. option_copied_mut o) c.in_default.is))
