use Rattle.std.proofs.Common.{sym, ap, ◌∙◌}
use Rattle.std.specs.Option.{option_copied_mut}
use Rattle.sq_arena.specs.Entries.{with_value}
use Rattle.sq_graph.specs.Uses.{term_uses}
use Rattle.sq_graph.proofs.Restarting.{aimed_one, aimed_absent, named_or}
use Rattle.sq_graph.proofs.redirect.aim_one.Goals as goal

pub returns-in-Some-clause-entries : goal.returns-in-Some-clause-entries
returns-in-Some-clause-entries c =
    let slot = c.in-Some.slot.now in
    ap (λ n. with_value c.args.slots.now.entries c.args.name (record slot { start = n })) (c.unwrap_or-slot.ensures ∙ named_or c.target.result (term_uses slot.term) slot.start c.target.ensures)
    ∙ aimed_one c.args.name slot c.args.slots.now.entries c.requires (sym c.in-Some.ensures.value)

pub returns-in_default-clause-entries : goal.returns-in_default-clause-entries
returns-in_default-clause-entries c =
    sym (aimed_absent c.args.name c.args.slots.now.entries (sym c.get_mut.ensures.value ∙ ap (λ o. option_copied_mut o) c.in_default.is))
