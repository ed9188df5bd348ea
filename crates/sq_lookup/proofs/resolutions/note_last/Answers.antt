use Rattle.std.proofs.Common.{◌≡◌, Some, None, is_some, sym, ap, ◌∙◌}
use Rattle.sq_graph.specs.Resolve.{jump_from}
use Rattle.sq_lookup.proofs.Following.{resolves_last_too}
use Rattle.sq_lookup.proofs.Noting.{are_on, closed_on, on_ok, is_nothing}
use Rattle.sq_lookup.proofs.resolutions.note_last.Goals as goal

pub returns-then-is_none-clause-are : goal.returns-then-is_none-clause-are
returns-then-is_none-clause-are c =
    let g = c.args.graph.now.graph in
    let none : jump_from g c.args.block ≡ None = is_nothing (jump_from g c.args.block) (ap is_some (sym c.jump_from.ensures) ∙ c.if-is_none.ensures) in
    on_ok c.put.result _ _ (λ put. are_on g c.args.found.now.items c.put.new.values.items c.args.block c.args.block put (resolves_last_too g c.args.block none) c.requires.are) c.put.ensures

pub returns-then-is_none-clause-closed : goal.returns-then-is_none-clause-closed
returns-then-is_none-clause-closed c =
    let g = c.args.graph.now.graph in
    let none : jump_from g c.args.block ≡ None = is_nothing (jump_from g c.args.block) (ap is_some (sym c.jump_from.ensures) ∙ c.if-is_none.ensures) in
    on_ok c.put.result _ _ (λ put. closed_on g c.args.found.now.items c.put.new.values.items c.args.block c.args.block put (λ to leads. let no : Some to ≡ None = sym leads ∙ none in absurd (cc)) c.requires.closed) c.put.ensures
