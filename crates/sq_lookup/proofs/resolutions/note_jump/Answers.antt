use Rattle.std.proofs.Common.{◌≡◌, Some, None, IsSome, is_some, sym, ap, subst, refl, ◌∙◌}
use Rattle.sq_graph.specs.Resolve.{jump_from}
use Rattle.sq_lookup.specs.Tables.{value_at}
use Rattle.sq_lookup.proofs.Noting.{are_on, closed_on, on_ok, is_nothing, noted_by}
use Rattle.sq_lookup.proofs.resolutions.note_jump.Goals as goal

module _ (c : goal.After-put) where
  jump : jump_from c.args.graph.now.graph c.args.block ≡ Some c.in-Some.next
  jump = sym c.jump_from.ensures ∙ c.in-Some.is

  there : value_at c.args.found.now.items c.in-Some.next ≡ Some c.in-Some-value.to
  there = ap (λ t. value_at t c.in-Some.next) (sym c.deref-2.ensures.value) ∙ sym c.value-2.ensures ∙ c.in-Some-value.is

  nothing : value_at c.args.found.now.items c.args.block ≡ None
  nothing = is_nothing (value_at c.args.found.now.items c.args.block) (ap is_some (ap (λ t. value_at t c.args.block) (sym c.deref.ensures.value) ∙ sym c.value.ensures) ∙ sym c.if-is_some.ensures)

pub returns-in-Some-value-clause-are : goal.returns-in-Some-value-clause-are
returns-in-Some-value-clause-are c =
    let g = c.args.graph.now.graph in
    on_ok c.put.result _ _ (λ put. are_on g c.args.found.now.items c.put.new.values.items c.args.block c.in-Some-value.to put (noted_by g c.args.found.now.items c.args.block c.in-Some.next c.in-Some-value.to c.requires.are c.requires.closed (nothing c) (jump c) (there c)) c.requires.are) c.put.ensures

pub returns-in-Some-value-clause-closed : goal.returns-in-Some-value-clause-closed
returns-in-Some-value-clause-closed c =
    let g = c.args.graph.now.graph in
    on_ok c.put.result _ _ (λ put. closed_on g c.args.found.now.items c.put.new.values.items c.args.block c.in-Some-value.to put (λ to leads.
    let same : Some c.in-Some.next ≡ Some to = sym (jump c) ∙ leads in
    let is : c.in-Some.next ≡ to = cc in
    subst (λ n. IsSome (value_at c.args.found.now.items n)) is (subst IsSome (sym (there c)) refl)) c.requires.closed) c.put.ensures
