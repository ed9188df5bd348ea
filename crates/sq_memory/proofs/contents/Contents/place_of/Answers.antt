use Rattle.std.proofs.Common.{sym, ap, ◌∙◌, subst, arith, position, is_some}
use Rattle.std.proofs.lemmas.List.Elements.{All-set}
use Rattle.sq_memory.specs.Regions.{region_cell}
use Rattle.sq_memory.specs.Contents.{region_of, regions_of, Serves}
use Rattle.sq_memory.proofs.Places.{position-map}
use Rattle.sq_memory.proofs.contents.Contents.place_of.Goals as goal

pub returns-then-has-clause-value : goal.returns-then-has-clause-value
returns-then-has-clause-value g c =
    sym (c.self.invariant c.page_of-page.result (record { low = 0; high = 0; place = 0 }) (omega arith) c.args.address (c.has.ensures.0 c.if-has.true))
    ∙ ap (position (λ r. is_some (region_cell r c.args.address))) c.self.view_is

pub returns-in_err-place-clause-value : goal.returns-in_err-place-clause-value
returns-in_err-place-clause-value g c =
    let xs = c.self.inside.regions.items in
    c.from_residual.ensures ∙ (sym c.in_err-place.was ∙ (c.place.ensures ∙ (ap (position (λ r. is_some (region_cell (region_of r) c.args.address))) c.deref.ensures.value ∙ (position-map region_of c.args.address xs ∙ ap (position (λ r. is_some (region_cell r c.args.address))) c.self.view_is))))

pub invariant_of-self : goal.invariant_of-self
invariant_of-self g c =
    All-set (Serves (regions_of c.self.inside.regions.items)) c.self.inside.near c.page_of-page.result c.near_at.result (subst (λ xs. Serves (regions_of xs) c.near_at.result) c.deref-2.ensures.value c.near_at.ensures.serves) c.self.invariant

pub returns-clause-value : goal.returns-clause-value
returns-clause-value g c =
    let xs = c.self.inside.regions.items in
    sym c.in_ok-place.was ∙ (c.place.ensures ∙ (ap (position (λ r. is_some (region_cell (region_of r) c.args.address))) c.deref.ensures.value ∙ (position-map region_of c.args.address xs ∙ ap (position (λ r. is_some (region_cell r c.args.address))) c.self.view_is)))
