use Rattle.std.proofs.Common.{sym, ◌∙◌}
use Rattle.sq_memory.specs.Contents.{region_of}
use Rattle.sq_memory.proofs.Places.{holds_at, holds_none, found_region}
use Rattle.sq_memory.proofs.contents.Contents.get.Goals as goal

pub returns-in_err-place-clause-value : goal.returns-in_err-place-clause-value
returns-in_err-place-clause-value g c =
    let h = holds_none c.args.address c.args.self.now c.place_of.result c.place_of.ensures.value (λ k e. let f = c.in_err-place.was in absurd (cc)) in
    c.from_residual.ensures ∙ sym h.got

pub returns-clause-value : goal.returns-clause-value
returns-clause-value g c =
    let xs = c.self.inside.regions.items in
    let h = holds_at c.args.address c.args.self.now c.place_of.result c.in_ok-place.place c.place_of.ensures.value c.in_ok-place.was in
    let f = found_region region_of c.args.address xs c.args.self.now c.in_ok-place.place c.index.result.now (c.self.view_is ∙ c.place_of.ensures.kept) h c.index.ensures in
    c.cell.ensures ∙ f.1
