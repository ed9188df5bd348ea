use Rattle.std.proofs.Common.{sym, ◌∙◌, subst}
use Rattle.std.specs.List.{All}
use Rattle.sq_memory.specs.Contents.{region_of, Serves}
use Rattle.sq_memory.proofs.Near.{all_serve_put}
use Rattle.sq_memory.proofs.Places.{holds_at, holds_none, found_region}
use Rattle.sq_memory.proofs.contents.Contents.put.Goals as goal

pub set-requires : goal.set-requires
set-requires g c =
    let h = holds_at c.args.address c.args.self.now c.place_of.result c.in-Some.place c.place_of.ensures.value c.in-Some.is in
    (found_region region_of c.args.address c.self.inside.regions.items c.args.self.now c.in-Some.place c.index_mut.result.now (c.self.view_is ∙ c.place_of.ensures.kept) h c.index_mut.ensures.value).0

pub invariant_of-self : goal.invariant_of-self
invariant_of-self g c =
    let h = holds_at c.args.address c.args.self.now c.place_of.result c.in-Some.place c.place_of.ensures.value c.in-Some.is in
    let is = c.self.view_is ∙ c.place_of.ensures.kept in
    let f = found_region region_of c.args.address c.self.inside.regions.items c.args.self.now c.in-Some.place c.index_mut.result.now is h c.index_mut.ensures.value in
    let w = f.2 c.args.cell c.set.new.self c.set.ensures in
    subst (λ rs. All (Serves rs) c.self.inside.near) (sym w) (all_serve_put c.args.self.now c.args.address c.args.cell c.self.inside.near (subst (λ rs. All (Serves rs) c.self.inside.near) is c.self.invariant))

pub returns-in-Some : goal.returns-in-Some
returns-in-Some g c =
    let h = holds_at c.args.address c.args.self.now c.place_of.result c.in-Some.place c.place_of.ensures.value c.in-Some.is in
    let f = found_region region_of c.args.address c.self.inside.regions.items c.args.self.now c.in-Some.place c.index_mut.result.now (c.self.view_is ∙ c.place_of.ensures.kept) h c.index_mut.ensures.value in
    f.2 c.args.cell c.set.new.self c.set.ensures

pub returns-in_default : goal.returns-in_default
returns-in_default g c =
    let h = holds_none c.args.address c.args.self.now c.place_of.result c.place_of.ensures.value c.in_default.not-Some in
    c.place_of.ensures.kept ∙ sym (h.written c.args.cell)
