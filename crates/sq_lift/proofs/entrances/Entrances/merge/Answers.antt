use Rattle.std.proofs.Common.{◌≡◌, slice_set, ap, ◌∙◌, subst, arith}
use Rattle.sq_lift.specs.Entrances.{Entrances, merged, with_entrance}
use Rattle.sq_lift.proofs.Gathered.{merge_is, merge_far}
use Rattle.sq_lift.proofs.entrances.Entrances.merge.Goals as goal

pub returns-in-Some : goal.returns-in-Some
returns-in-Some c =
    let old : Entrances = record { lo = c.self.inside.lo; entrances = c.self.inside.entrances.items } in
    let new = c.merged.ensures ∙ ap (λ e. merged e c.args.entrance) c.index.ensures in
    (λ i. record { lo = c.self.inside.lo; entrances = slice_set c.self.inside.entrances.items c.in-Some.place (new i) })
    ∙ merge_is old c.args.address c.in-Some.place c.args.entrance c.index.result.now c.in-Some.ensures
    ∙ ap (λ e. with_entrance e c.args.address c.args.entrance) c.self.view_is

pub returns-else-place-len : goal.returns-else-place-len
returns-else-place-len c =
    let old : Entrances = record { lo = c.self.inside.lo; entrances = c.self.inside.entrances.items } in
    let Same : Entrances → Type 0 = λ e. e ≡ with_entrance e c.args.address c.args.entrance in
    subst Same c.self.view_is (merge_far old c.args.address c.in-Some.place c.args.entrance c.in-Some.ensures (omega (arith, c.if-place-len.false, c.len.ensures)))
