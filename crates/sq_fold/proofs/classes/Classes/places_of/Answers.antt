use Rattle.std.proofs.Common.{Some, map, set, ap, sym, ◌∙◌, subst, arith}
use Rattle.std.specs.Option.{option_map}
use Rattle.std.proofs.lemmas.List.{map-set}
use Rattle.std.proofs.lemmas.Option.{slice_get-get_or, slice_get-map}
use Rattle.sq_fold.specs.Splitting.{AreLeft, AreListed}
use Rattle.sq_fold.proofs.Splits.{left_listed, left_whole}
use Rattle.sq_fold.proofs.classes.Classes.places_of.Goals as goal

pub invariant_of-self : goal.invariant_of-self
invariant_of-self c =
    let lists = c.self.inside.lists.items in
    let classes = c.self.inside.classes.items in
    let class = c.args.class in
    let list = c.index.result.now in
    let l = c.if-len-class.false in
    let n = c.len.ensures in
    let there = slice_get-get_or lists class list (omega arith) ∙ ap Some (sym c.index.ensures) in
    let at = slice_get-map (λ v. v.items) lists class ∙ ap (option_map (λ v. v.items)) there in
    let are : AreLeft list.items classes class c.in_ok-left.left.items = rw (sym c.deref.ensures.value, sym c.deref-2.ensures.value) c.in_ok-left.ensures in
    let new = c.in_ok-self-inside.ensures.items ∙ c.deref-3.ensures.value in
    subst (AreListed classes) (sym (map-set (λ v. v.items) lists class c.in_ok-self-inside.field-0 ∙ ap (set (map (λ v. v.items) lists) class) new))
    (left_listed (map (λ v. v.items) lists) classes class list.items c.in_ok-left.left.items c.self.invariant at are)

pub returns-clause-whole : goal.returns-clause-whole
returns-clause-whole c =
    let lists = c.self.inside.lists.items in
    let classes = c.self.inside.classes.items in
    let class = c.args.class in
    let list = c.index.result.now in
    let l = c.if-len-class.false in
    let n = c.len.ensures in
    let there = slice_get-get_or lists class list (omega arith) ∙ ap Some (sym c.index.ensures) in
    let at = slice_get-map (λ v. v.items) lists class ∙ ap (option_map (λ v. v.items)) there in
    let are : AreLeft list.items classes class c.in_ok-left.left.items = rw (sym c.deref.ensures.value, sym c.deref-2.ensures.value) c.in_ok-left.ensures in
    rw (sym c.self.view_is) (left_whole (map (λ v. v.items) lists) classes class list.items c.in_ok-left.left.items c.self.invariant at are)
