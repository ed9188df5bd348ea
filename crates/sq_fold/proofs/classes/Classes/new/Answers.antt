use Rattle.std.proofs.Common.{◌≡◌, ◌++◌, ◌∷◌, [], length, map, take, slice_get, ap, sym, ◌∙◌, subst, arith}
use Rattle.std.proofs.lemmas.List.{map-append, take_all}
use Rattle.std.proofs.lemmas.List.FromFn.{length-range_with_len}
use Rattle.sq_finger.specs.Groups.{groups_of}
use Rattle.sq_fold.specs.Splitting.{AreListed}
use Rattle.sq_fold.proofs.Splits.{first_listed, take_next}
use Rattle.sq_fold.proofs.classes.Classes.new.Goals as goal

pub by_number-requires-clause-many : goal.by_number-requires-clause-many
by_number-requires-clause-many c = ap length c.deref.ensures.value ∙ sym (ap length c.requires.places ∙ length-range_with_len 0 (length c.args.numbers.items))

pub loop-class-preserved : goal.loop-class-preserved
loop-class-preserved c =
    let groups = groups_of c.args.numbers.items c.args.places.now in
    let old = c.loop-class.lists.items in
    let made : c.in_ok-groups.groups ≡ groups = c.in_ok-groups.ensures ∙ ap (λ ns. groups_of ns c.args.places.now) c.deref.ensures.value in
    let at = sym (ap (λ gs. slice_get gs c.loop-class.class) made) ∙ c.members.ensures in
    ap (map (λ list. list.items)) c.in_ok-push-2.ensures.items ∙ map-append (λ list. list.items) old (c.in_ok-list.list ∷ [])
    ∙ ap (λ ls. ls ++ c.in_ok-list.list.items ∷ []) c.loop-class.invariant
    ∙ ap (λ l. take c.loop-class.class groups ++ l ∷ []) c.in_ok-list.ensures.items
    ∙ sym (take_next groups c.loop-class.class c.members.result.now at)

pub invariant_of-result : goal.invariant_of-result
invariant_of-result c =
    let numbers = c.args.numbers.items in
    let groups = groups_of numbers c.args.places.now in
    let made : c.in_ok-groups.groups ≡ groups = c.in_ok-groups.ensures ∙ ap (λ ns. groups_of ns c.args.places.now) c.deref.ensures.value in
    let many = sym (ap length made) in
    let end = c.loop-class-test.false in
    let n = c.len-class-end.ensures in
    let same = c.loop-class.invariant ∙ take_all c.loop-class.class groups (omega arith) ∙ ap (groups_of numbers) c.requires.places in
    subst (AreListed numbers) (sym same) (first_listed numbers)
