use Rattle.std.proofs.Common.{◌≡◌, ◌+◌, ◌++◌, ◌∷◌, [], length, map, take, ap, sym, ◌∙◌, subst, arith}
use Rattle.std.proofs.lemmas.List.{length-map, map-append, take_all}
use Rattle.std.proofs.lemmas.Option.{slice_get-get_or}
use Rattle.sq_fold.specs.Splitting.{AreListed, ArePut}
use Rattle.sq_fold.proofs.Splits.{put_more, put_same, put_listed}
use Rattle.sq_fold.proofs.classes.Classes.add.Goals as goal
use Rattle.sq_fold.proofs.classes.Classes.add.Goals.{then-place-len, else-place-len}

pub loop-place-preserved : goal.loop-place-preserved
loop-place-preserved c =
    let part = c.args.part.now in
    let k = c.loop-place.place-index in
    let class = c.len-class.result in
    let old = c.self.inside.classes.items in
    let now = c.loop-place.self-inside.classes.items in
    let at = slice_get-get_or part k 0 c.loop-place-test.true in
    elim c.if-place-len.branch [
      | then-place-len w ↦ record {
        put = subst (ArePut (take (k + 1) part) class old) (sym (ap (λ s. s.classes.items) w.self-inside-is)) (put_more part class old now k _ at c.loop-place.invariant.put (let n = c.len.ensures in let l = w.if-place-len.true in omega arith));
        lists = ap (λ s. s.lists.items) w.self-inside-is ∙ c.loop-place.invariant.lists;
      }
      | else-place-len w ↦ record {
        put = subst (ArePut (take (k + 1) part) class old) (sym (ap (λ s. s.classes.items) w.self-inside-is)) (put_same part class old now k _ at c.loop-place.invariant.put (let n = c.len.ensures in let l = w.if-place-len.false in omega arith));
        lists = ap (λ s. s.lists.items) w.self-inside-is ∙ c.loop-place.invariant.lists;
      }
    ]

pub invariant_of-self-in-loop-place : goal.invariant_of-self-in-loop-place
invariant_of-self-in-loop-place c =
    let part = c.args.part.now in
    let class = c.len-class.result in
    let lists = c.self.inside.lists.items in
    let old = c.self.inside.classes.items in
    let new = c.loop-place.self-inside.classes.items in
    let put = subst (λ ps. ArePut ps class old new) (take_all c.loop-place.place-index part c.loop-place-test.false) c.loop-place.invariant.put in
    let is : class ≡ length (map (λ v. v.items) lists) = (let ok = c.self.inside.lists.ok in let n = c.len-class.ensures in let m = length-map lists (λ v. v.items) in omega arith) in
    let same =
    ap (map (λ v. v.items)) (c.loop-place.invariant.lists ∙ c.in_ok-push-2.ensures.items)
    ∙ map-append (λ v. v.items) lists (c.in_ok-from_slice.field-0 ∷ [])
    ∙ ap (λ p. map (λ v. v.items) lists ++ p ∷ []) c.in_ok-from_slice.ensures.items in
    subst (AreListed new) (sym same) (put_listed part class old new (map (λ v. v.items) lists) c.self.invariant put is)
