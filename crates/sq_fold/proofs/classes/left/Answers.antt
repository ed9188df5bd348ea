use Rattle.std.proofs.Common.{◌+◌, [], Some, take, true≢false, sym, ap, ◌∙◌, subst}
use Rattle.std.proofs.lemmas.List.{take_all}
use Rattle.std.proofs.lemmas.Option.{slice_get-get_or}
use Rattle.std.specs.Prelude.{nat_eq}
use Rattle.sq_finger.proofs.Exactness.{exact_number, exact_option}
use Rattle.sq_fold.specs.Splitting.{AreLeft}
use Rattle.sq_fold.proofs.Splits.{left_first, left_more, left_same}
use Rattle.sq_fold.proofs.classes.left.Goals as goal
use Rattle.sq_fold.proofs.classes.left.Goals.{then-eq+in_ok-push, else-eq}

pub loop-place-init : goal.loop-place-init
loop-place-init c = subst (AreLeft [] c.args.classes.now c.args.class) (sym c.new-left.ensures.items) (left_first [] c.args.classes.now c.args.class)

pub loop-place-preserved : goal.loop-place-preserved
loop-place-preserved c =
    let list = c.args.list.now in
    let k = c.loop-place.place-index in
    let classes = c.args.classes.now in
    let at = slice_get-get_or list k 0 c.loop-place-test.true in
    let same = exact_option nat_eq exact_number c.class_of.result (Some c.args.class) in
    elim c.if-eq.branch [
      | then-eq+in_ok-push w ↦
          subst (AreLeft (take (k + 1) list) classes c.args.class) (sym (ap (λ v. v.items) w.left-is ∙ w.in_ok-push.ensures.items))
          (left_more list classes c.args.class k _ c.loop-place.left.items at c.loop-place.invariant (sym c.class_of.ensures ∙ same.0 (sym c.eq.ensures ∙ w.if-eq.true)))
      | else-eq w ↦
          subst (AreLeft (take (k + 1) list) classes c.args.class) (sym (ap (λ v. v.items) w.left-is))
          (left_same list classes c.args.class k _ c.loop-place.left.items at c.loop-place.invariant (λ e. true≢false (sym (same.1 (c.class_of.ensures ∙ e)) ∙ sym c.eq.ensures ∙ w.if-eq.false)))
    ]

pub returns : goal.returns
returns c = subst (λ list. AreLeft list c.args.classes.now c.args.class c.loop-place.left.items) (take_all c.loop-place.place-index c.args.list.now c.loop-place-test.false) c.loop-place.invariant
