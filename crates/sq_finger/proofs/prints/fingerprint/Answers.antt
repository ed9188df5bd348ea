use Rattle.std.proofs.Common.{◌∙◌, sym, arith}
use Rattle.sq_finger.proofs.Weighing.{print_of_forms, power_fits, digit_fits, product_fits, place_below, sum_is}
use Rattle.sq_finger.proofs.prints.fingerprint.Goals as goal

pub pow-requires : goal.pow-requires
pow-requires c = power_fits c.loop-place.place (place_below c.args.items.now c.min.result c.loop-place.place c.min.ensures c.loop-place-test.true)

pub overflow_mul-sum : goal.overflow_mul-sum
overflow_mul-sum c =
    let l = place_below c.args.items.now c.min.result c.loop-place.place c.min.ensures c.loop-place-test.true in
    let h = product_fits c.item_class.result c.loop-place.place c.item_class.ensures.small l in
    rw c.pow.ensures (omega (arith, h))

pub overflow_add-sum : goal.overflow_add-sum
overflow_add-sum c =
    let l = place_below c.args.items.now c.min.result c.loop-place.place c.min.ensures c.loop-place-test.true in
    let h = digit_fits c.item_class.result c.loop-place.place c.loop-place.sum c.item_class.ensures.small c.loop-place.invariant.fits l in
    rw c.pow.ensures (omega (arith, h))

pub returns-clause-value : goal.returns-clause-value
returns-clause-value c = sum_is c.args.items.now c.min.result c.loop-place.place c.loop-place.sum c.min.ensures c.loop-place-test.false c.loop-place.invariant.rest

pub returns-clause-forms : goal.returns-clause-forms
returns-clause-forms c = λ others same.
    print_of_forms c.args.items.now others same
    ∙ sym (sum_is c.args.items.now c.min.result c.loop-place.place c.loop-place.sum c.min.ensures c.loop-place-test.false c.loop-place.invariant.rest)
