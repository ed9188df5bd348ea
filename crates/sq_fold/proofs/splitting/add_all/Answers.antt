use Rattle.std.proofs.Common.{◌+◌, take, sym, subst}
use Rattle.std.proofs.lemmas.List.{take_all}
use Rattle.std.proofs.lemmas.Option.{slice_get-get_or}
use Rattle.sq_fold.proofs.Splits.{AreAdded, added_first, added_next}
use Rattle.sq_fold.proofs.splitting.add_all.Goals as goal

pub loop-place-init : goal.loop-place-init
loop-place-init c = added_first c.args.set.now.keys

pub loop-place-preserved : goal.loop-place-preserved
loop-place-preserved c =
    let places = c.args.places.now in
    let k = c.loop-place.place-index in
    subst (AreAdded c.args.set.now.keys (take (k + 1) places)) (sym c.in_ok-insert.ensures.keys)
    (added_next c.args.set.now.keys places c.loop-place.set.keys k _ (slice_get-get_or places k 0 c.loop-place-test.true) c.loop-place.invariant)

pub returns : goal.returns
returns c = subst (λ places. AreAdded c.args.set.now.keys places c.loop-place.set.keys) (take_all c.loop-place.place-index c.args.places.now c.loop-place-test.false) c.loop-place.invariant
