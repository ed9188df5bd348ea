use Rattle.std.proofs.Common.{◌+◌, [], take, sym, ap, subst, arith}
use Rattle.std.proofs.lemmas.List.{take_all}
use Rattle.std.proofs.lemmas.Option.{slice_get-get_or}
use Rattle.sq_fold.specs.Splitting.{AreInGroups}
use Rattle.sq_fold.proofs.Splits.{inside_first, inside_more, inside_same}
use Rattle.sq_fold.proofs.splitting.leading_to.Goals as goal
use Rattle.sq_fold.proofs.splitting.leading_to.Goals.{then-place-len+in_ok-add_all, else-place-len}

pub loop-place-init : goal.loop-place-init
loop-place-init c = subst (AreInGroups c.args.sources.now []) (sym c.new-leading.ensures.empty) (inside_first c.args.sources.now)

pub loop-place-preserved : goal.loop-place-preserved
loop-place-preserved c =
    let sources = c.args.sources.now in
    let places = c.args.places.now in
    let k = c.loop-place.place-index in
    let at = slice_get-get_or places k 0 c.loop-place-test.true in
    elim c.if-place-len.branch [
      | then-place-len+in_ok-add_all w ↦
          subst (AreInGroups sources (take (k + 1) places)) (sym (ap (λ s. s.keys) w.leading-is))
          (inside_more sources places c.loop-place.leading.keys k _ at c.loop-place.invariant w.members.result.now w.add_all.new.set.keys w.members.ensures w.in_ok-add_all.ensures)
      | else-place-len w ↦
          subst (AreInGroups sources (take (k + 1) places)) (sym (ap (λ s. s.keys) w.leading-is))
          (inside_same sources places c.loop-place.leading.keys k _ at c.loop-place.invariant (let n = c.len.ensures in let l = w.if-place-len.false in omega arith))
    ]

pub returns : goal.returns
returns c = subst (λ places. AreInGroups c.args.sources.now places c.loop-place.leading.keys) (take_all c.loop-place.place-index c.args.places.now c.loop-place-test.false) c.loop-place.invariant
