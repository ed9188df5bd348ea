use Rattle.std.proofs.Common.{◌<◌, ◌+◌, ◌*◌, ◌&&◌, length, sym, ◌∙◌, refl}
use Rattle.sq_lift.specs.Flags.{is_flagged}
use Rattle.sq_lift.specs.Cuts.{kept_by}
use Rattle.sq_lift.proofs.Numbering.{starts_next, one_start}
use Rattle.sq_lift.proofs.cut.names.starts_of.Goals as goal

pub loop-place-preserved : goal.loop-place-preserved
loop-place-preserved c =
    let at = c.lo-lo.result + 4 * c.loop-place.place in
    let keeps = kept_by c.args.kinds.now.reached.now c.args.kinds.now.inside.now in
    let begins = keeps at && is_flagged c.args.kinds.now.leaders.now at in
    let near : c.loop-place.place < length c.args.text.now.words = rw c.words-place-end.ensures.value at c.loop-place-test.true in
    record {
      starts =
          sym (starts_next keeps (is_flagged c.args.kinds.now.leaders.now) c.lo-lo.result c.args.text.now.words c.loop-place.place c.loop-place.list.items c.push_start.new.list.items begins near refl c.in_ok-push_start.ensures)
          ∙ c.loop-place.invariant.starts;
      count = one_start at begins c.loop-place.list.items c.push_start.new.list.items c.loop-place.place c.in_ok-push_start.ensures c.loop-place.invariant.count;
    }
