use Rattle.std.proofs.Common.{◌≡◌, ◌<◌, ◌+◌, ◌-◌, ◌*◌, length, drop, subst, arith}
use Rattle.sq_lift.specs.Flags.{is_flagged}
use Rattle.law_program.specs.Readings.{reading_of}
use Rattle.law_program.specs.Lifted.{cut}
use Rattle.sq_lift.specs.Cuts.{Shows, kept_by, position_by}
use Rattle.sq_lift.proofs.Cutting.{shows_step, step_count}
use Rattle.sq_lift.proofs.cut.cuts.cut_words.Goals as goal

pub loop-place-preserved : goal.loop-place-preserved
loop-place-preserved c =
    let i = c.loop-place.place - 1 in
    let f = position_by c.args.positions.now in
    let keeps = kept_by c.args.kinds.now.reached.now c.args.kinds.now.inside.now in
    let leads = is_flagged c.args.kinds.now.leaders.now in
    let words = c.words-words.result.now in
    let more : c.loop-place.place ≡ i + 1 = omega arith in
    let near : i < length words = omega (arith, c.loop-place.invariant.bound, c.loop-place-test.true) in
    let before = subst (λ n. Shows f (cut keeps leads c.args.procedures.now c.args.text.now (c.lo-lo.result + 4 * n) (drop n words)) c.loop-place.cut) more c.loop-place.invariant.shows in
    let at = c.lo-lo.result + 4 * i in
    let few = step_count f (keeps at) (leads at) c.args.procedures.now (reading_of c.args.text.now at c.index-words-place.result) c.loop-place.cut c.step.new.self c.in_ok-step.ensures in
    record {
      shows = shows_step f keeps leads c.args.procedures.now c.args.text.now c.lo-lo.result words i c.index-words-place.result c.loop-place.cut c.step.new.self near c.index-words-place.is before c.in_ok-step.ensures;
      bound = omega (arith, few, c.loop-place.invariant.bound, c.loop-place-test.true);
    }
