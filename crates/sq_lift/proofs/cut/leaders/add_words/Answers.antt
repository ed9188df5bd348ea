use Rattle.sq_lift.specs.Flags.{is_flagged}
use Rattle.sq_lift.proofs.Raising.{raises_word}
use Rattle.sq_lift.proofs.cut.leaders.add_words.Goals as goal

pub loop-place-preserved : goal.loop-place-preserved
loop-place-preserved c =
    raises_word (is_flagged c.args.reached.now) c.args.procedures.now c.args.text.now c.args.text.now.lo c.lo-lo.result c.args.text.now.words c.words-word-items.result.now c.loop-place.place c.word-item.result c.lo-lo.ensures c.words-word-items.ensures.value c.loop-place-test.true c.word-item.is c.loop-place.invariant c.add_reached.ensures
