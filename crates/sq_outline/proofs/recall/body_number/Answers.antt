use Rattle.sq_outline.proofs.RecallNumbers.{grown_through, number_more}
use Rattle.sq_outline.proofs.recall.body_number.Goals as goal

pub loop-item-preserved : goal.loop-item-preserved
loop-item-preserved c =
    let old = c.loop-item.pairs.keys in
    let new = c.number_after.new.pairs.keys in
    let place = c.in_ok-number.ensures.place in
    let grown = c.in_ok-number.ensures.grown in
    record {
      number = number_more old new c.loop-item.number c.in_ok-number.number place.0 c.args.link c.args.body.now c.loop-item.item-index c.item-item.result c.loop-item-test.true c.item-item.is place.1 place.2 grown c.loop-item.invariant.number;
      grown = grown_through c.loop-item.item-index 1 c.args.pairs.now.keys old new c.loop-item.invariant.grown grown;
    }
