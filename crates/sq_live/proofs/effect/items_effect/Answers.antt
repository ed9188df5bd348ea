use Rattle.sq_live.proofs.Sequences.{before_items_more, items_write_more}
use Rattle.sq_live.proofs.effect.items_effect.Goals as goal

pub loop-item-preserved : goal.loop-item-preserved
loop-item-preserved c =
    let items = c.args.items.now in
    let calls = c.args.calls.now in
    let i = c.loop-item.item-index in
    let x = c.item-item.result in
    record {
      reads = λ q h.
          let r = c.then-effect.ensures.reads q h in
          let a = c.loop-item.invariant.reads q h in
          let b = c.loop-item.invariant.writes q in
          let d = c.item_effect.ensures.reads q in
          let e = before_items_more calls items i x q c.loop-item-test.true c.item-item.is in
          cc;
      writes = λ q.
          let r = c.then-effect.ensures.writes q in
          let b = c.loop-item.invariant.writes q in
          let d = c.item_effect.ensures.writes q in
          let e = items_write_more calls items i x q c.loop-item-test.true c.item-item.is in
          cc;
    }
