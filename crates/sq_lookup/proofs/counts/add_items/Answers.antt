use Rattle.std.proofs.Common.{◌≡◌, [], ◌∷◌, option_to_list, sym, ap, ◌∙◌, arith}
use Rattle.sq_graph.specs.Uses.{item_uses}
use Rattle.sq_lookup.specs.Counts.{count_at, times_named}
use Rattle.sq_lookup.proofs.Counting.{times_more}
use Rattle.sq_lookup.proofs.counts.add_items.Goals as goal
use Rattle.sq_lookup.proofs.counts.add_items.Goals.{in-Some+in_ok-add_one, in_default}

pub loop-item-preserved : goal.loop-item-preserved
loop-item-preserved c = λ n.
    let more = times_more item_uses c.args.items.now c.loop-item.item-index c.item-item.result n c.loop-item-test.true c.item-item.is in
    elim c.match-target.branch [
      | in-Some+in_ok-add_one w ↦
          let own : times_named (item_uses c.item-item.result) n ≡ times_named (w.in-Some.to ∷ []) n = ap (λ us. times_named us n) (sym c.target.ensures ∙ ap option_to_list w.in-Some.is) in
          ap (λ xs. count_at xs.items n) w.counts-is ∙ omega (arith, w.in_ok-add_one.ensures n, own, c.loop-item.invariant n, more)
      | in_default w ↦
          let own : times_named (item_uses c.item-item.result) n ≡ 0 = ap (λ us. times_named us n) (sym c.target.ensures ∙ ap option_to_list w.in_default.is) in
          ap (λ xs. count_at xs.items n) w.counts-is ∙ omega (arith, own, c.loop-item.invariant n, more)
    ]
