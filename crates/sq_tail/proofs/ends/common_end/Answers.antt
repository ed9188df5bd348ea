use Rattle.std.proofs.Common.{false, [], ◌≡◌, ◌-◌, ◌<◌, length, sym, ap, ◌∙◌, subst, add-one, true≢false, arith}
use Rattle.std.proofs.lemmas.List.Elements.{All-cons, All-nil, All-head}
use Rattle.sq_rename.specs.Reservations.{is_reservation}
use Rattle.sq_tail.specs.Ends.{IsCommonEnd}
use Rattle.sq_rename.proofs.Equals.{item_same, item_apart}
use Rattle.sq_tail.proofs.Ending.{some_item, back, get_any, common_more, longest}
use Rattle.sq_tail.proofs.ends.common_end.Goals as goal
use Rattle.sq_tail.proofs.ends.common_end.Goals.{then-ne-via-then-ne, then-ne-via-else-ne+then-not-has_no_reservations}

pub returns-then-ne : goal.returns-then-ne
returns-then-ne c =
    let items = c.args.items.now in
    let others = c.args.others.now in
    let n = c.loop-n.n in
    let l : c.loop-n.n < length c.args.items.now = omega (arith, c.loop-n-test.true, c.min-most.ensures) in
    let m : c.loop-n.n < length c.args.others.now = omega (arith, c.loop-n-test.true, c.min-most.ensures) in
    let first : c.index-items-items.result ≡ back c.loop-n.n c.args.items.now = c.index-items-items.is ∙ get_any items (length items - 1 - n) _ some_item (omega (arith, l)) in
    let second : c.index-others-others.result ≡ back c.loop-n.n c.args.others.now = c.index-others-others.is ∙ get_any others (length others - 1 - n) _ some_item (omega (arith, m)) in
    longest items others n c.loop-n.invariant
    (λ longer.
    elim c.then-ne.branch [
      | then-ne-via-then-ne w ↦ item_apart c.index-items-items.result c.index-others-others.result c.ne.result c.ne.ensures w.if-ne.true (first ∙ longer.same ∙ sym second)
      | then-ne-via-else-ne+then-not-has_no_reservations w ↦
          let plain : is_reservation c.index-others-others.result ≡ false = ap is_reservation second ∙ longer.plain in
          true≢false (sym (w.has_no_reservations.ensures.1 (All-cons (λ item. is_reservation item ≡ false) c.index-others-others.result [] plain (All-nil (λ item. is_reservation item ≡ false)))) ∙ w.if-not-has_no_reservations.true)
    ])

pub loop-n-preserved : goal.loop-n-preserved
loop-n-preserved c =
    let items = c.args.items.now in
    let others = c.args.others.now in
    let n = c.loop-n.n in
    let l : c.loop-n.n < length c.args.items.now = omega (arith, c.loop-n-test.true, c.min-most.ensures) in
    let m : c.loop-n.n < length c.args.others.now = omega (arith, c.loop-n-test.true, c.min-most.ensures) in
    let first : c.index-items-items.result ≡ back c.loop-n.n c.args.items.now = c.index-items-items.is ∙ get_any items (length items - 1 - n) _ some_item (omega (arith, l)) in
    let second : c.index-others-others.result ≡ back c.loop-n.n c.args.others.now = c.index-others-others.is ∙ get_any others (length others - 1 - n) _ some_item (omega (arith, m)) in
    let plain = All-head (λ item. is_reservation item ≡ false) c.index-others-others.result [] (c.has_no_reservations.ensures.0 c.if-not-has_no_reservations.false) in
    subst (IsCommonEnd items others) (sym (add-one n))
    (common_more items others n c.loop-n.invariant l m (sym first ∙ item_same c.index-items-items.result c.index-others-others.result c.ne.result c.ne.ensures c.if-ne.false ∙ second) (ap is_reservation (sym second) ∙ plain))
