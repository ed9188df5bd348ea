use Rattle.std.proofs.Common.{◌≡◌, ◌+◌, ◌-◌, ◌<◌, ◌++◌, length, ap, sym, ◌∙◌, arith}
use Rattle.std.proofs.lemmas.List.{append-nil}
use Rattle.law_program.specs.Readings.{reading_at}
use Rattle.law_program.specs.Lifted.{body_from}
use Rattle.sq_graph.specs.Renames.{retargeted_items}
use Rattle.sq_lift.specs.Cuts.{position_by, body_of}
use Rattle.sq_lift.proofs.CutBodies.{items_next, count_next, one_at_most, body_past}
use Rattle.sq_lift.proofs.cut.bodies.push_body.Goals as goal

pub loop-index-preserved : goal.loop-index-preserved
loop-index-preserved c =
    let long = ap (λ note. note.length) c.note.view_is in
    let left = c.args.note.now.length - c.loop-index._index in
    let some : 0 < c.args.note.now.length - c.loop-index._index = omega (arith, long, c.loop-index-test.true) in
    let fewer : c.args.note.now.length - c.loop-index._index - 1 ≡ c.args.note.now.length - (c.loop-index._index + 1) = omega arith in
    let one = one_at_most (reading_at c.args.text.now c.loop-index.at) in
    record {
      items =
          ap (λ xs. c.push_item.new.items.items ++ retargeted_items (position_by c.args.positions.now) xs) (sym (λ i. body_from c.args.text.now (sym c.in-Some.ensures.some i) (fewer i)))
          ∙ items_next (position_by c.args.positions.now) c.args.text.now c.loop-index.at left some c.loop-index.items.items c.push_item.new.items.items (c.args.items.now.items ++ retargeted_items (position_by c.args.positions.now) (body_of c.args.text.now c.args.note.now)) c.in_ok-count.ensures.items c.loop-index.invariant.items;
      count =
          ap (λ xs. c.loop-index.count + c.in_ok-count.field-0 + length xs) (sym (λ i. body_from c.args.text.now (sym c.in-Some.ensures.some i) (fewer i)))
          ∙ count_next (position_by c.args.positions.now) c.args.text.now c.loop-index.at left some c.loop-index.count c.in_ok-count.field-0 (length (body_of c.args.text.now c.args.note.now)) c.in_ok-count.ensures.count c.loop-index.invariant.count;
      bound = omega (arith, one, c.in_ok-count.ensures.count, c.loop-index.invariant.bound);
    }

pub returns-in-None-clause-items : goal.returns-in-None-clause-items
returns-in-None-clause-items c =
    let long = ap (λ note. note.length) c.note.view_is in
    let left = c.args.note.now.length - c.loop-index._index in
    let some : 0 < c.args.note.now.length - c.loop-index._index = omega (arith, long, c.loop-index-test.true) in
    let none = body_past c.args.text.now (c.loop-index.at + 4) (left - 1) c.in-None.ensures.end in
    sym (append-nil c.push_item.new.items.items)
    ∙ ap (λ xs. c.push_item.new.items.items ++ retargeted_items (position_by c.args.positions.now) xs) (sym none)
    ∙ items_next (position_by c.args.positions.now) c.args.text.now c.loop-index.at left some c.loop-index.items.items c.push_item.new.items.items (c.args.items.now.items ++ retargeted_items (position_by c.args.positions.now) (body_of c.args.text.now c.args.note.now)) c.in_ok-count.ensures.items c.loop-index.invariant.items

pub returns-in-None-clause-count : goal.returns-in-None-clause-count
returns-in-None-clause-count c =
    let long = ap (λ note. note.length) c.note.view_is in
    let left = c.args.note.now.length - c.loop-index._index in
    let some : 0 < c.args.note.now.length - c.loop-index._index = omega (arith, long, c.loop-index-test.true) in
    let none = ap length (body_past c.args.text.now (c.loop-index.at + 4) (left - 1) c.in-None.ensures.end) in
    let next = count_next (position_by c.args.positions.now) c.args.text.now c.loop-index.at left some c.loop-index.count c.in_ok-count.field-0 (length (body_of c.args.text.now c.args.note.now)) c.in_ok-count.ensures.count c.loop-index.invariant.count in
    omega (arith, none, next)
