use Rattle.std.proofs.Common.{true, false, List, ◌++◌, length, sym, ap, ◌∙◌, arith}
use Rattle.std.proofs.lemmas.List.{append-nil}
use Rattle.sq_graph.specs.declared.item.Item.{Item}
use Rattle.sq_layout.proofs.Walks.{items_few}
use Rattle.sq_outline.proofs.WindowsLast.{begins_from}
use Rattle.sq_outline.proofs.WindowsListed.{listed_from, one_listed, none_listed, none_left}
use Rattle.sq_outline.proofs.windows.search.push_places.Goals as goal
use Rattle.sq_outline.proofs.windows.search.push_places.Goals.{then-begins+in_ok-push, else-begins}

pub overflow_cast-at : goal.overflow_cast-at
overflow_cast-at c =
    let few = items_few c.args.graph.now.graph c.args.block c.learn.ensures.few in
    let is = ap length c.items-items.ensures in
    let within = c.loop-at-test.true in
    omega (arith, few, is, within)

pub returns-then-items-at : goal.returns-then-items-at
returns-then-items-at c =
    let none = none_left c.args.window.now c.items-items.result.now c.args.block c.loop-at.at (let few = c.if-items-at.true in omega (arith, few)) in
    sym (append-nil c.loop-at.places.items) ∙ ap (λ ps. c.loop-at.places.items ++ ps) (sym none) ∙ c.loop-at.invariant ∙ ap (λ (is : List Item). c.args.places.now.items ++ listed_from c.args.window.now is c.args.block 0) c.items-items.ensures

pub loop-at-preserved : goal.loop-at-preserved
loop-at-preserved c =
    let window = c.args.window.now in
    let items = c.items-items.result.now in
    let at = c.loop-at.at in
    elim c.if-begins.branch [
      | then-begins+in_ok-push w ↦
          rw (w.places-is, w.in_ok-push.ensures.items)
          (one_listed window items c.args.block at c.loop-at.places.items c.loop-at-test.true (begins_from window items at c.begins.result true c.begins.ensures w.if-begins.true) ∙ c.loop-at.invariant)
      | else-begins w ↦
          rw w.places-is
          (ap (λ ps. c.loop-at.places.items ++ ps) (none_listed window items c.args.block at c.loop-at-test.true (begins_from window items at c.begins.result false c.begins.ensures w.if-begins.false)) ∙ c.loop-at.invariant)
    ]
