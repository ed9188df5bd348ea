use Rattle.std.proofs.Common.{◌≡◌, ◌≤◌, List, length, drop, ap, ◌∙◌, arith}
use Rattle.sq_graph.specs.declared.item.Item.{Item}
use Rattle.sq_graph.specs.Blocks.{items_of}
use Rattle.sq_finger.proofs.Placing.{to_end}
use Rattle.sq_outline.specs.WindowsPlaces.{begins}
use Rattle.sq_outline.proofs.WindowsStanding.{stands_where}
use Rattle.sq_outline.proofs.windows.stands.stand_at.Goals as goal

pub returns : goal.returns
returns c =
    let g = c.args.graph.now.graph in
    let there : c.args.at ≤ length (items_of c.args.graph.now.graph c.args.block) = omega (arith, c.if-items-at.false, ap length c.items-items.ensures) in
    let is : c.begins.result ≡ begins c.args.window.now (drop c.args.at (items_of c.args.graph.now.graph c.args.block)) =
    c.begins.ensures
    ∙ ap (λ (is : List Item). begins c.args.window.now is) (to_end c.items-items.result.now c.args.at)
    ∙ ap (λ (is : List Item). begins c.args.window.now (drop c.args.at is)) c.items-items.ensures in
    stands_where g c.args.block c.args.at c.args.window.now c.begins.result there is
