use Rattle.std.proofs.Common.{List, length, sym, ap, subst, arith}
use Rattle.std.specs.List.{All}
use Rattle.sq_graph.specs.Rules.{ItemFits}
use Rattle.sq_graph.specs.declared.item.Item.{Item}
use Rattle.sq_outline.proofs.Printing.{body_fits}
use Rattle.sq_outline.proofs.RecallNumbers.{body_words}
use Rattle.sq_outline.proofs.groups.body_print.Goals as goal

pub print-requires-clause-fit : goal.print-requires-clause-fit
print-requires-clause-fit c = subst (λ (items : List Item). All ItemFits items) (sym c.body.ensures) (body_fits c.args.graph.now.graph c.args.procedure c.learn.ensures.rules)

pub print-requires-clause-few : goal.print-requires-clause-few
print-requires-clause-few c =
    let words = body_words c.args.graph.now.graph c.args.procedure c.requires in
    let few = c.learn.ensures.few in
    let is = ap length c.body.ensures in
    omega arith
