use Rattle.std.proofs.Common.{List, ap, length, arith}
use Rattle.sq_graph.specs.declared.item.Item.{Item}
use Rattle.sq_graph.proofs.FewWords.{term_at_most}
use Rattle.sq_layout.proofs.Walks.{items_few}
use Rattle.sq_layout.proofs.words.block_words.Goals as goal

pub overflow_cast-result : goal.overflow_cast-result
overflow_cast-result c =
    let few = items_few c.args.g.now.graph c.args.block c.learn.ensures.few in
    omega (arith, few, ap (λ (items : List Item). length items) c.items.ensures)

pub overflow_add-result : goal.overflow_add-result
overflow_add-result c =
    let few = items_few c.args.g.now.graph c.args.block c.learn.ensures.few in
    omega (arith, few, ap (λ (items : List Item). length items) c.items.ensures, c.term_words.ensures, term_at_most c.term.result)
