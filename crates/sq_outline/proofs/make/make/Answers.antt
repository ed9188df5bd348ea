use Rattle.std.proofs.Common.{get_or, refl, length, sym, ap, subst, arith}
use Rattle.sq_graph.specs.Graph.{Graph}
use Rattle.sq_graph.specs.Operations.{outlined}
use Rattle.sq_layout.proofs.Walks.{items_few}
use Rattle.sq_outline.specs.Made.{starts_of}
use Rattle.sq_outline.specs.Sites.{MayCallEach}
use Rattle.sq_outline.proofs.Making.{first_rules, first_calls}
use Rattle.sq_outline.proofs.make.make.Goals as goal

pub overflow_cast-count : goal.overflow_cast-count
overflow_cast-count c =
    let few = items_few c.args.graph.now.graph (get_or c.args.blocks.now 0 0) c.learn.ensures.few in
    let is = ap length c.items.ensures in
    omega arith

pub outline-procedure-requires-clause-rules : goal.outline-procedure-requires-clause-rules
outline-procedure-requires-clause-rules c =
    first_rules c.args.graph.now.graph c.args.blocks.now c.args.link c.learn.ensures.rules c.requires.made (get_or c.args.blocks.now 0 0) (length c.items.result.now) refl (ap length c.items.ensures)

pub call_each-requires : goal.call_each-requires
call_each-requires c =
    subst (λ (h : Graph). MayCallEach h (starts_of c.args.blocks.now) c.outline-procedure.result) (sym c.outline-procedure.ensures.graph)
    (subst (λ q. MayCallEach (outlined c.args.graph.now.graph (get_or c.args.blocks.now 0 0) 0 (length c.items.result.now) c.args.link) (starts_of c.args.blocks.now) q) (sym c.outline-procedure.ensures.number)
    (first_calls c.args.graph.now.graph c.args.blocks.now c.args.link c.learn.ensures.rules c.requires.made (get_or c.args.blocks.now 0 0) (length c.items.result.now) refl (ap length c.items.ensures)))
