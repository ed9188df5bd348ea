use Rattle.std.proofs.Common.{[], ◌∷◌, arith}
use Rattle.std.proofs.lemmas.List.Elements.{All-nil, All-cons}
use Rattle.sq_graph.specs.declared.item.Item.TheVariants.{Hi}
use Rattle.sq_graph.specs.Blocks.{HasBlock, HasProcedure}
use Rattle.sq_graph.proofs.RulesByBlock.{ItemStands}
use Rattle.sq_graph.proofs.OperationRules.{replaced_rules}
use Rattle.test_graphs.proofs.changes.set_hi.Goals as goal

pub set_item-requires-clause-rules : goal.set_item-requires-clause-rules
set_item-requires-clause-rules c =
    let g = c.args.graph.now.graph in
    let I = ItemStands (HasBlock g) (HasProcedure g) in
    let hi : ItemStands (HasBlock g) (HasProcedure g) (Hi 12 c.args.to) = record {
      names = All-cons (HasBlock g) c.args.to [] (c.is_block-2.ensures c.if-not-is_block-2.false) (All-nil (HasBlock g));
      calls = All-nil (HasProcedure g);
      fits = omega arith;
    } in
    replaced_rules g c.args.block c.args.at 1 (Hi 12 c.args.to ∷ []) c.learn.ensures.rules (c.is_block.ensures c.if-not-is_block.false) (All-cons I (Hi 12 c.args.to) [] hi (All-nil I))
