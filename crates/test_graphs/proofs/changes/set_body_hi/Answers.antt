use Rattle.std.proofs.Common.{◌≡◌, false, [], refl, sym, ◌∙◌, subst, arith}
use Rattle.std.proofs.lemmas.List.Elements.{All-nil, All-cons, All-head}
use Rattle.sq_graph.specs.declared.item.Item.TheVariants.{Hi}
use Rattle.sq_graph.specs.Blocks.{HasBlock, HasProcedure}
use Rattle.sq_graph.specs.Rules.{mentions}
use Rattle.sq_graph.proofs.RulesByBlock.{ItemStands}
use Rattle.sq_graph.proofs.OperationRules.{with_body_item_rules}
use Rattle.test_graphs.proofs.changes.set_body_hi.Goals as goal

pub set_body_item-requires-clause-rules : goal.set_body_item-requires-clause-rules
set_body_item-requires-clause-rules c =
    let g = c.args.graph.now.graph in
    let fits = c.body_fits.ensures c.if-not-body_fits.false in
    let hi : ItemStands (HasBlock g) (HasProcedure g) (Hi 12 c.args.to) = record {
      names = All-cons (HasBlock g) c.args.to [] (c.is_block.ensures c.if-not-is_block.false) (All-nil (HasBlock g));
      calls = All-nil (HasProcedure g);
      fits = omega arith;
    } in
    let free = All-head (λ item. mentions item c.link-link.result ≡ false) (Hi 12 c.args.to) [] fits.no_mention in
    with_body_item_rules g c.args.procedure c.args.at (Hi 12 c.args.to) c.learn.ensures.rules hi refl
    (λ link is. let same : c.link-link.result ≡ link = cc (sym c.link-link.ensures ∙ is) in subst (λ r. mentions (Hi 12 c.args.to) r ≡ false) same free)
