use Rattle.std.proofs.Common.{map, ap, sym, ◌∙◌, subst}
use Rattle.std.specs.List.{All}
use Rattle.sq_graph.specs.Rules.{ItemFits}
use Rattle.sq_graph.proofs.Fitting.{items_fit}
use Rattle.sq_fold.proofs.Shapes.{bare_key, items_told}
use Rattle.sq_fold.proofs.walking.has_same_items.Goals as goal

pub bare_keys-requires : goal.bare_keys-requires
bare_keys-requires c = subst (λ is. All ItemFits is) (sym c.items.ensures) (items_fit c.args.graph.now.graph c.args.x c.learn.ensures.rules)

pub bare_keys-requires-2 : goal.bare_keys-requires-2
bare_keys-requires-2 c = subst (λ is. All ItemFits is) (sym c.items-2.ensures) (items_fit c.args.graph.now.graph c.args.y c.learn.ensures.rules)

pub returns : goal.returns
returns c =
    items_told c.args.graph.now.graph c.args.x c.args.y c.in_ok-ours.ours.items c.in_ok-theirs.theirs.items c.eq.result c.learn.ensures.rules
    (c.in_ok-ours.ensures ∙ ap (map bare_key) c.items.ensures) (c.in_ok-theirs.ensures ∙ ap (map bare_key) c.items-2.ensures) c.eq.ensures
