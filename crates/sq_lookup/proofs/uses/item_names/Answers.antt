use Rattle.std.proofs.Common.{[], subst}
use Rattle.std.specs.List.{flat_map}
use Rattle.sq_graph.specs.Uses.{items_uses}
use Rattle.sq_lookup.specs.Names.{Adds}
use Rattle.sq_lookup.proofs.Adding.{adds_items}
use Rattle.sq_lookup.proofs.uses.item_names.Goals as goal

pub returns : goal.returns
returns c =
    adds_items c.args.graph.now.graph [] c.use_blocks.new.used c.use_bodies.new.used
    (subst (λ s. Adds (flat_map (λ b. items_uses b.items) c.args.graph.now.graph.blocks) s c.use_blocks.new.used) c.new-they.ensures c.in_ok-use_blocks.ensures)
    c.in_ok-use_bodies.ensures
