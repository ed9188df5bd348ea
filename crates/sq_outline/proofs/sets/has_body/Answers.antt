use Rattle.std.proofs.Common.{length, sym, ap, ◌∙◌}
use Rattle.sq_graph.specs.Blocks.{items_of}
use Rattle.sq_outline.proofs.Plainness.{forms_length}
use Rattle.sq_outline.proofs.sets.has_body.Goals as goal

pub returns-then-items : goal.returns-then-items
returns-then-items c =
    let g = c.args.graph.now.graph in (
      λ no. absurd (cc),
      λ body. absurd (c.if-items.true (ap length c.items-items.ensures ∙ forms_length (items_of g c.args.block) (items_of g c.args.first) body.match.match.forms ∙ sym (ap length c.items.ensures))),
    )
