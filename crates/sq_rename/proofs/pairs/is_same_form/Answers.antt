use Rattle.std.proofs.Common.{◌≡◌, ◌∙◌, sym}
use Rattle.sq_rename.proofs.Forms.{form_shape, shape_form}
use Rattle.sq_rename.proofs.Equals.{item_is, item_itself}
use Rattle.sq_graph.specs.contracts.item.ItemPartialEq.TheImpl as item_eq
use Rattle.sq_rename.proofs.pairs.is_same_form.Goals as goal

pub returns : goal.returns
returns c =
    let first = c.shape.ensures.value in
    let second = c.shape-2.ensures.value in
    let told : c.eq.result ≡ (item_eq.ghosts).eq c.shape.result c.shape-2.result = c.eq.ensures in (
      λ t. shape_form c.args.item.now c.args.other.now (sym first ∙ (item_is c.shape.result c.shape-2.result (sym told ∙ t) ∙ second)),
      λ f. told ∙ item_itself c.shape.result c.shape-2.result (first ∙ (form_shape c.args.item.now c.args.other.now f ∙ sym second)),
    )
