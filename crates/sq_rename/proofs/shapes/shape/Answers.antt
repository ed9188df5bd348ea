use Rattle.std.proofs.Common.{◌≡◌, ◌∙◌, ap, sym}
use Rattle.sq_isa.specs.Forms.{form_of}
use Rattle.sq_graph.specs.declared.item.Item.TheVariants.{Op}
use Rattle.sq_rename.specs.Shapes.{shape_of}
use Rattle.sq_rename.proofs.Forms.{shape_op}
use Rattle.sq_rename.proofs.shapes.shape.Goals as goal

pub returns-in-Op-clause-value : goal.returns-in-Op-clause-value
returns-in-Op-clause-value c =
    let zeros : c.replaced.result ≡ form_of c.in-Op.insn = c.replaced.ensures ∙ shape_op 32 c.from_low_bits-zero.result c.in-Op.insn c.from_low_bits-zero.ensures in
    ap Op zeros ∙ ap shape_of (sym c.in-Op.is)
