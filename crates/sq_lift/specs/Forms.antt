-- Items and terms as the code has them.
use Rattle.sq_lift.specs.declared.cut.forms.Form.{Form as Held}
use Rattle.sq_lift.specs.declared.cut.forms.Form.TheVariants.{Item as HeldItem, Term as HeldTerm}
use Rattle.law_program.specs.Lifted.{Form, ItemForm, TermForm}

-- what a form is seen as
abbrev pub shaped : Held → Form
shaped (HeldItem item) = ItemForm item
shaped (HeldTerm term) = TermForm term
