-- The shape of an item: the item with x0 for each of its registers. An ECALL's registers are fixed, and an Out has none.
use Rattle.std.specs.Prelude.{◌≡◌, ◌↔◌, List, map}
use Rattle.sq_isa.specs.Forms.{form_of}
use Rattle.sq_graph.specs.declared.item.Item.{Item}
use Rattle.sq_graph.specs.declared.item.Item.TheVariants.{Op, Hi, Lo, Out}
use Rattle.sq_graph.specs.Matches.{AreSameForms}

abbrev pub shape_of : Item → Item
shape_of (Op insn) = Op (form_of insn)
shape_of (Hi rd to) = Hi 0 to
shape_of (Lo rd rs to) = Lo 0 0 to
shape_of (Out procedure) = Out procedure

-- Items have equal forms exactly where their shapes are equal.
abbrev pub ShapesTellForms : Type 0
ShapesTellForms = (items others : List Item) → AreSameForms items others ↔ (map shape_of items ≡ map shape_of others)
