-- Shapes and forms.
use Rattle.std.proofs.Common.{◌≡◌, ℕ, zero, suc, List, [], ◌∷◌, map, get_or, slice_index, replicate, refl, sym, ap, ◌∙◌}
use Rattle.sq_isa.specs.Forms.{renamed, form_of, first_of, second_of, with_registers}
use Rattle.sq_isa.specs.Uses.{destination_of}
use Rattle.sq_isa.specs.declared.instructions.Insn.{Insn}
use Rattle.sq_isa.specs.declared.instructions.Insn.TheVariants.{Lui, Auipc, Jal, Jalr, Branch, Load, Store, OpImm, Op as OpInsn, Fence, Ecall, Ebreak, Unimp, Atomic}
use Rattle.sq_graph.specs.declared.item.Item.{Item}
use Rattle.sq_graph.specs.declared.item.Item.TheVariants.{Op, Hi, Lo, Out}
use Rattle.sq_graph.specs.Matches.{IsSameForm, AreSameForms}
use Rattle.sq_rename.specs.Shapes.{shape_of, ShapesTellForms}

zeros : (n z r : ℕ) → z ≡ 0 → get_or (replicate n z) r 0 ≡ 0
zeros zero z r e = refl
zeros (suc n) z zero e = e
zeros (suc n) z (suc r) e = zeros n z r e

pub shape_op : (n z : ℕ) (insn : Insn) → z ≡ 0 → renamed (slice_index (replicate n z)) insn ≡ form_of insn
shape_op n z insn e =
    let all : slice_index (replicate n z) ≡ (λ _. 0) = λ i r. zeros n z r e i in
    ap (λ (to : ℕ → ℕ). renamed to insn) all

-- the registers are no part of the form
form_with : (d a b : ℕ) (insn : Insn) → form_of (with_registers d a b insn) ≡ form_of insn
form_with d a b (Lui rd u) = refl
form_with d a b (Auipc rd u) = refl
form_with d a b (Jal rd o) = refl
form_with d a b (Jalr rd rs o) = refl
form_with d a b (Branch c x y o) = refl
form_with d a b (Load k rd rs o) = refl
form_with d a b (Store k rs src o) = refl
form_with d a b (OpImm op rd rs i) = refl
form_with d a b (OpInsn op rd x y) = refl
form_with d a b (Fence w) = refl
form_with d a b Ecall = refl
form_with d a b Ebreak = refl
form_with d a b (Unimp w) = refl
form_with d a b (Atomic op order rd rs src) = refl

with_form : (d a b : ℕ) (insn : Insn) → with_registers d a b (form_of insn) ≡ with_registers d a b insn
with_form d a b (Lui rd u) = refl
with_form d a b (Auipc rd u) = refl
with_form d a b (Jal rd o) = refl
with_form d a b (Jalr rd rs o) = refl
with_form d a b (Branch c x y o) = refl
with_form d a b (Load k rd rs o) = refl
with_form d a b (Store k rs src o) = refl
with_form d a b (OpImm op rd rs i) = refl
with_form d a b (OpInsn op rd x y) = refl
with_form d a b (Fence w) = refl
with_form d a b Ecall = refl
with_form d a b Ebreak = refl
with_form d a b (Unimp w) = refl
with_form d a b (Atomic op order rd rs src) = refl

with_own : (insn : Insn) → with_registers (destination_of insn) (first_of insn) (second_of insn) insn ≡ insn
with_own (Lui rd u) = refl
with_own (Auipc rd u) = refl
with_own (Jal rd o) = refl
with_own (Jalr rd rs o) = refl
with_own (Branch c x y o) = refl
with_own (Load k rd rs o) = refl
with_own (Store k rs src o) = refl
with_own (OpImm op rd rs i) = refl
with_own (OpInsn op rd x y) = refl
with_own (Fence w) = refl
with_own Ecall = refl
with_own Ebreak = refl
with_own (Unimp w) = refl
with_own (Atomic op order rd rs src) = refl

op_same : (a b : Insn) → Op a ≡ Op b → a ≡ b
op_same a b e = cc

pub form_shape : (item other : Item) → IsSameForm item other → shape_of item ≡ shape_of other
form_shape (Op insn) (Op other) e = ap Op (sym (ap form_of e ∙ form_with (destination_of other) (first_of other) (second_of other) insn))
form_shape (Hi rd to) (Hi rd' to') e = ap (Hi 0) (sym e)
form_shape (Lo rd rs to) (Lo rd' rs' to') e = ap (Lo 0 0) (sym e)
form_shape (Out p) (Out p') e = ap Out (sym e)
form_shape item other e = absurd e

pub shape_form : (item other : Item) → shape_of item ≡ shape_of other → IsSameForm item other
shape_form (Op insn) (Op other) e =
    let same : form_of insn ≡ form_of other = op_same (form_of insn) (form_of other) e in
    let with_ : Insn → Insn = λ i. with_registers (destination_of other) (first_of other) (second_of other) i in
    sym (with_own other)
    ∙ (sym (with_form (destination_of other) (first_of other) (second_of other) other)
    ∙ (ap with_ (sym same)
    ∙ with_form (destination_of other) (first_of other) (second_of other) insn))
shape_form (Hi rd to) (Hi rd' to') e = cc
shape_form (Lo rd rs to) (Lo rd' rs' to') e = cc
shape_form (Out p) (Out p') e = cc
shape_form item other e = absurd (cc)

heads : (x y : Item) (xs ys : List Item) → x ∷ xs ≡ y ∷ ys → (x ≡ y) × (xs ≡ ys)
heads x y xs ys e = let p : x ≡ y = cc in let q : xs ≡ ys = cc in (p, q)

pub forms_shapes : (items others : List Item) → AreSameForms items others → map shape_of items ≡ map shape_of others
forms_shapes [] [] f = refl
forms_shapes [] (j ∷ others) f = absurd f
forms_shapes (i ∷ items) [] f = absurd f
forms_shapes (i ∷ items) (j ∷ others) f =
    let p = form_shape i j f.0 in
    let q = forms_shapes items others f.1 in
    cc

shapes_forms : (items others : List Item) → map shape_of items ≡ map shape_of others → AreSameForms items others
shapes_forms [] [] e = tt
shapes_forms [] (j ∷ others) e = absurd (cc)
shapes_forms (i ∷ items) [] e = absurd (cc)
shapes_forms (i ∷ items) (j ∷ others) e =
    let h = heads (shape_of i) (shape_of j) (map shape_of items) (map shape_of others) e in
    (shape_form i j h.0, shapes_forms items others h.1)

pub shapes_tell : ShapesTellForms
shapes_tell items others = (forms_shapes items others, shapes_forms items others)
