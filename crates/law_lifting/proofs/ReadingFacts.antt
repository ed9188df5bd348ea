-- What a reading tells of its word, and the form that it is.
use Rattle.std.proofs.Common.{◌≡◌, ◌≢◌, ◌⊎◌, inl, inr, ℕ, ℤ, zero, suc, Bool, true, false, not, ◌==◌, List, [], ◌∷◌, Option, Some, None, if◌then◌else◌, refl, sym, ap, subst, arith}
use Rattle.std.specs.List.{Contains}
use Rattle.std.proofs.lemmas.Bool.{eqb-true, or_left, or_right}
use Rattle.sq_num.specs.Halves.{high_half, low_half}
use Rattle.sq_isa.specs.Registers.{is_among}
use Rattle.sq_isa.specs.declared.instructions.Insn.{Insn}
use Rattle.sq_isa.specs.declared.instructions.Insn.TheVariants.{Lui, Auipc, Jal, Jalr, Branch as BranchInsn, Load, Store, OpImm, Op as OpInsn, Fence, Ecall, Ebreak, Unimp, Atomic}
use Rattle.sq_isa.specs.declared.instructions.ImmOp.TheVariants.{Addi}
use Rattle.sq_reloc.specs.declared.mark.Mark.{Mark}
use Rattle.sq_reloc.specs.declared.mark.Mark.TheVariants.{Plain, Hi as HiMark, Lo as LoMark, Unsupported, Disagrees, Conflict, Lone}
use Rattle.sq_graph.specs.declared.item.Item.{Item}
use Rattle.sq_graph.specs.declared.item.Item.TheVariants.{Op, Hi, Lo, Out}
use Rattle.sq_graph.specs.declared.item.Term.{Term}
use Rattle.sq_graph.specs.declared.item.Term.TheVariants.{Fall, Jump, Branch, Call, PartJump, Indirect, Stop}
use Rattle.sq_graph.specs.Uses.{item_uses, term_uses}
use Rattle.law_program.specs.Programs.{Text, Note, is_in_text}
use Rattle.law_program.specs.Reached.{target_from, jump_target, half_target, insn_goes_on}
use Rattle.law_program.specs.Readings.{Reading, IsItem, IsTerm, Links, plain_reading, upper_reading, lower_reading, marked_reading}
use Rattle.law_program.specs.Lifted.{Form, ItemForm, TermForm, link_form, form_of, procedure_at}
use Rattle.law_lifting.proofs.Lifts.{form_line, closes}
use Rattle.law_lifting.proofs.TextWords.{same_itself}
use Rattle.law_lifting.proofs.Facts.{one, one_is, none_in, reading_uses}

-- Lists

pub contains_among : (xs : List ℕ) (y : ℕ) → Contains xs y → is_among xs y ≡ true
contains_among [] y c = none_in y c
contains_among (x ∷ xs) y (zero, h, g) = let q : x ≡ y = g in or_left (x == y) (is_among xs y) (subst (λ z. (x == z) ≡ true) q (same_itself x))
contains_among (x ∷ xs) y (suc i, h, g) = or_right (x == y) (is_among xs y) (contains_among xs y (i, omega (arith, h), g))

-- of a reading that is there
abbrev uses_of : Option Reading → List ℕ
uses_of None = []
uses_of (Some r) = reading_uses r

-- A reading uses the target of its word's jump

jal_uses : (b : Bool) (link to y : ℕ) → Contains (to ∷ []) y → Contains (reading_uses (if b then IsTerm (Jump to) else Links link to)) y
jal_uses true link to y c = c
jal_uses false link to y c = c

pub jump_used : (t : Text) (at : ℕ) (mark : Mark) (i : Insn) (r : Reading) (y : ℕ) → marked_reading t at mark i ≡ Some r → Contains (jump_target at i) y → Contains (reading_uses r) y
jump_used t at Plain (Jal rd offset) r y e c = subst (λ o. Contains (uses_of o) y) e (jal_uses (rd == 0) rd (target_from at offset) y c)
jump_used t at (HiMark to) (Jal rd offset) r y e c = absurd (cc)
jump_used t at (LoMark to) (Jal rd offset) r y e c = absurd (cc)
jump_used t at (Unsupported kind) (Jal rd offset) r y e c = absurd (cc)
jump_used t at (Disagrees kind) (Jal rd offset) r y e c = absurd (cc)
jump_used t at Conflict (Jal rd offset) r y e c = absurd (cc)
jump_used t at Lone (Jal rd offset) r y e c = absurd (cc)
jump_used t at Plain (BranchInsn cond a b offset) r y e c = subst (λ o. Contains (uses_of o) y) e c
jump_used t at (HiMark to) (BranchInsn cond a b offset) r y e c = absurd (cc)
jump_used t at (LoMark to) (BranchInsn cond a b offset) r y e c = absurd (cc)
jump_used t at (Unsupported kind) (BranchInsn cond a b offset) r y e c = absurd (cc)
jump_used t at (Disagrees kind) (BranchInsn cond a b offset) r y e c = absurd (cc)
jump_used t at Conflict (BranchInsn cond a b offset) r y e c = absurd (cc)
jump_used t at Lone (BranchInsn cond a b offset) r y e c = absurd (cc)
jump_used t at mark i r y e c = none_in y c

-- and the address in text whose half it has

upper_used : (t : Text) (to : ℕ) (i : Insn) (r : Reading) → upper_reading t to i ≡ Some r → is_in_text t to ≡ true → Contains (reading_uses r) to
upper_used t to (Lui rd upper) r e f = subst (λ o. Contains (uses_of o) to) e (rw f (one to))
upper_used t to (Auipc rd upper) r e f = subst (λ o. Contains (uses_of o) to) e (rw f (one to))
upper_used t to i r e f = absurd (cc)

refused : (b : Bool) (outer r : Reading) (to : ℕ) → b ≡ true → (if b then None else Some outer) ≡ Some r → Contains (reading_uses r) to
refused true outer r to e f = absurd (cc)
refused false outer r to e f = absurd (cc)

lower_used : (t : Text) (to : ℕ) (i : Insn) (r : Reading) → lower_reading t to i ≡ Some r → is_in_text t to ≡ true → Contains (reading_uses r) to
lower_used t to (OpImm Addi rd rs imm) r e f = subst (λ o. Contains (uses_of o) to) e (rw f (one to))
lower_used t to (Load kind rd rs imm) r e f = refused (is_in_text t to) (IsItem (Op (Load kind rd rs (low_half to)))) r to f e
lower_used t to (Store kind rs src imm) r e f = refused (is_in_text t to) (IsItem (Op (Store kind rs src (low_half to)))) r to f e
lower_used t to (Jalr rd rs imm) r e f = subst (λ o. Contains (uses_of o) to) e (rw f (one to))
lower_used t to i r e f = absurd (cc)

pub half_used : (t : Text) (at : ℕ) (mark : Mark) (i : Insn) (r : Reading) (y : ℕ) → marked_reading t at mark i ≡ Some r → Contains (half_target mark) y → is_in_text t y ≡ true → Contains (reading_uses r) y
half_used t at Plain i r y e c f = none_in y c
half_used t at (HiMark to) i r y e c f = let q : to ≡ y = one_is to y c in subst (λ z. Contains (reading_uses r) z) q (upper_used t to i r e (subst (λ z. is_in_text t z ≡ true) (sym q) f))
half_used t at (LoMark to) i r y e c f = let q : to ≡ y = one_is to y c in subst (λ z. Contains (reading_uses r) z) q (lower_used t to i r e (subst (λ z. is_in_text t z ≡ true) (sym q) f))
half_used t at mark i r y e c f = absurd (cc)

-- Pieces

abbrev pub form_uses : Form → List ℕ
form_uses (ItemForm item) = item_uses item
form_uses (TermForm term) = term_uses term

link_uses : (link to y : ℕ) (o : Option ℕ) → Contains (form_uses (link_form link to o)) y → Contains (to ∷ []) y
link_uses link to y None c = c
link_uses link to y (Some q) c = none_in y c

pub form_used : (ns : List Note) (r : Reading) (y : ℕ) → Contains (form_uses (form_of ns r)) y → Contains (reading_uses r) y
form_used ns (IsItem item) y c = c
form_used ns (IsTerm term) y c = c
form_used ns (Links link to) y c = link_uses link to y (procedure_at ns to) c

-- a reading's name is its form's, or that of a procedure
abbrev pub FormOrNote : List Note → Form → ℕ → Type 0
FormOrNote ns shape y = Contains (form_uses shape) y ⊎ ((q : ℕ) × (procedure_at ns y ≡ Some q))

pub used_form : (ns : List Note) (r : Reading) (y : ℕ) → Contains (reading_uses r) y → FormOrNote ns (form_of ns r) y
used_form ns (IsItem item) y c = inl c
used_form ns (IsTerm term) y c = inl c
used_form ns (Links link to) y c = go (procedure_at ns to) refl
  where
    go : (o : Option ℕ) → procedure_at ns to ≡ o → FormOrNote ns (link_form link to o) y
    go None e = inl c
    go (Some q) e = let i : to ≡ y = one_is to y c in inr (q, subst (λ z. procedure_at ns z ≡ Some q) i e)

-- Going on

abbrev is_open : List Note → Reading → Bool
is_open ns r = not (closes (form_line (form_of ns r)))

abbrev open_of : List Note → Option Reading → Bool
open_of ns None = false
open_of ns (Some r) = is_open ns r

link_open : (link to : ℕ) (o : Option ℕ) → closes (form_line (link_form link to o)) ≡ false
link_open link to None = refl
link_open link to (Some q) = refl

jal_open : (ns : List Note) (b : Bool) (link to : ℕ) → not (closes (form_line (form_of ns (if b then IsTerm (Jump to) else Links link to)))) ≡ not b
jal_open ns true link to = refl
jal_open ns false link to = ap not (link_open link to (procedure_at ns to))

not_not : (b : Bool) → not (not b) ≡ b
not_not true = refl
not_not false = refl

upper_open : (ns : List Note) (b : Bool) (to rd : ℕ) → is_open ns (IsItem (if b then Hi rd to else Op (Lui rd (high_half to)))) ≡ true
upper_open ns true to rd = refl
upper_open ns false to rd = refl

addi_open : (ns : List Note) (b : Bool) (to rd rs : ℕ) → is_open ns (IsItem (if b then Lo rd rs to else Op (OpImm Addi rd rs (low_half to)))) ≡ true
addi_open ns true to rd rs = refl
addi_open ns false to rd rs = refl

jalr_open : (ns : List Note) (b : Bool) (to rd rs : ℕ) → is_open ns (IsTerm (if b then PartJump rd rs to else Indirect rd rs (low_half to))) ≡ not (rd == 0)
jalr_open ns true to rd rs = not_not (not (rd == 0))
jalr_open ns false to rd rs = not_not (not (rd == 0))

if_open : (ns : List Note) (b : Bool) (outer r : Reading) → (if b then None else Some outer) ≡ Some r → is_open ns outer ≡ true → is_open ns r ≡ true
if_open ns true outer r e f = absurd (cc)
if_open ns false outer r e f = subst (λ o. open_of ns o ≡ true) e f

plain_goes : (ns : List Note) (at : ℕ) (i : Insn) (r : Reading) → plain_reading at i ≡ Some r → is_open ns r ≡ insn_goes_on i
plain_goes ns at (Lui rd upper) r e = subst (λ o. open_of ns o ≡ true) e refl
plain_goes ns at (Auipc rd upper) r e = absurd (cc)
plain_goes ns at (Jal rd offset) r e = subst (λ o. open_of ns o ≡ not (rd == 0)) e (jal_open ns (rd == 0) rd (target_from at offset))
plain_goes ns at (Jalr rd rs offset) r e = subst (λ o. open_of ns o ≡ not (rd == 0)) e (not_not (not (rd == 0)))
plain_goes ns at (BranchInsn cond a b offset) r e = subst (λ o. open_of ns o ≡ true) e refl
plain_goes ns at (Load kind rd rs offset) r e = subst (λ o. open_of ns o ≡ true) e refl
plain_goes ns at (Store kind rs src offset) r e = subst (λ o. open_of ns o ≡ true) e refl
plain_goes ns at (OpImm op rd rs imm) r e = subst (λ o. open_of ns o ≡ true) e refl
plain_goes ns at (OpInsn op rd a b) r e = subst (λ o. open_of ns o ≡ true) e refl
plain_goes ns at (Fence word) r e = subst (λ o. open_of ns o ≡ true) e refl
plain_goes ns at Ecall r e = subst (λ o. open_of ns o ≡ true) e refl
plain_goes ns at Ebreak r e = subst (λ o. open_of ns o ≡ false) e refl
plain_goes ns at (Unimp word) r e = subst (λ o. open_of ns o ≡ false) e refl
plain_goes ns at (Atomic op order rd rs src) r e = subst (λ o. open_of ns o ≡ true) e refl

upper_goes : (ns : List Note) (t : Text) (to : ℕ) (i : Insn) (r : Reading) → upper_reading t to i ≡ Some r → is_open ns r ≡ insn_goes_on i
upper_goes ns t to (Lui rd upper) r e = subst (λ o. open_of ns o ≡ true) e (upper_open ns (is_in_text t to) to rd)
upper_goes ns t to (Auipc rd upper) r e = subst (λ o. open_of ns o ≡ true) e (upper_open ns (is_in_text t to) to rd)
upper_goes ns t to i r e = absurd (cc)

lower_goes : (ns : List Note) (t : Text) (to : ℕ) (i : Insn) (r : Reading) → lower_reading t to i ≡ Some r → is_open ns r ≡ insn_goes_on i
lower_goes ns t to (OpImm Addi rd rs imm) r e = subst (λ o. open_of ns o ≡ true) e (addi_open ns (is_in_text t to) to rd rs)
lower_goes ns t to (Load kind rd rs imm) r e = if_open ns (is_in_text t to) (IsItem (Op (Load kind rd rs (low_half to)))) r e refl
lower_goes ns t to (Store kind rs src imm) r e = if_open ns (is_in_text t to) (IsItem (Op (Store kind rs src (low_half to)))) r e refl
lower_goes ns t to (Jalr rd rs imm) r e = subst (λ o. open_of ns o ≡ not (rd == 0)) e (jalr_open ns (is_in_text t to) to rd rs)
lower_goes ns t to i r e = absurd (cc)

-- the form goes on exactly where the instruction does
pub goes_alike : (ns : List Note) (t : Text) (at : ℕ) (mark : Mark) (i : Insn) (r : Reading) → marked_reading t at mark i ≡ Some r → not (closes (form_line (form_of ns r))) ≡ insn_goes_on i
goes_alike ns t at Plain i r e = plain_goes ns at i r e
goes_alike ns t at (HiMark to) i r e = upper_goes ns t to i r e
goes_alike ns t at (LoMark to) i r e = lower_goes ns t to i r e
goes_alike ns t at mark i r e = absurd (cc)

-- a `jal` with a link reads as one
pub jal_links : (t : Text) (at link : ℕ) (offset : ℤ) (mark : Mark) (r : Reading) → link ≢ 0 → marked_reading t at mark (Jal link offset) ≡ Some r → r ≡ Links link (target_from at offset)
jal_links t at link offset Plain r n e = go (link == 0) refl e
  where
    go : (b : Bool) → (link == 0) ≡ b → Some (if b then IsTerm (Jump (target_from at offset)) else Links link (target_from at offset)) ≡ Some r → r ≡ Links link (target_from at offset)
    go true f h = absurd (n (eqb-true link 0 f))
    go false f h = cc
jal_links t at link offset (HiMark to) r n e = absurd (cc)
jal_links t at link offset (LoMark to) r n e = absurd (cc)
jal_links t at link offset (Unsupported kind) r n e = absurd (cc)
jal_links t at link offset (Disagrees kind) r n e = absurd (cc)
jal_links t at link offset Conflict r n e = absurd (cc)
jal_links t at link offset Lone r n e = absurd (cc)

-- Forms of readings

abbrev pub IsReadTerm : Term → Type 0
IsReadTerm Fall = ⊥
IsReadTerm (Jump to) = Unit {0}
IsReadTerm (Branch cond a b to) = Unit {0}
IsReadTerm (Call link to) = ⊥
IsReadTerm (PartJump link part to) = Unit {0}
IsReadTerm (Indirect link at offset) = Unit {0}
IsReadTerm (Stop word) = Unit {0}

abbrev pub IsReadItem : Item → Type 0
IsReadItem (Op insn) = Unit {0}
IsReadItem (Hi rd to) = Unit {0}
IsReadItem (Lo rd rs to) = Unit {0}
IsReadItem (Out procedure) = ⊥

-- no reading is an Out, a Fall or a Call
abbrev pub IsForm : Reading → Type 0
IsForm (IsItem item) = IsReadItem item
IsForm (IsTerm term) = IsReadTerm term
IsForm (Links link to) = Unit {0}

abbrev form_when : Option Reading → Type 0
form_when None = Unit {0}
form_when (Some r) = IsForm r

jal_form : (b : Bool) (link to : ℕ) → IsForm (if b then IsTerm (Jump to) else Links link to)
jal_form true link to = tt
jal_form false link to = tt

plain_form : (at : ℕ) (i : Insn) → form_when (plain_reading at i)
plain_form at (Lui rd upper) = tt
plain_form at (Auipc rd upper) = tt
plain_form at (Jal rd offset) = jal_form (rd == 0) rd (target_from at offset)
plain_form at (Jalr rd rs offset) = tt
plain_form at (BranchInsn cond a b offset) = tt
plain_form at (Load kind rd rs offset) = tt
plain_form at (Store kind rs src offset) = tt
plain_form at (OpImm op rd rs imm) = tt
plain_form at (OpInsn op rd a b) = tt
plain_form at (Fence word) = tt
plain_form at Ecall = tt
plain_form at Ebreak = tt
plain_form at (Unimp word) = tt
plain_form at (Atomic op order rd rs src) = tt

upper_item_form : (b : Bool) (to rd : ℕ) → IsReadItem (if b then Hi rd to else Op (Lui rd (high_half to)))
upper_item_form true to rd = tt
upper_item_form false to rd = tt

upper_form : (t : Text) (to : ℕ) (i : Insn) → form_when (upper_reading t to i)
upper_form t to (Lui rd upper) = upper_item_form (is_in_text t to) to rd
upper_form t to (Auipc rd upper) = upper_item_form (is_in_text t to) to rd
upper_form t to i = tt

addi_form : (b : Bool) (to rd rs : ℕ) → IsReadItem (if b then Lo rd rs to else Op (OpImm Addi rd rs (low_half to)))
addi_form true to rd rs = tt
addi_form false to rd rs = tt

jalr_form : (b : Bool) (to rd rs : ℕ) → IsReadTerm (if b then PartJump rd rs to else Indirect rd rs (low_half to))
jalr_form true to rd rs = tt
jalr_form false to rd rs = tt

op_form : (b : Bool) (i : Insn) → form_when (if b then None else Some (IsItem (Op i)))
op_form true i = tt
op_form false i = tt

lower_form : (t : Text) (to : ℕ) (i : Insn) → form_when (lower_reading t to i)
lower_form t to (OpImm Addi rd rs imm) = addi_form (is_in_text t to) to rd rs
lower_form t to (Load kind rd rs imm) = op_form (is_in_text t to) (Load kind rd rs (low_half to))
lower_form t to (Store kind rs src imm) = op_form (is_in_text t to) (Store kind rs src (low_half to))
lower_form t to (Jalr rd rs imm) = jalr_form (is_in_text t to) to rd rs
lower_form t to i = tt

marked_form : (t : Text) (at : ℕ) (mark : Mark) (i : Insn) → form_when (marked_reading t at mark i)
marked_form t at Plain i = plain_form at i
marked_form t at (HiMark to) i = upper_form t to i
marked_form t at (LoMark to) i = lower_form t to i
marked_form t at mark i = tt

pub reading_form : (t : Text) (at : ℕ) (mark : Mark) (i : Insn) (r : Reading) → marked_reading t at mark i ≡ Some r → IsForm r
reading_form t at mark i r e = subst form_when e (marked_form t at mark i)
