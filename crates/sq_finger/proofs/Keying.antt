-- Keys of items and terms.
use Rattle.std.proofs.Common.{◌≡◌, ℕ, Some, refl, sym, ap, ◌∙◌, arith}
use Rattle.sq_isa.specs.Encoding.{word_of, condition_code}
use Rattle.sq_isa.specs.Table.{insn_of}
use Rattle.sq_isa.specs.declared.instructions.Insn.{Insn}
use Rattle.sq_isa.specs.declared.instructions.Cond.{Cond}
use Rattle.sq_isa.specs.declared.instructions.Cond.TheVariants.{Beq, Bne, Blt, Bge, Bltu, Bgeu}
use Rattle.sq_isa.proofs.Encoded.{insn_of-word_of}
use Rattle.sq_graph.specs.declared.item.Item.{Item}
use Rattle.sq_graph.specs.declared.item.Item.TheVariants.{Op, Hi, Lo, Out}
use Rattle.sq_graph.specs.declared.item.Term.{Term}
use Rattle.sq_graph.specs.declared.item.Term.TheVariants.{Fall, Jump, Branch, Call, PartJump, Indirect, Stop}
use Rattle.sq_graph.specs.Rules.{ItemFits}
use Rattle.sq_finger.specs.declared.keys.ItemKey.TheVariants.{Op as OpKey}
use Rattle.sq_finger.specs.ItemKeys.{key_of}
use Rattle.sq_finger.specs.TermKeys.{term_key_of}

some_same : {X : Type 0} {x y : X} → Some x ≡ Some y → x ≡ y
some_same e = cc

one_word : (v w : ℕ) → OpKey v ≡ OpKey w → v ≡ w
one_word v w e = cc

-- only the instruction that is read from a word has it as its key
pub only_instruction : (insn : Insn) (word : ℕ) → insn_of word ≡ Some insn → (other : Item) → ItemFits other → key_of other ≡ OpKey word → other ≡ Op insn
only_instruction insn word read (Op o) fits e = ap Op (some_same (sym (insn_of-word_of o fits.1) ∙ ap insn_of (one_word (word_of o) word e) ∙ read))
only_instruction insn word read (Hi rd to) fits e = absurd (cc)
only_instruction insn word read (Lo rd rs to) fits e = absurd (cc)
only_instruction insn word read (Out procedure) fits e = absurd (cc)

-- items of one key are equal
pub one_item : (a b : Item) → ItemFits a → ItemFits b → key_of a ≡ key_of b → a ≡ b
one_item (Op insn) b fits others e = sym (only_instruction insn (word_of insn) (insn_of-word_of insn fits.1) b others (sym e))
one_item (Hi rd to) (Hi rd' to') fits others e = cc
one_item (Lo rd rs to) (Lo rd' rs' to') fits others e = cc
one_item (Out procedure) (Out procedure') fits others e = cc
one_item a b fits others e = absurd (cc)

one_condition : (c d : Cond) → condition_code c ≡ condition_code d → c ≡ d
one_condition Beq Beq e = refl
one_condition Bne Bne e = refl
one_condition Blt Blt e = refl
one_condition Bge Bge e = refl
one_condition Bltu Bltu e = refl
one_condition Bgeu Bgeu e = refl
one_condition c d e = absurd (omega arith)

-- terms of one key are equal
pub one_term : (a b : Term) → term_key_of a ≡ term_key_of b → a ≡ b
one_term Fall Fall e = refl
one_term (Jump to) (Jump to') e = cc
one_term (Branch c a b to) (Branch d a' b' to') e =
    let codes : condition_code c ≡ condition_code d = cc in
    let same = one_condition c d codes in
    cc
one_term (Call link to) (Call link' to') e = cc
one_term (PartJump link part to) (PartJump link' part' to') e = cc
one_term (Indirect link at offset) (Indirect link' at' offset') e = cc
one_term (Stop word) (Stop word') e = cc
one_term a b e = absurd (cc)
