-- The table reads each instruction from one word at most.
use Rattle.std.proofs.Common.{◌≡◌, ℕ, ℤ, pos, Some, ◌^◌, ◌<◌, sym, ◌∙◌, arith}
use Rattle.sq_isa.specs.Fields.{opcode, rd, rs1, rs2, funct7}
use Rattle.sq_isa.specs.Table.{insn_of, order_of, funct5}
use Rattle.sq_isa.proofs.Reading.{IsRow, ImmediateRow, row_from_table}
use Rattle.sq_isa.specs.Encoding.{word_of}
use Rattle.sq_isa.proofs.Encoded.{FieldsFit-insn_of, word_of_below, insn_of-word_of}
use Rattle.sq_isa.proofs.Same.{same_r, same_i, same_s, same_b, same_u, same_j}
use Rattle.sq_isa.specs.declared.instructions.Insn.{Insn}
use Rattle.sq_isa.specs.declared.instructions.Insn.TheVariants.{Lui, Auipc, Jal, Jalr, Branch, Load, Store, OpImm, Op, Fence, Ecall, Ebreak, Unimp, Atomic}
use Rattle.sq_isa.specs.declared.instructions.ImmOp.{ImmOp}
use Rattle.sq_isa.specs.declared.instructions.ImmOp.TheVariants.{Addi, Slti, Sltiu, Xori, Ori, Andi, Slli, Srli, Srai}

module _ (v w : ℕ) (p : v < 2 ^ 32) (q : w < 2 ^ 32) where
  same_funct7 : order_of v ≡ order_of w → funct5 v ≡ funct5 w → funct7 v ≡ funct7 w
  same_funct7 o f = omega arith

  same_distance : (z : ℤ) → pos (rs2 v) ≡ z → pos (rs2 w) ≡ z → rs2 v ≡ rs2 w
  same_distance z r s = let e : pos (rs2 v) ≡ pos (rs2 w) = r ∙ sym s in cc

  same_immediate : (op : ImmOp) (z : ℤ) → opcode v ≡ opcode w → rd v ≡ rd w → rs1 v ≡ rs1 w → ImmediateRow op v z → ImmediateRow op w z → v ≡ w
  same_immediate Addi z e d a r s = same_i v w p q e d (r.0 ∙ sym s.0) a (r.1 ∙ sym s.1)
  same_immediate Slti z e d a r s = same_i v w p q e d (r.0 ∙ sym s.0) a (r.1 ∙ sym s.1)
  same_immediate Sltiu z e d a r s = same_i v w p q e d (r.0 ∙ sym s.0) a (r.1 ∙ sym s.1)
  same_immediate Xori z e d a r s = same_i v w p q e d (r.0 ∙ sym s.0) a (r.1 ∙ sym s.1)
  same_immediate Ori z e d a r s = same_i v w p q e d (r.0 ∙ sym s.0) a (r.1 ∙ sym s.1)
  same_immediate Andi z e d a r s = same_i v w p q e d (r.0 ∙ sym s.0) a (r.1 ∙ sym s.1)
  same_immediate Slli z e d a r s = same_r v w p q e d (r.0 ∙ sym s.0) a (same_distance z r.2 s.2) (r.1 ∙ sym s.1)
  same_immediate Srli z e d a r s = same_r v w p q e d (r.0 ∙ sym s.0) a (same_distance z r.2 s.2) (r.1 ∙ sym s.1)
  same_immediate Srai z e d a r s = same_r v w p q e d (r.0 ∙ sym s.0) a (same_distance z r.2 s.2) (r.1 ∙ sym s.1)

  same_row : (i : Insn) → IsRow i v → IsRow i w → v ≡ w
  same_row (Lui d u) r s = same_u v w p q (r.0 ∙ sym s.0) (r.1 ∙ sym s.1) (r.2 ∙ sym s.2)
  same_row (Auipc d u) r s = same_u v w p q (r.0 ∙ sym s.0) (r.1 ∙ sym s.1) (r.2 ∙ sym s.2)
  same_row (Jal d o) r s = same_j v w p q (r.0 ∙ sym s.0) (r.1 ∙ sym s.1) (r.2 ∙ sym s.2)
  same_row (Jalr d a o) r s = same_i v w p q (r.0 ∙ sym s.0) (r.1 ∙ sym s.1) (r.2 ∙ sym s.2) (r.3 ∙ sym s.3) (r.4 ∙ sym s.4)
  same_row (Branch c a b o) r s = same_b v w p q (r.0 ∙ sym s.0) (r.1 ∙ sym s.1) (r.2 ∙ sym s.2) (r.3 ∙ sym s.3) (r.4 ∙ sym s.4)
  same_row (Load k d a o) r s = same_i v w p q (r.0 ∙ sym s.0) (r.1 ∙ sym s.1) (r.2 ∙ sym s.2) (r.3 ∙ sym s.3) (r.4 ∙ sym s.4)
  same_row (Store k a b o) r s = same_s v w p q (r.0 ∙ sym s.0) (r.1 ∙ sym s.1) (r.2 ∙ sym s.2) (r.3 ∙ sym s.3) (r.4 ∙ sym s.4)
  same_row (OpImm op d a z) r s = same_immediate op z (r.0 ∙ sym s.0) (r.1 ∙ sym s.1) (r.2 ∙ sym s.2) r.3 s.3
  same_row (Op op d a b) r s = same_r v w p q (r.0 ∙ sym s.0) (r.1 ∙ sym s.1) (r.2 ∙ sym s.2) (r.3 ∙ sym s.3) (r.4 ∙ sym s.4) (r.5 ∙ sym s.5)
  same_row (Fence word) r s = r.0 ∙ sym s.0
  same_row Ecall r s = r ∙ sym s
  same_row Ebreak r s = r ∙ sym s
  same_row (Unimp word) r s = r.0 ∙ sym s.0
  same_row (Atomic op o d a b) r s =
      same_r v w p q (r.0 ∙ sym s.0) (r.1 ∙ sym s.1) (r.2 ∙ sym s.2) (r.3 ∙ sym s.3) (r.4 ∙ sym s.4) (same_funct7 (r.5 ∙ sym s.5) (r.6 ∙ sym s.6))

  pub same_word : (i : Insn) → insn_of v ≡ Some i → insn_of w ≡ Some i → v ≡ w
  same_word i r s = same_row i (row_from_table v i r) (row_from_table w i s)

-- and that word is `word_of`
pub word_of-unique : (w : ℕ) (i : Insn) → w < 2 ^ 32 → insn_of w ≡ Some i → w ≡ word_of i
word_of-unique w i h e =
    let fits = FieldsFit-insn_of w i h e in
    same_word w (word_of i) h (word_of_below i fits) i e (insn_of-word_of i fits)
