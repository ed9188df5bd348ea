-- `word_of` and `insn_of` undo each other.
use Rattle.std.proofs.Common.{◌≡◌, ℕ, ℤ, pos, negsuc, ap, Some, inl, inr, ◌+◌, ◌*◌, ◌^◌, ◌<◌, refl, subst, arith, rules}
use Rattle.std.proofs.lemmas.Int.{ints}
use Rattle.sq_isa.specs.Fields.{bits, opcode, rd, funct3, rs1, rs2, funct7, immediate_i, immediate_s, immediate_b, immediate_j}
use Rattle.sq_isa.specs.Ranges.{FieldsFit, IsSigned, IsEven, ImmediateFits, IsShift}
use Rattle.sq_isa.specs.Codes.{coded_by, conditions, loads, stores}
use Rattle.sq_isa.specs.Words.{unsigned}
use Rattle.sq_isa.specs.Encoding.{word_of, r_word, i_word, op_imm_word, condition_code, load_code, store_code, operation_codes}
use Rattle.sq_isa.specs.AtomicEncoding.{atomic_code}
use Rattle.sq_isa.specs.Table.{insn_of, order_of, funct5, operation_of, op_imm_of}
use Rattle.sq_isa.proofs.Immediates.{extended_fits, extended_even}
use Rattle.sq_isa.proofs.AtomicRows.{amo_from_row, atomic_code_below, source_below}
use Rattle.sq_isa.proofs.Joining.{r_fields, i_fields, s_fields, b_fields, u_fields, j_fields}
use Rattle.sq_isa.proofs.Reading.{IsRow, ImmediateRow, row_from_table}
use Rattle.sq_isa.specs.declared.instructions.Insn.{Insn}
use Rattle.sq_isa.specs.declared.instructions.Insn.TheVariants.{Lui, Auipc, Jal, Jalr, Branch, Load, Store, OpImm, Op, Fence, Ecall, Ebreak, Unimp, Atomic}
use Rattle.sq_isa.specs.declared.instructions.Cond.{Cond}
use Rattle.sq_isa.specs.declared.instructions.Cond.TheVariants.{Beq, Bne, Blt, Bge, Bltu, Bgeu}
use Rattle.sq_isa.specs.declared.instructions.LoadKind.{LoadKind}
use Rattle.sq_isa.specs.declared.instructions.LoadKind.TheVariants.{Lb, Lh, Lw, Lbu, Lhu}
use Rattle.sq_isa.specs.declared.instructions.StoreKind.{StoreKind}
use Rattle.sq_isa.specs.declared.instructions.StoreKind.TheVariants.{Sb, Sh, Sw}
use Rattle.sq_isa.specs.declared.instructions.RegOp.{RegOp}
use Rattle.sq_isa.specs.declared.instructions.RegOp.TheVariants.{Add, Sub, Sll, Slt, Sltu, Xor, Srl, Sra, Or, And, Mul, Mulh, Mulhsu, Mulhu, Div, Divu, Rem, Remu}
use Rattle.sq_isa.specs.declared.instructions.ImmOp.{ImmOp}
use Rattle.sq_isa.specs.declared.instructions.ImmOp.TheVariants.{Addi, Slti, Sltiu, Xori, Ori, Andi, Slli, Srli, Srai}

-- ---- what the table reads fits

module _ (w : ℕ) where
  signed_i : (z : ℤ) → immediate_i w ≡ z → IsSigned 12 z
  signed_i z e = subst (λ k. IsSigned 12 k) e (extended_fits 12 (bits w 31 20) (omega arith) (omega arith))

  signed_s : (z : ℤ) → immediate_s w ≡ z → IsSigned 12 z
  signed_s z e = subst (λ k. IsSigned 12 k) e (extended_fits 12 (bits w 31 25 * 2 ^ 5 + bits w 11 7) (omega arith) (omega arith))

  signed_b : (z : ℤ) → immediate_b w ≡ z → IsSigned 13 z × IsEven z
  signed_b z e =
      let v = bits w 31 31 * 2 ^ 12 + bits w 7 7 * 2 ^ 11 + bits w 30 25 * 2 ^ 5 + bits w 11 8 * 2 in
      subst (λ k. IsSigned 13 k × IsEven k) e
      (extended_fits 13 v (omega arith) (omega arith), extended_even 13 v (omega arith) (omega arith) (omega arith) (omega arith))

  signed_j : (z : ℤ) → immediate_j w ≡ z → IsSigned 21 z × IsEven z
  signed_j z e =
      let v = bits w 31 31 * 2 ^ 20 + bits w 19 12 * 2 ^ 12 + bits w 20 20 * 2 ^ 11 + bits w 30 21 * 2 in
      subst (λ k. IsSigned 21 k × IsEven k) e
      (extended_fits 21 v (omega arith) (omega arith), extended_even 21 v (omega arith) (omega arith) (omega arith) (omega arith))

  shift_fits : (z : ℤ) → pos (rs2 w) ≡ z → IsShift z
  shift_fits z e = subst IsShift e (search rules, search rules)

  immediate_fits : (op : ImmOp) (z : ℤ) → ImmediateRow op w z → ImmediateFits op z
  immediate_fits Addi z r = signed_i z r.1
  immediate_fits Slti z r = signed_i z r.1
  immediate_fits Sltiu z r = signed_i z r.1
  immediate_fits Xori z r = signed_i z r.1
  immediate_fits Ori z r = signed_i z r.1
  immediate_fits Andi z r = signed_i z r.1
  immediate_fits Slli z r = shift_fits z r.2
  immediate_fits Srli z r = shift_fits z r.2
  immediate_fits Srai z r = shift_fits z r.2

  fits_from_row : (i : Insn) → w < 2 ^ 32 → IsRow i w → FieldsFit i
  fits_from_row (Lui d u) h r = (omega arith, omega arith)
  fits_from_row (Auipc d u) h r = (omega arith, omega arith)
  fits_from_row (Jal d o) h r = let s = signed_j o r.2 in (omega arith, s.0, s.1)
  fits_from_row (Jalr d a o) h r = (omega arith, omega arith, signed_i o r.4)
  fits_from_row (Branch c a b o) h r = let s = signed_b o r.4 in (omega arith, omega arith, s.0, s.1)
  fits_from_row (Load k d a o) h r = (omega arith, omega arith, signed_i o r.4)
  fits_from_row (Store k a b o) h r = (omega arith, omega arith, signed_s o r.4)
  fits_from_row (OpImm op d a z) h r = (omega arith, omega arith, immediate_fits op z r.3)
  fits_from_row (Op op d a b) h r = (omega arith, omega arith, omega arith)
  fits_from_row (Fence word) h r = let e = r.0 in (rw (← e) h, rw (← e) r.1, rw (← e) r.2)
  fits_from_row Ecall h r = tt
  fits_from_row Ebreak h r = tt
  fits_from_row (Unimp word) h r = r.1
  fits_from_row (Atomic op o d a b) h r = (omega arith, omega arith, omega arith, r.7)

-- what the table reads in a word fits
pub FieldsFit-insn_of : (w : ℕ) (i : Insn) → w < 2 ^ 32 → insn_of w ≡ Some i → FieldsFit i
FieldsFit-insn_of w i h e = fits_from_row w i h (row_from_table w i e)

-- ---- a word with the fields of an instruction is read as it

condition_coded : (c : Cond) → coded_by conditions (condition_code c) ≡ Some c
condition_coded Beq = refl
condition_coded Bne = refl
condition_coded Blt = refl
condition_coded Bge = refl
condition_coded Bltu = refl
condition_coded Bgeu = refl

load_coded : (k : LoadKind) → coded_by loads (load_code k) ≡ Some k
load_coded Lb = refl
load_coded Lh = refl
load_coded Lw = refl
load_coded Lbu = refl
load_coded Lhu = refl

store_coded : (k : StoreKind) → coded_by stores (store_code k) ≡ Some k
store_coded Sb = refl
store_coded Sh = refl
store_coded Sw = refl

module _ (w : ℕ) where
  operation_coded : (op : RegOp) → funct3 w ≡ (operation_codes op).1 → funct7 w ≡ (operation_codes op).0 → operation_of w ≡ Some op
  operation_coded Add e f = rw (e, f) refl
  operation_coded Sub e f = rw (e, f) refl
  operation_coded Sll e f = rw (e, f) refl
  operation_coded Slt e f = rw (e, f) refl
  operation_coded Sltu e f = rw (e, f) refl
  operation_coded Xor e f = rw (e, f) refl
  operation_coded Srl e f = rw (e, f) refl
  operation_coded Sra e f = rw (e, f) refl
  operation_coded Or e f = rw (e, f) refl
  operation_coded And e f = rw (e, f) refl
  operation_coded Mul e f = rw (e, f) refl
  operation_coded Mulh e f = rw (e, f) refl
  operation_coded Mulhsu e f = rw (e, f) refl
  operation_coded Mulhu e f = rw (e, f) refl
  operation_coded Div e f = rw (e, f) refl
  operation_coded Divu e f = rw (e, f) refl
  operation_coded Rem e f = rw (e, f) refl
  operation_coded Remu e f = rw (e, f) refl

  op_imm_from_row : (op : ImmOp) (d a : ℕ) (z : ℤ) → rd w ≡ d → rs1 w ≡ a → ImmediateRow op w z → op_imm_of w ≡ Some (OpImm op d a z)
  op_imm_from_row Addi d a z e f r = rw (e, f, r.0, r.1) refl
  op_imm_from_row Slti d a z e f r = rw (e, f, r.0, r.1) refl
  op_imm_from_row Sltiu d a z e f r = rw (e, f, r.0, r.1) refl
  op_imm_from_row Xori d a z e f r = rw (e, f, r.0, r.1) refl
  op_imm_from_row Ori d a z e f r = rw (e, f, r.0, r.1) refl
  op_imm_from_row Andi d a z e f r = rw (e, f, r.0, r.1) refl
  op_imm_from_row Slli d a z e f r = rw (e, f, r.0, r.1, r.2) refl
  op_imm_from_row Srli d a z e f r = rw (e, f, r.0, r.1, r.2) refl
  op_imm_from_row Srai d a z e f r = rw (e, f, r.0, r.1, r.2) refl

  insn_from_row : (i : Insn) → FieldsFit i → IsRow i w → insn_of w ≡ Some i
  unfolding insn_of
  insn_from_row (Lui d u) h r = rw (r.0, r.1, r.2) refl
  insn_from_row (Auipc d u) h r = rw (r.0, r.1, r.2) refl
  insn_from_row (Jal d o) h r = rw (r.0, r.1, r.2) refl
  insn_from_row (Jalr d a o) h r = rw (r.0, r.1, r.2, r.3, r.4) refl
  insn_from_row (Branch c a b o) h r = rw (r.0, r.1, condition_coded c, r.2, r.3, r.4) refl
  insn_from_row (Load k d a o) h r = rw (r.0, r.1, r.2, load_coded k, r.3, r.4) refl
  insn_from_row (Store k a b o) h r = rw (r.0, r.1, store_coded k, r.2, r.3, r.4) refl
  insn_from_row (OpImm op d a z) h r = rw r.0 (op_imm_from_row op d a z r.1 r.2 r.3)
  insn_from_row (Op op d a b) h r = let codes = operation_coded op r.2 r.5 in rw (r.0, codes, r.1, r.3, r.4) refl
  insn_from_row (Fence word) h r = rw (r.1, r.2, r.0) refl
  insn_from_row Ecall h r = rw r refl
  insn_from_row Ebreak h r = rw r refl
  insn_from_row (Unimp word) h r = elim h [ inl e ↦ rw (r.0, e) refl | inr e ↦ rw (r.0, e) refl ]
  insn_from_row (Atomic op o d a b) h r = rw r.0 (amo_from_row w op o d a b r)

-- ---- the word of an instruction has its fields

atomic_order : (w c o : ℕ) → funct7 w ≡ c * 2 ^ 2 + o → o < 4 → order_of w ≡ o
atomic_order w c o e h = omega arith

atomic_upper : (w c o : ℕ) → funct7 w ≡ c * 2 ^ 2 + o → o < 4 → funct5 w ≡ c
atomic_upper w c o e h = omega arith

condition_code_below : (c : Cond) → condition_code c < 8
condition_code_below Beq = omega arith
condition_code_below Bne = omega arith
condition_code_below Blt = omega arith
condition_code_below Bge = omega arith
condition_code_below Bltu = omega arith
condition_code_below Bgeu = omega arith

load_code_below : (k : LoadKind) → load_code k < 8
load_code_below Lb = omega arith
load_code_below Lh = omega arith
load_code_below Lw = omega arith
load_code_below Lbu = omega arith
load_code_below Lhu = omega arith

store_code_below : (k : StoreKind) → store_code k < 8
store_code_below Sb = omega arith
store_code_below Sh = omega arith
store_code_below Sw = omega arith

operation_codes_below : (op : RegOp) → ((operation_codes op).0 < 128) × ((operation_codes op).1 < 8)
operation_codes_below Add = (omega arith, omega arith)
operation_codes_below Sub = (omega arith, omega arith)
operation_codes_below Sll = (omega arith, omega arith)
operation_codes_below Slt = (omega arith, omega arith)
operation_codes_below Sltu = (omega arith, omega arith)
operation_codes_below Xor = (omega arith, omega arith)
operation_codes_below Srl = (omega arith, omega arith)
operation_codes_below Sra = (omega arith, omega arith)
operation_codes_below Or = (omega arith, omega arith)
operation_codes_below And = (omega arith, omega arith)
operation_codes_below Mul = (omega arith, omega arith)
operation_codes_below Mulh = (omega arith, omega arith)
operation_codes_below Mulhsu = (omega arith, omega arith)
operation_codes_below Mulhu = (omega arith, omega arith)
operation_codes_below Div = (omega arith, omega arith)
operation_codes_below Divu = (omega arith, omega arith)
operation_codes_below Rem = (omega arith, omega arith)
operation_codes_below Remu = (omega arith, omega arith)

immediate_word : (f3 d a : ℕ) (z : ℤ) → f3 < 8 → d < 32 → a < 32 → IsSigned 12 z → let w = i_word 0b0010011 d f3 a z in
    (opcode w ≡ 0b0010011) × (rd w ≡ d) × (rs1 w ≡ a) × ((funct3 w ≡ f3) × (immediate_i w ≡ z))
immediate_word f3 d a z r q s h = let f = i_fields 0b0010011 f3 a z (omega arith) r s d q h in (f.0, f.1, f.3, (f.2, f.4))

shift_word : (f3 f7 d a : ℕ) (z : ℤ) → f3 < 8 → f7 < 128 → d < 32 → a < 32 → IsShift z → let w = r_word 0b0010011 d f3 a (unsigned z) f7 in
    (opcode w ≡ 0b0010011) × (rd w ≡ d) × (rs1 w ≡ a) × ((funct3 w ≡ f3) × (funct7 w ≡ f7) × (pos (rs2 w) ≡ z))
shift_word f3 f7 d a (pos n) r u q s h = let f = r_fields 0b0010011 d f3 a n f7 (omega arith) q r s (omega (arith, ints)) u in (f.0, f.1, f.3, (f.2, f.5, ap pos f.4))
shift_word f3 f7 d a (negsuc n) r u q s h = absurd (omega (arith, ints))

op_imm_row_from_word : (op : ImmOp) (d a : ℕ) (z : ℤ) → d < 32 → a < 32 → ImmediateFits op z → let w = op_imm_word op d a z in
    (opcode w ≡ 0b0010011) × (rd w ≡ d) × (rs1 w ≡ a) × ImmediateRow op w z
op_imm_row_from_word Addi d a z q s h = immediate_word 0b000 d a z (omega arith) q s h
op_imm_row_from_word Slti d a z q s h = immediate_word 0b010 d a z (omega arith) q s h
op_imm_row_from_word Sltiu d a z q s h = immediate_word 0b011 d a z (omega arith) q s h
op_imm_row_from_word Xori d a z q s h = immediate_word 0b100 d a z (omega arith) q s h
op_imm_row_from_word Ori d a z q s h = immediate_word 0b110 d a z (omega arith) q s h
op_imm_row_from_word Andi d a z q s h = immediate_word 0b111 d a z (omega arith) q s h
op_imm_row_from_word Slli d a z q s h = shift_word 0b001 0b0000000 d a z (omega arith) (omega arith) q s h
op_imm_row_from_word Srli d a z q s h = shift_word 0b101 0b0000000 d a z (omega arith) (omega arith) q s h
op_imm_row_from_word Srai d a z q s h = shift_word 0b101 0b0100000 d a z (omega arith) (omega arith) q s h

row_from_word : (i : Insn) → FieldsFit i → IsRow i (word_of i)
unfolding word_of
row_from_word (Lui d u) h = u_fields 0b0110111 d (omega arith) h.0 u h.1
row_from_word (Auipc d u) h = u_fields 0b0010111 d (omega arith) h.0 u h.1
row_from_word (Jal d o) h = j_fields 0b1101111 d (omega arith) h.0 o h.1 h.2
row_from_word (Jalr d a o) h = i_fields 0b1100111 0b000 a o (omega arith) (omega arith) h.1 d h.0 h.2
row_from_word (Branch c a b o) h = b_fields 0b1100011 (condition_code c) a o (omega arith) (condition_code_below c) h.0 b h.1 h.2 h.3
row_from_word (Load k d a o) h = i_fields 0b0000011 (load_code k) a o (omega arith) (load_code_below k) h.1 d h.0 h.2
row_from_word (Store k a b o) h = s_fields 0b0100011 (store_code k) a o (omega arith) (store_code_below k) h.0 b h.1 h.2
row_from_word (OpImm op d a z) h = op_imm_row_from_word op d a z h.0 h.1 h.2
row_from_word (Op op d a b) h =
    let below = operation_codes_below op in
    r_fields 0b0110011 d (operation_codes op).1 a b (operation_codes op).0 (omega arith) h.0 below.1 h.1 h.2 below.0
row_from_word (Fence word) h = (refl, h.1, h.2)
row_from_word Ecall h = refl
row_from_word Ebreak h = refl
row_from_word (Unimp word) h = (refl, h)
row_from_word (Atomic op o d a b) h =
    let w = r_word 0b0101111 d 0b010 a b (atomic_code op * 2 ^ 2 + o) in
    let below = atomic_code_below op in
    let f = r_fields 0b0101111 d 0b010 a b (atomic_code op * 2 ^ 2 + o) (omega arith) h.1 (omega arith) h.2 (source_below op b h.3) (omega arith) in
    let order : order_of w ≡ o = atomic_order w (atomic_code op) o f.5 h.0 in
    let code : funct5 w ≡ atomic_code op = atomic_upper w (atomic_code op) o f.5 h.0 in
    (f.0, f.1, f.2, f.3, f.4, order, code, h.3)

-- the table reads the word of an instruction as it
pub insn_of-word_of : (i : Insn) → FieldsFit i → insn_of (word_of i) ≡ Some i
insn_of-word_of i h = insn_from_row (word_of i) i h (row_from_word i h)

-- it is a word of 32 bits
op_imm_word_below : (op : ImmOp) (d a : ℕ) (z : ℤ) → d < 32 → a < 32 → ImmediateFits op z → op_imm_word op d a z < 2 ^ 32
op_imm_word_below Addi d a z q s h = omega arith
op_imm_word_below Slti d a z q s h = omega arith
op_imm_word_below Sltiu d a z q s h = omega arith
op_imm_word_below Xori d a z q s h = omega arith
op_imm_word_below Ori d a z q s h = omega arith
op_imm_word_below Andi d a z q s h = omega arith
op_imm_word_below Slli d a (pos n) q s h = omega (arith, ints)
op_imm_word_below Slli d a (negsuc n) q s h = absurd (omega (arith, ints))
op_imm_word_below Srli d a (pos n) q s h = omega (arith, ints)
op_imm_word_below Srli d a (negsuc n) q s h = absurd (omega (arith, ints))
op_imm_word_below Srai d a (pos n) q s h = omega (arith, ints)
op_imm_word_below Srai d a (negsuc n) q s h = absurd (omega (arith, ints))

pub word_of_below : (i : Insn) → FieldsFit i → word_of i < 2 ^ 32
unfolding word_of
word_of_below (Lui d u) h = omega arith
word_of_below (Auipc d u) h = omega arith
word_of_below (Jal d o) h = omega arith
word_of_below (Jalr d a o) h = omega arith
word_of_below (Branch c a b o) h = let code = condition_code_below c in omega arith
word_of_below (Load k d a o) h = let code = load_code_below k in omega arith
word_of_below (Store k a b o) h = let code = store_code_below k in omega arith
word_of_below (OpImm op d a z) h = op_imm_word_below op d a z h.0 h.1 h.2
word_of_below (Op op d a b) h = let codes = operation_codes_below op in omega arith
word_of_below (Fence word) h = h.0
word_of_below Ecall h = omega arith
word_of_below Ebreak h = omega arith
word_of_below (Unimp word) h = elim h [ inl e ↦ omega arith | inr e ↦ omega arith ]
word_of_below (Atomic op o d a b) h = let code = atomic_code_below op in let source = source_below op b h.3 in omega arith
