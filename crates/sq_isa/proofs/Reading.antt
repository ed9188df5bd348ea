-- What a word is that the table reads as an instruction: the fields, from the instruction's side.
use Rattle.std.proofs.Common.{◌≡◌, ℕ, ℤ, pos, ◌<◌, false, inl, inr, arith, Option, Some, None, ◌==◌, ◌||◌, ◌&&◌, not, cond, refl, subst, sym}
use Rattle.std.proofs.lemmas.Bool.{eqb-true}
use Rattle.std.proofs.lemmas.Bool.Decides.{nat_tests}
use Rattle.sq_isa.specs.Ranges.{IsUnimp, SourceFits}
use Rattle.sq_isa.specs.declared.instructions.AtomicOp.{AtomicOp}
use Rattle.std.specs.Option.{option_map}
use Rattle.sq_isa.specs.Fields.{opcode, rd, funct3, rs1, rs2, funct7, immediate_i, immediate_s, immediate_b, immediate_u, immediate_j}
use Rattle.sq_isa.specs.Codes.{coded_by, conditions, loads, stores, immediate_operations, shifts, arithmetic_shifts, operations, alternate_operations, multiplications}
use Rattle.sq_isa.specs.AtomicCodes.{atomic_operations}
use Rattle.sq_isa.specs.Table.{insn_of, jalr_of, branch_of, load_of, store_of, shift_operation_of, op_imm_of, operation_of, op_of, fence_of, system_of, order_of, funct5, amo_of, zero_of}
use Rattle.sq_isa.specs.Encoding.{condition_code, load_code, store_code, operation_codes}
use Rattle.sq_isa.specs.AtomicEncoding.{atomic_code}
use Rattle.sq_isa.proofs.Codes.{some_value, none_is_none, by_test, by_map, by_row}
use Rattle.sq_isa.specs.declared.instructions.Insn.{Insn}
use Rattle.sq_isa.specs.declared.instructions.Insn.TheVariants.{Lui, Auipc, Jal, Jalr, Branch, Load, Store, OpImm, Op, Fence, Ecall, Ebreak, Unimp, Atomic}
use Rattle.sq_isa.specs.declared.instructions.ImmOp.{ImmOp}
use Rattle.sq_isa.specs.declared.instructions.ImmOp.TheVariants.{Addi, Slti, Sltiu, Xori, Ori, Andi, Slli, Srli, Srai}
use Rattle.sq_isa.specs.declared.instructions.RegOp.{RegOp}

-- the codes and the immediate of an operation of OP-IMM
abbrev pub ImmediateRow : ImmOp → ℕ → ℤ → Type 0
ImmediateRow Addi w z = (funct3 w ≡ 0b000) × (immediate_i w ≡ z)
ImmediateRow Slti w z = (funct3 w ≡ 0b010) × (immediate_i w ≡ z)
ImmediateRow Sltiu w z = (funct3 w ≡ 0b011) × (immediate_i w ≡ z)
ImmediateRow Xori w z = (funct3 w ≡ 0b100) × (immediate_i w ≡ z)
ImmediateRow Ori w z = (funct3 w ≡ 0b110) × (immediate_i w ≡ z)
ImmediateRow Andi w z = (funct3 w ≡ 0b111) × (immediate_i w ≡ z)
ImmediateRow Slli w z = (funct3 w ≡ 0b001) × (funct7 w ≡ 0b0000000) × (pos (rs2 w) ≡ z)
ImmediateRow Srli w z = (funct3 w ≡ 0b101) × (funct7 w ≡ 0b0000000) × (pos (rs2 w) ≡ z)
ImmediateRow Srai w z = (funct3 w ≡ 0b101) × (funct7 w ≡ 0b0100000) × (pos (rs2 w) ≡ z)

-- w has the fields of the instruction
abbrev pub IsRow : Insn → ℕ → Type 0
IsRow (Lui d upper) w = (opcode w ≡ 0b0110111) × (rd w ≡ d) × (immediate_u w ≡ upper)
IsRow (Auipc d upper) w = (opcode w ≡ 0b0010111) × (rd w ≡ d) × (immediate_u w ≡ upper)
IsRow (Jal d offset) w = (opcode w ≡ 0b1101111) × (rd w ≡ d) × (immediate_j w ≡ offset)
IsRow (Jalr d a offset) w = (opcode w ≡ 0b1100111) × (rd w ≡ d) × (funct3 w ≡ 0b000) × (rs1 w ≡ a) × (immediate_i w ≡ offset)
IsRow (Branch c a b offset) w = (opcode w ≡ 0b1100011) × (funct3 w ≡ condition_code c) × (rs1 w ≡ a) × (rs2 w ≡ b) × (immediate_b w ≡ offset)
IsRow (Load kind d a offset) w = (opcode w ≡ 0b0000011) × (rd w ≡ d) × (funct3 w ≡ load_code kind) × (rs1 w ≡ a) × (immediate_i w ≡ offset)
IsRow (Store kind a b offset) w = (opcode w ≡ 0b0100011) × (funct3 w ≡ store_code kind) × (rs1 w ≡ a) × (rs2 w ≡ b) × (immediate_s w ≡ offset)
IsRow (OpImm op d a imm) w = (opcode w ≡ 0b0010011) × (rd w ≡ d) × (rs1 w ≡ a) × ImmediateRow op w imm
IsRow (Op op d a b) w = (opcode w ≡ 0b0110011) × (rd w ≡ d) × (funct3 w ≡ (operation_codes op).1) × (rs1 w ≡ a) × (rs2 w ≡ b) × (funct7 w ≡ (operation_codes op).0)
IsRow (Fence word) w = (w ≡ word) × (opcode w ≡ 0b0001111) × (funct3 w ≡ 0b000)
IsRow Ecall w = w ≡ 0x00000073
IsRow Ebreak w = w ≡ 0x00100073
IsRow (Unimp word) w = (w ≡ word) × IsUnimp word
IsRow (Atomic op order d a b) w = (opcode w ≡ 0b0101111) × (rd w ≡ d) × (funct3 w ≡ 0b010) × (rs1 w ≡ a) × (rs2 w ≡ b) × (order_of w ≡ order) × (funct5 w ≡ atomic_code op) × SourceFits op b

-- a row that is one instruction
one_row : (w : ℕ) (x i : Insn) → IsRow x w → Some x ≡ Some i → IsRow i w
one_row w x i row e = subst (λ k. IsRow k w) (some_value x i e) row

-- where the code is that of LR, the source is x0
lr_source : (code src : ℕ) → (code == 0b00010 && not (src == 0)) ≡ false → code ≡ 0b00010 → src ≡ 0
lr_source code src n e = grind (arith, nat_tests)

atomic_code_is : (code : ℕ) (op : AtomicOp) → coded_by atomic_operations code ≡ Some op → code ≡ atomic_code op
atomic_code_is code op c =
    by_row (λ k o. k ≡ atomic_code o) atomic_operations code op
    (refl, (refl, (refl, (refl, (refl, (refl, (refl, (refl, (refl, (refl, (refl, tt))))))))))) c

module _ (w : ℕ) (i : Insn) where
  jalr_row : opcode w ≡ 0b1100111 → jalr_of w ≡ Some i → IsRow i w
  jalr_row e h =
      by_test (funct3 w == 0b000) (Some (Jalr (rd w) (rs1 w) (immediate_i w))) None i (IsRow i w)
      (λ t f. one_row w (Jalr (rd w) (rs1 w) (immediate_i w)) i (e, refl, eqb-true (funct3 w) 0 t, refl, refl) f)
      (λ t f. none_is_none (IsRow i w) i f)
      h

  branch_row : opcode w ≡ 0b1100011 → branch_of w ≡ Some i → IsRow i w
  branch_row e h =
      by_map (λ c. Branch c (rs1 w) (rs2 w) (immediate_b w)) (λ k. IsRow k w) (coded_by conditions (funct3 w)) i
      (λ c f. (e, by_row (λ code c. code ≡ condition_code c) conditions (funct3 w) c (refl, (refl, (refl, (refl, (refl, (refl, tt)))))) f, refl, refl, refl))
      h

  load_row : opcode w ≡ 0b0000011 → load_of w ≡ Some i → IsRow i w
  load_row e h =
      by_map (λ kind. Load kind (rd w) (rs1 w) (immediate_i w)) (λ k. IsRow k w) (coded_by loads (funct3 w)) i
      (λ kind f. (e, refl, by_row (λ code kind. code ≡ load_code kind) loads (funct3 w) kind (refl, (refl, (refl, (refl, (refl, tt))))) f, refl, refl))
      h

  store_row : opcode w ≡ 0b0100011 → store_of w ≡ Some i → IsRow i w
  store_row e h =
      by_map (λ kind. Store kind (rs1 w) (rs2 w) (immediate_s w)) (λ k. IsRow k w) (coded_by stores (funct3 w)) i
      (λ kind f. (e, by_row (λ code kind. code ≡ store_code kind) stores (funct3 w) kind (refl, (refl, (refl, tt))) f, refl, refl, refl))
      h

  shift_row : opcode w ≡ 0b0010011 → (op : ImmOp) → shift_operation_of w ≡ Some op → IsRow (OpImm op (rd w) (rs1 w) (pos (rs2 w))) w
  shift_row e op h =
      let row : Type 0 = ImmediateRow op w (pos (rs2 w)) in
      let found : row =
      by_test (funct7 w == 0b0000000) (coded_by shifts (funct3 w))
      (cond (funct7 w == 0b0100000) (coded_by arithmetic_shifts (funct3 w)) None) op row
      (λ t f.
      by_row (λ code o. funct3 w ≡ code → ImmediateRow o w (pos (rs2 w))) shifts (funct3 w) op
      ((λ c. (c, eqb-true (funct7 w) 0 t, refl)), ((λ c. (c, eqb-true (funct7 w) 0 t, refl)), tt)) f refl)
      (λ _ g.
      by_test (funct7 w == 0b0100000) (coded_by arithmetic_shifts (funct3 w)) None op row
      (λ t f.
      by_row (λ code o. funct3 w ≡ code → ImmediateRow o w (pos (rs2 w))) arithmetic_shifts (funct3 w) op
      ((λ c. (c, eqb-true (funct7 w) 32 t, refl)), tt) f refl)
      (λ _ f. none_is_none row op f)
      g)
      h in
      (e, refl, refl, found)

  immediate_row : opcode w ≡ 0b0010011 → (op : ImmOp) → coded_by immediate_operations (funct3 w) ≡ Some op → IsRow (OpImm op (rd w) (rs1 w) (immediate_i w)) w
  immediate_row e op f =
      let found : ImmediateRow op w (immediate_i w) =
      by_row (λ code o. funct3 w ≡ code → ImmediateRow o w (immediate_i w)) immediate_operations (funct3 w) op
      ((λ c. (c, refl)), ((λ c. (c, refl)), ((λ c. (c, refl)), ((λ c. (c, refl)), ((λ c. (c, refl)), ((λ c. (c, refl)), tt)))))) f refl in
      (e, refl, refl, found)

  op_imm_row : opcode w ≡ 0b0010011 → op_imm_of w ≡ Some i → IsRow i w
  op_imm_row e h =
      by_test (funct3 w == 0b001 || funct3 w == 0b101)
      (option_map (λ op. OpImm op (rd w) (rs1 w) (pos (rs2 w))) (shift_operation_of w))
      (option_map (λ op. OpImm op (rd w) (rs1 w) (immediate_i w)) (coded_by immediate_operations (funct3 w))) i (IsRow i w)
      (λ _ f. by_map (λ op. OpImm op (rd w) (rs1 w) (pos (rs2 w))) (λ k. IsRow k w) (shift_operation_of w) i (shift_row e) f)
      (λ _ f. by_map (λ op. OpImm op (rd w) (rs1 w) (immediate_i w)) (λ k. IsRow k w) (coded_by immediate_operations (funct3 w)) i (immediate_row e) f)
      h

  operation_codes_is : (op : RegOp) → operation_of w ≡ Some op → (funct3 w ≡ (operation_codes op).1) × (funct7 w ≡ (operation_codes op).0)
  operation_codes_is op h =
      let Coded : ℕ → ℕ → RegOp → Type 0 = λ upper code o. (code ≡ (operation_codes o).1) × (upper ≡ (operation_codes o).0) in
      let found : Type 0 = Coded (funct7 w) (funct3 w) op in
      by_test (funct7 w == 0b0000000) (coded_by operations (funct3 w))
      (cond (funct7 w == 0b0100000) (coded_by alternate_operations (funct3 w)) (cond (funct7 w == 0b0000001) (coded_by multiplications (funct3 w)) None)) op found
      (λ t f. subst (λ k. Coded k (funct3 w) op) (sym (eqb-true (funct7 w) 0 t))
      (by_row (Coded 0) operations (funct3 w) op
      ((refl, refl), ((refl, refl), ((refl, refl), ((refl, refl), ((refl, refl), ((refl, refl), ((refl, refl), ((refl, refl), tt)))))))) f))
      (λ _ g.
      by_test (funct7 w == 0b0100000) (coded_by alternate_operations (funct3 w)) (cond (funct7 w == 0b0000001) (coded_by multiplications (funct3 w)) None) op found
      (λ t f. subst (λ k. Coded k (funct3 w) op) (sym (eqb-true (funct7 w) 32 t))
      (by_row (Coded 32) alternate_operations (funct3 w) op ((refl, refl), ((refl, refl), tt)) f))
      (λ _ k.
      by_test (funct7 w == 0b0000001) (coded_by multiplications (funct3 w)) None op found
      (λ t f. subst (λ k. Coded k (funct3 w) op) (sym (eqb-true (funct7 w) 1 t))
      (by_row (Coded 1) multiplications (funct3 w) op
      ((refl, refl), ((refl, refl), ((refl, refl), ((refl, refl), ((refl, refl), ((refl, refl), ((refl, refl), ((refl, refl), tt)))))))) f))
      (λ _ f. none_is_none found op f)
      k)
      g)
      h

  op_row : opcode w ≡ 0b0110011 → op_of w ≡ Some i → IsRow i w
  op_row e h =
      by_map (λ op. Op op (rd w) (rs1 w) (rs2 w)) (λ k. IsRow k w) (operation_of w) i
      (λ op f. let codes = operation_codes_is op f in (e, refl, codes.0, refl, refl, codes.1))
      h

  fence_row : opcode w ≡ 0b0001111 → fence_of w ≡ Some i → IsRow i w
  fence_row e h =
      by_test (funct3 w == 0b000) (Some (Fence w)) None i (IsRow i w)
      (λ t f. one_row w (Fence w) i (refl, e, eqb-true (funct3 w) 0 t) f) (λ _ f. none_is_none (IsRow i w) i f) h

  system_row : system_of w ≡ Some i → IsRow i w
  system_row h =
      by_test (w == 0x00000073) (Some Ecall) (cond (w == 0x00100073) (Some Ebreak) (cond (w == 0xc0001073) (Some (Unimp 0xc0001073)) None)) i (IsRow i w)
      (λ t f. one_row w Ecall i (eqb-true w 0x00000073 t) f)
      (λ _ g.
      by_test (w == 0x00100073) (Some Ebreak) (cond (w == 0xc0001073) (Some (Unimp 0xc0001073)) None) i (IsRow i w)
      (λ t f. one_row w Ebreak i (eqb-true w 0x00100073 t) f)
      (λ _ k.
      by_test (w == 0xc0001073) (Some (Unimp 0xc0001073)) None i (IsRow i w)
      (λ t f. one_row w (Unimp 0xc0001073) i (eqb-true w 0xc0001073 t, inr refl) f)
      (λ _ f. none_is_none (IsRow i w) i f)
      k)
      g)
      h

  source_fits : (funct5 w == 0b00010 && not (rs2 w == 0)) ≡ false → (op : AtomicOp) → coded_by atomic_operations (funct5 w) ≡ Some op → SourceFits op (rs2 w)
  source_fits n op c =
      let below : rs2 w < 32 = omega arith in
      by_row (λ code o. funct5 w ≡ code → SourceFits o (rs2 w)) atomic_operations (funct5 w) op
      ((λ _. below), ((λ _. below), ((λ k. lr_source (funct5 w) (rs2 w) n k), ((λ _. below), ((λ _. below), ((λ _. below), ((λ _. below), ((λ _. below), ((λ _. below), ((λ _. below), ((λ _. below), tt)))))))))))
      c refl

  amo_row : opcode w ≡ 0b0101111 → amo_of w ≡ Some i → IsRow i w
  amo_row e h =
      let all : Option Insn = option_map (λ op. Atomic op (order_of w) (rd w) (rs1 w) (rs2 w)) (coded_by atomic_operations (funct5 w)) in
      by_test (funct3 w == 0b010) (cond (funct5 w == 0b00010 && not (rs2 w == 0)) None all) None i (IsRow i w)
      (λ t g.
      by_test (funct5 w == 0b00010 && not (rs2 w == 0)) None all i (IsRow i w)
      (λ _ f. none_is_none (IsRow i w) i f)
      (λ n f.
      by_map (λ op. Atomic op (order_of w) (rd w) (rs1 w) (rs2 w)) (λ k. IsRow k w) (coded_by atomic_operations (funct5 w)) i
      (λ op c. (e, refl, eqb-true (funct3 w) 2 t, refl, refl, refl, atomic_code_is (funct5 w) op c, source_fits n op c)) f)
      g)
      (λ _ f. none_is_none (IsRow i w) i f)
      h

  zero_row : zero_of w ≡ Some i → IsRow i w
  zero_row h =
      by_test (w == 0x00000000) (Some (Unimp 0)) None i (IsRow i w)
      (λ t f. one_row w (Unimp 0) i (eqb-true w 0 t, inl refl) f) (λ _ f. none_is_none (IsRow i w) i f) h

  -- a word has the fields of the instruction that the table reads in it
  pub row_from_table : insn_of w ≡ Some i → IsRow i w
  unfolding insn_of
  row_from_table h0 =
      let rest12 : Option Insn = cond (opcode w == 0b0000000) (zero_of w) None in
      let rest11 : Option Insn = cond (opcode w == 0b0101111) (amo_of w) rest12 in
      let rest10 : Option Insn = cond (opcode w == 0b1110011) (system_of w) rest11 in
      let rest9 : Option Insn = cond (opcode w == 0b0001111) (fence_of w) rest10 in
      let rest8 : Option Insn = cond (opcode w == 0b0110011) (op_of w) rest9 in
      let rest7 : Option Insn = cond (opcode w == 0b0010011) (op_imm_of w) rest8 in
      let rest6 : Option Insn = cond (opcode w == 0b0100011) (store_of w) rest7 in
      let rest5 : Option Insn = cond (opcode w == 0b0000011) (load_of w) rest6 in
      let rest4 : Option Insn = cond (opcode w == 0b1100011) (branch_of w) rest5 in
      let rest3 : Option Insn = cond (opcode w == 0b1100111) (jalr_of w) rest4 in
      let rest2 : Option Insn = cond (opcode w == 0b1101111) (Some (Jal (rd w) (immediate_j w))) rest3 in
      let rest1 : Option Insn = cond (opcode w == 0b0010111) (Some (Auipc (rd w) (immediate_u w))) rest2 in
      by_test (opcode w == 0b0110111) (Some (Lui (rd w) (immediate_u w))) rest1 i (IsRow i w) (λ t f. let e = eqb-true (opcode w) 0b0110111 t in one_row w (Lui (rd w) (immediate_u w)) i (e, refl, refl) f) (λ _ h1.
      by_test (opcode w == 0b0010111) (Some (Auipc (rd w) (immediate_u w))) rest2 i (IsRow i w) (λ t f. let e = eqb-true (opcode w) 0b0010111 t in one_row w (Auipc (rd w) (immediate_u w)) i (e, refl, refl) f) (λ _ h2.
      by_test (opcode w == 0b1101111) (Some (Jal (rd w) (immediate_j w))) rest3 i (IsRow i w) (λ t f. let e = eqb-true (opcode w) 0b1101111 t in one_row w (Jal (rd w) (immediate_j w)) i (e, refl, refl) f) (λ _ h3.
      by_test (opcode w == 0b1100111) (jalr_of w) rest4 i (IsRow i w) (λ t f. let e = eqb-true (opcode w) 0b1100111 t in jalr_row e f) (λ _ h4.
      by_test (opcode w == 0b1100011) (branch_of w) rest5 i (IsRow i w) (λ t f. let e = eqb-true (opcode w) 0b1100011 t in branch_row e f) (λ _ h5.
      by_test (opcode w == 0b0000011) (load_of w) rest6 i (IsRow i w) (λ t f. let e = eqb-true (opcode w) 0b0000011 t in load_row e f) (λ _ h6.
      by_test (opcode w == 0b0100011) (store_of w) rest7 i (IsRow i w) (λ t f. let e = eqb-true (opcode w) 0b0100011 t in store_row e f) (λ _ h7.
      by_test (opcode w == 0b0010011) (op_imm_of w) rest8 i (IsRow i w) (λ t f. let e = eqb-true (opcode w) 0b0010011 t in op_imm_row e f) (λ _ h8.
      by_test (opcode w == 0b0110011) (op_of w) rest9 i (IsRow i w) (λ t f. let e = eqb-true (opcode w) 0b0110011 t in op_row e f) (λ _ h9.
      by_test (opcode w == 0b0001111) (fence_of w) rest10 i (IsRow i w) (λ t f. fence_row (eqb-true (opcode w) 0b0001111 t) f) (λ _ h10.
      by_test (opcode w == 0b1110011) (system_of w) rest11 i (IsRow i w) (λ _ f. system_row f) (λ _ h11.
      by_test (opcode w == 0b0101111) (amo_of w) rest12 i (IsRow i w) (λ t f. let e = eqb-true (opcode w) 0b0101111 t in amo_row e f) (λ _ h12.
      by_test (opcode w == 0b0000000) (zero_of w) None i (IsRow i w) (λ _ f. zero_row f) (λ _ h13.
      none_is_none (IsRow i w) i h13) h12) h11) h10) h9) h8) h7) h6) h5) h4) h3) h2) h1) h0
