-- Two words with the same fields are equal, in each format.
use Rattle.std.proofs.Common.{◌≡◌, ℕ, ◌+◌, ◌*◌, ◌^◌, ◌<◌, arith, sym, ◌∙◌}
use Rattle.sq_isa.specs.Fields.{bits, opcode, rd, funct3, rs1, rs2, funct7, immediate_i, immediate_s, immediate_b, immediate_u, immediate_j}
use Rattle.sq_isa.proofs.Immediates.{same_bits}

-- rd and funct7 from the pieces of an immediate of format B
rd-pieces : (w : ℕ) → rd w ≡ bits w 11 8 * 2 + bits w 7 7
rd-pieces w = omega arith

funct7-pieces : (w : ℕ) → funct7 w ≡ bits w 31 31 * 64 + bits w 30 25
funct7-pieces w = omega arith

-- the pieces of format B, from their sum
same_pieces : (a b c d a' b' c' d' : ℕ) → b < 2 → c < 64 → d < 16 → b' < 2 → c' < 64 → d' < 16 →
    a * 2 ^ 12 + b * 2 ^ 11 + c * 2 ^ 5 + d * 2 ≡ a' * 2 ^ 12 + b' * 2 ^ 11 + c' * 2 ^ 5 + d' * 2 →
    (d * 2 + b ≡ d' * 2 + b') × (a * 64 + c ≡ a' * 64 + c')
same_pieces a b c d a' b' c' d' p q r s t u e = (omega arith, omega arith)

module _ (v w : ℕ) (p : v < 2 ^ 32) (q : w < 2 ^ 32) (e : opcode v ≡ opcode w) where
  pub same_r : rd v ≡ rd w → funct3 v ≡ funct3 w → rs1 v ≡ rs1 w → rs2 v ≡ rs2 w → funct7 v ≡ funct7 w → v ≡ w
  same_r d f a b g = omega arith

  pub same_i : rd v ≡ rd w → funct3 v ≡ funct3 w → rs1 v ≡ rs1 w → immediate_i v ≡ immediate_i w → v ≡ w
  same_i d f a i =
      let high = same_bits 12 (bits v 31 20) (bits w 31 20) (omega arith) (omega arith) (omega arith) i in
      omega arith

  pub same_s : funct3 v ≡ funct3 w → rs1 v ≡ rs1 w → rs2 v ≡ rs2 w → immediate_s v ≡ immediate_s w → v ≡ w
  same_s f a b i =
      let whole = same_bits 12 (bits v 31 25 * 2 ^ 5 + bits v 11 7) (bits w 31 25 * 2 ^ 5 + bits w 11 7) (omega arith) (omega arith) (omega arith) i in
      omega arith

  pub same_b : funct3 v ≡ funct3 w → rs1 v ≡ rs1 w → rs2 v ≡ rs2 w → immediate_b v ≡ immediate_b w → v ≡ w
  same_b f a b i =
      let whole = same_bits 13 (bits v 31 31 * 2 ^ 12 + bits v 7 7 * 2 ^ 11 + bits v 30 25 * 2 ^ 5 + bits v 11 8 * 2)
      (bits w 31 31 * 2 ^ 12 + bits w 7 7 * 2 ^ 11 + bits w 30 25 * 2 ^ 5 + bits w 11 8 * 2) (omega arith) (omega arith) (omega arith) i in
      let pieces = same_pieces (bits v 31 31) (bits v 7 7) (bits v 30 25) (bits v 11 8) (bits w 31 31) (bits w 7 7) (bits w 30 25) (bits w 11 8)
      (omega arith) (omega arith) (omega arith) (omega arith) (omega arith) (omega arith) whole in
      same_r (rd-pieces v ∙ (pieces.0 ∙ sym (rd-pieces w))) f a b (funct7-pieces v ∙ (pieces.1 ∙ sym (funct7-pieces w)))

  pub same_u : rd v ≡ rd w → immediate_u v ≡ immediate_u w → v ≡ w
  same_u d i = omega arith

  pub same_j : rd v ≡ rd w → immediate_j v ≡ immediate_j w → v ≡ w
  same_j d i =
      let whole = same_bits 21 (bits v 31 31 * 2 ^ 20 + bits v 19 12 * 2 ^ 12 + bits v 20 20 * 2 ^ 11 + bits v 30 21 * 2)
      (bits w 31 31 * 2 ^ 20 + bits w 19 12 * 2 ^ 12 + bits w 20 20 * 2 ^ 11 + bits w 30 21 * 2) (omega arith) (omega arith) (omega arith) i in
      omega arith
