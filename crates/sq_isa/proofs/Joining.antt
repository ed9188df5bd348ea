-- The fields of a word that was put together from them, in each format.
use Rattle.std.proofs.Common.{◌≡◌, ℕ, ℤ, pos, negsuc, ◌+◌, ◌*◌, ◌%◌, ◌^◌, ◌<◌, arith, ◌∙◌, ap}
use Rattle.sq_isa.specs.Words.{unsigned}
use Rattle.sq_isa.specs.Fields.{bits, opcode, rd, funct3, rs1, rs2, funct7, sign_extend, immediate_i, immediate_s, immediate_b, immediate_u, immediate_j}
use Rattle.sq_isa.specs.Ranges.{IsSigned, IsEven}
use Rattle.sq_isa.specs.Encoding.{r_word, i_word, s_word, b_word, u_word, j_word}
use Rattle.sq_isa.proofs.Immediates.{extended}

module _ (op d f3 a b f7 : ℕ) (p : op < 128) (q : d < 32) (r : f3 < 8) (s : a < 32) (t : b < 32) (u : f7 < 128) where
  opcode-r_word : opcode (r_word op d f3 a b f7) ≡ op
  opcode-r_word = omega arith

  rd-r_word : rd (r_word op d f3 a b f7) ≡ d
  rd-r_word = omega arith

  funct3-r_word : funct3 (r_word op d f3 a b f7) ≡ f3
  funct3-r_word = omega arith

  rs1-r_word : rs1 (r_word op d f3 a b f7) ≡ a
  rs1-r_word = omega arith

  rs2-r_word : rs2 (r_word op d f3 a b f7) ≡ b
  rs2-r_word = omega arith

  funct7-r_word : funct7 (r_word op d f3 a b f7) ≡ f7
  funct7-r_word = omega arith

  pub r_word_below : r_word op d f3 a b f7 < 2 ^ 32
  r_word_below = omega arith

  pub r_fields : let w = r_word op d f3 a b f7 in
      (opcode w ≡ op) × (rd w ≡ d) × (funct3 w ≡ f3) × (rs1 w ≡ a) × (rs2 w ≡ b) × (funct7 w ≡ f7)
  r_fields = (opcode-r_word, rd-r_word, funct3-r_word, rs1-r_word, rs2-r_word, funct7-r_word)

-- the pieces of an immediate n, put back together
module _ (w n : ℕ) where
  pieces_i : rs2 w ≡ bits n 4 0 → funct7 w ≡ bits n 11 5 → bits w 31 20 ≡ n % 2 ^ 12
  pieces_i e f = omega arith

  pieces_s : rd w ≡ bits n 4 0 → funct7 w ≡ bits n 11 5 → bits w 31 25 * 2 ^ 5 + bits w 11 7 ≡ n % 2 ^ 12
  pieces_s e f = omega arith

  pieces_b : rd w ≡ bits n 4 1 * 2 + bits n 11 11 → funct7 w ≡ bits n 12 12 * 2 ^ 6 + bits n 10 5 → n % 2 ≡ 0 →
      bits w 31 31 * 2 ^ 12 + bits w 7 7 * 2 ^ 11 + bits w 30 25 * 2 ^ 5 + bits w 11 8 * 2 ≡ n % 2 ^ 13
  pieces_b e f g = omega arith

  pieces_j : immediate_u w ≡ bits n 20 20 * 2 ^ 19 + bits n 10 1 * 2 ^ 9 + bits n 11 11 * 2 ^ 8 + bits n 19 12 → n % 2 ≡ 0 →
      bits w 31 31 * 2 ^ 20 + bits w 19 12 * 2 ^ 12 + bits w 20 20 * 2 ^ 11 + bits w 30 21 * 2 ≡ n % 2 ^ 21
  pieces_j e g = omega arith

even_unsigned : (z : ℤ) → IsEven z → unsigned z % 2 ≡ 0
even_unsigned (pos k) e = e
even_unsigned (negsuc k) e = omega arith

module _ (op f3 a : ℕ) (z : ℤ) (p : op < 128) (r : f3 < 8) (s : a < 32) where
  pub i_fields : (d : ℕ) → d < 32 → IsSigned 12 z → let w = i_word op d f3 a z in
      (opcode w ≡ op) × (rd w ≡ d) × (funct3 w ≡ f3) × (rs1 w ≡ a) × (immediate_i w ≡ z)
  i_fields d q h =
      let n = unsigned z in
      let w = i_word op d f3 a z in
      let f = r_fields op d f3 a (bits n 4 0) (bits n 11 5) p q r s (omega arith) (omega arith) in
      (f.0, f.1, f.2, f.3, ap (sign_extend 12) (pieces_i w n f.4 f.5) ∙ extended 12 z (omega arith) (omega arith) h)

  pub s_fields : (b : ℕ) → b < 32 → IsSigned 12 z → let w = s_word op f3 a b z in
      (opcode w ≡ op) × (funct3 w ≡ f3) × (rs1 w ≡ a) × (rs2 w ≡ b) × (immediate_s w ≡ z)
  s_fields b t h =
      let n = unsigned z in
      let w = s_word op f3 a b z in
      let f = r_fields op (bits n 4 0) f3 a b (bits n 11 5) p (omega arith) r s t (omega arith) in
      (f.0, f.2, f.3, f.4, ap (sign_extend 12) (pieces_s w n f.1 f.5) ∙ extended 12 z (omega arith) (omega arith) h)

  pub b_fields : (b : ℕ) → b < 32 → IsSigned 13 z → IsEven z → let w = b_word op f3 a b z in
      (opcode w ≡ op) × (funct3 w ≡ f3) × (rs1 w ≡ a) × (rs2 w ≡ b) × (immediate_b w ≡ z)
  b_fields b t h e =
      let n = unsigned z in
      let w = b_word op f3 a b z in
      let f = r_fields op (bits n 4 1 * 2 + bits n 11 11) f3 a b (bits n 12 12 * 2 ^ 6 + bits n 10 5) p (omega arith) r s t (omega arith) in
      (f.0, f.2, f.3, f.4, ap (sign_extend 13) (pieces_b w n f.1 f.5 (even_unsigned z e)) ∙ extended 13 z (omega arith) (omega arith) h)

module _ (op d : ℕ) (p : op < 128) (q : d < 32) where
  pub u_fields : (u : ℕ) → u < 2 ^ 20 → let w = u_word op d u in (opcode w ≡ op) × (rd w ≡ d) × (immediate_u w ≡ u)
  u_fields u h = (omega arith, omega arith, omega arith)

  pub u_word_below : (u : ℕ) → u < 2 ^ 20 → u_word op d u < 2 ^ 32
  u_word_below u h = omega arith

  pub j_fields : (z : ℤ) → IsSigned 21 z → IsEven z → let w = j_word op d z in (opcode w ≡ op) × (rd w ≡ d) × (immediate_j w ≡ z)
  j_fields z h e =
      let n = unsigned z in
      let w = j_word op d z in
      let f = u_fields (bits n 20 20 * 2 ^ 19 + bits n 10 1 * 2 ^ 9 + bits n 11 11 * 2 ^ 8 + bits n 19 12) (omega arith) in
      (f.0, f.1, ap (sign_extend 21) (pieces_j w n f.2 (even_unsigned z e)) ∙ extended 21 z (omega arith) (omega arith) h)
