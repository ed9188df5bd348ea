-- The law of the rows: on values that agree, instructions of one form do the same. It sees no register.
use Rattle.std.proofs.Common.{◌≡◌, ℕ, ◌+◌, ◌^◌, ◌<◌, ℤ, pos, Bool, true, false, ◌==◌, ◌&&◌, Option, Some, None, if◌then◌else◌, refl, arith}
use Rattle.std.specs.Ordering.{int_eq}
use Rattle.std.proofs.lemmas.Bool.Decides.{Decides-int_eq}
use Rattle.sq_isa.specs.Forms.{with_registers}
use Rattle.sq_isa.specs.Words.{wrapped, unsigned, upper_word}
use Rattle.sq_isa.specs.Values.{value_imm_of}
use Rattle.sq_isa.specs.declared.instructions.Insn.{Insn}
use Rattle.sq_isa.specs.declared.instructions.Insn.TheVariants.{Lui, Load, Store as StoreInsn, OpImm, Op, Fence, Ecall, Atomic}
use Rattle.sq_isa.specs.declared.instructions.ImmOp.{ImmOp}
use Rattle.sq_isa.specs.declared.instructions.ImmOp.TheVariants.{Addi, Sltiu}
use Rattle.sq_isa.specs.declared.instructions.RegOp.{RegOp}
use Rattle.sq_isa.specs.declared.instructions.RegOp.TheVariants.{Sltu}
use Rattle.law_runs.specs.Runs.{Broke}
use Rattle.law_runs.specs.Simulation.{Matches}
use Rattle.sq_graph.specs.Lines.{Lower}
use Rattle.law_follow.specs.declared.kind.Kind.{Kind}
use Rattle.law_follow.specs.declared.kind.Kind.TheVariants.{Arithmetic, Half}
use Rattle.law_follow.specs.Values.{Tag, Code, Part, Value, Num, Tagged}
use Rattle.law_follow.specs.Settings.{Setting, Store}
use Rattle.law_follow.specs.Arithmetic.{zero_is_outside_text, tagged_imm, imm_value, tagged_op, op_value, is_upper_half}
use Rattle.law_follow.specs.Accesses.{Step, gives, gives_or_breaks, load_at, store_at, atomic_at}
use Rattle.law_follow.specs.Rows.{Operands, at_number, address_value, plain_row, row_of}
use Rattle.law_patch.specs.Agreement.{Ties, SameTag, SameValue, SameStore, SameMade, IsTied}
use Rattle.law_patch.proofs.Loading.{with_code, gives_rel, load_rel, store_rel, atomic_rel, SameResult}
use Rattle.law_patch.proofs.Calling.{call_rel}

-- x is the first of two sources
abbrev pub first_source : Insn → ℕ → Type 0
first_source (Op op rd a b) x = x ≡ a
first_source insn x = ⊥

module _ (P : ℕ → Type 0) (T : Ties) (s : Setting) (code : ℕ → Bool) (laws : IsTied P T s) where
  abbrev SameStep : Step → Step → Type 0
  SameStep = Matches (SameMade P T)

  result_rel : (kind : Kind) (o p : Option Value) (a b : Store) → SameResult P T s code laws o p → SameStore P T a b → SameStep (gives_or_breaks kind o a) (gives_or_breaks kind p b)
  result_rel kind None p a b h k = tt
  result_rel kind (Some v) None a b h k = absurd h
  result_rel kind (Some v) (Some u) a b h k = (refl, record { value = h; store = k })

  -- a result where a test holds
  abbrev when : Bool → Value → Option Value
  when t v = if t then Some v else None

  when_rel : (t : Bool) (v u : Value) → SameValue T v u → SameResult P T s code laws (when t v) (when t u)
  when_rel true v u h = h
  when_rel false v u h = tt

  tagged_word : (tag : Tag) (x : ℕ) → SameTag T tag (Num x) → x < 2 ^ 32
  tagged_word (Code n) x h = absurd h
  tagged_word (Part n word) x h = laws.numbers n word x h

  -- `addi rd,rs,0`
  copy_rel : (t : Bool) (imm : ℤ) (tag : Tag) (u : Value) → int_eq imm (pos 0) ≡ t → SameTag T tag u → SameResult P T s code laws (when t (Tagged tag)) (imm_value (with_code s code) Addi imm u)
  copy_rel false imm tag u e h = tt
  copy_rel true imm tag (Tagged other) e h = rw e h
  copy_rel true imm tag (Num x) e h =
      let zero : imm ≡ pos 0 = (Decides-int_eq imm (pos 0)).0 e in
      let small : x < 2 ^ 32 = tagged_word tag x h in
      let same : value_imm_of Addi x (pos 0) ≡ x = omega arith in
      rw (zero, same) h

  code_imm : (imm : ℤ) (n : ℕ) (u : Value) → SameTag T (Code n) u → SameResult P T s code laws (tagged_imm s Sltiu imm (Code n)) (imm_value (with_code s code) Sltiu imm u)
  code_imm imm n (Num x) h = absurd h
  code_imm imm n (Tagged (Code m)) h = when_rel (int_eq imm (pos 1) && zero_is_outside_text s) (Num 0) (Num 0) refl
  code_imm imm n (Tagged (Part m word)) h = absurd h

  tagged_imm_rel : (op : ImmOp) (imm : ℤ) (tag : Tag) (u : Value) → SameTag T tag u → SameResult P T s code laws (tagged_imm s op imm tag) (imm_value (with_code s code) op imm u)
  tagged_imm_rel Addi imm tag u h = copy_rel (int_eq imm (pos 0)) imm tag u refl h
  tagged_imm_rel Sltiu imm (Code n) u h = code_imm imm n u h
  tagged_imm_rel op imm tag u h = tt

  imm_rel : (op : ImmOp) (imm : ℤ) (v u : Value) → SameValue T v u → SameResult P T s code laws (imm_value s op imm v) (imm_value (with_code s code) op imm u)
  imm_rel op imm (Num x) u h = rw h refl
  imm_rel op imm (Tagged tag) u h = tagged_imm_rel op imm tag u h

  -- where the first test holds, so does the second
  first_zero : (t t' z : Bool) → (t ≡ true → t' ≡ true) → SameResult P T s code laws (when (t && z) (Num 1)) (when (t' && z) (Num 1))
  first_zero false t' z e = tt
  first_zero true t' z e = rw (e refl) (when_rel z (Num 1) (Num 1) refl)

  -- `sltu rd,x0,rs`
  code_op : (x a b n : ℕ) (u : Value) → ((a == 0) ≡ true → (b == 0) ≡ true) → SameTag T (Code n) u → SameResult P T s code laws (tagged_op s Sltu a (Code n)) (op_value (with_code s code) Sltu b (Num x) u)
  code_op x a b n (Num y) e h = absurd h
  code_op x a b n (Tagged (Part m word)) e h = absurd h
  code_op x a b n (Tagged (Code m)) e h = first_zero (a == 0) (b == 0) (zero_is_outside_text s) e

  op_rel : (op : RegOp) (a b : ℕ) (v u v' u' : Value) → ((a == 0) ≡ true → (b == 0) ≡ true) → SameValue T v v' → SameValue T u u' → SameResult P T s code laws (op_value s op a v u) (op_value (with_code s code) op b v' u')
  op_rel op a b (Num x) (Num y) v' u' e h k = rw (h, k) refl
  op_rel Sltu a b (Num x) (Tagged (Code n)) v' u' e h k = rw h (code_op x a b n u' e k)
  op_rel op a b (Num x) (Tagged tag) v' u' e h k = tt
  op_rel op a b (Tagged tag) u v' u' e h k = tt

  tested_half : (t t' : Bool) (x y : Step) → (t ≡ true → t' ≡ true) → SameStep x y → SameStep (if t then x else Broke Half) (if t' then y else Broke Half)
  tested_half false t' x y e h = tt
  tested_half true t' x y e h = rw (e refl) h

  number_rel : (v u : Value) (f g : ℕ → Step) → SameValue T v u → ((x : ℕ) → SameStep (f x) (g x)) → SameStep (at_number v f) (at_number u g)
  number_rel (Num x) u f g h k = rw h (k x)
  number_rel (Tagged tag) u f g h k = tt

  -- THE LAW OF THE ROWS, for instructions without a half of an address
  pub plain_rel : (insn : Insn) (d x y : ℕ) (v u : Operands) (a b : Store) → ((x' : ℕ) → first_source insn x' → (x' == 0) ≡ true → (x == 0) ≡ true) → ((i : ℕ) → SameValue T (v i) (u i)) → SameStore P T a b → SameStep (plain_row s insn v a) (plain_row (with_code s code) (with_registers d x y insn) u b)
  plain_rel (Lui rd upper) d x y v u a b z h k = gives_rel P T s code laws (Num (upper_word upper)) (Num (upper_word upper)) a b refl k
  plain_rel (OpImm op rd rs imm) d x y v u a b z h k = result_rel Arithmetic (imm_value s op imm (v 0)) (imm_value (with_code s code) op imm (u 0)) a b (imm_rel op imm (v 0) (u 0) (h 0)) k
  plain_rel (Op op rd p q) d x y v u a b z h k = result_rel Arithmetic (op_value s op p (v 0) (v 1)) (op_value (with_code s code) op x (u 0) (u 1)) a b (op_rel op p x (v 0) (v 1) (u 0) (u 1) (z p refl) (h 0) (h 1)) k
  plain_rel (Load kind rd rs imm) d x y v u a b z h k = number_rel (v 0) (u 0) (λ n. load_at s kind (wrapped (n + unsigned imm)) a) (λ n. load_at (with_code s code) kind (wrapped (n + unsigned imm)) b) (h 0) (λ n. load_rel P T s code laws kind (wrapped (n + unsigned imm)) a b k)
  plain_rel (StoreInsn kind rs src imm) d x y v u a b z h k = number_rel (v 0) (u 0) (λ n. store_at s kind (v 1) (wrapped (n + unsigned imm)) a) (λ n. store_at (with_code s code) kind (u 1) (wrapped (n + unsigned imm)) b) (h 0) (λ n. store_rel P T s code laws kind (v 1) (u 1) (wrapped (n + unsigned imm)) a b (h 1) k)
  plain_rel (Fence word) d x y v u a b z h k = gives_rel P T s code laws (Num 0) (Num 0) a b refl k
  plain_rel Ecall d x y v u a b z h k =
      call_rel P T s code laws (record { a0 = v 0; a1 = v 1; a2 = v 2; a7 = v 3 }) (record { a0 = u 0; a1 = u 1; a2 = u 2; a7 = u 3 }) a b (record { a0 = h 0; a1 = h 1; a2 = h 2; a7 = h 3 }) k
  plain_rel (Atomic op order rd rs src) d x y v u a b z h k = number_rel (v 0) (u 0) (λ n. atomic_at s op n (v 1) a) (λ n. atomic_at (with_code s code) op n (u 1) b) (h 0) (λ n. atomic_rel P T s code laws op n (v 1) (u 1) a b (h 1) k)
  plain_rel insn d x y v u a b z h k = tt

  -- the lower half of one name stands for that of another
  pub record IsLowerTied (n m : ℕ) (imm imm' : ℤ) : Type 0 where
    pub address : SameValue T (address_value s n) (address_value (with_code s code) m)
    pub upper : (v u : Value) → SameValue T v u → is_upper_half n imm v ≡ true → is_upper_half m imm' u ≡ true

  pub lower_rel : (rd rs rd' rs' n m : ℕ) (imm imm' : ℤ) (v u : Operands) (a b : Store) → IsLowerTied n m imm imm' → SameValue T (v 0) (u 0) → SameStore P T a b → SameStep (row_of s (Lower n) (OpImm Addi rd rs imm) v a) (row_of (with_code s code) (Lower m) (OpImm Addi rd' rs' imm') u b)
  lower_rel rd rs rd' rs' n m imm imm' v u a b t h k =
      tested_half (is_upper_half n imm (v 0)) (is_upper_half m imm' (u 0)) (gives (address_value s n) a) (gives (address_value (with_code s code) m) b) (t.upper (v 0) (u 0) h) (gives_rel P T s code laws (address_value s n) (address_value (with_code s code) m) a b t.address k)

  pub upper_rel : (n m : ℕ) (w w' : Option ℕ) (a b : Store) → T.part n w (Tagged (Part m w')) → SameStore P T a b → SameStep (gives (Tagged (Part n w)) a) (gives (Tagged (Part m w')) b)
  upper_rel n m w w' a b t k = gives_rel P T s code laws (Tagged (Part n w)) (Tagged (Part m w')) a b t k
