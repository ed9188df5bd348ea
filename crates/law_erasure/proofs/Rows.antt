-- Each row, tagged and plain.
use Rattle.std.proofs.Common.{◌≡◌, ◌≢◌, ℕ, ◌+◌, ◌^◌, ◌<◌, ℤ, pos, Bool, true, false, not, ◌==◌, ◌&&◌, Option, Some, None, if◌then◌else◌, refl, sym, ap, ◌∙◌, subst, arith, nat_lt}
use Rattle.std.specs.Ordering.{int_eq}
use Rattle.std.proofs.lemmas.Bool.{and_parts, eqb-true}
use Rattle.std.proofs.lemmas.Bool.Decides.{nat_tests, Decides-int_eq}
use Rattle.byteorder.specs.Endian.{little_bytes}
use Rattle.sq_isa.specs.Words.{wrapped, unsigned, upper_word}
use Rattle.sq_isa.specs.Values.{value_of, value_imm_of}
use Rattle.sq_isa.specs.Branches.{taken_of}
use Rattle.sq_isa.specs.Accesses.{store_width}
use Rattle.sq_isa.specs.Uses.{destination_of}
use Rattle.sq_isa.specs.declared.instructions.Insn.{Insn}
use Rattle.sq_isa.specs.declared.instructions.Insn.TheVariants.{Lui, Load, Store as StoreInsn, OpImm, Op, Fence, Ecall, Atomic}
use Rattle.sq_isa.specs.declared.instructions.ImmOp.{ImmOp}
use Rattle.sq_isa.specs.declared.instructions.ImmOp.TheVariants.{Addi, Sltiu}
use Rattle.sq_isa.specs.declared.instructions.RegOp.{RegOp}
use Rattle.sq_isa.specs.declared.instructions.RegOp.TheVariants.{Sltu}
use Rattle.sq_isa.specs.declared.instructions.Cond.{Cond}
use Rattle.sq_isa.specs.declared.instructions.Cond.TheVariants.{Beq, Bne, Blt, Bge, Bltu, Bgeu}
use Rattle.sq_isa.specs.declared.instructions.LoadKind.{LoadKind}
use Rattle.sq_isa.specs.declared.instructions.StoreKind.{StoreKind}
use Rattle.law_runs.specs.Runs.{Went, Ended, Broke}
use Rattle.law_runs.specs.Simulation.{Matches}
use Rattle.sq_system.specs.World.{World}
use Rattle.sq_graph.specs.Lines.{Plain, Upper, Lower}
use Rattle.sq_system.specs.declared.event.Halt.TheVariants.{Store as StoreFault}
use Rattle.sq_machine.specs.State.{State, next_pc, with_bytes, advance, finish}
use Rattle.sq_machine.specs.Rows as plain
use Rattle.law_follow.specs.declared.kind.Kind.TheVariants.{Arithmetic, Half}
use Rattle.law_follow.specs.Values.{Tag, Code, Part, Value, Num, Tagged}
use Rattle.law_follow.specs.Settings.{Setting, Store, is_in_text}
use Rattle.law_follow.specs.Arithmetic.{zero_is_outside_text, tagged_imm, imm_value, tagged_op, op_value, taken_against_code, is_taken, is_upper_half}
use Rattle.law_follow.specs.Accesses.{Step, gives, gives_or_breaks, load_at, store_at, atomic_at}
use Rattle.law_follow.specs.Rows.{Operands, source, at_number, address_value, at_upper_half, row_of}
use Rattle.law_erasure.specs.Erasure.{Erasing, IsErasing, IsErasedTag, IsErased, IsErasedStore, IsErasedSetting}
use Rattle.law_erasure.proofs.Accessing.{Plainly, IsErasedMade, gives_erased, advance_erased, load_erased, store_erased, atomic_erased}
use Rattle.law_erasure.proofs.Calling.{call_erased}

module _ (P : ℕ → Type 0) (E : Erasing) (s : Setting) (w : World) (naming : IsErasing E s) (laid : IsErasedSetting P s w) where
  abbrev Same : ℕ → State → Step → Plainly → Type 0
  Same d b x y = Matches (IsErasedMade P E s w naming laid d (next_pc b) b.registers) x y

  -- an address of code isn't 0, where 0 is outside text
  not_zero : (n y : ℕ) → E.Names n → y ≡ E.address n → zero_is_outside_text s ≡ true → y ≢ 0
  not_zero n y names e z f =
      let a : is_in_text s 0 ≡ true = subst (λ x. is_in_text s x ≡ true) (sym e ∙ f) (naming.in_text n names) in
      go (is_in_text s 0) a z
    where
      go : (b : Bool) → b ≡ true → not b ≡ true → ⊥
      go true p q = absurd (cc)
      go false p q = absurd (cc)

  tag_small : (tag : Tag) (y : ℕ) → IsErasedTag E tag y → y < 2 ^ 32
  tag_small (Code n) y h = rw h.1 (naming.small n h.0)
  tag_small (Part n v) y h = rw h.1 (naming.word_small n v h.0)

  -- ARITHMETIC

  -- a result, and the number that the plain machine makes
  abbrev IsResult : Option Value → ℕ → Type 0
  IsResult None y = Unit {0}
  IsResult (Some v) y = IsErased E v y

  result_erased : (d y : ℕ) (o : Option Value) (a : Store) (b : State) → IsResult o y → IsErasedStore P E a b → Same d b (gives_or_breaks Arithmetic o a) (Went None (finish d y b))
  result_erased d y None a b h k = tt
  result_erased d y (Some v) a b h k = gives_erased P E s w naming laid d y v a b h k

  when : (t : Bool) (v : Value) (y : ℕ) → (t ≡ true → IsErased E v y) → IsResult (if t then Some v else None) y
  when true v y h = h refl
  when false v y h = tt

  copy_erased : (imm : ℤ) (tag : Tag) (y : ℕ) → IsErasedTag E tag y → IsResult (tagged_imm s Addi imm tag) (value_imm_of Addi y imm)
  copy_erased imm tag y h = when (int_eq imm (pos 0)) (Tagged tag) (value_imm_of Addi y imm) (λ e.
      let zero_ : imm ≡ pos 0 = (Decides-int_eq imm (pos 0)).0 e in
      let small = tag_small tag y h in
      let same : value_imm_of Addi y (pos 0) ≡ y = omega arith in
      rw (zero_, same) h)

  sltiu_erased : (imm : ℤ) (n y : ℕ) → IsErasedTag E (Code n) y → IsResult (tagged_imm s Sltiu imm (Code n)) (value_imm_of Sltiu y imm)
  sltiu_erased imm n y h = when (int_eq imm (pos 1) && zero_is_outside_text s) (Num 0) (value_imm_of Sltiu y imm) (λ e.
      let p = and_parts (int_eq imm (pos 1)) (zero_is_outside_text s) e in
      let one : imm ≡ pos 1 = (Decides-int_eq imm (pos 1)).0 p.0 in
      let more = not_zero n y h.0 h.1 p.1 in
      let test : nat_lt y 1 ≡ false = grind (arith, nat_tests) in
      rw (one, test) refl)

  imm_erased : (op : ImmOp) (imm : ℤ) (v : Value) (y : ℕ) → IsErased E v y → IsResult (imm_value s op imm v) (value_imm_of op y imm)
  imm_erased op imm (Num x) y h = rw h refl
  imm_erased Addi imm (Tagged tag) y h = copy_erased imm tag y h
  imm_erased Sltiu imm (Tagged (Code n)) y h = sltiu_erased imm n y h
  imm_erased op imm (Tagged tag) y h = tt

  sltu_erased : (a n x y : ℕ) → IsErasedTag E (Code n) y → (a ≡ 0 → x ≡ 0) → IsResult (tagged_op s Sltu a (Code n)) (value_of Sltu x y)
  sltu_erased a n x y h z = when (a == 0 && zero_is_outside_text s) (Num 1) (value_of Sltu x y) (λ e.
      let p = and_parts (a == 0) (zero_is_outside_text s) e in
      let more = not_zero n y h.0 h.1 p.1 in
      let zero_ : x ≡ 0 = z (eqb-true a 0 p.0) in
      let test : nat_lt 0 y ≡ true = grind (arith, nat_tests) in
      rw (zero_, test) refl)

  op_erased : (op : RegOp) (a x y : ℕ) (v u : Value) → IsErased E v x → IsErased E u y → (a ≡ 0 → x ≡ 0) → IsResult (op_value s op a v u) (value_of op x y)
  op_erased op a x y (Num m) (Num n) h k z = rw (h, k) refl
  op_erased Sltu a x y (Num m) (Tagged (Code n)) h k z = sltu_erased a n x y k z
  op_erased op a x y (Num m) (Tagged tag) h k z = tt
  op_erased op a x y (Tagged tag) u h k z = tt

  -- at the number of a register
  number_erased : (d : ℕ) (v : Value) (y : ℕ) (b : State) (f : ℕ → Step) (g : ℕ → Plainly) → IsErased E v y → ((x : ℕ) → Same d b (f x) (g x)) → Same d b (at_number v f) (g y)
  number_erased d (Num x) y b f g h k = rw h (k x)
  number_erased d (Tagged tag) y b f g h k = tt

  abbrev pub AreErasedOperands : Insn → Operands → State → Type 0
  AreErasedOperands insn v b = (i : ℕ) → IsErased E (v i) (b.registers (source insn i))

  -- THE ERASURE LAW, for instructions without a half of an address
  pub plain_erased : (insn : Insn) (v : Operands) (a : Store) (b : State) → b.registers 0 ≡ 0 → AreErasedOperands insn v b → IsErasedStore P E a b → Same (destination_of insn) b (row_of s Plain insn v a) (plain.row_of w b insn)
  plain_erased (Lui rd upper) v a b z h k = gives_erased P E s w naming laid rd (upper_word upper) (Num (upper_word upper)) a b refl k
  plain_erased (Load kind rd rs offset) v a b z h k =
      number_erased rd (v 0) (b.registers rs) b (λ x. load_at s kind (wrapped (x + unsigned offset)) a) (λ y. plain.load_step (wrapped (y + unsigned offset)) rd b (plain.loaded kind b.memory (wrapped (y + unsigned offset)))) (h 0)
      (λ x. load_erased P E s w naming laid kind (wrapped (x + unsigned offset)) rd a b (omega arith) k)
  plain_erased (StoreInsn kind rs src offset) v a b z h k =
      number_erased 0 (v 0) (b.registers rs) b (λ x. store_at s kind (v 1) (wrapped (x + unsigned offset)) a) (λ y. if plain.may_store w (wrapped (y + unsigned offset)) (store_width kind) then Went None (advance (with_bytes (wrapped (y + unsigned offset)) (little_bytes (store_width kind) (b.registers src)) b)) else Ended (StoreFault (wrapped (y + unsigned offset)))) (h 0)
      (λ x. store_erased P E s w naming laid kind (v 1) (b.registers src) (wrapped (x + unsigned offset)) a b (h 1) k)
  plain_erased (OpImm op rd rs imm) v a b z h k = result_erased rd (value_imm_of op (b.registers rs) imm) (imm_value s op imm (v 0)) a b (imm_erased op imm (v 0) (b.registers rs) (h 0)) k
  plain_erased (Op op rd x y) v a b z h k = result_erased rd (value_of op (b.registers x) (b.registers y)) (op_value s op x (v 0) (v 1)) a b (op_erased op x (b.registers x) (b.registers y) (v 0) (v 1) (h 0) (h 1) (λ e. ap b.registers e ∙ z)) k
  plain_erased (Fence word) v a b z h k = advance_erased P E s w naming laid (Num 0) 0 a b refl k
  plain_erased Ecall v a b z h k = call_erased P E s w naming laid (v 0) (v 1) (v 2) (v 3) a b (h 0) (h 1) (h 2) (h 3) k
  plain_erased (Atomic op order rd rs src) v a b z h k = atomic_row_erased (v 0) refl (h 0)
    where
      atomic_row_erased : (u : Value) → v 0 ≡ u → IsErased E u (b.registers rs) → Same rd b (at_number u (λ x. atomic_at s op x (v 1) a)) (plain.atomic_row w op rd rs src b)
      atomic_row_erased (Num x) e f = subst (λ x. Same rd b (atomic_at s op x (v 1) a) (plain.atomic_row w op rd rs src b)) f (atomic_erased P E s w naming laid op rd rs src (v 1) a b (h 1) k)
      atomic_row_erased (Tagged tag) e f = tt
  plain_erased insn v a b z h k = tt

  -- an upper half, and the word that is made
  pub upper_erased : (n d y : ℕ) (word : Option ℕ) (insn : Insn) (v : Operands) (a : Store) (b : State) → E.Halves n word → y ≡ E.word n word → IsErasedStore P E a b → Same d b (row_of s (Upper n word) insn v a) (Went None (finish d y b))
  upper_erased n d y word insn v a b e h k = gives_erased P E s w naming laid d y (Tagged (Part n word)) a b (e, h) k

  -- where a value is the upper half of this name, it and the immediate are this number
  abbrev pub AddUp : ℕ → ℤ → ℤ → ℕ → Type 0
  AddUp n imm imm' to = (v : Value) (y : ℕ) → IsErased E v y → is_upper_half n imm v ≡ true → wrapped (y + unsigned imm') ≡ to

  at_half : (n d : ℕ) (imm : ℤ) (v : Value) (b : State) (x : Step) (y : Plainly) → (is_upper_half n imm v ≡ true → Same d b x y) → Same d b (at_upper_half n imm v x) y
  at_half n d imm v b x y h = go (is_upper_half n imm v) refl
    where
      go : (t : Bool) → is_upper_half n imm v ≡ t → Same d b (if t then x else Broke Half) y
      go true e = h e
      go false e = tt

  -- `addi` with a lower half
  pub addi_erased : (n to rd rs : ℕ) (imm imm' : ℤ) (v : Operands) (a : Store) (b : State) → AddUp n imm imm' to → IsErased E (address_value s n) to → IsErased E (v 0) (b.registers rs) → IsErasedStore P E a b → Same rd b (row_of s (Lower n) (OpImm Addi rd rs imm) v a) (plain.row_of w b (OpImm Addi rd rs imm'))
  addi_erased n to rd rs imm imm' v a b add value h k =
      at_half n rd imm (v 0) b (gives (address_value s n) a) (Went None (finish rd (value_imm_of Addi (b.registers rs) imm') b))
      (λ e. let q : value_imm_of Addi (b.registers rs) imm' ≡ to = add (v 0) (b.registers rs) h e in gives_erased P E s w naming laid rd (value_imm_of Addi (b.registers rs) imm') (address_value s n) a b (subst (IsErased E (address_value s n)) (sym q) value) k)

  -- a load and a store with a lower half of this number
  pub load_half_erased : (n rd rs : ℕ) (kind : LoadKind) (imm imm' : ℤ) (v : Operands) (a : Store) (b : State) → n < 2 ^ 32 → AddUp n imm imm' n → IsErased E (v 0) (b.registers rs) → IsErasedStore P E a b → Same rd b (row_of s (Lower n) (Load kind rd rs imm) v a) (plain.row_of w b (Load kind rd rs imm'))
  load_half_erased n rd rs kind imm imm' v a b small add h k =
      at_half n rd imm (v 0) b (load_at s kind n a) (plain.load_row kind rd rs imm' b)
      (λ e. subst (λ x. Same rd b (load_at s kind n a) (plain.load_step x rd b (plain.loaded kind b.memory x))) (sym (add (v 0) (b.registers rs) h e)) (load_erased P E s w naming laid kind n rd a b small k))

  pub store_half_erased : (n rs src : ℕ) (kind : StoreKind) (imm imm' : ℤ) (v : Operands) (a : Store) (b : State) → AddUp n imm imm' n → IsErased E (v 0) (b.registers rs) → IsErased E (v 1) (b.registers src) → IsErasedStore P E a b → Same 0 b (row_of s (Lower n) (StoreInsn kind rs src imm) v a) (plain.row_of w b (StoreInsn kind rs src imm'))
  store_half_erased n rs src kind imm imm' v a b add h g k =
      at_half n 0 imm (v 0) b (store_at s kind (v 1) n a) (plain.store_row w kind rs src imm' b)
      (λ e. subst (λ x. Same 0 b (store_at s kind (v 1) n a) (if plain.may_store w x (store_width kind) then Went None (advance (with_bytes x (little_bytes (store_width kind) (b.registers src)) b)) else Ended (StoreFault x))) (sym (add (v 0) (b.registers rs) h e)) (store_erased P E s w naming laid kind (v 1) (b.registers src) n a b g k))

  -- BRANCHES

  against_zero : (cond : Cond) (m n x y : ℕ) (t : Bool) → x ≡ m → E.Names n → y ≡ E.address n → taken_against_code s cond m ≡ Some t → (taken_of cond x y ≡ t) × (taken_of cond y x ≡ t)
  against_zero Beq m n x y t h names e f = go (m == 0 && zero_is_outside_text s) refl f
    where
      go : (c : Bool) → (m == 0 && zero_is_outside_text s) ≡ c → (if c then Some false else None) ≡ Some t → (taken_of Beq x y ≡ t) × (taken_of Beq y x ≡ t)
      go true g k =
          let p = and_parts (m == 0) (zero_is_outside_text s) g in
          let z : x ≡ 0 = h ∙ eqb-true m 0 p.0 in
          let more = not_zero n y names e p.1 in
          let q : false ≡ t = cc in
          let a : (x == y) ≡ false = grind (arith, nat_tests) in
          let b : (y == x) ≡ false = grind (arith, nat_tests) in
          (a ∙ q, b ∙ q)
      go false g k = absurd (cc)
  against_zero Bne m n x y t h names e f = go (m == 0 && zero_is_outside_text s) refl f
    where
      go : (c : Bool) → (m == 0 && zero_is_outside_text s) ≡ c → (if c then Some true else None) ≡ Some t → (taken_of Bne x y ≡ t) × (taken_of Bne y x ≡ t)
      go true g k =
          let p = and_parts (m == 0) (zero_is_outside_text s) g in
          let z : x ≡ 0 = h ∙ eqb-true m 0 p.0 in
          let more = not_zero n y names e p.1 in
          let q : true ≡ t = cc in
          let a : (x == y) ≡ false = grind (arith, nat_tests) in
          let b : (y == x) ≡ false = grind (arith, nat_tests) in
          (ap not a ∙ q, ap not b ∙ q)
      go false g k = absurd (cc)
  against_zero Blt m n x y t h names e f = absurd (cc)
  against_zero Bge m n x y t h names e f = absurd (cc)
  against_zero Bltu m n x y t h names e f = absurd (cc)
  against_zero Bgeu m n x y t h names e f = absurd (cc)

  pub taken_erased : (cond : Cond) (v u : Value) (x y : ℕ) (t : Bool) → IsErased E v x → IsErased E u y → is_taken s cond v u ≡ Some t → taken_of cond x y ≡ t
  taken_erased cond (Num m) (Num n) x y t h k e = rw (h, k) (let q : taken_of cond m n ≡ t = cc in q)
  taken_erased cond (Num m) (Tagged (Code n)) x y t h k e = (against_zero cond m n x y t h k.0 k.1 e).0
  taken_erased cond (Num m) (Tagged (Part n word)) x y t h k e = absurd (cc)
  taken_erased cond (Tagged (Code n)) (Num m) x y t h k e = (against_zero cond m n y x t k h.0 h.1 e).1
  taken_erased cond (Tagged (Part n word)) (Num m) x y t h k e = absurd (cc)
  taken_erased cond (Tagged tag) (Tagged other) x y t h k e = absurd (cc)
