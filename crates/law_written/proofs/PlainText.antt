-- No step of the plain machine changes text, where the tagged step doesn't break.
use Rattle.std.proofs.Common.{◌≡◌, ◌⊎◌, inl, inr, ℕ, ◌+◌, ◌-◌, ◌^◌, ◌<◌, ◌≤◌, Bool, true, false, not, ◌==◌, ◌&&◌, ◌||◌, List, length, take, length-take, min, max, Option, Some, None, if◌then◌else◌, refl, sym, ◌∙◌, subst, arith, nat_lt, nat_le}
use Rattle.std.proofs.lemmas.Bool.{and_parts, eqb-true, cases_lt, not-false, or_parts}
use Rattle.std.proofs.lemmas.Bool.Decides.{nat_tests}
use Rattle.byteorder.specs.Endian.{little_bytes}
use Rattle.sq_isa.specs.Words.{wrapped, unsigned, upper_word}
use Rattle.sq_isa.specs.Values.{value_of, value_imm_of}
use Rattle.sq_isa.specs.Accesses.{store_width, is_aligned, is_reserved}
use Rattle.sq_isa.specs.Atomics.{atomic_value_of}
use Rattle.sq_isa.specs.declared.instructions.Insn.{Insn}
use Rattle.sq_isa.specs.declared.instructions.Insn.TheVariants.{Lui, Load, Store as StoreInsn, OpImm, Op, Fence, Ecall, Atomic}
use Rattle.sq_isa.specs.declared.instructions.StoreKind.{StoreKind}
use Rattle.sq_isa.specs.declared.instructions.StoreKind.TheVariants.{Sb, Sh, Sw}
use Rattle.sq_isa.specs.declared.instructions.AtomicOp.{AtomicOp}
use Rattle.sq_isa.specs.declared.instructions.AtomicOp.TheVariants.{Lr, Sc, Swap, Add, Xor, And, Or, Min, Max, MinU, MaxU}
use Rattle.law_runs.specs.Runs.{Went, Ended, Broke}
use Rattle.sq_memory.specs.Cells.{Cells, with_cells}
use Rattle.sq_memory.proofs.RangeLaws.{with_cells-apart}
use Rattle.sq_system.specs.World.{World as Layout, is_writable, are_all, is_range}
use Rattle.sq_system.specs.Calls.{effect_of, read_effect, write_effect}
use Rattle.sq_system.specs.declared.call.CallArgs.{CallArgs}
use Rattle.sq_system.specs.declared.call.Effect.{Effect}
use Rattle.sq_system.specs.declared.call.Effect.TheVariants.{Exit, Write, Read, Brk, Fail, Ask}
use Rattle.sq_system.specs.declared.event.Halt.TheVariants.{Store as StoreFault}
use Rattle.sq_machine.specs.State.{State, aligned_number, with_register, with_bytes, with_reservation, without_input, jump, advance, finish}
use Rattle.sq_machine.specs.Rows as plain
use Rattle.sq_machine.specs.Calls as calls
use Rattle.sq_graph.specs.Lines.{Plain}
use Rattle.law_follow.specs.declared.kind.Kind.{Kind}
use Rattle.law_follow.specs.declared.kind.Kind.TheVariants.{Fragment, Text, Call}
use Rattle.law_follow.specs.Values.{Value, Num, Tagged, is_tagged}
use Rattle.law_follow.specs.Settings.{Setting, Store, is_in_text, meets_text, may_store}
use Rattle.law_follow.specs.Accesses.{Step, gives, stored, store_at, is_word, atomic_row, atomic_at}
use Rattle.law_follow.specs.Calls.{CallOperands, has_tagged, number_in, call_of, takes_buffer, effect_row, args_row, call_row}
use Rattle.law_follow.specs.Rows.{Operands, source, at_number, row_of}
use Rattle.law_erasure.specs.Erasure.{Erasing, IsErased}
use Rattle.law_erasure.proofs.Accessing.{Plainly}

-- only a read from 0 writes to memory, and no more than its buffer, which is writable
abbrev IsGuarded : CallArgs → Effect → Type 0
IsGuarded call (Exit status) = Unit {0}
IsGuarded call (Write fd) = Unit {0}
IsGuarded call (Read count) = ((call.number == 63) ≡ true) × ((call.a0 == 0) ≡ true) × (call.writable ≡ true) × (count ≤ call.a2)
IsGuarded call (Brk answer) = Unit {0}
IsGuarded call (Fail code) = Unit {0}
IsGuarded call Ask = Unit {0}

either : (P : Effect → Type 0) (b : Bool) (x y : Effect) → (b ≡ true → P x) → (b ≡ false → P y) → P (if b then x else y)
either P true x y f g = f refl
either P false x y f g = g refl

least_first : (a b : ℕ) → min a b ≤ a
least_first a b = omega arith

read_guarded : (call : CallArgs) → (call.number == 63) ≡ true → IsGuarded call (read_effect call)
read_guarded call n =
    either (IsGuarded call) (not (call.a0 == 0)) _ _ (λ e. tt)
    (λ e. either (IsGuarded call) (not call.writable) _ _ (λ f. tt) (λ f. (n, not-false (call.a0 == 0) e, not-false call.writable f, least_first call.a2 call.left)))

write_guarded : (call : CallArgs) → IsGuarded call (write_effect call)
write_guarded call =
    either (IsGuarded call) (not (call.a0 == 1 || call.a0 == 2)) _ _ (λ e. tt)
    (λ e. either (IsGuarded call) (not call.readable) _ _ (λ f. tt) (λ f. tt))

effect_guarded : (call : CallArgs) → IsGuarded call (effect_of call)
effect_guarded call =
    either (IsGuarded call) (call.number == 93) _ _ (λ _. tt)
    (λ _. either (IsGuarded call) (call.number == 94) _ _ (λ _. tt)
    (λ _. either (IsGuarded call) (call.number == 63) _ _ (λ e. read_guarded call e)
    (λ _. either (IsGuarded call) (call.number == 64) _ _ (λ _. write_guarded call)
    (λ _. either (IsGuarded call) (call.number == 214) _ _ (λ _. tt) (λ _. tt)))))

-- unless the tagged step breaks
abbrev pub Unbroken : Step → Type 0 → Type 0
Unbroken (Went e made) T = T
Unbroken (Ended h) T = T
Unbroken (Broke k) T = Unit {0}

pub surely : (x : Step) (T : Type 0) → T → Unbroken x T
surely (Went e made) T t = t
surely (Ended h) T t = t
surely (Broke k) T t = tt

tested : (b : Bool) (k : Kind) (x : Step) (T : Type 0) → (b ≡ false → Unbroken x T) → Unbroken (if b then Broke k else x) T
tested true k x T h = tt
tested false k x T h = h refl

module _ (s : Setting) where
  -- no byte of a range that doesn't meet text is in text
  pub outside_text : (x n : ℕ) → x + n ≤ 2 ^ 32 → meets_text s x n ≡ false → (i : ℕ) → i < n → is_in_text s (x + i) ≡ false
  outside_text x n small m i l = go (is_in_text s (x + i)) refl
    where
      go : (b : Bool) → is_in_text s (x + i) ≡ b → b ≡ false
      go false e = refl
      go true e =
          let p = and_parts (nat_le s.lo (x + i)) (nat_lt (x + i) s.hi) e in
          let lo : s.lo ≤ x + i = let h = p.0 in grind (arith, nat_tests) in
          let hi : x + i < s.hi = let h = p.1 in grind (arith, nat_tests) in
          let a : nat_le (x + n) (2 ^ 32) ≡ true = grind (arith, nat_tests) in
          let b : nat_lt (max s.lo x) (min s.hi (x + n)) ≡ true = let k : max s.lo x < min s.hi (x + n) = omega (arith, lo, hi, l) in grind (arith, nat_tests) in
          absurd (let k : meets_text s x n ≡ true = rw (a, b) refl in let f : true ≡ false = sym k ∙ m in cc)

  apart : (x n y : ℕ) → x + n ≤ 2 ^ 32 → meets_text s x n ≡ false → is_in_text s y ≡ true → (y < x) ⊎ (x + n ≤ y)
  apart x n y small m e =
      elim (cases_lt y x) [ inl less ↦ inl less | inr from ↦ elim (cases_lt y (x + n)) [ inl below ↦ absurd (inside from below) | inr behind ↦ inr behind ] ]
    where
      inside : x ≤ y → y < x + n → ⊥
      inside from below =
          let i : ℕ = y - x in
          let same : x + i ≡ y = omega (arith, from) in
          let out : is_in_text s y ≡ false = subst (λ z. is_in_text s z ≡ false) same (outside_text x n small m i (omega (arith, from, below))) in
          let f : true ≡ false = sym e ∙ out in
          cc

  range_fits : (test : ℕ → Bool) (x n : ℕ) → is_range test x n ≡ true → x + n ≤ 2 ^ 32
  range_fits test x n e = let f = (and_parts (nat_le (x + n) (2 ^ 32)) (are_all test x n) e).0 in grind (arith, nat_tests)

  -- bytes that are written outside text
  written_apart : (bs : List ℕ) (m : Cells ℕ) (x n : ℕ) → length bs ≤ n → x + n ≤ 2 ^ 32 → meets_text s x n ≡ false → (y : ℕ) → is_in_text s y ≡ true → with_cells m x bs y ≡ m y
  written_apart bs m x n few small out y e = with_cells-apart bs m x y (go (apart x n y small out e))
    where
      go : (y < x) ⊎ (x + n ≤ y) → (y < x) ⊎ (x + length bs ≤ y)
      go (inl f) = inl f
      go (inr f) = inr (omega (arith, f, few))

  -- text is as it was behind the step
  abbrev pub KeepsText : State → Plainly → Type 0
  KeepsText b (Went e c) = (y : ℕ) → is_in_text s y ≡ true → c.memory y ≡ b.memory y
  KeepsText b (Ended h) = Unit {0}
  KeepsText b (Broke k) = Unit {0}

  store_length : (kind : StoreKind) (y : ℕ) → length (little_bytes (store_width kind) y) ≤ store_width kind
  store_length Sb y = omega arith
  store_length Sh y = omega arith
  store_length Sw y = omega arith

  word_length : (y : ℕ) → length (little_bytes 4 y) ≤ 4
  word_length y = omega arith

  module _ (w : Layout) where
    may_fits : (x n : ℕ) → plain.may_store w x n ≡ true → x + n ≤ 2 ^ 32
    may_fits x n e = range_fits (is_writable w) x n (and_parts (is_aligned x n) (is_range (is_writable w) x n) e).1

    where_may : (t : Bool) (b : State) (x : ℕ) (y : Plainly) → (t ≡ true → KeepsText b y) → KeepsText b (if t then y else Ended (StoreFault x))
    where_may true b x y h = h refl
    where_may false b x y h = tt

    -- LOADS AND STORES

    load_keeps : (x d : ℕ) (b : State) (o : Option ℕ) → KeepsText b (plain.load_step x d b o)
    unfolding jump with_register
    load_keeps x d b None = tt
    load_keeps x d b (Some v) = λ y e. refl

    write_keeps : (x n : ℕ) (bs : List ℕ) (b : State) → length bs ≤ n → x + n ≤ 2 ^ 32 → meets_text s x n ≡ false → KeepsText b (Went None (advance (with_bytes x bs b)))
    unfolding jump with_bytes
    write_keeps x n bs b few small out = λ y e. written_apart bs b.memory x n few small out y e

    store_keeps : (kind : StoreKind) (v : Value) (y x : ℕ) (a : Store) (b : State) → Unbroken (store_at s kind v x a) (KeepsText b (if plain.may_store w x (store_width kind) then Went None (advance (with_bytes x (little_bytes (store_width kind) y) b)) else Ended (StoreFault x)))
    store_keeps kind v y x a b =
        let bytes : List ℕ = little_bytes (store_width kind) y in
        let T : Type 0 = KeepsText b (if plain.may_store w x (store_width kind) then Went None (advance (with_bytes x bytes b)) else Ended (StoreFault x)) in
        let inner : Step = if may_store s x (store_width kind) then gives (Num 0) (stored x (store_width kind) v a) else Ended (StoreFault x) in
        tested (is_tagged v && not (is_word kind)) Fragment (if meets_text s x (store_width kind) then Broke Text else inner) T
        (λ f. tested (meets_text s x (store_width kind)) Text inner T
        (λ out. surely inner T
        (where_may (plain.may_store w x (store_width kind)) b x (Went None (advance (with_bytes x bytes b)))
        (λ may. write_keeps x (store_width kind) bytes b (store_length kind y) (may_fits x (store_width kind) may) out))))

    -- ATOMIC OPERATIONS

    lr_keeps : (x d : ℕ) (b : State) (o : Option ℕ) → KeepsText b (plain.lr_step x d b o)
    unfolding jump with_register with_reservation
    lr_keeps x d b None = tt
    lr_keeps x d b (Some v) = λ y e. refl

    sc_keeps : (x d src : ℕ) (b : State) (t : Bool) → x + 4 ≤ 2 ^ 32 → meets_text s x 4 ≡ false → KeepsText b (Went None (plain.sc_step x d src b t))
    unfolding jump with_register with_reservation with_bytes
    sc_keeps x d src b true small out = λ y e. written_apart (little_bytes 4 src) b.memory x 4 (word_length src) small out y e
    sc_keeps x d src b false small out = λ y e. refl

    amo_keeps : (op : AtomicOp) (x d src : ℕ) (b : State) (o : Option ℕ) → x + 4 ≤ 2 ^ 32 → meets_text s x 4 ≡ false → KeepsText b (plain.amo_step op x d src b o)
    unfolding jump with_register with_bytes
    amo_keeps op x d src b None small out = tt
    amo_keeps op x d src b (Some old) small out = λ y e. written_apart (little_bytes 4 (atomic_value_of op old src)) b.memory x 4 (word_length (atomic_value_of op old src)) small out y e

    amo_row_keeps : (op : AtomicOp) (d rs src : ℕ) (b : State) → meets_text s (b.registers rs) 4 ≡ false → KeepsText b (plain.amo_row w op d rs src b)
    amo_row_keeps op d rs src b out =
        let x : ℕ = b.registers rs in
        where_may (plain.may_store w x 4) b x (plain.amo_step op x d (b.registers src) b (aligned_number b.memory x 4))
        (λ may. amo_keeps op x d (b.registers src) b (aligned_number b.memory x 4) (may_fits x 4 may) out)

    atomic_row_keeps : (op : AtomicOp) (d rs src : ℕ) (b : State) → meets_text s (b.registers rs) 4 ≡ false → KeepsText b (plain.atomic_row w op d rs src b)
    atomic_row_keeps Lr d rs src b out = lr_keeps (b.registers rs) d b (aligned_number b.memory (b.registers rs) 4)
    atomic_row_keeps Sc d rs src b out =
        let x : ℕ = b.registers rs in
        where_may (plain.may_store w x 4) b x (Went None (plain.sc_step x d (b.registers src) b (is_reserved x b.reservation)))
        (λ may. sc_keeps x d (b.registers src) b (is_reserved x b.reservation) (may_fits x 4 may) out)
    atomic_row_keeps Swap d rs src b out = amo_row_keeps Swap d rs src b out
    atomic_row_keeps Add d rs src b out = amo_row_keeps Add d rs src b out
    atomic_row_keeps Xor d rs src b out = amo_row_keeps Xor d rs src b out
    atomic_row_keeps And d rs src b out = amo_row_keeps And d rs src b out
    atomic_row_keeps Or d rs src b out = amo_row_keeps Or d rs src b out
    atomic_row_keeps Min d rs src b out = amo_row_keeps Min d rs src b out
    atomic_row_keeps Max d rs src b out = amo_row_keeps Max d rs src b out
    atomic_row_keeps MinU d rs src b out = amo_row_keeps MinU d rs src b out
    atomic_row_keeps MaxU d rs src b out = amo_row_keeps MaxU d rs src b out

    -- SYSTEM CALLS

    -- what a read writes is outside text
    abbrev ReadsApart : CallArgs → State → Effect → Type 0
    ReadsApart call b (Read count) = (y : ℕ) → is_in_text s y ≡ true → with_cells b.memory call.a1 (take count b.input) y ≡ b.memory y
    ReadsApart call b effect = Unit {0}

    called_keeps : (call : CallArgs) (b : State) (effect : Effect) → ReadsApart call b effect → KeepsText b (calls.called call b effect)
    unfolding jump with_register with_bytes without_input
    called_keeps call b (Exit status) h = tt
    called_keeps call b (Write fd) h = λ y e. refl
    called_keeps call b (Read count) h = h
    called_keeps call b (Brk answer) h = λ y e. refl
    called_keeps call b (Fail code) h = λ y e. refl
    called_keeps call b Ask h = λ y e. refl

    taken_few : (n : ℕ) (bs : List ℕ) → length (take n bs) ≤ n
    taken_few n bs = let e = length-take n bs in omega (arith, e)

    reads_apart : (call : CallArgs) (b : State) (effect : Effect) → IsGuarded call effect → ((call.number == 63) ≡ true → (call.a0 == 0) ≡ true → meets_text s call.a1 call.a2 ≡ false) → (call.writable ≡ true → call.a1 + call.a2 ≤ 2 ^ 32) → ReadsApart call b effect
    reads_apart call b (Exit status) g out small = tt
    reads_apart call b (Write fd) g out small = tt
    reads_apart call b (Read count) g out small =
        let few = taken_few count b.input in
        let most = g.3 in
        written_apart (take count b.input) b.memory call.a1 call.a2 (omega (arith, few, most)) (small g.2) (out g.0 g.1)
    reads_apart call b (Brk answer) g out small = tt
    reads_apart call b (Fail code) g out small = tt
    reads_apart call b Ask g out small = tt

module _ (E : Erasing) (s : Setting) (w : Layout) where
  abbrev Keeps : State → Step → Plainly → Type 0
  Keeps b x y = Unbroken x (KeepsText s b y)

  -- an argument that isn't tagged is its number
  numbered : (v : Value) (y : ℕ) → is_tagged v ≡ false → IsErased E v y → number_in v ≡ y
  numbered (Num x) y e h = sym h
  numbered (Tagged tag) y e h = absurd (cc)

  abbrev Regs : Value → Value → Value → Value → CallOperands
  Regs v0 v1 v2 v7 = record { a0 = v0; a1 = v1; a2 = v2; a7 = v7 }

  -- a read whose arguments are numbers has its buffer outside text, or breaks
  buffer_apart : (n : ℕ) (v0 v1 v2 v7 : Value) (x0 x1 x2 : ℕ) (a : Store) → IsErased E v0 x0 → IsErased E v1 x1 → IsErased E v2 x2 → has_tagged n (Regs v0 v1 v2 v7) ≡ false → (takes_buffer (call_of s n (Regs v0 v1 v2 v7) a) && meets_text s (number_in v1) (number_in v2)) ≡ false → (n == 63) ≡ true → (x0 == 0) ≡ true → meets_text s x1 x2 ≡ false
  buffer_apart n v0 v1 v2 v7 x0 x1 x2 a h0 h1 h2 tags out e z =
      let m : n ≡ 63 = eqb-true n 63 e in
      let none : (is_tagged v0 || is_tagged v1 || is_tagged v2) ≡ false = subst (λ k. has_tagged k (Regs v0 v1 v2 v7) ≡ false) m tags in
      let last = or_parts (is_tagged v0 || is_tagged v1) (is_tagged v2) none in
      let first = or_parts (is_tagged v0) (is_tagged v1) last.0 in
      let zero_ : (number_in v0 == 0) ≡ true = rw (numbered v0 x0 first.0 h0) z in
      let buffer : ((63 == 63 && number_in v0 == 0) || false) ≡ true = rw zero_ refl in
      let some : (((63 == 63 && number_in v0 == 0) || (63 == 64 && (number_in v0 == 1 || number_in v0 == 2))) && meets_text s (number_in v1) (number_in v2)) ≡ false = subst (λ k. (takes_buffer (call_of s k (Regs v0 v1 v2 v7) a) && meets_text s (number_in v1) (number_in v2)) ≡ false) m out in
      let apart_ : meets_text s (number_in v1) (number_in v2) ≡ false = rw zero_ at some in
      subst (λ k. meets_text s x1 k ≡ false) (numbered v2 x2 last.1 h2) (subst (λ k. meets_text s k (number_in v2) ≡ false) (numbered v1 x1 first.1 h1) apart_)

  call_keeps : (v0 v1 v2 v7 : Value) (a : Store) (b : State) → IsErased E v0 (b.registers 10) → IsErased E v1 (b.registers 11) → IsErased E v2 (b.registers 12) → IsErased E v7 (b.registers 17) → Keeps b (call_row s (Regs v0 v1 v2 v7) a) (calls.call_row w b)
  unfolding calls.call_of
  call_keeps v0 v1 v2 (Tagged tag) a b h0 h1 h2 h7 = tt
  call_keeps v0 v1 v2 (Num n) a b h0 h1 h2 h7 =
      let r : CallOperands = Regs v0 v1 v2 (Num n) in
      let tagged : CallArgs = call_of s n r a in
      let call : CallArgs = calls.call_of w b in
      let T : Type 0 = KeepsText s b (calls.call_row w b) in
      tested (has_tagged n r) Call (args_row s tagged a) T
      (λ tags. tested (takes_buffer tagged && meets_text s tagged.a1 tagged.a2) Text (effect_row tagged a (effect_of tagged)) T
      (λ out. surely (effect_row tagged a (effect_of tagged)) T
      (called_keeps s w call b (effect_of call)
      (reads_apart s w call b (effect_of call) (effect_guarded call)
      (λ e z. buffer_apart n v0 v1 v2 (Num n) (b.registers 10) (b.registers 11) (b.registers 12) a h0 h1 h2 tags out (subst (λ k. (k == 63) ≡ true) h7 e) z)
      (λ e. range_fits s (is_writable w) (b.registers 11) (b.registers 12) e)))))

  number_keeps : (v : Value) (z : ℕ) (b : State) (f : ℕ → Step) (g : ℕ → Plainly) → IsErased E v z → ((x : ℕ) → Keeps b (f x) (g x)) → Keeps b (at_number v f) (g z)
  number_keeps (Num x) z b f g h k = rw h (k x)
  number_keeps (Tagged tag) z b f g h k = tt

  pub finish_keeps : (d y : ℕ) (b : State) → KeepsText s b (Went None (finish d y b))
  unfolding jump with_register
  finish_keeps d y b = λ x e. refl

  advance_keeps : (b : State) → KeepsText s b (Went None (advance b))
  unfolding jump
  advance_keeps b = λ x e. refl

  atomic_keeps : (op : AtomicOp) (d rs src : ℕ) (u v : Value) (a : Store) (b : State) → IsErased E u (b.registers rs) → Keeps b (at_number u (λ x. atomic_at s op x v a)) (plain.atomic_row w op d rs src b)
  atomic_keeps op d rs src (Tagged tag) v a b h = tt
  atomic_keeps op d rs src (Num x) v a b h =
      let T : Type 0 = KeepsText s b (plain.atomic_row w op d rs src b) in
      tested (meets_text s x 4) Text (atomic_row s op x v a) T
      (λ out. surely (atomic_row s op x v a) T (atomic_row_keeps s w op d rs src b (rw h out)))

  -- instructions without a half of an address
  pub plain_keeps : (insn : Insn) (v : Operands) (a : Store) (b : State) → ((i : ℕ) → IsErased E (v i) (b.registers (source insn i))) → Keeps b (row_of s Plain insn v a) (plain.row_of w b insn)
  plain_keeps (Lui rd upper) v a b h = finish_keeps rd (upper_word upper) b
  plain_keeps (Load kind rd rs offset) v a b h = surely (row_of s Plain (Load kind rd rs offset) v a) (KeepsText s b (plain.load_row kind rd rs offset b)) (load_keeps s w (wrapped (b.registers rs + unsigned offset)) rd b (plain.loaded kind b.memory (wrapped (b.registers rs + unsigned offset))))
  plain_keeps (StoreInsn kind rs src offset) v a b h =
      number_keeps (v 0) (b.registers rs) b (λ x. store_at s kind (v 1) (wrapped (x + unsigned offset)) a) (λ y. if plain.may_store w (wrapped (y + unsigned offset)) (store_width kind) then Went None (advance (with_bytes (wrapped (y + unsigned offset)) (little_bytes (store_width kind) (b.registers src)) b)) else Ended (StoreFault (wrapped (y + unsigned offset)))) (h 0)
      (λ x. store_keeps s w kind (v 1) (b.registers src) (wrapped (x + unsigned offset)) a b)
  plain_keeps (OpImm op rd rs imm) v a b h = surely (row_of s Plain (OpImm op rd rs imm) v a) (KeepsText s b (plain.op_imm_row op rd rs imm b)) (finish_keeps rd (value_imm_of op (b.registers rs) imm) b)
  plain_keeps (Op op rd x y) v a b h = surely (row_of s Plain (Op op rd x y) v a) (KeepsText s b (plain.op_row op rd x y b)) (finish_keeps rd (value_of op (b.registers x) (b.registers y)) b)
  plain_keeps (Fence word) v a b h = advance_keeps b
  plain_keeps Ecall v a b h = call_keeps (v 0) (v 1) (v 2) (v 3) a b (h 0) (h 1) (h 2) (h 3)
  plain_keeps (Atomic op order rd rs src) v a b h = atomic_keeps op rd rs src (v 0) (v 1) a b (h 0)
  plain_keeps insn v a b h = tt
