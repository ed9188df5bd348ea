-- Instructions and jumps with registers around them, on two sides that agree.
use Rattle.std.proofs.Common.{◌≡◌, ◌≢◌, ◌⊎◌, inl, inr, eq-eqb, ℕ, ◌+◌, zero, suc, ℤ, pos, Bool, true, false, not, ◌==◌, ◌&&◌, ◌||◌, List, [], ◌∷◌, Some, None, slice_index_or, if◌then◌else◌, refl, sym, ◌∙◌, subst, arith}
use Rattle.std.specs.Ordering.{int_eq}
use Rattle.std.specs.List.{list_any}
use Rattle.std.proofs.lemmas.Bool.{eqb-true, cases_eq, or_parts}
use Rattle.std.proofs.lemmas.Bool.Decides.{nat_tests}
use Rattle.sq_isa.specs.Forms.{with_registers}
use Rattle.sq_isa.specs.Registers.{written}
use Rattle.sq_isa.specs.Uses.{sources_of, destination_of}
use Rattle.sq_isa.specs.Words.{wrapped, unsigned, even}
use Rattle.sq_isa.specs.declared.instructions.Cond.{Cond}
use Rattle.sq_isa.specs.declared.instructions.Cond.TheVariants.{Beq, Bne, Blt, Bge, Bltu, Bgeu}
use Rattle.sq_isa.specs.declared.instructions.Insn.{Insn}
use Rattle.sq_isa.specs.declared.instructions.Insn.TheVariants.{OpImm, Op}
use Rattle.sq_isa.specs.declared.instructions.ImmOp.TheVariants.{Addi}
use Rattle.law_runs.specs.Runs.{Next, Went, Ended, Broke}
use Rattle.law_runs.specs.Simulation.{Matches}
use Rattle.sq_system.specs.World.{is_executable}
use Rattle.sq_graph.specs.Lines.{AddressHalf, Plain, Upper, Lower, Line}
use Rattle.sq_graph.specs.Walks.{is_register}
use Rattle.law_follow.specs.declared.kind.Kind.TheVariants.{Jump}
use Rattle.law_follow.specs.Values.{Code, Part, Value, Num, Tagged, Held, Holds, Lost}
use Rattle.law_follow.specs.Settings.{Setting, Store}
use Rattle.law_follow.specs.Arithmetic.{taken_against_code, is_taken}
use Rattle.law_follow.specs.Accesses.{Step}
use Rattle.law_follow.specs.Rows.{Operands, row_of}
use Rattle.law_follow.specs.Jumps.{Destination, ToName, ToNumber, number_jump, indirect_jump}
use Rattle.law_follow.specs.GraphRuns.{ReadsLost, Core, State, At, Moves, value_in, is_lost, register_value, lost_in, reads_lost, operands, finish, do_line}
use Rattle.law_patch.specs.Agreement.{Ties, SameValue, SameHeld, SameStore, SameMade, SameCore, IsTied}
use Rattle.law_patch.specs.Registers.{IsSource, AreSources, IsWritten}
use Rattle.law_patch.proofs.Memories.{if_rel}
use Rattle.law_patch.proofs.Loading.{with_code}
use Rattle.law_patch.proofs.Rows.{first_source, plain_rel, IsLowerTied, lower_rel, upper_rel}

both_true : (t : Bool) → t ≡ true → (t && true) ≡ (t || false)
both_true t e = rw e refl

yes : (x y : ℕ) → x ≡ y → (x == y) ≡ true
yes x y e = eq-eqb x y e

no_ : (x y : ℕ) → x ≢ y → (x == y) ≡ false
no_ x y e = grind (arith, nat_tests)

written_cases : (r x : ℕ) → (x ≡ r) ⊎ (x ≢ r) → (r ≡ 0) ⊎ (r ≢ 0) → (x ≡ 0) ⊎ (x ≢ 0) → (x == r && not (r == 0)) ≡ is_register r x
written_cases r x (inl e) (inl f) (inl g) = rw (yes x r e, yes r 0 f, yes x 0 g) refl
written_cases r x (inl e) (inl f) (inr g) = absurd (g (e ∙ f))
written_cases r x (inl e) (inr f) (inl g) = absurd (f (sym e ∙ g))
written_cases r x (inl e) (inr f) (inr g) = rw (yes x r e, no_ r 0 f, no_ x 0 g, yes r x (sym e)) refl
written_cases r x (inr e) f (inl g) = rw (no_ x r e, yes x 0 g) refl
written_cases r x (inr e) f (inr g) = rw (no_ x r e, no_ x 0 g, no_ r x (λ h. e (sym h))) refl

-- whether x is the register that is written, by either test
pub written_test : (r x : ℕ) → (x == r && not (r == 0)) ≡ is_register r x
written_test r x = written_cases r x (cases_eq x r) (cases_eq r 0) (cases_eq x 0)

module _ (P : ℕ → Type 0) (T : Ties) where
  -- a register that is read, and isn't lost
  held_rel : (a b : Held) → is_lost a ≡ false → SameHeld T a b → (is_lost b ≡ false) × SameValue T (value_in a) (value_in b)
  held_rel (Holds a) (Holds b) e h = (refl, h)
  held_rel (Holds a) Lost e h = absurd h
  held_rel Lost b e h = absurd (cc)

  pub source_rel : (Stands : ℕ → ℕ → Type 0) (r q : ℕ) (k k' : ℕ → Held) → IsSource Stands r q → ((r q : ℕ) → Stands r q → SameHeld T (k r) (k' q)) → lost_in k r ≡ false → (lost_in k' q ≡ false) × SameValue T (register_value r k) (register_value q k')
  source_rel Stands zero zero k k' x h e = (refl, refl)
  source_rel Stands zero (suc q) k k' x h e = absurd x
  source_rel Stands (suc r) zero k k' x h e = absurd x
  source_rel Stands (suc r) (suc q) k k' x h e = held_rel (k (suc r)) (k' (suc q)) e (h (suc r) (suc q) x)

  -- the operand in a list of registers
  abbrev pub operand_at : List ℕ → (ℕ → Held) → Operands
  operand_at rs k i = register_value (slice_index_or rs i 0) k

  cons_operand : (r q : ℕ) (rs qs : List ℕ) (k k' : ℕ → Held) → SameValue T (register_value r k) (register_value q k') → ((i : ℕ) → SameValue T (operand_at rs k i) (operand_at qs k' i)) → (i : ℕ) → SameValue T (operand_at (r ∷ rs) k i) (operand_at (q ∷ qs) k' i)
  cons_operand r q rs qs k k' one all zero = one
  cons_operand r q rs qs k k' one all (suc i) = all i

  pub sources_rel : (Stands : ℕ → ℕ → Type 0) (rs qs : List ℕ) (k k' : ℕ → Held) → AreSources Stands rs qs → ((r q : ℕ) → Stands r q → SameHeld T (k r) (k' q)) → list_any (lost_in k) rs ≡ false → (list_any (lost_in k') qs ≡ false) × ((i : ℕ) → SameValue T (operand_at rs k i) (operand_at qs k' i))
  sources_rel Stands [] [] k k' x h e = (refl, λ i. refl)
  sources_rel Stands [] (q ∷ qs) k k' x h e = absurd x
  sources_rel Stands (r ∷ rs) [] k k' x h e = absurd x
  sources_rel Stands (r ∷ rs) (q ∷ qs) k k' x h e =
      let f = or_parts (lost_in k r) (list_any (lost_in k) rs) e in
      let one = source_rel Stands r q k k' x.0 h f.0 in
      let all = sources_rel Stands rs qs k k' x.1 h f.1 in
      (rw (one.0, all.0) refl, cons_operand r q rs qs k k' one.1 all.1)

  -- registers after both sides wrote one
  pub registers_rel : (Stands Next : ℕ → ℕ → Type 0) (d e : ℕ) (a b : Held) (k k' : ℕ → Held) → IsWritten Stands d e Next → SameHeld T a b → ((r q : ℕ) → Stands r q → SameHeld T (k r) (k' q)) → (r q : ℕ) → Next r q → SameHeld T (written d a k r) (written e b k' q)
  registers_rel Stands Next d e a b k k' w h s r q n =
      let x = w r q n in
      if_rel (SameHeld T) (r == d && not (d == 0)) (q == e && not (e == 0)) a (k r) b (k' q) (written_test e q ∙ x.0 ∙ sym (written_test d r))
      (λ t. h)
      (λ t. s r q (x.1 (sym (written_test d r) ∙ t)))

  -- two comparisons
  against_rel : (s : Setting) (code : ℕ → Bool) (cond : Cond) (x y : ℕ) (t : Bool) → y ≡ x → taken_against_code s cond x ≡ Some t → taken_against_code (with_code s code) cond y ≡ Some t
  against_rel s code Beq x y t h e = rw h e
  against_rel s code Bne x y t h e = rw h e
  against_rel s code Blt x y t h e = absurd (cc)
  against_rel s code Bge x y t h e = absurd (cc)
  against_rel s code Bltu x y t h e = absurd (cc)
  against_rel s code Bgeu x y t h e = absurd (cc)

  pub taken_rel : (s : Setting) (code : ℕ → Bool) (cond : Cond) (v u v' u' : Value) (t : Bool) → SameValue T v v' → SameValue T u u' → is_taken s cond v u ≡ Some t → is_taken (with_code s code) cond v' u' ≡ Some t
  taken_rel s code cond (Num x) (Num y) v' u' t h k e = rw (h, k) e
  taken_rel s code cond (Num x) (Tagged (Code n)) v' (Num y) t h k e = absurd k
  taken_rel s code cond (Num x) (Tagged (Code n)) v' (Tagged (Code m)) t h k e = rw h (against_rel s code cond x x t refl e)
  taken_rel s code cond (Num x) (Tagged (Code n)) v' (Tagged (Part m w)) t h k e = absurd k
  taken_rel s code cond (Num x) (Tagged (Part n w)) v' u' t h k e = absurd (cc)
  taken_rel s code cond (Tagged (Code n)) (Num y) (Num x) u' t h k e = absurd h
  taken_rel s code cond (Tagged (Code n)) (Num y) (Tagged (Code m)) u' t h k e = rw k (against_rel s code cond y y t refl e)
  taken_rel s code cond (Tagged (Code n)) (Num y) (Tagged (Part m w)) u' t h k e = absurd h
  taken_rel s code cond (Tagged (Part n w)) (Num y) v' u' t h k e = absurd (cc)
  taken_rel s code cond (Tagged tag) (Tagged other) v' u' t h k e = absurd (cc)

  -- two jumps go to related names, or to one number
  abbrev pub SameDestination : Destination → Destination → Type 0
  SameDestination (ToName n) (ToName m) = T.code n m
  SameDestination (ToName n) (ToNumber x) = ⊥
  SameDestination (ToNumber x) (ToName n) = ⊥
  SameDestination (ToNumber x) (ToNumber y) = y ≡ x

  number_jump_rel : (s : Setting) (code : ℕ → Bool) (x : ℕ) → Matches SameDestination (number_jump s x) (number_jump (with_code s code) x)
  number_jump_rel s code x = if_rel (Matches SameDestination) (is_executable s.world x) (is_executable s.world x) (Broke Jump) (Went None (ToNumber x)) (Broke Jump) (Went None (ToNumber x)) refl (λ e. tt) (λ e. (refl, refl))

  pub indirect_rel : (s : Setting) (code : ℕ → Bool) (offset : ℤ) (v u : Value) → SameValue T v u → Matches SameDestination (indirect_jump s offset v) (indirect_jump (with_code s code) offset u)
  indirect_rel s code offset (Num x) u h = rw h (number_jump_rel s code (even (wrapped (x + unsigned offset))))
  indirect_rel s code offset (Tagged (Code n)) (Num y) h = absurd h
  indirect_rel s code offset (Tagged (Code n)) (Tagged (Code m)) h = if_rel (Matches SameDestination) (int_eq offset (pos 0)) (int_eq offset (pos 0)) (Went None (ToName n)) (Broke Jump) (Went None (ToName m)) (Broke Jump) refl (λ e. (refl, h)) (λ e. tt)
  indirect_rel s code offset (Tagged (Code n)) (Tagged (Part m w)) h = absurd h
  indirect_rel s code offset (Tagged (Part n w)) u h = tt

-- An instruction and its counterpart
module _ (P : ℕ → Type 0) (T : Ties) (s : Setting) (code : ℕ → Bool) (laws : IsTied P T s) where
  -- the halves of addresses of an instruction and its counterpart
  abbrev pub IsTiedLower : ℕ → ℕ → Insn → Type 0
  IsTiedLower n m (OpImm Addi rd rs imm) = IsLowerTied P T s code laws n m imm imm
  IsTiedLower n m insn = ⊥

  abbrev pub IsTiedHalf : AddressHalf → AddressHalf → Insn → Type 0
  IsTiedHalf Plain Plain insn = Unit {0}
  IsTiedHalf (Upper n w) (Upper m w') insn = T.part n w (Tagged (Part m w'))
  IsTiedHalf (Lower n) (Lower m) insn = IsTiedLower n m insn
  IsTiedHalf half half' insn = ⊥

  zero_source : (Stands : ℕ → ℕ → Type 0) (p x : ℕ) → IsSource Stands p x → (p == 0) ≡ true → (x == 0) ≡ true
  zero_source Stands zero zero h e = refl
  zero_source Stands zero (suc x) h e = absurd h
  zero_source Stands (suc p) zero h e = absurd h
  zero_source Stands (suc p) (suc x) h e = absurd (let f : suc p ≡ 0 = eqb-true (suc p) 0 e in omega arith)

  zero_first : (Stands : ℕ → ℕ → Type 0) (insn : Insn) (d x y p : ℕ) → AreSources Stands (sources_of insn) (sources_of (with_registers d x y insn)) → first_source insn p → (p == 0) ≡ true → (x == 0) ≡ true
  zero_first Stands (Op op rd a b) d x y p h e z = zero_source Stands a x h.0 (subst (λ (n : ℕ). (n == 0) ≡ true) e z)
  zero_first Stands insn d x y p h e z = absurd e

  lower_step : (Stands : ℕ → ℕ → Type 0) (n m : ℕ) (insn : Insn) (d x y : ℕ) (v u : Operands) (a b : Store) → IsTiedLower n m insn → ((i : ℕ) → SameValue T (v i) (u i)) → SameStore P T a b → Matches (SameMade P T) (row_of s (Lower n) insn v a) (row_of (with_code s code) (Lower m) (with_registers d x y insn) u b)
  lower_step Stands n m (OpImm Addi rd rs imm) d x y v u a b t h k = lower_rel P T s code laws rd rs d x n m imm imm v u a b t (h 0) k
  lower_step Stands n m insn d x y v u a b t h k = absurd t

  row_rel : (Stands : ℕ → ℕ → Type 0) (half half' : AddressHalf) (insn : Insn) (d x y : ℕ) (v u : Operands) (a b : Store) → IsTiedHalf half half' insn → AreSources Stands (sources_of insn) (sources_of (with_registers d x y insn)) → ((i : ℕ) → SameValue T (v i) (u i)) → SameStore P T a b → Matches (SameMade P T) (row_of s half insn v a) (row_of (with_code s code) half' (with_registers d x y insn) u b)
  row_rel Stands Plain Plain insn d x y v u a b t z h k = plain_rel P T s code laws insn d x y v u a b (λ p e. zero_first Stands insn d x y p z e) h k
  row_rel Stands (Upper n w) (Upper m w') insn d x y v u a b t z h k = upper_rel P T s code laws n m w w' a b t k
  row_rel Stands (Lower n) (Lower m) insn d x y v u a b t z h k = lower_step Stands n m insn d x y v u a b t h k
  row_rel Stands half half' insn d x y v u a b t z h k = absurd t

  -- behind an instruction
  finish_rel : (Stands Next : ℕ → ℕ → Type 0) (R : State → State → Type 0) (d e : ℕ) (rest rest' : List Line) (k k' : Core) (x y : Step) → IsWritten Stands d e Next → ((c c' : Core) → SameCore P T Next c c' → R (At rest c) (At rest' c')) → SameCore P T Stands k k' → Matches (SameMade P T) x y → Matches R (finish d rest k x) (finish e rest' k' y)
  finish_rel Stands Next R d e rest rest' k k' (Went f x) (Went f' y) w go h m = (
    m.0,
    go (record { registers = written d (Holds x.value) k.registers; store = x.store }) (record { registers = written e (Holds y.value) k'.registers; store = y.store })
        (record { registers = registers_rel P T Stands Next d e (Holds x.value) (Holds y.value) k.registers k'.registers w m.1.value h.registers; store = m.1.store }),
  )
  finish_rel Stands Next R d e rest rest' k k' (Went f x) (Ended h') w go h m = absurd m
  finish_rel Stands Next R d e rest rest' k k' (Went f x) (Broke c) w go h m = absurd m
  finish_rel Stands Next R d e rest rest' k k' (Ended g) (Went f x) w go h m = absurd m
  finish_rel Stands Next R d e rest rest' k k' (Ended g) (Ended h') w go h m = m
  finish_rel Stands Next R d e rest rest' k k' (Ended g) (Broke c) w go h m = absurd m
  finish_rel Stands Next R d e rest rest' k k' (Broke c) y w go h m = tt

  -- a step that breaks where a register is lost
  pub unless_lost : (R : State → State → Type 0) (lost : Bool) (x y : Moves) → (lost ≡ false → Matches R x y) → Matches R (if lost then Broke ReadsLost else x) y
  unless_lost R true x y h = tt
  unless_lost R false x y h = h refl

  -- An instruction and its counterpart do the same. Of registers it asks those that are read.
  pub do_rel : (Stands Next : ℕ → ℕ → Type 0) (R : State → State → Type 0) (half half' : AddressHalf) (insn : Insn) (d x y : ℕ) (rest rest' : List Line) (k k' : Core) → IsTiedHalf half half' insn → AreSources Stands (sources_of insn) (sources_of (with_registers d x y insn)) → IsWritten Stands (destination_of insn) (destination_of (with_registers d x y insn)) Next → ((c c' : Core) → SameCore P T Next c c' → R (At rest c) (At rest' c')) → SameCore P T Stands k k' → Matches R (do_line s half insn rest k) (do_line (with_code s code) half' (with_registers d x y insn) rest' k')
  do_rel Stands Next R half half' insn d x y rest rest' k k' t z w go h =
      unless_lost R (reads_lost (sources_of insn) k) (finish (destination_of insn) rest k (row_of s half insn (operands insn k.registers) k.store)) (do_line (with_code s code) half' (with_registers d x y insn) rest' k')
      (λ e.
      let o = sources_rel P T Stands (sources_of insn) (sources_of (with_registers d x y insn)) k.registers k'.registers z h.registers e in
      rw o.0
      (finish_rel Stands Next R (destination_of insn) (destination_of (with_registers d x y insn)) rest rest' k k' (row_of s half insn (operands insn k.registers) k.store) (row_of (with_code s code) half' (with_registers d x y insn) (operands (with_registers d x y insn) k'.registers) k'.store) w go h
      (row_rel Stands half half' insn d x y (operands insn k.registers) (operands (with_registers d x y insn) k'.registers) k.store k'.store t z o.1 h.store)))
