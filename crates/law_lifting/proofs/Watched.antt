-- The plain machine does what the monitored run of a program does.
use Rattle.std.proofs.Common.{◌≡◌, ◌≢◌, ◌⊎◌, inl, inr, ℕ, zero, suc, ◌+◌, ◌*◌, ◌%◌, ◌^◌, ◌<◌, ◌≤◌, ℤ, pos, Bool, true, false, not, ◌==◌, ◌&&◌, length, map, Option, Some, None, if◌then◌else◌, refl, sym, ap, ◌∙◌, subst, arith, nat_lt, nat_le}
use Rattle.std.specs.Option.{unwrap_or, option_map}
use Rattle.std.specs.Ordering.{int_eq}
use Rattle.std.specs.List.{Contains}
use Rattle.std.proofs.lemmas.Bool.{and_parts, eqb-true}
use Rattle.std.proofs.lemmas.Bool.Decides.{nat_tests, Decides-int_eq}
use Rattle.sq_isa.specs.Words.{wrapped, unsigned, upper_word, even}
use Rattle.sq_isa.specs.Registers.{written}
use Rattle.sq_isa.specs.Ranges.{IsUnimp, FieldsFit}
use Rattle.sq_isa.specs.Uses.{destination_of}
use Rattle.sq_isa.specs.Branches.{taken_of}
use Rattle.sq_isa.specs.Accesses.{bytes_number}
use Rattle.sq_isa.proofs.Encoded.{FieldsFit-insn_of}
use Rattle.sq_isa.specs.declared.instructions.Cond.{Cond}
use Rattle.sq_isa.specs.declared.instructions.Insn.{Insn}
use Rattle.sq_isa.specs.declared.instructions.Insn.TheVariants.{Lui, Auipc, Jal, Jalr, Branch as BranchInsn, Load, Store as StoreInsn, OpImm, Op as OpInsn, Fence, Ecall, Ebreak, Unimp, Atomic}
use Rattle.sq_isa.specs.declared.instructions.ImmOp.TheVariants.{Addi}
use Rattle.law_runs.specs.Runs.{Went, Ended, Broke}
use Rattle.law_runs.specs.Simulation.{Matches, SimulatesInStep}
use Rattle.law_runs.specs.Follows.{LocksWith}
use Rattle.law_runs.proofs.Simulate.{locks_by}
use Rattle.sq_memory.specs.Cells.{Cells, Agree}
use Rattle.sq_memory.specs.Regions.{get}
use Rattle.sq_memory.proofs.RangeLaws.{cells_from-same}
use Rattle.sq_system.specs.Starts.{Start, stack_pointer}
use Rattle.sq_system.specs.World.{World as Layout, is_executable, are_all, is_range}
use Rattle.sq_system.specs.declared.event.Halt.TheVariants.{Fetch, Illegal}
use Rattle.sq_machine.specs.State.{State, number_at, aligned_number, with_register, jump, next_pc, address_of, target_of as plain_target}
use Rattle.sq_machine.specs.Rows as plain
use Rattle.sq_machine.specs.Steps.{fetched, insn_step, word_step, step_of}
use Rattle.sq_reloc.specs.declared.mark.Mark.{Mark}
use Rattle.sq_reloc.specs.declared.mark.Mark.TheVariants.{Hi, Lo}
use Rattle.sq_reloc.specs.Marks.{IsMarked}
use Rattle.sq_graph.specs.Lines.{AddressHalf, Plain, Upper, Lower}
use Rattle.law_follow.specs.declared.kind.Kind.TheVariants.{Half, Jump as JumpBreak}
use Rattle.law_follow.specs.Values.{Code, Part, Value, Num, Tagged, Cell, Byte, Held, Holds, Lost}
use Rattle.law_follow.specs.Settings.{Setting}
use Rattle.law_follow.specs.Arithmetic.{is_taken, is_upper_half}
use Rattle.law_follow.specs.Accesses.{Step}
use Rattle.law_follow.specs.Rows.{source, address_value, row_of}
use Rattle.law_follow.specs.Jumps.{ToName, ToNumber, number_jump, name_jump, indirect_jump, part_jump, stop}
use Rattle.law_follow.specs.GraphRuns.{is_lost, value_in, register_value, operands}
use Rattle.law_follow.specs.Worlds.{World, layout_of, first_registers, regions_at_start}
use Rattle.law_patch.specs.LiveAgreement.{everywhere}
use Rattle.law_erasure.specs.Erasure.{Erasing, IsErasing, IsErased, IsErasedHeld, IsErasedCell, IsErasedSetting}
use Rattle.law_erasure.proofs.Accessing.{Plainly, IsErasedMade}
use Rattle.law_erasure.proofs.Rows.{AddUp, plain_erased, upper_erased, addi_erased, load_half_erased, store_half_erased, taken_erased}
use Rattle.law_erasure.proofs.TextKept.{Keeps, row_kept}
use Rattle.law_program.specs.Programs.{Word, Text, Program, word_at, is_in_text, end_of, target_of}
use Rattle.law_program.specs.Reached.{target_from, jump_target, half_target, insn_goes_on, Decides, entry}
use Rattle.law_program.specs.Faults.{text_refusal}
use Rattle.law_program.specs.Monitored as monitored
use Rattle.law_program.specs.Monitored.{Watched, Watches, half_of, upper_value, at_address, jumped, branched, finished, monitored_step}
use Rattle.law_program.specs.FileRuns.{watched_start}
use Rattle.law_lifting.specs.Lifting.{MarkFits, IsLinked}
use Rattle.law_lifting.specs.Watching.{own_names, IsPlainStart, WatchingErases, IsErasureOf, ErasureLaw}
use Rattle.law_lifting.proofs.TextWords.{some_is, is_there, stood, in_text_of}
use Rattle.law_lifting.proofs.Facts.{one, IsSoundWord, sound_word, used_reached, next_reached, reached_word}

module _ (p : Program) (is : ℕ → Bool) (linked : IsLinked p) (dec : Decides p is) (fine : text_refusal is p ≡ None) (w : World) (start : Start) (plain_world : Layout) (first : State) (begins : IsPlainStart is w start p plain_world first) where
  abbrev t : Text
  t = p.text

  abbrev E : Erasing
  E = own_names is first.memory

  abbrev S : Setting
  S = monitored.setting_of (layout_of w start) t

  abbrev Cells_ : Cells Cell
  Cells_ = get (regions_at_start w (map target_of p.code_words) start)

  word_of : (x : ℕ) → is x ≡ true → (v : Word) × (word_at t x ≡ Some v)
  word_of x i = some_is (word_at t x) (reached_word p is linked.text dec fine (dec.only x i))

  -- a reached word stands below 2^32, at a multiple of 4, in text
  record Placed (x : ℕ) : Type 0 where
    most : x + 4 ≤ 2 ^ 32
    whole : x % 4 ≡ 0
    inside : is_in_text t x ≡ true

  placed : (x : ℕ) → is x ≡ true → Placed x
  placed x i =
      let v = word_of x i in
      let s = stood x t.lo v.0 t.words v.1 in
      let most : x + 4 ≤ t.lo + 4 * length t.words = s.most in
      let end : t.lo + 4 * length t.words ≤ 2 ^ 32 = begins.end in
      let whole : x % 4 ≡ t.lo % 4 = s.whole in
      record { most = omega arith; whole = whole ∙ linked.text.aligned; inside = in_text_of t x (is_there t x v.0 v.1) }

  naming : IsErasing E S
  naming = record {
    in_text = λ n i. (placed n i).inside;
    small = λ n i. let h = (placed n i).most in omega (arith, h);
    whole = λ n i. (placed n i).whole;
    word_small = λ n u h. omega arith;
  }

  laid : IsErasedSetting everywhere S plain_world
  laid = record {
    base = begins.laid_out.base;
    size = begins.laid_out.size;
    writable = λ x _. begins.laid_out.writable x;
    above = λ x h. tt;
    outside = λ x n f m i l. tt;
  }

  abbrev Erases : Watched → State → Type 0
  Erases = IsErasureOf p is w start plain_world first

  abbrev Match : Watches → Plainly → Type 0
  Match = Matches Erases

  -- REGISTERS

  read_value : (a : Watched) (b : State) → Erases a b → (r : ℕ) → IsErased E (register_value r a.core.registers) (b.registers r)
  read_value a b h zero = h.core.zero
  read_value a b h (suc r) = go (a.core.registers (suc r)) (h.kept (suc r)) (h.core.registers (suc r))
    where
      go : (x : Held) → is_lost x ≡ false → IsErasedHeld E x (b.registers (suc r)) → IsErased E (value_in x) (b.registers (suc r))
      go (Holds v) e k = k
      go Lost e k = absurd (cc)

  held_written : (d v : ℕ) (u : Value) (x : Held) (y : ℕ) (c : Bool) → IsErased E u v → IsErasedHeld E x y → IsErasedHeld E (if c then Holds u else x) (if c then v else y)
  held_written d v u x y true h k = h
  held_written d v u x y false h k = k

  kept_written : (d : ℕ) (u : Value) (k : ℕ → Held) → ((r : ℕ) → is_lost (k r) ≡ false) → (r : ℕ) → is_lost (written d (Holds u) k r) ≡ false
  kept_written d u k h r = go (r == d && not (d == 0))
    where
      go : (c : Bool) → is_lost (if c then Holds u else k r) ≡ false
      go true = refl
      go false = h r

  zero_written : (d v : ℕ) (k : ℕ → ℕ) → k 0 ≡ 0 → written d v k 0 ≡ 0
  zero_written d v k h = go (0 == d && not (d == 0)) (grind (arith, nat_tests))
    where
      go : (c : Bool) → c ≡ false → (if c then v else k 0) ≡ 0
      go true e = absurd (cc)
      go false e = h

  -- ITEMS

  next_small : (a : Watched) (b : State) → b.pc ≡ a.pc → is (a.pc + 4) ≡ true → next_pc b ≡ a.pc + 4
  next_small a b e i = let h = (placed (a.pc + 4) i).most in rw e (omega (arith, h))

  -- behind an instruction that goes on to the next word
  finish_watch : (d : ℕ) (half : AddressHalf) (insn : Insn) (a : Watched) (b : State) (y : Plainly) → Erases a b → is (a.pc + 4) ≡ true → Matches (IsErasedMade everywhere E S plain_world naming laid d (next_pc b) b.registers) (row_of S half insn (operands insn a.core.registers) a.core.store) y → Match (finished a.pc d a.core (row_of S half insn (operands insn a.core.registers) a.core.store)) y
  finish_watch d half insn a b y h i m = go (row_of S half insn (operands insn a.core.registers) a.core.store) y (row_kept S half insn (operands insn a.core.registers) a.core.store) m
    where
      go : (x : Step) (y : Plainly) → Keeps S a.core.store x → Matches (IsErasedMade everywhere E S plain_world naming laid d (next_pc b) b.registers) x y → Match (finished a.pc d a.core x) y
      go (Went e made) (Went f c) k m = (
        m.0,
        record {
          pc = m.1.pc_is ∙ next_small a b h.pc i;
          core = record {
            registers = λ r. subst (IsErasedHeld E (written d (Holds made.value) a.core.registers r)) (sym (m.1.registers r)) (held_written d m.1.value made.value (a.core.registers r) (b.registers r) (r == d && not (d == 0)) m.1.value_is (h.core.registers r));
            zero = m.1.registers 0 ∙ zero_written d m.1.value b.registers h.core.zero;
            store = m.1.store;
          };
          kept = kept_written d made.value a.core.registers h.kept;
          text = λ x e. k x e ∙ h.text x e;
          place = inl i;
        },
      )
      go (Went e made) (Ended g) k m = absurd m
      go (Went e made) (Broke c) k m = absurd m
      go (Ended g) (Went e c) k m = absurd m
      go (Ended g) (Ended g') k m = m
      go (Ended g) (Broke c) k m = absurd m
      go (Broke kind) y k m = tt

  operands_erased : (insn : Insn) (a : Watched) (b : State) → Erases a b → (i : ℕ) → IsErased E (operands insn a.core.registers i) (b.registers (source insn i))
  operands_erased insn a b h i = read_value a b h (source insn i)

  -- an upper half and a lower half of one address add up to it
  own_halves : (n : ℕ) (imm : ℤ) → AddUp everywhere E S plain_world naming laid n imm imm n
  own_halves n imm (Num x) y h e = absurd (cc)
  own_halves n imm (Tagged (Code m)) y h e = absurd (cc)
  own_halves n imm (Tagged (Part m word)) y h e =
      let u = h.0 in
      let q : is_upper_half n imm (Tagged (Part m (Some u.0))) ≡ true = subst (λ w. is_upper_half n imm (Tagged (Part m w)) ≡ true) u.1 e in
      let r = and_parts (m == n) (wrapped (u.0 + unsigned imm) == n) q in
      let s : wrapped (u.0 + unsigned imm) ≡ n = eqb-true (wrapped (u.0 + unsigned imm)) n r.1 in
      let v : y ≡ wrapped u.0 = h.1 ∙ ap (λ w. wrapped (unwrap_or w 0)) u.1 in
      rw v (omega (arith, s))

  abbrev Sound : ℕ → Word → Type 0
  Sound x v = IsSoundWord t x v

  -- an address whose half a reached word has
  half_value : (x to : ℕ) (v : Word) (s : Sound x v) → is x ≡ true → word_at t x ≡ Some v → Contains (half_target v.mark) to → IsErased E (address_value S to) to
  half_value x to v s i e c = go (is_in_text t to) refl
    where
      go : (b : Bool) → is_in_text t to ≡ b → IsErased E (if b then Tagged (Code to) else Num to) to
      go true f = (used_reached p is linked.text dec fine x to v s i e (inr (c, f)), refl)
      go false f = refl

  -- JUMPS

  -- to an address, with the link written
  jump_watch : (link x pc : ℕ) (a : Watched) (b : State) → Erases a b → (link ≢ 0 → is (a.pc + 4) ≡ true) → pc ≡ x → (is x ≡ true) ⊎ (is_executable plain_world x ≡ false) → Match (at_address x (monitored.with_link link a.pc a.core)) (Went None (jump pc (with_register link (next_pc b) b)))
  unfolding jump with_register
  jump_watch link x pc a b h next e place = (
    refl,
    record {
      pc = e;
      core = record {
        registers = λ r. held link r (a.core.registers r) (b.registers r) next (h.core.registers r);
        zero = zero_written link (next_pc b) b.registers h.core.zero;
        store = record { memory = h.core.store.memory; stale = h.core.store.stale; input = h.core.store.input; reservation = h.core.store.reservation };
      };
      kept = kept_written link (Tagged (Code (a.pc + 4))) a.core.registers h.kept;
      text = h.text;
      place = place;
    },
  )
    where
      held : (link r : ℕ) (u : Held) (y : ℕ) → (link ≢ 0 → is (a.pc + 4) ≡ true) → IsErasedHeld E u y → IsErasedHeld E (if r == link && not (link == 0) then Holds (Tagged (Code (a.pc + 4))) else u) (if r == link && not (link == 0) then next_pc b else y)
      held link r u y f k = go (r == link && not (link == 0)) refl
        where
          go : (c : Bool) → (r == link && not (link == 0)) ≡ c → IsErasedHeld E (if c then Holds (Tagged (Code (a.pc + 4))) else u) (if c then next_pc b else y)
          go false e = k
          go true e =
              let q = and_parts (r == link) (not (link == 0)) e in
              let n : link ≢ 0 = let g = q.1 in grind (arith, nat_tests) in
              let i = f n in
              (i, next_small a b h.pc i)

  goes_link : (rd : ℕ) → rd ≢ 0 → not (rd == 0) ≡ true
  goes_link rd n = grind (arith, nat_tests)

  -- the target of a branch or a `jal`
  target_place : (a : Watched) (v : Word) (s : Sound a.pc v) (to : ℕ) → is a.pc ≡ true → word_at t a.pc ≡ Some v → Contains (jump_target a.pc s.insn) to → is to ≡ true
  target_place a v s to i e c = used_reached p is linked.text dec fine a.pc to v s i e (inl c)

  even_word : (x : ℕ) → is x ≡ true → even x ≡ x
  even_word x i = let h = (placed x i).whole in omega (arith, h)

  -- to what a register holds
  number_watch : (link x pc : ℕ) (a : Watched) (b : State) → Erases a b → (link ≢ 0 → is (a.pc + 4) ≡ true) → pc ≡ x → Match (jumped link a.pc a.core (number_jump S x)) (Went None (jump pc (with_register link (next_pc b) b)))
  number_watch link x pc a b h next e = go (is_executable (layout_of w start) x) refl
    where
      go : (c : Bool) → is_executable (layout_of w start) x ≡ c → Match (jumped link a.pc a.core (if c then Broke JumpBreak else Went None (ToNumber x))) (Went None (jump pc (with_register link (next_pc b) b)))
      go true f = tt
      go false f = jump_watch link x pc a b h next e (inr (begins.laid_out.executable x ∙ f))

  away_watch : (link rs : ℕ) (offset : ℤ) (a : Watched) (b : State) (v : Value) → Erases a b → (link ≢ 0 → is (a.pc + 4) ≡ true) → IsErased E v (b.registers rs) → Match (jumped link a.pc a.core (indirect_jump S offset v)) (plain.jalr_row link rs offset b)
  away_watch link rs offset a b (Num x) h next k = number_watch link (even (wrapped (x + unsigned offset))) (even (address_of rs offset b)) a b h next (ap (λ y. even (wrapped (y + unsigned offset))) k)
  away_watch link rs offset a b (Tagged (Part n word)) h next k = tt
  away_watch link rs offset a b (Tagged (Code n)) h next k = go (int_eq offset (pos 0)) refl
    where
      go : (c : Bool) → int_eq offset (pos 0) ≡ c → Match (jumped link a.pc a.core (if c then Went None (ToName n) else Broke JumpBreak)) (plain.jalr_row link rs offset b)
      go false f = tt
      go true f =
          let z : offset ≡ pos 0 = (Decides-int_eq offset (pos 0)).0 f in
          let most = (placed n k.0).most in
          let same : wrapped (n + 0) ≡ n = omega (arith, most) in
          let at : even (address_of rs offset b) ≡ n = rw (z, k.1) (ap even same ∙ even_word n k.0) in
          jump_watch link n (even (address_of rs offset b)) a b h next at (inl k.0)

  part_watch : (link rs to : ℕ) (offset : ℤ) (a : Watched) (b : State) (v : Value) → Erases a b → (link ≢ 0 → is (a.pc + 4) ≡ true) → (is_in_text t to ≡ true → is to ≡ true) → IsErased E v (b.registers rs) → Match (jumped link a.pc a.core (part_jump S to offset v)) (plain.jalr_row link rs offset b)
  part_watch link rs to offset a b v h next inside k = go (is_upper_half to offset v) refl
    where
      to_name : (c : Bool) → is_in_text t to ≡ c → wrapped (b.registers rs + unsigned offset) ≡ to → Match (jumped link a.pc a.core (if c then Went None (ToName to) else number_jump S (even to))) (plain.jalr_row link rs offset b)
      to_name true f e = jump_watch link to (even (address_of rs offset b)) a b h next (ap even e ∙ even_word to (inside f)) (inl (inside f))
      to_name false f e = number_watch link (even to) (even (address_of rs offset b)) a b h next (ap even e)

      go : (c : Bool) → is_upper_half to offset v ≡ c → Match (jumped link a.pc a.core (if c then name_jump S to else Broke Half)) (plain.jalr_row link rs offset b)
      go false f = tt
      go true f = to_name (is_in_text t to) refl (own_halves to offset v (b.registers rs) k f)

  -- a branch: neither side writes a register
  step_watch : (x pc : ℕ) (a : Watched) (b : State) → Erases a b → pc ≡ x → is x ≡ true → Match (at_address x a.core) (Went None (jump pc b))
  unfolding jump
  step_watch x pc a b h e i = (
    refl,
    record {
      pc = e;
      core = record { registers = h.core.registers; zero = h.core.zero; store = record { memory = h.core.store.memory; stale = h.core.store.stale; input = h.core.store.input; reservation = h.core.store.reservation } };
      kept = h.kept;
      text = h.text;
      place = inl i;
    },
  )

  branch_watch : (cond : Cond) (x y to : ℕ) (offset : ℤ) (a : Watched) (b : State) (o : Option Bool) → Erases a b → is (a.pc + 4) ≡ true → is to ≡ true → plain_target offset b ≡ to → ((c : Bool) → o ≡ Some c → taken_of cond (b.registers x) (b.registers y) ≡ c) → Match (branched a.pc to a.core o) (plain.branch_row cond x y offset b)
  branch_watch cond x y to offset a b None h next i e taken = tt
  branch_watch cond x y to offset a b (Some true) h next i e taken = rw (taken true refl) (step_watch to (plain_target offset b) a b h e i)
  branch_watch cond x y to offset a b (Some false) h next i e taken = rw (taken false refl) (step_watch (a.pc + 4) (next_pc b) a b h (next_small a b h.pc next) next)

  -- EACH INSTRUCTION

  -- what is known of the instruction at a reached word
  record Known (a : Watched) (mark : Mark) (insn : Insn) : Type 0 where
    next : insn_goes_on insn ≡ true → is (a.pc + 4) ≡ true
    target : (to : ℕ) → Contains (jump_target a.pc insn) to → is to ≡ true
    half : (to : ℕ) → Contains (half_target mark) to → IsErased E (address_value S to) to
    inside : (to : ℕ) → Contains (half_target mark) to → is_in_text t to ≡ true → is to ≡ true
    marked : IsMarked (Some insn) mark
    small : MarkFits mark
    fits : FieldsFit insn

  abbrev InsnGoal : Watched → State → AddressHalf → Insn → Type 0
  InsnGoal a b half insn = Match (monitored.insn_step S a.pc half insn a.core) (plain.row_of plain_world b insn)

  item_watch : (insn : Insn) (a : Watched) (b : State) → Erases a b → is (a.pc + 4) ≡ true → Match (finished a.pc (destination_of insn) a.core (row_of S Plain insn (operands insn a.core.registers) a.core.store)) (plain.row_of plain_world b insn)
  item_watch insn a b h i =
      finish_watch (destination_of insn) Plain insn a b (plain.row_of plain_world b insn) h i
      (plain_erased everywhere E S plain_world naming laid insn (operands insn a.core.registers) a.core.store b h.core.zero (operands_erased insn a b h) h.core.store)

  target_is : (a : Watched) (b : State) (offset : ℤ) → b.pc ≡ a.pc → plain_target offset b ≡ target_from a.pc offset
  target_is a b offset e = ap (λ pc. wrapped (pc + unsigned offset)) e

  unimp_is : (word : ℕ) → IsUnimp word → Illegal ≡ stop word
  unimp_is word (inl e) = rw e refl
  unimp_is word (inr e) = rw e refl

  plain_watch : (insn : Insn) (mark : Mark) (a : Watched) (b : State) → Erases a b → Known a mark insn → InsnGoal a b Plain insn
  plain_watch (Lui rd upper) mark a b h k = item_watch (Lui rd upper) a b h (k.next refl)
  plain_watch (Auipc rd upper) mark a b h k = tt
  plain_watch (Jal rd offset) mark a b h k =
      jump_watch rd (target_from a.pc offset) (plain_target offset b) a b h (λ n. k.next (goes_link rd n)) (target_is a b offset h.pc) (inl (k.target (target_from a.pc offset) (one (target_from a.pc offset))))
  plain_watch (Jalr rd rs offset) mark a b h k = away_watch rd rs offset a b (register_value rs a.core.registers) h (λ n. k.next (goes_link rd n)) (read_value a b h rs)
  plain_watch (BranchInsn cond x y offset) mark a b h k =
      branch_watch cond x y (target_from a.pc offset) offset a b (is_taken S cond (register_value x a.core.registers) (register_value y a.core.registers)) h (k.next refl) (k.target (target_from a.pc offset) (one (target_from a.pc offset))) (target_is a b offset h.pc)
      (λ c e. taken_erased everywhere E S plain_world naming laid cond (register_value x a.core.registers) (register_value y a.core.registers) (b.registers x) (b.registers y) c (read_value a b h x) (read_value a b h y) e)
  plain_watch (Load kind rd rs offset) mark a b h k = item_watch (Load kind rd rs offset) a b h (k.next refl)
  plain_watch (StoreInsn kind rs src offset) mark a b h k = item_watch (StoreInsn kind rs src offset) a b h (k.next refl)
  plain_watch (OpImm op rd rs imm) mark a b h k = item_watch (OpImm op rd rs imm) a b h (k.next refl)
  plain_watch (OpInsn op rd x y) mark a b h k = item_watch (OpInsn op rd x y) a b h (k.next refl)
  plain_watch (Fence word) mark a b h k = item_watch (Fence word) a b h (k.next refl)
  plain_watch Ecall mark a b h k = item_watch Ecall a b h (k.next refl)
  plain_watch Ebreak mark a b h k = refl
  plain_watch (Unimp word) mark a b h k = unimp_is word k.fits
  plain_watch (Atomic op order rd rs src) mark a b h k = item_watch (Atomic op order rd rs src) a b h (k.next refl)

  upper_watch : (to : ℕ) (insn : Insn) (a : Watched) (b : State) → Erases a b → Known a (Hi to) insn → InsnGoal a b (Upper to (upper_value a.pc insn)) insn
  upper_watch to (Lui rd upper) a b h k =
      finish_watch rd (Upper to (Some (upper_word upper))) (Lui rd upper) a b (plain.row_of plain_world b (Lui rd upper)) h (k.next refl)
      (upper_erased everywhere E S plain_world naming laid to rd (upper_word upper) (Some (upper_word upper)) (Lui rd upper) (operands (Lui rd upper) a.core.registers) a.core.store b (upper_word upper, refl) (omega arith) h.core.store)
  upper_watch to (Auipc rd upper) a b h k =
      let e : wrapped (b.pc + upper_word upper) ≡ wrapped (a.pc + upper_word upper) = ap (λ pc. wrapped (pc + upper_word upper)) h.pc in
      finish_watch rd (Upper to (Some (wrapped (a.pc + upper_word upper)))) (Auipc rd upper) a b (plain.row_of plain_world b (Auipc rd upper)) h (k.next refl)
      (upper_erased everywhere E S plain_world naming laid to rd (wrapped (b.pc + upper_word upper)) (Some (wrapped (a.pc + upper_word upper))) (Auipc rd upper) (operands (Auipc rd upper) a.core.registers) a.core.store b (wrapped (a.pc + upper_word upper), refl) (e ∙ twice (a.pc + upper_word upper)) h.core.store)
    where
      twice : (x : ℕ) → wrapped x ≡ wrapped (wrapped x)
      twice x = omega arith
  upper_watch to insn a b h k = absurd (let e = k.marked in cc)

  lower_watch : (to : ℕ) (insn : Insn) (a : Watched) (b : State) → Erases a b → Known a (Lo to) insn → InsnGoal a b (Lower to) insn
  lower_watch to (OpImm Addi rd rs imm) a b h k =
      finish_watch rd (Lower to) (OpImm Addi rd rs imm) a b (plain.row_of plain_world b (OpImm Addi rd rs imm)) h (k.next refl)
      (addi_erased everywhere E S plain_world naming laid to to rd rs imm imm (operands (OpImm Addi rd rs imm) a.core.registers) a.core.store b (own_halves to imm) (k.half to (one to)) (read_value a b h rs) h.core.store)
  lower_watch to (Load kind rd rs imm) a b h k =
      finish_watch rd (Lower to) (Load kind rd rs imm) a b (plain.row_of plain_world b (Load kind rd rs imm)) h (k.next refl)
      (load_half_erased everywhere E S plain_world naming laid to rd rs kind imm imm (operands (Load kind rd rs imm) a.core.registers) a.core.store b k.small (own_halves to imm) (read_value a b h rs) h.core.store)
  lower_watch to (StoreInsn kind rs src imm) a b h k =
      finish_watch 0 (Lower to) (StoreInsn kind rs src imm) a b (plain.row_of plain_world b (StoreInsn kind rs src imm)) h (k.next refl)
      (store_half_erased everywhere E S plain_world naming laid to rs src kind imm imm (operands (StoreInsn kind rs src imm) a.core.registers) a.core.store b (own_halves to imm) (read_value a b h rs) (read_value a b h src) h.core.store)
  lower_watch to (Jalr rd rs offset) a b h k = part_watch rd rs to offset a b (register_value rs a.core.registers) h (λ n. k.next (goes_link rd n)) (k.inside to (one to)) (read_value a b h rs)
  lower_watch to insn a b h k = absurd (let e = k.marked in cc)

  insn_watch : (mark : Mark) (insn : Insn) (a : Watched) (b : State) → Erases a b → Known a mark insn → InsnGoal a b (half_of a.pc mark insn) insn
  insn_watch (Hi to) insn a b h k = upper_watch to insn a b h k
  insn_watch (Lo to) insn a b h k = lower_watch to insn a b h k
  insn_watch mark insn a b h k = plain_watch insn mark a b h k

  -- FETCHING

  present : (x : ℕ) (v : Word) → word_at t x ≡ Some v → is_executable plain_world x ≡ true
  present x v e =
      let r = (begins.text x v e).0 in
      let a = (and_parts (nat_le (x + 4) (2 ^ 32)) (are_all (is_executable plain_world) x 4) r).1 in
      let b = (and_parts ((true && is_executable plain_world (x + 0)) && is_executable plain_world (x + 1) && is_executable plain_world (x + 2)) (is_executable plain_world (x + 3)) a).0 in
      let c = (and_parts ((true && is_executable plain_world (x + 0)) && is_executable plain_world (x + 1)) (is_executable plain_world (x + 2)) b).0 in
      let d = (and_parts (true && is_executable plain_world (x + 0)) (is_executable plain_world (x + 1)) c).0 in
      subst (λ y. is_executable plain_world y ≡ true) (plus_zero x) d
    where
      plus_zero : (x : ℕ) → x + 0 ≡ x
      plus_zero x = omega arith

  -- text has its bytes at all times
  text_byte : (b : State) (m : Cells Cell) (x c : ℕ) → m x ≡ Some (Byte c) → Agree (IsErasedCell E) (m x) (b.memory x) → b.memory x ≡ Some c
  text_byte b m x c e k = go (b.memory x) (subst (λ o. Agree (IsErasedCell E) o (b.memory x)) e k)
    where
      go : (o : Option ℕ) → Agree (IsErasedCell E) (Some (Byte c)) o → o ≡ Some c
      go None k = absurd k
      go (Some d) k = ap Some k

  same_byte : (a : Watched) (b : State) → Erases a b → (x : ℕ) → is_in_text t x ≡ true → b.memory x ≡ first.memory x
  same_byte a b h x e =
      let c = begins.bytes x e in
      text_byte b a.core.store.memory x c.0 (h.text x e ∙ c.1) (h.core.store.memory x tt) ∙ sym (text_byte first Cells_ x c.0 c.1 (begins.memory x tt))

  same_word : (a : Watched) (b : State) → Erases a b → (x : ℕ) (v : Word) → word_at t x ≡ Some v → aligned_number b.memory x 4 ≡ Some v.number
  unfolding number_at
  same_word a b h x v e =
      let s = stood x t.lo v t.words e in
      let low : t.lo ≤ x = s.least in
      let high : x + 4 ≤ t.lo + 4 * length t.words = s.most in
      let inside : (i : ℕ) → i < 4 → is_in_text t (x + i) ≡ true = λ i l. in_range (x + i) (omega arith) (omega (arith, l, high)) in
      let same = cells_from-same 4 b.memory first.memory x (λ i l. same_byte a b h (x + i) (inside i l)) in
      ap (λ o. if x % 4 == 0 then option_map bytes_number o else None) same ∙ (begins.text x v e).1
    where
      in_range : (y : ℕ) → t.lo ≤ y → y < t.lo + 4 * length t.words → is_in_text t y ≡ true
      in_range y a b =
          let c : nat_le t.lo y ≡ true = grind (arith, nat_tests) in
          let d : nat_lt y (end_of t) ≡ true = grind (arith, nat_tests) in
          rw (c, d) refl

  fetch_word : (a : Watched) (b : State) → Erases a b → (v : Word) → word_at t a.pc ≡ Some v → fetched plain_world b ≡ Some v.number
  fetch_word a b h v e =
      let r : is_range (is_executable plain_world) b.pc 4 ≡ true = subst (λ pc. is_range (is_executable plain_world) pc 4 ≡ true) (sym h.pc) (begins.text a.pc v e).0 in
      rw r (subst (λ pc. aligned_number b.memory pc 4 ≡ Some v.number) (sym h.pc) (same_word a b h a.pc v e))

  fetch_none : (a : Watched) (b : State) → Erases a b → is_executable plain_world a.pc ≡ false → fetched plain_world b ≡ None
  fetch_none a b h e =
      let f : is_executable plain_world (b.pc + 0) ≡ false = subst (λ pc. is_executable plain_world pc ≡ false) (sym h.pc ∙ sym (plus_zero b.pc)) e in
      let r : is_range (is_executable plain_world) b.pc 4 ≡ false = rw f (none (nat_le (b.pc + 4) (2 ^ 32))) in
      rw r refl
    where
      plus_zero : (x : ℕ) → x + 0 ≡ x
      plus_zero x = omega arith

      none : (c : Bool) → (c && false) ≡ false
      none true = refl
      none false = refl

  known : (a : Watched) (v : Word) (s : Sound a.pc v) → is a.pc ≡ true → word_at t a.pc ≡ Some v → Known a v.mark s.insn
  known a v s i e = record {
    next = λ g. next_reached p is linked.text dec fine a.pc v s i e g;
    target = λ to c. target_place a v s to i e c;
    half = λ to c. half_value a.pc to v s i e c;
    inside = λ to c f. used_reached p is linked.text dec fine a.pc to v s i e (inr (c, f));
    marked = subst (λ o. IsMarked o v.mark) s.is (linked.text.marked a.pc v e);
    small = linked.text.small a.pc v e;
    fits = FieldsFit-insn_of v.number s.insn (linked.text.numbers a.pc v e) s.is;
  }

  -- ONE STEP

  word_watch : (a : Watched) (b : State) → Erases a b → (o : Option Word) → word_at t a.pc ≡ o → (is a.pc ≡ true) ⊎ (is_executable plain_world a.pc ≡ false) → Match (monitored.word_step S a.pc o a.core) (word_step plain_world b (fetched plain_world b))
  word_watch a b h None e (inl i) = let v = word_of a.pc i in absurd (let f : Some v.0 ≡ None = sym v.1 ∙ e in cc)
  word_watch a b h None e (inr n) = rw (fetch_none a b h n) (ap Fetch h.pc)
  word_watch a b h (Some v) e (inr n) = absurd (let f : true ≡ false = sym (present a.pc v e) ∙ n in cc)
  word_watch a b h (Some v) e (inl i) =
      let s = sound_word p is linked.text dec fine a.pc v i e in
      rw (fetch_word a b h v e)
      (subst (λ o. Match (monitored.marked_step S a.pc v.mark o a.core) (insn_step plain_world b o)) (sym s.is) (insn_watch v.mark s.insn a b h (known a v s i e)))

  watch_step : (a : Watched) (b : State) → Erases a b → Match (monitored_step (layout_of w start) t a) (step_of plain_world b)
  unfolding step_of
  watch_step a b h = word_watch a b h (word_at t a.pc) refl h.place

  -- THE START

  start_held : (r : ℕ) → IsErasedHeld E (first_registers start r) (first.registers r)
  start_held r = subst (IsErasedHeld E (first_registers start r)) (sym (begins.registers r)) (go (r == 2 && not (2 == 0)))
    where
      go : (c : Bool) → IsErasedHeld E (if c then Holds (Num (stack_pointer start)) else Holds (Num 0)) (if c then stack_pointer start else 0)
      go true = refl
      go false = refl

  start_kept : (r : ℕ) → is_lost (first_registers start r) ≡ false
  start_kept r = go (r == 2 && not (2 == 0))
    where
      go : (c : Bool) → is_lost (if c then Holds (Num (stack_pointer start)) else Holds (Num 0)) ≡ false
      go true = refl
      go false = refl

  starts : Erases (watched_start w p start) first
  starts = record {
    pc = begins.pc;
    core = record {
      registers = start_held;
      zero = begins.registers 0 ∙ zero_written 2 (stack_pointer start) (λ r. 0) refl;
      store = record { memory = begins.memory; stale = λ x _ e. refl; input = begins.input; reservation = begins.reservation };
    };
    kept = start_kept;
    text = λ x e. refl;
    place = inl (dec.all p.entry (entry linked.entry));
  }

  pub erasing : Erases (watched_start w p start) first × SimulatesInStep (monitored_step (layout_of w start) t) (step_of plain_world) Erases
  erasing = (starts, watch_step)

  pub watching : LocksWith (monitored_step (layout_of w start) t) (watched_start w p start) (step_of plain_world) first
  watching = locks_by (monitored_step (layout_of w start) t) (step_of plain_world) Erases watch_step (watched_start w p start) first starts

pub erasure_law : ErasureLaw
erasure_law p is linked dec fine w start plain_world first lo hi begins = erasing p is linked dec fine w start plain_world first begins

pub watching_erases : WatchingErases
watching_erases p is linked dec fine w start plain_world first lo hi begins = watching p is linked dec fine w start plain_world first begins
