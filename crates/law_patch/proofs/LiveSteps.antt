-- Two runs of one graph that agree on what is live step to states that agree again.
use Rattle.std.proofs.Common.{◌≡◌, ℕ, zero, suc, ◌+◌, ℤ, pos, Bool, true, false, not, ◌==◌, ◌||◌, List, [], ◌∷◌, Option, Some, None, slice_get, if◌then◌else◌, refl, sym, ap, ◌∙◌, subst, inl, inr, arith}
use Rattle.std.specs.List.{Contains}
use Rattle.std.proofs.lemmas.Bool.{and_parts}
use Rattle.std.proofs.lemmas.Bool.Decides.{nat_tests}
use Rattle.std.proofs.Math.Bool.{or-true}
use Rattle.sq_isa.specs.Registers.{is_among, is_among_but_x0}
use Rattle.sq_isa.specs.Uses.{sources_of, destination_of}
use Rattle.sq_isa.specs.Forms.{first_of, second_of, with_registers}
use Rattle.sq_isa.specs.declared.instructions.Insn.{Insn}
use Rattle.sq_isa.specs.declared.instructions.Insn.TheVariants.{Lui, Auipc, Jal, Jalr, Branch as BranchInsn, Load, Store as StoreInsn, OpImm, Op, Fence, Ecall, Ebreak, Unimp, Atomic}
use Rattle.sq_isa.specs.declared.instructions.ImmOp.TheVariants.{Addi}
use Rattle.law_runs.specs.Runs.{Went, Ended, Broke}
use Rattle.law_runs.specs.Simulation.{Matches}
use Rattle.sq_system.specs.Starts.{Start}
use Rattle.sq_graph.specs.declared.item.Term.{Term}
use Rattle.sq_graph.specs.declared.item.Term.TheVariants.{Fall, Jump, Branch, Call, PartJump, Indirect, Stop}
use Rattle.sq_graph.specs.Graph.{Procedure, Graph}
use Rattle.sq_graph.specs.Terms.{links}
use Rattle.sq_graph.specs.Lines.{AddressHalf, Plain, Upper, Lower, Line, Name, Do, Enter, Return, End, inside, slot_name, block_lines}
use Rattle.sq_graph.specs.Walks.{read_here, live_behind, Goes, code_targets, is_register, is_link_of, line_writes, term_sources, term_link}
use Rattle.law_follow.specs.declared.kind.Kind.TheVariants.{Half as HalfBreak, Jump as JumpBreak}
use Rattle.sq_system.specs.World.{is_executable}
use Rattle.sq_system.specs.declared.event.Halt.TheVariants.{Fetch}
use Rattle.sq_isa.specs.Words.{wrapped, unsigned, even}
use Rattle.std.specs.Ordering.{int_eq}
use Rattle.law_follow.specs.Values.{Code, Part, Value, Num, Tagged, Held, Holds, Lost}
use Rattle.law_follow.specs.Settings.{Setting}
use Rattle.law_follow.specs.Arithmetic.{is_taken, is_upper_half}
use Rattle.law_follow.specs.Jumps.{ToName, ToNumber, Jumped, part_jump, indirect_jump}
use Rattle.law_follow.specs.GraphRuns.{Core, State, At, Fetching, Moves, register_value, reads_lost, with_register, do_line, enter, link_to, with_link, jump, branch, term_step, term_line, lines_step, graph_step}
use Rattle.law_follow.specs.Worlds.{World, all_names, setting_of}
use Rattle.law_patch.specs.Agreement.{Ties, SameValue, SameHeld, SameCore, IsTied}
use Rattle.law_patch.specs.Registers.{IsSource, AreSources, IsWritten}
use Rattle.law_patch.specs.LiveAgreement.{own_ties, everywhere, StandsLive, HalfMakesTarget, SlotIsTarget, MakeTargets, AgreeLive, StepsAgree}
use Rattle.law_patch.proofs.Deeds.{IsTiedHalf, sources_rel, operand_at, registers_rel, taken_rel, do_rel, unless_lost}
use Rattle.law_patch.proofs.LiveTargets.{block_makes, inside_makes}

-- an instruction has its own registers
pub own_registers : (insn : Insn) → with_registers (destination_of insn) (first_of insn) (second_of insn) insn ≡ insn
own_registers (Lui rd upper) = refl
own_registers (Auipc rd upper) = refl
own_registers (Jal rd offset) = refl
own_registers (Jalr rd rs offset) = refl
own_registers (BranchInsn c a b offset) = refl
own_registers (Load kind rd rs offset) = refl
own_registers (StoreInsn kind rs src offset) = refl
own_registers (OpImm op rd rs imm) = refl
own_registers (Op op rd a b) = refl
own_registers (Fence word) = refl
own_registers Ecall = refl
own_registers Ebreak = refl
own_registers (Unimp word) = refl
own_registers (Atomic op order rd rs src) = refl

-- registers that are read stand for themselves
own_source : (Stands : ℕ → ℕ → Type 0) (r : ℕ) → ((q : ℕ) → r ≡ suc q → Stands r r) → IsSource Stands r r
own_source Stands zero h = tt
own_source Stands (suc r) h = h r refl

-- the same upper half
upper_same : (g : Graph) (n : ℕ) (imm : ℤ) (v u : Value) → SameValue (own_ties g) v u → is_upper_half n imm v ≡ true → is_upper_half n imm u ≡ true
upper_same g n imm (Num x) u h e = absurd (cc)
upper_same g n imm (Tagged (Code m)) u h e = absurd (cc)
upper_same g n imm (Tagged (Part m word)) u h e = subst (λ v. is_upper_half n imm v ≡ true) (sym h) e

pub not_zero : (q : ℕ) → (suc q == 0) ≡ false
not_zero q = grind (arith, nat_tests)

same_one : (r : ℕ) → (r == r) ≡ true
same_one r = grind (arith, nat_tests)

-- what is among the later registers is among all
later : (r : ℕ) (rs : List ℕ) (q : ℕ) → is_among_but_x0 rs q ≡ true → is_among_but_x0 (r ∷ rs) q ≡ true
later r rs q e = let p = and_parts (not (q == 0)) (is_among rs q) e in rw (p.0, p.1) (or-true (r == q))

pub own_sources : (Stands : ℕ → ℕ → Type 0) (rs : List ℕ) → ((r : ℕ) → is_among_but_x0 rs r ≡ true → Stands r r) → AreSources Stands rs rs
own_sources Stands [] h = tt
own_sources Stands (r ∷ rs) h = (
  own_source Stands r (λ q e. h r (rw (same_one r, ap (λ n. n == 0) e ∙ not_zero q) refl)),
  own_sources Stands rs (λ q e. h q (later r rs q e)),
)

-- no register is x0
pub no_link : (r : ℕ) → is_register 0 r ≡ false
no_link r = grind (arith, nat_tests)

module _ (w : World) (start : Start) (g : Graph) where
  abbrev T : Ties
  T = own_ties g

  abbrev s : Setting
  s = setting_of w start

  tied : IsTied everywhere T s
  tied = record {
    numbers = λ n word x h. absurd (let e : Num x ≡ Tagged (Part n word) = h in cc);
    outside = λ x n h i l. tt;
  }

  abbrev Agrees : List Line → Core → Core → Type 0
  Agrees lines a b = SameCore everywhere T (StandsLive g lines) a b

  abbrev Match : Moves → Moves → Type 0
  Match = Matches (AgreeLive g)

  -- behind a line that writes nothing
  behind : (line : Line) (rest next : List Line) (a b : Core) → ((r : ℕ) → line_writes g.procedures line r ≡ false) → Goes g line rest next → Agrees (line ∷ rest) a b → Agrees next a b
  behind line rest next a b e go h = record {
    registers = λ r q n. h.registers r q (n.0, live_behind (e r) go n.1);
    store = h.store;
  }

  -- behind a line that writes the same into one register
  behind_written : (line : Line) (rest next : List Line) (d : ℕ) (x : Held) (a b : Core) → ((r : ℕ) → line_writes g.procedures line r ≡ is_register d r) → Goes g line rest next → SameHeld T x x → Agrees (line ∷ rest) a b → Agrees next (with_register d x a) (with_register d x b)
  behind_written line rest next d x a b e go same h = record {
    registers = registers_rel everywhere T (StandsLive g (line ∷ rest)) (StandsLive g next) d d x x a.registers b.registers
        (λ r q n. (ap (is_register d) n.0, λ f. (n.0, live_behind (e r ∙ f) go n.1))) same h.registers;
    store = h.store;
  }

  half_tied : (half : AddressHalf) (insn : Insn) → HalfMakesTarget g half insn → IsTiedHalf everywhere T s all_names tied half half insn
  half_tied Plain insn h = tt
  half_tied (Upper n word) insn h = refl
  half_tied (Lower n) (OpImm Addi rd rs imm) h = record { address = (refl, h); upper = λ v u k e. upper_same g n imm v u k e }
  half_tied (Lower n) insn h = absurd h

  do_step : (half : AddressHalf) (insn : Insn) (rest : List Line) (a b : Core) → HalfMakesTarget g half insn → MakeTargets g rest → Agrees (Do half insn ∷ rest) a b → Match (do_line s half insn rest a) (do_line s half insn rest b)
  do_step half insn rest a b t m h =
      let Stands : ℕ → ℕ → Type 0 = StandsLive g (Do half insn ∷ rest) in
      let Next : ℕ → ℕ → Type 0 = StandsLive g rest in
      let same = own_registers insn in
      let reads : AreSources Stands (sources_of insn) (sources_of insn) = own_sources Stands (sources_of insn) (λ r e. (refl, read_here e)) in
      let writes : IsWritten Stands (destination_of insn) (destination_of insn) Next = λ r q n. (ap (is_register (destination_of insn)) n.0, λ f. (n.0, live_behind f refl n.1)) in
      subst (λ other. Match (do_line s half insn rest a) (do_line s half other rest b)) same
      (do_rel everywhere T s all_names tied Stands Next (AgreeLive g) half half insn (destination_of insn) (first_of insn) (second_of insn) rest rest a b (half_tied half insn t)
      (subst (λ other. AreSources Stands (sources_of insn) (sources_of other)) (sym same) reads)
      (subst (λ other. IsWritten Stands (destination_of insn) (destination_of other) Next) (sym same) writes)
      (λ c c' k. (refl, m, k)) h)

  enter_step : (i : ℕ) (o : Option Procedure) (rest : List Line) (a b : Core) → slice_get g.procedures i ≡ o → MakeTargets g rest → Agrees (Enter i ∷ rest) a b → Match (enter o rest a) (enter o rest b)
  enter_step i None rest a b e m h = tt
  enter_step i (Some p) rest a b e m h =
      (refl, (refl, inside_makes g i p rest e m, behind_written (Enter i) rest (inside p rest) p.link Lost a b (λ r. ap (λ o. is_link_of o r) e) (p, e, refl) tt h))

  -- a linked jump: the link is the same code target on both sides
  linked_step : (link : ℕ) (slot : Option ℕ) (a b : Core) (go go' : Core → Moves) → SlotIsTarget g slot → ((n : ℕ) → Contains (code_targets g) n → Match (go (with_register link (Holds (Tagged (Code n))) a)) (go' (with_register link (Holds (Tagged (Code n))) b))) → Match (link_to link slot a go) (link_to link slot b go')
  linked_step link None a b go go' t k = tt
  linked_step link (Some n) a b go go' t k = k n t

  -- the value of a register is the same on both sides, and an address of code is that of a code target
  same_value : (v u : Value) → SameValue T v u → u ≡ v
  same_value (Num x) u h = h
  same_value (Tagged (Code n)) (Num y) h = absurd h
  same_value (Tagged (Code n)) (Tagged (Code m)) h = ap (λ k. Tagged (Code k)) h.0
  same_value (Tagged (Code n)) (Tagged (Part m word)) h = absurd h
  same_value (Tagged (Part n word)) u h = h

  code_target : (n : ℕ) (u : Value) → SameValue T (Tagged (Code n)) u → Contains (code_targets g) n
  code_target n (Num y) h = absurd h
  code_target n (Tagged (Code m)) h = h.1
  code_target n (Tagged (Part m word)) h = absurd h

  -- the names to which a jump goes
  abbrev IsLed : Term → List Line → Jumped → Type 0
  IsLed term rest (Went event (ToName n)) = Goes g (End term) rest (block_lines g n)
  IsLed term rest (Went event (ToNumber x)) = Unit {0}
  IsLed term rest (Ended halt) = Unit {0}
  IsLed term rest (Broke kind) = Unit {0}

  half_led : (t : Bool) (link part to : ℕ) (rest : List Line) → IsLed (PartJump link part to) rest (if t then Went None (ToName to) else Broke HalfBreak)
  half_led true link part to rest = refl
  half_led false link part to rest = tt

  number_led : (t : Bool) (link at : ℕ) (offset : ℤ) (rest : List Line) (x : ℕ) → IsLed (Indirect link at offset) rest (if t then Broke JumpBreak else Went None (ToNumber x))
  number_led true link at offset rest x = tt
  number_led false link at offset rest x = tt

  code_led : (t : Bool) (link at : ℕ) (offset : ℤ) (rest : List Line) (n : ℕ) → Contains (code_targets g) n → IsLed (Indirect link at offset) rest (if t then Went None (ToName n) else Broke JumpBreak)
  code_led true link at offset rest n c = (n, c, refl)
  code_led false link at offset rest n c = tt

  -- behind a term with a link, to one place
  link_step : (link : ℕ) (term : Term) (rest next : List Line) (a b : Core) → term_link term ≡ link → (links term ≡ true → SlotIsTarget g (slot_name rest)) → ((r : ℕ) → link ≡ suc r → links term ≡ true) → MakeTargets g next → Goes g (End term) rest next → Agrees (End term ∷ rest) a b → Match (with_link link rest a (λ c. Went None (At next c))) (with_link link rest b (λ c. Went None (At next c)))
  link_step zero term rest next a b e t l m go h =
      (refl, (refl, m, behind (End term) rest next a b (λ r. ap (λ d. is_register d r) e ∙ no_link r) go h))
  link_step (suc r) term rest next a b e t l m go h =
      linked_step (suc r) (slot_name rest) a b (λ c. Went None (At next c)) (λ c. Went None (At next c)) (t (l r refl))
      (λ n c. (refl, (refl, m, behind_written (End term) rest next (suc r) (Holds (Tagged (Code n))) a b (λ q. ap (λ d. is_register d q) e) go (refl, c) h)))

  -- off code with a link, which nothing looks at
  off_step : (link : ℕ) (term : Term) (rest : List Line) (x : ℕ) (a b : Core) → (links term ≡ true → SlotIsTarget g (slot_name rest)) → ((r : ℕ) → link ≡ suc r → links term ≡ true) → Match (with_link link rest a (λ c. Went None (Fetching x))) (with_link link rest b (λ c. Went None (Fetching x)))
  off_step zero term rest x a b t l = (refl, refl)
  off_step (suc r) term rest x a b t l = linked_step (suc r) (slot_name rest) a b (λ c. Went None (Fetching x)) (λ c. Went None (Fetching x)) (t (l r refl)) (λ n c. (refl, refl))

  jump_step : (link : ℕ) (term : Term) (rest : List Line) (a b : Core) (jumped : Jumped) → term_link term ≡ link → (links term ≡ true → SlotIsTarget g (slot_name rest)) → ((r : ℕ) → link ≡ suc r → links term ≡ true) → IsLed term rest jumped → Agrees (End term ∷ rest) a b → Match (jump g link rest a jumped) (jump g link rest b jumped)
  jump_step link term rest a b (Went event (ToName n)) e t l go h = link_step link term rest (block_lines g n) a b e t l (block_makes g n) go h
  jump_step link term rest a b (Went event (ToNumber x)) e t l go h = off_step link term rest x a b t l
  jump_step link term rest a b (Ended halt) e t l go h = refl
  jump_step link term rest a b (Broke kind) e t l go h = tt

  branch_step : (n : ℕ) (rest : List Line) (a b : Core) (o p : Option Bool) → ((t : Bool) → o ≡ Some t → p ≡ Some t) → MakeTargets g rest → Agrees (block_lines g n) a b → Agrees rest a b → Match (branch g n rest a o) (branch g n rest b p)
  branch_step n rest a b None p e m h k = tt
  branch_step n rest a b (Some true) p e m h k = rw (e true refl) (refl, (refl, block_makes g n, h))
  branch_step n rest a b (Some false) p e m h k = rw (e false refl) (refl, (refl, m, k))

  -- where the jumps of a graph lead
  part_led : (link part to : ℕ) (rest : List Line) (v : Value) → IsLed (PartJump link part to) rest (part_jump s to (pos 0) v)
  part_led link part to rest v = half_led (is_upper_half to (pos 0) v) link part to rest

  indirect_led : (link at : ℕ) (offset : ℤ) (rest : List Line) (v u : Value) → SameValue T v u → IsLed (Indirect link at offset) rest (indirect_jump s offset v)
  indirect_led link at offset rest (Num x) u h = number_led (is_executable s.world (even (wrapped (x + unsigned offset)))) link at offset rest (even (wrapped (x + unsigned offset)))
  indirect_led link at offset rest (Tagged (Code n)) u h = code_led (int_eq offset (pos 0)) link at offset rest n (code_target n u h)
  indirect_led link at offset rest (Tagged (Part n word)) u h = tt

  term_rel : (term : Term) (rest : List Line) (a b : Core) → (links term ≡ true → SlotIsTarget g (slot_name rest)) → MakeTargets g rest → ((i : ℕ) → SameValue T (operand_at everywhere T (term_sources term) a.registers i) (operand_at everywhere T (term_sources term) b.registers i)) → Agrees (End term ∷ rest) a b → Match (term_step s g term rest a) (term_step s g term rest b)
  term_rel Fall rest a b t m v h = (refl, (refl, m, behind (End Fall) rest rest a b no_link refl h))
  term_rel (Jump to) rest a b t m v h = (refl, (refl, block_makes g to, behind (End (Jump to)) rest (block_lines g to) a b no_link refl h))
  term_rel (Branch cond x y to) rest a b t m v h =
      branch_step to rest a b (is_taken s cond (register_value x a.registers) (register_value y a.registers)) (is_taken s cond (register_value x b.registers) (register_value y b.registers))
      (λ c e. taken_rel everywhere T s all_names cond (register_value x a.registers) (register_value y a.registers) (register_value x b.registers) (register_value y b.registers) c (v 0) (v 1) e) m
      (behind (End (Branch cond x y to)) rest (block_lines g to) a b no_link (inl refl) h)
      (behind (End (Branch cond x y to)) rest rest a b no_link (inr refl) h)
  term_rel (Call link to) rest a b t m v h = link_step link (Call link to) rest (block_lines g to) a b refl t (λ r e. ap (λ n. not (n == 0)) e ∙ ap not (not_zero r)) (block_makes g to) refl h
  term_rel (PartJump link part to) rest a b t m v h =
      subst (λ u. Match (jump g link rest a (part_jump s to (pos 0) (register_value part a.registers))) (jump g link rest b (part_jump s to (pos 0) u))) (sym (same_value (register_value part a.registers) (register_value part b.registers) (v 0)))
      (jump_step link (PartJump link part to) rest a b (part_jump s to (pos 0) (register_value part a.registers)) refl t (λ r e. ap (λ n. not (n == 0)) e ∙ ap not (not_zero r)) (part_led link part to rest (register_value part a.registers)) h)
  term_rel (Indirect link at offset) rest a b t m v h =
      subst (λ u. Match (jump g link rest a (indirect_jump s offset (register_value at a.registers))) (jump g link rest b (indirect_jump s offset u))) (sym (same_value (register_value at a.registers) (register_value at b.registers) (v 0)))
      (jump_step link (Indirect link at offset) rest a b (indirect_jump s offset (register_value at a.registers)) refl t (λ r e. ap (λ n. not (n == 0)) e ∙ ap not (not_zero r)) (indirect_led link at offset rest (register_value at a.registers) (register_value at b.registers) (v 0)) h)
  term_rel (Stop word) rest a b t m v h = refl

  end_step : (term : Term) (rest : List Line) (a b : Core) → (links term ≡ true → SlotIsTarget g (slot_name rest)) → MakeTargets g rest → Agrees (End term ∷ rest) a b → Match (term_line s g term rest a) (term_line s g term rest b)
  end_step term rest a b t m h =
      unless_lost everywhere T s all_names tied (AgreeLive g) (reads_lost (term_sources term) a) (term_step s g term rest a) (term_line s g term rest b)
      (λ e.
      let Stands : ℕ → ℕ → Type 0 = StandsLive g (End term ∷ rest) in
      let o = sources_rel everywhere T Stands (term_sources term) (term_sources term) a.registers b.registers (own_sources Stands (term_sources term) (λ r f. (refl, read_here f))) h.registers e in
      rw o.0 (term_rel term rest a b t m o.1 h))

  pub lines_rel : (lines : List Line) (a b : Core) → MakeTargets g lines → Agrees lines a b → Match (lines_step s g lines a) (lines_step s g lines b)
  lines_rel [] a b m h = tt
  lines_rel (Name n ∷ rest) a b m h = lines_rel rest a b m (behind (Name n) rest rest a b (λ r. refl) refl h)
  lines_rel (Do half insn ∷ rest) a b m h = do_step half insn rest a b m.0 m.1 h
  lines_rel (Enter i ∷ rest) a b m h = enter_step i (slice_get g.procedures i) rest a b refl m h
  lines_rel (Return link ∷ rest) a b m h = (refl, (refl, m, behind (Return link) rest rest a b (λ r. refl) refl h))
  lines_rel (End Fall ∷ rest) a b m h = lines_rel rest a b m.1 (behind (End Fall) rest rest a b no_link refl h)
  lines_rel (End (Jump to) ∷ rest) a b m h = end_step (Jump to) rest a b m.0 m.1 h
  lines_rel (End (Branch cond x y to) ∷ rest) a b m h = end_step (Branch cond x y to) rest a b m.0 m.1 h
  lines_rel (End (Call link to) ∷ rest) a b m h = end_step (Call link to) rest a b m.0 m.1 h
  lines_rel (End (PartJump link part to) ∷ rest) a b m h = end_step (PartJump link part to) rest a b m.0 m.1 h
  lines_rel (End (Indirect link at offset) ∷ rest) a b m h = end_step (Indirect link at offset) rest a b m.0 m.1 h
  lines_rel (End (Stop word) ∷ rest) a b m h = end_step (Stop word) rest a b m.0 m.1 h

  state_rel : (x y : State) → AgreeLive g x y → Match (graph_step s g x) (graph_step s g y)
  state_rel (At lines a) (At others b) h = subst (λ ls. Match (lines_step s g lines a) (lines_step s g ls b)) (sym h.0) (lines_rel lines a b h.1 h.2)
  state_rel (At lines a) (Fetching y) h = absurd h
  state_rel (Fetching x) (At others b) h = absurd h
  state_rel (Fetching x) (Fetching y) h = ap Fetch h

pub steps_agree : StepsAgree
steps_agree w start g x y h = state_rel w start g x y h
