-- One theorem for all rewriting: where places go on alike, again and again, the second graph follows the first.
use Rattle.std.proofs.Common.{◌≡◌, ℕ, zero, suc, ℤ, pos, Bool, true, false, not, ◌==◌, ◌&&◌, ◌||◌, List, [], ◌∷◌, Option, Some, None, map, slice_get, if◌then◌else◌, refl, sym, ap, ◌∙◌, subst, inl, inr, arith, eq-eqb}
use Rattle.std.specs.List.{list_any}
use Rattle.std.proofs.lemmas.Bool.{eqb-true, and_parts, and_from}
use Rattle.std.proofs.lemmas.Bool.Decides.{nat_tests}
use Rattle.std.proofs.lemmas.Grind.{common_steps}
use Rattle.std.proofs.Math.Bool.{or-true}
use Rattle.sq_isa.specs.Forms.{with_registers}
use Rattle.sq_isa.specs.Branches.{taken_of, inverse_of}
use Rattle.sq_isa.specs.Registers.{is_among, is_among_but_x0}
use Rattle.sq_isa.specs.Uses.{sources_of, destination_of}
use Rattle.sq_isa.specs.declared.instructions.Cond.{Cond}
use Rattle.sq_isa.specs.declared.instructions.Cond.TheVariants.{Beq, Bne, Blt, Bge, Bltu, Bgeu}
use Rattle.sq_isa.specs.declared.instructions.Insn.{Insn}
use Rattle.sq_isa.specs.declared.instructions.Insn.TheVariants.{OpImm}
use Rattle.sq_isa.specs.declared.instructions.ImmOp.TheVariants.{Addi}
use Rattle.law_runs.specs.Runs.{Went, Ended, Broke}
use Rattle.law_runs.specs.Simulation.{Matches, Meets, Simulates, SimulatesInStep}
use Rattle.law_runs.proofs.Simulate.{follows_by, locks_by, meets_now, meets_skip, meets_wait, meets_broke}
use Rattle.sq_memory.specs.Regions.{get}
use Rattle.sq_system.specs.Starts.{Start, stack_pointer}
use Rattle.sq_system.specs.declared.event.Halt.TheVariants.{Fetch}
use Rattle.sq_graph.specs.declared.item.Term.{Term}
use Rattle.sq_graph.specs.declared.item.Term.TheVariants.{Fall, Jump, Branch, Call, PartJump, Indirect, Stop}
use Rattle.sq_graph.specs.Terms.{links}
use Rattle.sq_graph.specs.Lines.{AddressHalf, Plain, Upper, Lower, Line, Name, Do, Enter, Return, End, inside, slot_name, block_lines}
use Rattle.sq_graph.specs.Walks.{Goes, word_name, is_register, is_link_of, line_writes, term_sources, term_link}
use Rattle.law_follow.specs.declared.kind.Kind.TheVariants.{Half as HalfBreak}
use Rattle.law_follow.specs.Values.{Code, Part, Value, Num, Tagged, Held, Holds, Lost}
use Rattle.law_follow.specs.Settings.{Setting}
use Rattle.law_follow.specs.Arithmetic.{zero_is_outside_text, taken_against_code, is_taken, is_upper_half}
use Rattle.law_follow.specs.Jumps.{Destination, ToName, ToNumber, Jumped, part_jump, indirect_jump}
use Rattle.law_follow.specs.GraphRuns.{LeavesGraph, Core, State, At, Fetching, Moves, register_value, lost_in, reads_lost, with_register, do_line, link_to, with_link, to_block, land, jump, branch, term_step, term_line, lines_step, graph_step}
use Rattle.law_follow.specs.Worlds.{World, all_names, setting_of, first_registers, regions_at_start}
use Rattle.law_follow.specs.Follows.{Follows, word_address, state_at_start}
use Rattle.law_patch.specs.Agreement.{Ties, SameValue, SameHeld, SameMemory, SameCore, IsTied}
use Rattle.law_patch.specs.Registers.{IsSource, AreSources}
use Rattle.law_patch.specs.LiveAgreement.{everywhere}
use Rattle.law_patch.specs.Operations.{KeepsStep}
use Rattle.law_patch.specs.Changes.{Change, Stands, IsNamedHalf, term_named, MayGoTo, falls, SameSlot, Alike, ends, promised, guarded, shift, name_before, name_after, jump_before, jump_after, return_before, return_after, enter_before, enter_after, dead_before, both_do, both_enter, both_return, both_end, both_turned, both_hastened, both_jumped, IsSteady}
use Rattle.law_patch.proofs.Deeds.{IsTiedHalf, SameDestination, sources_rel, operand_at, registers_rel, taken_rel, indirect_rel, do_rel, unless_lost, written_test}
use Rattle.law_patch.proofs.LiveSteps.{own_sources, not_zero, no_link}
use Rattle.law_patch.proofs.Starts.{start_memory_rel}

-- what the second graph's run may hold for what the first one's holds
abbrev pub ties_of : Change → Ties
ties_of C = record {
  code = C.MayHold;
  part = λ n word value. (word ≡ None) × (value ≡ Tagged (Part (C.renamed n) None));
}

-- what is known: a register that matters stands for another
abbrev pub Known : (C : Change) → Option C.Mode → List Line → ℕ → ℕ → Type 0
Known C m lines r s = C.Matters lines r × Stands C m r s

-- sources that are known where they matter
known_source : (P Q : ℕ → ℕ → Type 0) (r s : ℕ) → IsSource P r s → ((q : ℕ) → r ≡ suc q → P r s → Q r s) → IsSource Q r s
known_source P Q zero zero p h = tt
known_source P Q zero (suc s) p h = p
known_source P Q (suc r) zero p h = p
known_source P Q (suc r) (suc s) p h = h r refl p

same_one : (r : ℕ) → (r == r) ≡ true
same_one r = eq-eqb r r refl

-- what is among the later registers is among all
pub later : (r : ℕ) (rs : List ℕ) (q : ℕ) → is_among_but_x0 rs q ≡ true → is_among_but_x0 (r ∷ rs) q ≡ true
later r rs q e = let p = and_parts (not (q == 0)) (is_among rs q) e in rw (p.0, p.1) (or-true (r == q))

known_sources : (P Q : ℕ → ℕ → Type 0) (rs ss : List ℕ) → AreSources P rs ss → ((r s : ℕ) → is_among_but_x0 rs r ≡ true → P r s → Q r s) → AreSources Q rs ss
known_sources P Q [] [] p h = tt
known_sources P Q [] (s ∷ ss) p h = p
known_sources P Q (r ∷ rs) [] p h = p
known_sources P Q (r ∷ rs) (s ∷ ss) p h = (
  known_source P Q r s p.0 (λ q e x. h r s (rw (same_one r, ap (λ n. n == 0) e ∙ not_zero q) refl) x),
  known_sources P Q rs ss p.1 (λ q t e x. h q t (later r rs q e) x),
)

not_twice : (t : Bool) → t ≡ not (not t)
not_twice true = refl
not_twice false = refl

-- a branch and its inverse
inverse_taken : (cond : Cond) (x y : ℕ) → taken_of (inverse_of cond) x y ≡ not (taken_of cond x y)
inverse_taken Beq x y = refl
inverse_taken Bne x y = not_twice (x == y)
inverse_taken Blt x y = grind (arith, common_steps)
inverse_taken Bge x y = grind (arith, common_steps)
inverse_taken Bltu x y = grind (arith, nat_tests)
inverse_taken Bgeu x y = grind (arith, nat_tests)

module _ (C : Change) (w : World) (start : Start) (steady : IsSteady C) where
  abbrev T : Ties
  T = ties_of C

  abbrev s : Setting
  s = setting_of w start

  tied : IsTied everywhere T s
  tied = record {
    numbers = λ n word x h. absurd (let e : Num x ≡ Tagged (Part (C.renamed n) None) = h.1 in cc);
    outside = λ x n h i l. tt;
  }

  abbrev Agrees : Option C.Mode → List Line → Core → Core → Type 0
  Agrees m lines a b = SameCore everywhere T (Known C m lines) a b

  abbrev PatchState : State → State → Type 0
  PatchState (At xs a) (At ys b) = (m : Option C.Mode) × (Alike C true m xs ys × Agrees m xs a b)
  PatchState (Fetching x) (Fetching y) = y ≡ x
  PatchState (At xs a) (Fetching y) = ⊥
  PatchState (Fetching x) (At ys b) = ⊥

  abbrev step_before : State → Moves
  step_before = graph_step s C.before

  abbrev step_after : State → Moves
  step_after = graph_step s C.after

  abbrev Meet : Moves → Moves → Type 0
  Meet = Meets step_before step_after PatchState

  abbrev Match : Moves → Moves → Type 0
  Match = Matches PatchState

  -- they meet, and where no side may make steps by itself their next steps match
  abbrev MeetOrMatch : Moves → Moves → Type 0
  MeetOrMatch x y = Meet x y × (¬ C.MaySkip → Match x y)

  now : (x y : Moves) → Match x y → MeetOrMatch x y
  now x y m = (meets_now step_before step_after PatchState x y m, λ never. m)

  -- steps of one side alone
  aside : (x y : Moves) → C.MaySkip → Meet x y → MeetOrMatch x y
  aside x y may m = (m, λ never. absurd (never may))

  -- knowing less of registers
  known_less : (P Q : ℕ → ℕ → Type 0) (a b : Core) → ((r q : ℕ) → Q r q → P r q) → SameCore everywhere T P a b → SameCore everywhere T Q a b
  known_less P Q a b h c = record { registers = λ r q n. c.registers r q (h r q n); store = c.store }

  -- behind a line that writes nothing
  behind : (m : Option C.Mode) (line : Line) (rest next : List Line) (a b : Core) → ((r : ℕ) → line_writes C.before.procedures line r ≡ false) → Goes C.before line rest next → Agrees m (line ∷ rest) a b → Agrees m next a b
  behind m line rest next a b e go h = known_less (Known C m (line ∷ rest)) (Known C m next) a b (λ r q n. (steady.carrier.kept line rest next r (e r) go n.0, n.1)) h

  -- behind a line that writes the same into one register
  behind_written : (line : Line) (rest next : List Line) (d : ℕ) (x y : Held) (a b : Core) → ((r : ℕ) → line_writes C.before.procedures line r ≡ is_register d r) → Goes C.before line rest next → SameHeld T x y → Agrees None (line ∷ rest) a b → Agrees None next (with_register d x a) (with_register d y b)
  behind_written line rest next d x y a b e go same h = record {
    registers = registers_rel everywhere T (Known C None (line ∷ rest)) (Known C None next) d d x y a.registers b.registers
        (λ r q n. (ap (is_register d) n.1, λ f. (steady.carrier.kept line rest next r (e r ∙ f) go n.0, n.1))) same h.registers;
    store = h.store;
  }

  linked_step : (link : ℕ) (slot slot' : Option ℕ) (a b : Core) (go go' : Core → Moves) → SameSlot C.MayHold slot slot' → ((n n' : ℕ) → C.MayHold n n' → Match (go (with_register link (Holds (Tagged (Code n))) a)) (go' (with_register link (Holds (Tagged (Code n'))) b))) → Match (link_to link slot a go) (link_to link slot' b go')
  linked_step link None slot' a b go go' t k = tt
  linked_step link (Some n) None a b go go' t k = absurd t
  linked_step link (Some n) (Some n') a b go go' t k = k n n' t

  -- behind a term with a link, to places to which both may go
  link_step : (link : ℕ) (term : Term) (rest rest' : List Line) (n n' : ℕ) (a b : Core) → term_link term ≡ link → (links term ≡ true → SameSlot C.MayHold (slot_name rest) (slot_name rest')) → ((r : ℕ) → link ≡ suc r → links term ≡ true) → C.MayGo n n' → Goes C.before (End term) rest (block_lines C.before n) → Agrees None (End term ∷ rest) a b → Match (with_link link rest a (to_block C.before n)) (with_link link rest' b (to_block C.after n'))
  link_step zero term rest rest' n n' a b e t l j go h =
      (refl, (None, (promised j, behind None (End term) rest (block_lines C.before n) a b (λ r. ap (λ d. is_register d r) e ∙ no_link r) go h)))
  link_step (suc r) term rest rest' n n' a b e t l j go h =
      linked_step (suc r) (slot_name rest) (slot_name rest') a b (to_block C.before n) (to_block C.after n') (t (l r refl))
      (λ k k' v. (refl, (None, (promised j, behind_written (End term) rest (block_lines C.before n) (suc r) (Holds (Tagged (Code k))) (Holds (Tagged (Code k'))) a b (λ q. ap (λ d. is_register d q) e) go v h))))

  off_step : (link : ℕ) (term : Term) (rest rest' : List Line) (x : ℕ) (a b : Core) → (links term ≡ true → SameSlot C.MayHold (slot_name rest) (slot_name rest')) → ((r : ℕ) → link ≡ suc r → links term ≡ true) → Match (with_link link rest a (λ c. Went None (Fetching x))) (with_link link rest' b (λ c. Went None (Fetching x)))
  off_step zero term rest rest' x a b t l = (refl, refl)
  off_step (suc r) term rest rest' x a b t l = linked_step (suc r) (slot_name rest) (slot_name rest') a b (λ c. Went None (Fetching x)) (λ c. Went None (Fetching x)) (t (l r refl)) (λ n n' v. (refl, refl))

  -- two destinations, and that the first graph's walks go there
  abbrev IsLed : Term → List Line → Destination → Destination → Type 0
  IsLed term rest (ToName n) (ToName n') = C.MayGo n n' × Goes C.before (End term) rest (block_lines C.before n)
  IsLed term rest (ToName n) (ToNumber x) = ⊥
  IsLed term rest (ToNumber x) (ToName n) = ⊥
  IsLed term rest (ToNumber x) (ToNumber y) = y ≡ x

  land_step : (link : ℕ) (term : Term) (rest rest' : List Line) (a b : Core) (x y : Destination) → term_link term ≡ link → (links term ≡ true → SameSlot C.MayHold (slot_name rest) (slot_name rest')) → ((r : ℕ) → link ≡ suc r → links term ≡ true) → IsLed term rest x y → Agrees None (End term ∷ rest) a b → Match (with_link link rest a (λ c. land C.before c x)) (with_link link rest' b (λ c. land C.after c y))
  land_step link term rest rest' a b (ToName n) (ToName n') e t l go h = link_step link term rest rest' n n' a b e t l go.0 go.1 h
  land_step link term rest rest' a b (ToName n) (ToNumber x) e t l go h = absurd go
  land_step link term rest rest' a b (ToNumber x) (ToName n) e t l go h = absurd go
  land_step link term rest rest' a b (ToNumber x) (ToNumber y) e t l go h = rw go (off_step link term rest rest' x a b t l)

  jump_step : (link : ℕ) (term : Term) (rest rest' : List Line) (a b : Core) (x y : Jumped) → term_link term ≡ link → (links term ≡ true → SameSlot C.MayHold (slot_name rest) (slot_name rest')) → ((r : ℕ) → link ≡ suc r → links term ≡ true) → Matches (IsLed term rest) x y → Agrees None (End term ∷ rest) a b → Match (jump C.before link rest a x) (jump C.after link rest' b y)
  jump_step link term rest rest' a b (Went f x) (Went f' y) e t l m h = land_step link term rest rest' a b x y e t l m.1 h
  jump_step link term rest rest' a b (Went f x) (Ended g) e t l m h = absurd m
  jump_step link term rest rest' a b (Went f x) (Broke c) e t l m h = absurd m
  jump_step link term rest rest' a b (Ended g) (Went f x) e t l m h = absurd m
  jump_step link term rest rest' a b (Ended g) (Ended g') e t l m h = m
  jump_step link term rest rest' a b (Ended g) (Broke c) e t l m h = absurd m
  jump_step link term rest rest' a b (Broke c) y e t l m h = tt

  branch_step : (n n' : ℕ) (rest rest' : List Line) (a b : Core) (o p : Option Bool) → ((t : Bool) → o ≡ Some t → p ≡ Some t) → PatchState (At (block_lines C.before n) a) (At (block_lines C.after n') b) → PatchState (At rest a) (At rest' b) → Match (branch C.before n rest a o) (branch C.after n' rest' b p)
  branch_step n n' rest rest' a b None p e h k = tt
  branch_step n n' rest rest' a b (Some true) p e h k = rw (e true refl) (refl, h)
  branch_step n n' rest rest' a b (Some false) p e h k = rw (e false refl) (refl, k)

  turned_step : (n n' : ℕ) (rest rest' : List Line) (a b : Core) (o p : Option Bool) → ((t : Bool) → o ≡ Some t → p ≡ Some (not t)) → PatchState (At (block_lines C.before n) a) (At rest' b) → PatchState (At rest a) (At (block_lines C.after n') b) → Match (branch C.before n rest a o) (branch C.after n' rest' b p)
  turned_step n n' rest rest' a b None p e h k = tt
  turned_step n n' rest rest' a b (Some true) p e h k = rw (e true refl) (refl, h)
  turned_step n n' rest rest' a b (Some false) p e h k = rw (e false refl) (refl, k)

  -- an upper half, and what serves as it; in a graph the immediate isn't looked at
  upper_image_at : (n m : ℕ) (imm : ℤ) (v u : Value) → m ≡ C.renamed n → SameValue T v u → is_upper_half n imm v ≡ true → is_upper_half m imm u ≡ true
  upper_image_at n m imm (Num x) u e h k = absurd (cc)
  upper_image_at n m imm (Tagged (Code q)) u e h k = absurd (cc)
  upper_image_at n m imm (Tagged (Part q None)) u e h k =
      let same : q ≡ n = eqb-true q n (and_parts (q == n) true k).0 in
      subst (λ x. is_upper_half m imm x ≡ true) (sym h.1) (and_from (C.renamed q == m) true (eq-eqb (C.renamed q) m (ap C.renamed same ∙ sym e)) refl)
  upper_image_at n m imm (Tagged (Part q (Some word))) u e h k = absurd (let f : Some word ≡ None = h.0 in cc)

  abbrev Led : Term → List Line → Jumped → Jumped → Type 0
  Led term rest = Matches (IsLed term rest)

  half_led : (t t' : Bool) (link part n n' : ℕ) (rest : List Line) → C.MayGo n n' → (t ≡ true → t' ≡ true) → Led (PartJump link part n) rest (if t then Went None (ToName n) else Broke HalfBreak) (if t' then Went None (ToName n') else Broke HalfBreak)
  half_led false t' link part n n' rest j e = tt
  half_led true t' link part n n' rest j e = rw (e refl) (refl, (j, refl))

  part_led : (link part n n' : ℕ) (rest : List Line) (v u : Value) → C.MayGo n n' → n' ≡ C.renamed n → SameValue T v u → Matches (IsLed (PartJump link part n) rest) (part_jump s n (pos 0) v) (part_jump s n' (pos 0) u)
  part_led link part n n' rest v u j e h = half_led (is_upper_half n (pos 0) v) (is_upper_half n' (pos 0) u) link part n n' rest j (upper_image_at n n' (pos 0) v u e h)

  indirect_led : (link at : ℕ) (offset : ℤ) (rest : List Line) (x y : Destination) → SameDestination everywhere T x y → IsLed (Indirect link at offset) rest x y
  indirect_led link at offset rest (ToName n) (ToName n') h = let v = steady.values n n' h in (v.1, (n, v.0, refl))
  indirect_led link at offset rest (ToName n) (ToNumber x) h = absurd h
  indirect_led link at offset rest (ToNumber x) (ToName n) h = absurd h
  indirect_led link at offset rest (ToNumber x) (ToNumber y) h = h

  -- a wider relation of destinations
  wider : (link at : ℕ) (offset : ℤ) (rest : List Line) (x y : Jumped) → Matches (SameDestination everywhere T) x y → Led (Indirect link at offset) rest x y
  wider link at offset rest (Went f x) (Went f' y) m = (m.0, indirect_led link at offset rest x y m.1)
  wider link at offset rest (Went f x) (Ended g) m = m
  wider link at offset rest (Went f x) (Broke c) m = m
  wider link at offset rest (Ended g) (Went f x) m = m
  wider link at offset rest (Ended g) (Ended g') m = m
  wider link at offset rest (Ended g) (Broke c) m = m
  wider link at offset rest (Broke c) y m = tt

  -- the operands of a term stand for themselves
  operands_known : (t : Term) (xs : List Line) (a b : Core) → Agrees None (End t ∷ xs) a b → list_any (lost_in a.registers) (term_sources t) ≡ false → (list_any (lost_in b.registers) (term_sources t) ≡ false) × ((i : ℕ) → SameValue T (operand_at everywhere T (term_sources t) a.registers i) (operand_at everywhere T (term_sources t) b.registers i))
  operands_known t xs a b h e =
      let P : ℕ → ℕ → Type 0 = Known C None (End t ∷ xs) in
      sources_rel everywhere T P (term_sources t) (term_sources t) a.registers b.registers (own_sources P (term_sources t) (λ r f. (steady.carrier.read (End t) xs r f, refl))) h.registers e

  linking : (r link : ℕ) → link ≡ suc r → not (link == 0) ≡ true
  linking r link e = ap (λ n. not (n == 0)) e ∙ ap not (not_zero r)

  term_rel : (t : Term) (g : ℕ → ℕ) (xs ys : List Line) (a b : Core) → MayGoTo C g t → (falls t ≡ true → Alike C true None xs ys) → (links t ≡ true → SameSlot C.MayHold (slot_name xs) (slot_name ys)) → ((i : ℕ) → SameValue T (operand_at everywhere T (term_sources t) a.registers i) (operand_at everywhere T (term_sources t) b.registers i)) → Agrees None (End t ∷ xs) a b → Match (term_step s C.before t xs a) (term_step s C.after (term_named g t) ys b)
  term_rel Fall g xs ys a b j f l v h = absurd j
  term_rel (Jump to) g xs ys a b j f l v h = (refl, (None, (promised j, behind None (End (Jump to)) xs (block_lines C.before to) a b no_link refl h)))
  term_rel (Branch cond x y to) g xs ys a b j f l v h =
      branch_step to (g to) xs ys a b (is_taken s cond (register_value x a.registers) (register_value y a.registers)) (is_taken s cond (register_value x b.registers) (register_value y b.registers))
      (λ c e. taken_rel everywhere T s all_names cond (register_value x a.registers) (register_value y a.registers) (register_value x b.registers) (register_value y b.registers) c (v 0) (v 1) e)
      (None, (promised j, behind None (End (Branch cond x y to)) xs (block_lines C.before to) a b no_link (inl refl) h))
      (None, (f refl, behind None (End (Branch cond x y to)) xs xs a b no_link (inr refl) h))
  term_rel (Call link to) g xs ys a b j f l v h = link_step link (Call link to) xs ys to (g to) a b refl l (λ r e. linking r link e) j refl h
  term_rel (PartJump link part to) g xs ys a b j f l v h =
      jump_step link (PartJump link part to) xs ys a b (part_jump s to (pos 0) (register_value part a.registers)) (part_jump s (g to) (pos 0) (register_value part b.registers)) refl l (λ r e. linking r link e)
      (part_led link part to (g to) xs (register_value part a.registers) (register_value part b.registers) j.0 j.1 (v 0)) h
  term_rel (Indirect link at offset) g xs ys a b j f l v h =
      jump_step link (Indirect link at offset) xs ys a b (indirect_jump s offset (register_value at a.registers)) (indirect_jump s offset (register_value at b.registers)) refl l (λ r e. linking r link e)
      (wider link at offset xs (indirect_jump s offset (register_value at a.registers)) (indirect_jump s offset (register_value at b.registers)) (indirect_rel everywhere T s all_names offset (register_value at a.registers) (register_value at b.registers) (v 0))) h
  term_rel (Stop word) g xs ys a b j f l v h = refl

  -- a term and its counterpart with the same sources, where no source is lost
  with_operands : (t t' : Term) (xs ys : List Line) (a b : Core) → term_sources t' ≡ term_sources t → Agrees None (End t ∷ xs) a b → (((i : ℕ) → SameValue T (operand_at everywhere T (term_sources t) a.registers i) (operand_at everywhere T (term_sources t) b.registers i)) → Match (term_step s C.before t xs a) (term_step s C.after t' ys b)) → Match (term_line s C.before t xs a) (term_line s C.after t' ys b)
  with_operands t t' xs ys a b e h k =
      unless_lost everywhere T s all_names tied PatchState (reads_lost (term_sources t) a) (term_step s C.before t xs a) (term_line s C.after t' ys b)
      (λ f. let o = operands_known t xs a b h f in
      let none : reads_lost (term_sources t') b ≡ false = ap (λ sources. reads_lost sources b) e ∙ o.0 in
      rw none (k o.1))

  same_sources : (g : ℕ → ℕ) (t : Term) → term_sources (term_named g t) ≡ term_sources t
  same_sources g Fall = refl
  same_sources g (Jump to) = refl
  same_sources g (Branch cond x y to) = refl
  same_sources g (Call link to) = refl
  same_sources g (PartJump link part to) = refl
  same_sources g (Indirect link at offset) = refl
  same_sources g (Stop word) = refl

  -- what an instruction asks
  half_tied : (half half' : AddressHalf) (insn : Insn) → IsNamedHalf C half half' insn → IsTiedHalf everywhere T s all_names tied half half' insn
  half_tied Plain Plain insn h = tt
  half_tied (Upper n None) (Upper m None) insn h = (refl, ap (λ k. Tagged (Part k None)) h)
  half_tied (Lower n) (Lower m) (OpImm Addi rd rs imm) h = record { address = h.1; upper = λ v u k e. upper_image_at n m imm v u h.0 k e }
  half_tied (Lower n) (Lower m) insn h = absurd h
  half_tied half half' insn h = absurd h

  -- one side's registers where a link is lost, or one that doesn't matter is written
  if_held : (t : Bool) (x h h' : Held) → (t ≡ true → SameHeld T x h') → (t ≡ false → SameHeld T h h') → SameHeld T (if t then x else h) h'
  if_held true x h h' e f = e refl
  if_held false x h h' e f = f refl

  lost_rel : (link r : ℕ) (h h' : Held) → (is_register link r ≡ false → SameHeld T h h') → SameHeld T (if r == link && not (link == 0) then Lost else h) h'
  lost_rel link r h h' k = if_held (r == link && not (link == 0)) Lost h h' (λ e. tt) (λ e. k (sym (written_test link r) ∙ e))

  dead_rel : (d r : ℕ) (h h' x : Held) → is_register d r ≡ false → SameHeld T h h' → SameHeld T (if r == d && not (d == 0) then x else h) h'
  dead_rel d r h h' x e k = if_held (r == d && not (d == 0)) x h h' (λ f. absurd (let g : true ≡ false = sym f ∙ written_test d r ∙ e in cc)) (λ f. k)

  unwritten_rel : (link t : ℕ) (h h' : Held) → is_register link t ≡ false → SameHeld T h h' → SameHeld T h (if t == link && not (link == 0) then Lost else h')
  unwritten_rel link t h h' e k = let f : (t == link && not (link == 0)) ≡ false = written_test link t ∙ e in rw f k

  some_turned : (c v t : Bool) → (if c then Some v else None) ≡ Some t → (if c then Some (not v) else None) ≡ Some (not t)
  some_turned true v t e = let f : Some v ≡ Some t = e in ap (λ x. Some (not x)) (let g : v ≡ t = cc in g)
  some_turned false v t e = absurd (cc)

  -- a comparison and its inverse
  inverse_code : (cond : Cond) (x : ℕ) (t : Bool) → taken_against_code s cond x ≡ Some t → taken_against_code s (inverse_of cond) x ≡ Some (not t)
  inverse_code Beq x t e = some_turned (x == 0 && zero_is_outside_text s) false t e
  inverse_code Bne x t e = some_turned (x == 0 && zero_is_outside_text s) true t e
  inverse_code Blt x t e = absurd (cc)
  inverse_code Bge x t e = absurd (cc)
  inverse_code Bltu x t e = absurd (cc)
  inverse_code Bgeu x t e = absurd (cc)

  inverse_rel : (cond : Cond) (v u : Value) (t : Bool) → is_taken s cond v u ≡ Some t → is_taken s (inverse_of cond) v u ≡ Some (not t)
  inverse_rel cond (Num x) (Num y) t e = let f : taken_of cond x y ≡ t = let g : Some (taken_of cond x y) ≡ Some t = e in cc in ap Some (inverse_taken cond x y ∙ ap not f)
  inverse_rel cond (Num x) (Tagged (Code n)) t e = inverse_code cond x t e
  inverse_rel cond (Num x) (Tagged (Part n word)) t e = absurd (cc)
  inverse_rel cond (Tagged (Code n)) (Num y) t e = inverse_code cond y t e
  inverse_rel cond (Tagged (Part n word)) (Num y) t e = absurd (cc)
  inverse_rel cond (Tagged tag) (Tagged other) t e = absurd (cc)

  -- a PartJump against a jump or a call
  part_rel : (t : Bool) (link n : ℕ) (xs : List Line) (a : Core) (y : Moves) → Match (with_link link xs a (to_block C.before n)) y → Match (jump C.before link xs a (if t then Went None (ToName n) else Broke HalfBreak)) y
  part_rel true link n xs a y h = h
  part_rel false link n xs a y h = tt

  hastened_step : (link part n n' : ℕ) (xs ys : List Line) (a b : Core) (t' : Term) → Match (with_link link xs a (to_block C.before n)) (term_step s C.after t' ys b) → Agrees None (End (PartJump link part n) ∷ xs) a b → (term_sources t' ≡ []) → Match (term_line s C.before (PartJump link part n) xs a) (term_line s C.after t' ys b)
  hastened_step link part n n' xs ys a b t' m h none =
      unless_lost everywhere T s all_names tied PatchState (reads_lost (part ∷ []) a) (term_step s C.before (PartJump link part n) xs a) (term_line s C.after t' ys b)
      (λ e. rw none (part_rel (is_upper_half n (pos 0) (register_value part a.registers)) link n xs a (term_step s C.after t' ys b) m))

  end_now : (t : Term) (g : ℕ → ℕ) (xs ys : List Line) (k k' : Core) → MayGoTo C g t → (falls t ≡ true → Alike C true None xs ys) → (links t ≡ true → SameSlot C.MayHold (slot_name xs) (slot_name ys)) → Agrees None (End t ∷ xs) k k' → MeetOrMatch (term_line s C.before t xs k) (term_line s C.after (term_named g t) ys k')
  end_now t g xs ys k k' j f l c =
      now (term_line s C.before t xs k) (term_line s C.after (term_named g t) ys k')
      (with_operands t (term_named g t) xs ys k k' (same_sources g t) c (λ v. term_rel t g xs ys k k' j f l v c))

  end_meets : (t : Term) (g : ℕ → ℕ) (xs ys : List Line) (k k' : Core) → MayGoTo C g t → (falls t ≡ true → Alike C true None xs ys) → (links t ≡ true → SameSlot C.MayHold (slot_name xs) (slot_name ys)) → Agrees None (End t ∷ xs) k k' → MeetOrMatch (lines_step s C.before (End t ∷ xs) k) (lines_step s C.after (End (term_named g t) ∷ ys) k')
  end_meets Fall g xs ys k k' j f l c = absurd j
  end_meets (Jump to) g xs ys k k' j f l c = end_now (Jump to) g xs ys k k' j f l c
  end_meets (Branch cond x y to) g xs ys k k' j f l c = end_now (Branch cond x y to) g xs ys k k' j f l c
  end_meets (Call link to) g xs ys k k' j f l c = end_now (Call link to) g xs ys k k' j f l c
  end_meets (PartJump link part to) g xs ys k k' j f l c = end_now (PartJump link part to) g xs ys k k' j f l c
  end_meets (Indirect link at offset) g xs ys k k' j f l c = end_now (Indirect link at offset) g xs ys k k' j f l c
  end_meets (Stop word) g xs ys k k' j f l c = end_now (Stop word) g xs ys k k' j f l c

  piece_meets : (b : Bool) → ((n n' : ℕ) (k k' : Core) → b ≡ true → C.MayGo n n' → Agrees None (block_lines C.before n) k k' → MeetOrMatch (lines_step s C.before (block_lines C.before n) k) (lines_step s C.after (block_lines C.after n') k')) → {m : Option C.Mode} {xs ys : List Line} (k k' : Core) → Alike C b m xs ys → Agrees m xs k k' → MeetOrMatch (lines_step s C.before xs k) (lines_step s C.after ys k')
  piece_meets b pr k k' ends c = (meets_broke step_before step_after PatchState LeavesGraph (lines_step s C.after [] k'), λ never. tt)
  piece_meets b pr k k' (promised {n = n} {n' = n'} j) c = pr n n' k k' refl j c
  piece_meets b pr k k' (guarded p) c = piece_meets false (λ n n' k k' e j c. absurd (cc)) k k' p c
  piece_meets b pr k k' (shift {m = m} {m' = m'} {xs = xs} h p) c = piece_meets b pr k k' p (known_less (Known C m xs) (Known C m' xs) k k' (λ r q n. (n.0, h r q n.0 n.1)) c)
  piece_meets b pr k k' (name_before {m = m} {n = n} {xs = xs} p) c = piece_meets b pr k k' p (behind m (Name n) xs xs k k' (λ r. refl) refl c)
  piece_meets b pr k k' (name_after p) c = piece_meets b pr k k' p c
  piece_meets b pr k k' (jump_before {m = m} {n = n} {xs = xs} {ys = ys} may p) c =
      aside (lines_step s C.before (End (Jump n) ∷ xs) k) (lines_step s C.after ys k') may
      (meets_skip step_before step_after PatchState (At (block_lines C.before n) k) (lines_step s C.after ys k') (piece_meets b pr k k' p (behind m (End (Jump n)) xs (block_lines C.before n) k k' no_link refl c)).0)
  piece_meets b pr k k' (jump_after {n = n} {xs = xs} {ys = ys} may p) c =
      aside (lines_step s C.before xs k) (lines_step s C.after (End (Jump n) ∷ ys) k') may
      (meets_wait step_before step_after PatchState (lines_step s C.before xs k) (At (block_lines C.after n) k') (piece_meets b pr k k' p c).0)
  piece_meets b pr k k' (return_before {m = m} {l = l} {xs = xs} {ys = ys} may p) c =
      aside (Went None (At xs k)) (lines_step s C.after ys k') may
      (meets_skip step_before step_after PatchState (At xs k) (lines_step s C.after ys k') (piece_meets b pr k k' p (behind m (Return l) xs xs k k' (λ r. refl) refl c)).0)
  piece_meets b pr k k' (return_after {xs = xs} {ys = ys} may p) c =
      aside (lines_step s C.before xs k) (Went None (At ys k')) may
      (meets_wait step_before step_after PatchState (lines_step s C.before xs k) (At ys k') (piece_meets b pr k k' p c).0)
  piece_meets b pr k k' (enter_before {m = m} {m' = m'} {q = q} {xs = xs} {ys = ys} may d e h z p) c =
      let lost : Core = with_register d.link Lost k in
      let at : Agrees m' (inside d xs) lost k' = record {
        registers = λ r t n. lost_rel d.link r (k.registers r) (k'.registers t) (λ f. c.registers r t (steady.carrier.kept (Enter q) xs (inside d xs) r (ap (λ o. is_link_of o r) e ∙ f) (d, e, refl) n.0, h r t n.0 n.1 f));
        store = c.store;
      } in
      rw e (aside (Went None (At (inside d xs) lost)) (lines_step s C.after ys k') may (meets_skip step_before step_after PatchState (At (inside d xs) lost) (lines_step s C.after ys k') (piece_meets b pr lost k' p at).0))
  piece_meets b pr k k' (enter_after {m = m} {m' = m'} {q = q} {xs = xs} {ys = ys} may d e h p) c =
      let lost : Core = with_register d.link Lost k' in
      let at : Agrees m' xs k lost = record {
        registers = λ r t n. let x = h r t n.0 n.1 in unwritten_rel d.link t (k.registers r) (k'.registers t) x.0 (c.registers r t (n.0, x.1));
        store = c.store;
      } in
      rw e (aside (lines_step s C.before xs k) (Went None (At (inside d ys) lost)) may (meets_wait step_before step_after PatchState (lines_step s C.before xs k) (At (inside d ys) lost) (piece_meets b pr k lost p at).0))
  piece_meets b pr k k' (dead_before {m = m} {n = n} {word = word} {insn = insn} {xs = xs} {ys = ys} may none d p) c =
      let made : Core = with_register (destination_of insn) (Holds (Tagged (Part n word))) k in
      let at : Agrees m xs made k' = record {
        registers = λ r t q. dead_rel (destination_of insn) r (k.registers r) (k'.registers t) (Holds (Tagged (Part n word))) (d r q.0) (c.registers r t (steady.carrier.kept (Do (Upper n word) insn) xs xs r (d r q.0) refl q.0, q.1));
        store = c.store;
      } in
      rw none (aside (Went None (At xs made)) (lines_step s C.after ys k') may (meets_skip step_before step_after PatchState (At xs made) (lines_step s C.after ys k') (piece_meets b pr made k' p at).0))
  piece_meets b pr k k' (both_do {m = m} {m' = m'} {half = half} {half' = half'} {xs = xs} {ys = ys} insn d x y nm src h p) c =
      now (do_line s half insn xs k) (do_line s half' (with_registers d x y insn) ys k')
      (do_rel everywhere T s all_names tied (Known C m (Do half insn ∷ xs)) (Known C m' xs) PatchState half half' insn d x y xs ys k k' (half_tied half half' insn nm)
      (known_sources (Stands C m) (Known C m (Do half insn ∷ xs)) (sources_of insn) (sources_of (with_registers d x y insn)) src (λ r t e st. (steady.carrier.read (Do half insn) xs r e, st)))
      (λ r t n. let v = h r t n.0 n.1 in (v.0, λ e. (steady.carrier.kept (Do half insn) xs xs r e refl n.0, v.1 e)))
      (λ a b agree. (m', (p, agree))) c)
  piece_meets b pr k k' (both_enter {m = m} {m' = m'} {q = q} {q' = q'} {xs = xs} {ys = ys} d d' e e' h p) c =
      let at : Agrees m' (inside d xs) (with_register d.link Lost k) (with_register d'.link Lost k') = record {
        registers = registers_rel everywhere T (Known C m (Enter q ∷ xs)) (Known C m' (inside d xs)) d.link d'.link Lost Lost k.registers k'.registers
            (λ r t n. let v = h r t n.0 n.1 in (v.0, λ f. (steady.carrier.kept (Enter q) xs (inside d xs) r (ap (λ o. is_link_of o r) e ∙ f) (d, e, refl) n.0, v.1 f))) tt c.registers;
        store = c.store;
      } in
      rw (e, e') (now (Went None (At (inside d xs) (with_register d.link Lost k))) (Went None (At (inside d' ys) (with_register d'.link Lost k'))) (refl, (m', (p, at))))
  piece_meets b pr k k' (both_return {m = m} {l = l} {xs = xs} {ys = ys} p) c =
      now (Went None (At xs k)) (Went None (At ys k')) (refl, (m, (p, behind m (Return l) xs xs k k' (λ r. refl) refl c)))
  piece_meets b pr k k' (both_end {xs = xs} {ys = ys} t g j f l) c = end_meets t g xs ys k k' j f l c
  piece_meets b pr k k' (both_turned {xs = xs} {ys = ys} cond x y n n' p q) c =
      now (term_line s C.before (Branch cond x y n) xs k) (term_line s C.after (Branch (inverse_of cond) x y n') ys k')
      (with_operands (Branch cond x y n) (Branch (inverse_of cond) x y n') xs ys k k' refl c
      (λ v. turned_step n n' xs ys k k' (is_taken s cond (register_value x k.registers) (register_value y k.registers)) (is_taken s (inverse_of cond) (register_value x k'.registers) (register_value y k'.registers))
      (λ t e. inverse_rel cond (register_value x k'.registers) (register_value y k'.registers) t (taken_rel everywhere T s all_names cond (register_value x k.registers) (register_value y k.registers) (register_value x k'.registers) (register_value y k'.registers) t (v 0) (v 1) e))
      (None, (p, behind None (End (Branch cond x y n)) xs (block_lines C.before n) k k' no_link (inl refl) c))
      (None, (q, behind None (End (Branch cond x y n)) xs xs k k' no_link (inr refl) c))))
  piece_meets b pr k k' (both_hastened {xs = xs} {ys = ys} link part n n' j l) c =
      now (term_line s C.before (PartJump link part n) xs k) (term_line s C.after (Call link n') ys k')
      (hastened_step link part n n' xs ys k k' (Call link n') (link_step link (PartJump link part n) xs ys n n' k k' refl l (λ r e. linking r link e) j refl c) c refl)
  piece_meets b pr k k' (both_jumped {xs = xs} {ys = ys} part n n' j) c =
      now (term_line s C.before (PartJump 0 part n) xs k) (term_line s C.after (Jump n') ys k')
      (hastened_step 0 part n n' xs ys k k' (Jump n') (refl, (None, (promised j, behind None (End (PartJump 0 part n)) xs (block_lines C.before n) k k' no_link refl c))) c refl)

  meets_false : {m : Option C.Mode} {xs ys : List Line} (k k' : Core) → Alike C false m xs ys → Agrees m xs k k' → MeetOrMatch (lines_step s C.before xs k) (lines_step s C.after ys k')
  meets_false k k' p c = piece_meets false (λ n n' k k' e j c. absurd (cc)) k k' p c

  state_meets : (x y : State) → PatchState x y → MeetOrMatch (step_before x) (step_after y)
  state_meets (At xs k) (At ys k') r = piece_meets true (λ n n' k k' e j c. meets_false k k' (steady.names n n' j) c) k k' r.1.0 r.1.1
  state_meets (Fetching x) (Fetching y) r = now (Ended (Fetch x)) (Ended (Fetch y)) (ap Fetch r)
  state_meets (At xs k) (Fetching y) r = absurd r
  state_meets (Fetching x) (At ys k') r = absurd r

  pub patch_simulates : Simulates step_before step_after PatchState
  patch_simulates x y r = (state_meets x y r).0

  pub patch_in_step : ¬ C.MaySkip → SimulatesInStep step_before step_after PatchState
  patch_in_step never x y r = (state_meets x y r).1 never

-- the same numbers at the start
start_held : (T : Ties) (t : Bool) (x : ℕ) → SameHeld T (if t then Holds (Num x) else Holds (Num 0)) (if t then Holds (Num x) else Holds (Num 0))
start_held T true x = refl
start_held T false x = refl

first_held : (T : Ties) (start : Start) (r q : ℕ) → q ≡ r → SameHeld T (first_registers start r) (first_registers start q)
first_held T start r q e = subst (λ q. SameHeld T (first_registers start r) (first_registers start q)) (sym e) (start_held T (r == 2 && not (2 == 0)) (stack_pointer start))

-- what both theorems ask of the entry and of the code words
pub record IsStarting (C : Change) : Type 0 where
  pub entry : C.MayGo C.before.entry C.after.entry
  pub names : map word_name C.after.code_words ≡ map C.renamed (map word_name C.before.code_words)
  pub held : (i n : ℕ) → slice_get (map word_name C.before.code_words) i ≡ Some n → C.MayHold n (C.renamed n)

starting : (C : Change) (steady : IsSteady C) → IsStarting C → (w : World) (start : Start) → PatchState C w start steady (state_at_start w C.before start) (state_at_start w C.after start)
starting C steady begins w start = (
  None,
  (
    promised begins.entry,
    record {
      registers = λ r q n. first_held (ties_of C) start r q n.1;
      store = record {
        memory = subst (λ words. SameMemory everywhere (ties_of C) (get (regions_at_start w (map word_name C.before.code_words) start)) (get (regions_at_start w words start))) (sym begins.names) (start_memory_rel (ties_of C) C.renamed w (map word_name C.before.code_words) start begins.held);
        input = refl;
        reservation = refl;
      };
    },
  ),
)

-- THE THEOREM
pub change_follows : (C : Change) → IsSteady C → C.MayGo C.before.entry C.after.entry → map word_address C.after.code_words ≡ map word_address C.before.code_words → map word_name C.after.code_words ≡ map C.renamed (map word_name C.before.code_words) → ((i n : ℕ) → slice_get (map word_name C.before.code_words) i ≡ Some n → C.MayHold n (C.renamed n)) → Follows C.before C.after
change_follows C steady entry addresses names held = record {
  addresses = addresses;
  runs = λ w world count start valid.
      follows_by (graph_step (setting_of w start) C.before) (graph_step (setting_of w start) C.after) (PatchState C w start steady) (patch_simulates C w start steady) (state_at_start w C.before start) (state_at_start w C.after start)
      (starting C steady (record { entry = entry; names = names; held = held }) w start);
}

-- where no side may make steps by itself, the second keeps step with the first
pub change_keeps_step : (C : Change) → IsSteady C → ¬ C.MaySkip → IsStarting C → KeepsStep C.before C.after
change_keeps_step C steady never begins w start =
    locks_by (graph_step (setting_of w start) C.before) (graph_step (setting_of w start) C.after) (PatchState C w start steady) (patch_in_step C w start steady never) (state_at_start w C.before start) (state_at_start w C.after start)
    (starting C steady begins w start)
