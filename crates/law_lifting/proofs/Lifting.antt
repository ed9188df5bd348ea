-- The graph of a program does what the monitored program does, word for word and step for step.
use Rattle.std.proofs.Common.{MatchBool, ◌≡◌, ◌≢◌, ℕ, zero, suc, ◌+◌, ◌^◌, ◌<◌, ℤ, pos, Bool, true, false, not, ◌==◌, ◌&&◌, List, [], ◌∷◌, ◌++◌, Option, Some, None, map, slice_get, if◌then◌else◌, refl, sym, ap, ◌∙◌, subst, inl, inr, arith}
use Rattle.std.specs.Option.{option_and_then}
use Rattle.std.specs.Ordering.{int_eq}
use Rattle.std.specs.List.{list_any}
use Rattle.std.proofs.lemmas.Bool.{eqb-true}
use Rattle.std.proofs.lemmas.Bool.Decides.{nat_tests}
use Rattle.sq_num.specs.Halves.{high_half, low_half}
use Rattle.sq_isa.specs.Words.{wrapped, unsigned, even}
use Rattle.sq_isa.specs.Registers.{written, is_among_but_x0}
use Rattle.sq_isa.specs.Uses.{sources_of, destination_of}
use Rattle.sq_isa.specs.declared.instructions.Insn.{Insn}
use Rattle.sq_isa.specs.declared.instructions.Insn.TheVariants.{Lui, Auipc, Jal, Jalr, Branch as BranchInsn, Load, Store as StoreInsn, OpImm, Op as OpInsn, Fence, Ecall, Ebreak, Unimp, Atomic}
use Rattle.sq_isa.specs.declared.instructions.ImmOp.TheVariants.{Addi}
use Rattle.sq_isa.specs.declared.instructions.Cond.{Cond}
use Rattle.sq_isa.specs.declared.instructions.LoadKind.{LoadKind}
use Rattle.sq_isa.specs.declared.instructions.StoreKind.{StoreKind}
use Rattle.law_runs.specs.Runs.{Went, Ended, Broke}
use Rattle.law_runs.specs.Simulation.{Matches}
use Rattle.law_runs.specs.Follows.{LocksWith}
use Rattle.law_runs.proofs.Simulate.{locks_by}
use Rattle.sq_system.specs.World.{World, is_executable}
use Rattle.sq_reloc.specs.declared.mark.Mark.{Mark}
use Rattle.sq_reloc.specs.declared.mark.Mark.TheVariants.{Plain as PlainMark, Hi as HiMark, Lo as LoMark}
use Rattle.sq_graph.specs.declared.item.Item.{Item}
use Rattle.sq_graph.specs.declared.item.Item.TheVariants.{Op, Hi, Lo, Out}
use Rattle.sq_graph.specs.declared.item.Term.{Term}
use Rattle.sq_graph.specs.declared.item.Term.TheVariants.{Jump, Branch, Call, PartJump, Indirect, Stop}
use Rattle.sq_graph.specs.Graph.{Procedure, Graph}
use Rattle.sq_graph.specs.Terms.{links}
use Rattle.sq_graph.specs.Lines.{AddressHalf, Plain, Upper, Lower, Line, Name, Do, Enter, Return, End, line_of, has_name, lines_of, inside, behind_name, block_lines}
use Rattle.sq_graph.specs.Walks.{IsLive, read_here, live_behind, Goes, line_writes, is_register, is_link_of, term_sources, term_link}
use Rattle.law_follow.specs.declared.kind.Kind.TheVariants.{Half, Jump as JumpBreak}
use Rattle.law_follow.specs.Values.{Code, Part, Value, Num, Tagged, Held, Holds, Lost}
use Rattle.law_follow.specs.Settings.{Setting}
use Rattle.law_follow.specs.Arithmetic.{is_taken, is_upper_half}
use Rattle.law_follow.specs.Accesses.{Step}
use Rattle.law_follow.specs.Rows.{row_of}
use Rattle.law_follow.specs.Jumps.{ToName, ToNumber, number_jump, name_jump, indirect_jump, part_jump}
use Rattle.law_follow.specs.GraphRuns.{Core, State, At, Fetching, Moves, is_lost, lost_in, register_value, reads_lost, with_register, operands, finish, do_line, enter, with_link, jump, branch, lines_step, graph_step}
use Rattle.law_patch.specs.Agreement.{SameValue, SameHeld}
use Rattle.law_patch.specs.LiveAgreement.{everywhere, StandsLive}
use Rattle.law_patch.proofs.Deeds.{written_test, sources_rel, operand_at, registers_rel, taken_rel}
use Rattle.law_patch.proofs.LiveSteps.{own_sources, no_link, not_zero}
use Rattle.law_program.specs.Programs.{Word, Text, Note, word_at, is_in_text, insn_in}
use Rattle.law_program.specs.Reached.{target_from}
use Rattle.law_program.specs.Readings.{Reading, IsItem, IsTerm, Links, ebreak_word, upper_item, plain_reading, upper_reading, lower_reading, marked_reading, reading_of, jal_reading}
use Rattle.law_program.specs.Lifted.{Form, ItemForm, TermForm, link_form, form_of, procedure_at}
use Rattle.law_program.specs.Monitored as monitored
use Rattle.law_program.specs.Monitored.{Watched, Watches, half_of, upper_value, at_address, jumped, branched, finished, insn_step, marked_step, word_step, monitored_step}
use Rattle.law_lifting.specs.Lifting.{MarkFits}
use Rattle.law_lifting.proofs.Lifts.{HasName, form_line, onward, IsAt, GoodLine, SlotIf, IsNamed, IsTarget, ProcedureReads, IsDoor, Lifts, lift_end, lift_name, lift_line, Place, out, within, NeverLost, Same, IsLiftOf}
use Rattle.law_lifting.proofs.LiftedRows.{T, s, s', SameStep, SameOperands, SameStores, plain_row_lift, upper_text, upper_outside, addi_text, addi_outside, load_outside, store_outside, in_text_upper, outside_upper, upper_is, halves_add}
use Rattle.law_patch.specs.Agreement.{Ties}
use Rattle.law_follow.specs.Worlds.{all_names}

-- the line of a form is no name
no_name : (n : ℕ) (p : Form) → has_name n (form_line p) ≡ false
no_name n (ItemForm (Op insn)) = refl
no_name n (ItemForm (Hi rd to)) = refl
no_name n (ItemForm (Lo rd rs to)) = refl
no_name n (ItemForm (Out procedure)) = refl
no_name n (TermForm term) = refl

-- writing x0 changes nothing
nothing_written : (v : Held) (k : ℕ → Held) (r : ℕ) → written 0 v k r ≡ k r
nothing_written v k r = go (r == 0)
  where
    go : (b : Bool) → (if b && false then v else k r) ≡ k r
    go true = refl
    go false = refl

module _ (t : Text) (notes : List Note) (g : Graph) (layout : World) (start : Option ℕ) (lifts : Lifts t notes g start (lines_of g.blocks)) (marks : (x : ℕ) (w : Word) → word_at t x ≡ Some w → MarkFits w.mark) (empty : (x : ℕ) → is_executable layout x ≡ false → word_at t x ≡ None) where
  abbrev Tied : Ties
  Tied = T t notes g layout

  abbrev S : Setting
  S = s t notes g layout

  abbrev S' : Setting
  S' = s' t notes g layout

  abbrev Match : Watches → Moves → Type 0
  Match = Matches (IsLiftOf t notes g)

  abbrev Alike : List Line → Core → Core → Type 0
  Alike xs a b = Same t notes g xs a b

  abbrev Kept : (ℕ → Held) → Type 0
  Kept k = NeverLost t notes g k

  abbrev Reads : Option ℕ → List Line → Type 0
  Reads o xs = Lifts t notes g o xs

  -- REGISTERS

  kept_written : (d : ℕ) (v : Value) (k : ℕ → Held) → Kept k → Kept (written d (Holds v) k)
  kept_written d v k h r = go (r == d && not (d == 0))
    where
      go : (b : Bool) → is_lost (if b then Holds v else k r) ≡ false
      go true = refl
      go false = h r

  none_lost : (rs : List ℕ) (k : ℕ → Held) → Kept k → list_any (lost_in k) rs ≡ false
  none_lost [] k h = refl
  none_lost (zero ∷ rs) k h = none_lost rs k h
  none_lost (suc r ∷ rs) k h = rw (h (suc r)) (none_lost rs k h)

  -- behind a line that writes nothing
  behind : (line : Line) (rest next : List Line) (a b : Core) → ((r : ℕ) → line_writes g.procedures line r ≡ false) → Goes g line rest next → Alike (line ∷ rest) a b → Alike next a b
  behind line rest next a b e go h = record {
    registers = λ r q n. h.registers r q (n.0, live_behind (e r) go n.1);
    store = h.store;
  }

  -- behind a line that writes alike values into one register
  behind_written : (line : Line) (rest next : List Line) (d : ℕ) (x y : Held) (a b : Core) → ((r : ℕ) → line_writes g.procedures line r ≡ is_register d r) → Goes g line rest next → SameHeld Tied x y → Alike (line ∷ rest) a b → Alike next (with_register d x a) (with_register d y b)
  behind_written line rest next d x y a b e go same h = record {
    registers = registers_rel everywhere Tied (StandsLive g (line ∷ rest)) (StandsLive g next) d d x y a.registers b.registers
        (λ r q n. (ap (is_register d) n.0, λ f. (n.0, live_behind (e r ∙ f) go n.1))) same h.registers;
    store = h.store;
  }

  -- nothing was written into x0
  unwritten : (xs : List Line) (v : Held) (a b : Core) → Alike xs a b → Alike xs (with_register 0 v a) b
  unwritten xs v a b h = record {
    registers = λ r q n. subst (λ x. SameHeld Tied x (b.registers q)) (sym (nothing_written v a.registers r)) (h.registers r q n);
    store = h.store;
  }

  -- the values of the registers that a line reads
  read_alike : (line : Line) (rest : List Line) (rs : List ℕ) (a b : Core) → ((r : ℕ) → is_among_but_x0 rs r ≡ true → IsLive g r (line ∷ rest)) → Kept a.registers → Alike (line ∷ rest) a b → (list_any (lost_in b.registers) rs ≡ false) × ((i : ℕ) → SameValue Tied (operand_at everywhere Tied rs a.registers i) (operand_at everywhere Tied rs b.registers i))
  read_alike line rest rs a b live kept h =
      sources_rel everywhere Tied (StandsLive g (line ∷ rest)) rs rs a.registers b.registers (own_sources (StandsLive g (line ∷ rest)) rs (λ r e. (refl, live r e))) h.registers (none_lost rs a.registers kept)

  -- NAMES

  named_here : (n m : ℕ) (xs : List Line) (b : Bool) → (m == n) ≡ b → MatchBool b (Unit {0}) (HasName n xs) → Reads (Some m) xs → (HasName n xs → Reads (Some n) (behind_name n xs)) → Reads (Some n) (if b then xs else behind_name n xs)
  named_here n m xs true e has h f = subst (λ x. Reads (Some x) xs) (eqb-true m n e) h
  named_here n m xs false e has h f = f has

  line_skipped : (n : ℕ) (l : Line) (xs : List Line) → has_name n l ≡ false → HasName n (l ∷ xs) → HasName n xs
  line_skipped n l xs e has = subst (λ b. MatchBool b (Unit {0}) (HasName n xs)) e has

  behind_line : (n : ℕ) (l : Line) (xs : List Line) → has_name n l ≡ false → behind_name n (l ∷ xs) ≡ behind_name n xs
  behind_line n l xs e = rw e refl

  lifts_behind : (n : ℕ) {o : Option ℕ} {xs : List Line} → HasName n xs → Reads o xs → Reads (Some n) (behind_name n xs)
  lifts_behind n has lift_end = absurd has
  lifts_behind n has (lift_name {n = m} {xs = xs} e k h) = named_here n m xs (m == n) refl has h (λ x. lifts_behind n x h)
  lifts_behind n has (lift_line at {l = l} {xs = xs} w r e f i p d k h) =
      let q : has_name n l ≡ false = ap (has_name n) p ∙ no_name n (form_of notes r) in
      subst (Reads (Some n)) (sym (behind_line n l xs q)) (lifts_behind n (line_skipped n l xs q has) h)

  lifts_at : (n : ℕ) → IsNamed t notes g n → Reads (Some n) (block_lines g n)
  lifts_at n has = lifts_behind n has lifts

  -- ITEMS

  abbrev Stands : ℕ → (ℕ → Held) → List Line → Type 0
  Stands at k xs = Place t notes g at k xs

  finish_lift : (at d : ℕ) (l : Line) (rest : List Line) (a b : Core) (x y : Step) → ((v : Value) → Stands (at + 4) (written d (Holds v) a.registers) rest) → ((r : ℕ) → line_writes g.procedures l r ≡ is_register d r) → Goes g l rest rest → Kept a.registers → Alike (l ∷ rest) a b → SameStep t notes g layout x y → Match (finished at d a x) (finish d rest b y)
  finish_lift at d l rest a b (Went e x) (Went f y) place writes go kept h m = (
    m.0,
    (
      place x.value,
      kept_written d x.value a.registers kept,
      record {
        registers = registers_rel everywhere Tied (StandsLive g (l ∷ rest)) (StandsLive g rest) d d (Holds x.value) (Holds y.value) a.registers b.registers
            (λ r q n. (ap (is_register d) n.0, λ f. (n.0, live_behind (writes r ∙ f) go n.1))) m.1.value h.registers;
        store = m.1.store;
      },
    ),
  )
  finish_lift at d l rest a b (Went e x) (Ended h') place writes go kept h m = absurd m
  finish_lift at d l rest a b (Went e x) (Broke c) place writes go kept h m = absurd m
  finish_lift at d l rest a b (Ended h') (Went e y) place writes go kept h m = absurd m
  finish_lift at d l rest a b (Ended h') (Ended h'') place writes go kept h m = m
  finish_lift at d l rest a b (Ended h') (Broke c) place writes go kept h m = absurd m
  finish_lift at d l rest a b (Broke c) y place writes go kept h m = tt

  do_lift : (at : ℕ) (half : AddressHalf) (insn : Insn) (rest : List Line) (a b : Core) (x : Step) → ((v : Value) → Stands (at + 4) (written (destination_of insn) (Holds v) a.registers) rest) → Kept a.registers → Alike (Do half insn ∷ rest) a b → (SameOperands t notes g layout (operands insn a.registers) (operands insn b.registers) → SameStores t notes g layout a.store b.store → SameStep t notes g layout x (row_of S' half insn (operands insn b.registers) b.store)) → Match (finished at (destination_of insn) a x) (do_line S' half insn rest b)
  do_lift at half insn rest a b x place kept h rel =
      let o = read_alike (Do half insn) rest (sources_of insn) a b (λ r e. read_here e) kept h in
      rw o.0 (finish_lift at (destination_of insn) (Do half insn) rest a b x (row_of S' half insn (operands insn b.registers) b.store) place (λ r. refl) refl kept h (rel o.1 h.store))

  -- where an item leads
  abbrev Leads : ℕ → List Line → Core → Item → Type 0
  Leads at rest a item = (d : ℕ) (v : Value) → ((r : ℕ) → line_writes g.procedures (line_of item) r ≡ is_register d r) → Stands (at + 4) (written d (Holds v) a.registers) rest

  abbrev ItemGoal : ℕ → List Line → Core → Core → Watches → Item → Type 0
  ItemGoal at rest a b x item = (ys : List Line) → GoodLine t notes g (line_of item) ys → Leads at rest a item → Kept a.registers → Alike (line_of item ∷ rest) a b → Match x (lines_step S' g (line_of item ∷ rest) b)

  op_goal : (at : ℕ) (insn : Insn) (rest : List Line) (a b : Core) → ItemGoal at rest a b (finished at (destination_of insn) a (row_of S Plain insn (operands insn a.registers) a.store)) (Op insn)
  op_goal at insn rest a b ys good leads kept h =
      do_lift at Plain insn rest a b (row_of S Plain insn (operands insn a.registers) a.store) (λ v. leads (destination_of insn) v (λ r. refl)) kept h
      (λ o k. plain_row_lift t notes g layout insn (operands insn a.registers) (operands insn b.registers) a.store b.store o k)

  upper_goal : (at to rd : ℕ) (word : Option ℕ) (insn : Insn) (rest : List Line) (a b : Core) → ItemGoal at rest a b (finished at rd a (row_of S (Upper to word) insn (operands insn a.registers) a.store)) (upper_item t to rd)
  upper_goal at to rd word insn rest a b = go (is_in_text t to) refl
    where
      go : (c : Bool) → is_in_text t to ≡ c → ItemGoal at rest a b (finished at rd a (row_of S (Upper to word) insn (operands insn a.registers) a.store)) (if c then Hi rd to else Op (Lui rd (high_half to)))
      go true e ys good leads kept h =
          do_lift at (Upper to None) (Lui rd 0) rest a b (row_of S (Upper to word) insn (operands insn a.registers) a.store) (λ v. leads rd v (λ r. refl)) kept h
          (λ o k. upper_text t notes g layout to rd word insn (operands insn a.registers) (operands (Lui rd 0) b.registers) a.store b.store e k)
      go false e ys good leads kept h =
          do_lift at Plain (Lui rd (high_half to)) rest a b (row_of S (Upper to word) insn (operands insn a.registers) a.store) (λ v. leads rd v (λ r. refl)) kept h
          (λ o k. upper_outside t notes g layout to rd word insn (operands insn a.registers) (operands (Lui rd (high_half to)) b.registers) a.store b.store e k)

  addi_goal : (at to rd rs : ℕ) (imm : ℤ) (rest : List Line) (a b : Core) → to < 2 ^ 32 → ItemGoal at rest a b (finished at rd a (row_of S (Lower to) (OpImm Addi rd rs imm) (operands (OpImm Addi rd rs imm) a.registers) a.store)) (if is_in_text t to then Lo rd rs to else Op (OpImm Addi rd rs (low_half to)))
  addi_goal at to rd rs imm rest a b small = go (is_in_text t to) refl
    where
      go : (c : Bool) → is_in_text t to ≡ c → ItemGoal at rest a b (finished at rd a (row_of S (Lower to) (OpImm Addi rd rs imm) (operands (OpImm Addi rd rs imm) a.registers) a.store)) (if c then Lo rd rs to else Op (OpImm Addi rd rs (low_half to)))
      go true e ys good leads kept h =
          do_lift at (Lower to) (OpImm Addi rd rs (pos 0)) rest a b (row_of S (Lower to) (OpImm Addi rd rs imm) (operands (OpImm Addi rd rs imm) a.registers) a.store) (λ v. leads rd v (λ r. refl)) kept h
          (λ o k. addi_text t notes g layout to rd rs imm (operands (OpImm Addi rd rs imm) a.registers) (operands (OpImm Addi rd rs (pos 0)) b.registers) a.store b.store e good.0 good.1 o k)
      go false e ys good leads kept h =
          do_lift at Plain (OpImm Addi rd rs (low_half to)) rest a b (row_of S (Lower to) (OpImm Addi rd rs imm) (operands (OpImm Addi rd rs imm) a.registers) a.store) (λ v. leads rd v (λ r. refl)) kept h
          (λ o k. addi_outside t notes g layout to rd rs imm (operands (OpImm Addi rd rs imm) a.registers) (operands (OpImm Addi rd rs (low_half to)) b.registers) a.store b.store small e o k)

  load_goal : (at to rd rs : ℕ) (kind : LoadKind) (imm : ℤ) (rest : List Line) (a b : Core) → to < 2 ^ 32 → is_in_text t to ≡ false → ItemGoal at rest a b (finished at rd a (row_of S (Lower to) (Load kind rd rs imm) (operands (Load kind rd rs imm) a.registers) a.store)) (Op (Load kind rd rs (low_half to)))
  load_goal at to rd rs kind imm rest a b small e ys good leads kept h =
      do_lift at Plain (Load kind rd rs (low_half to)) rest a b (row_of S (Lower to) (Load kind rd rs imm) (operands (Load kind rd rs imm) a.registers) a.store) (λ v. leads rd v (λ r. refl)) kept h
      (λ o k. load_outside t notes g layout to rd rs kind imm (operands (Load kind rd rs imm) a.registers) (operands (Load kind rd rs (low_half to)) b.registers) a.store b.store small e o k)

  store_goal : (at to rs src : ℕ) (kind : StoreKind) (imm : ℤ) (rest : List Line) (a b : Core) → to < 2 ^ 32 → is_in_text t to ≡ false → ItemGoal at rest a b (finished at 0 a (row_of S (Lower to) (StoreInsn kind rs src imm) (operands (StoreInsn kind rs src imm) a.registers) a.store)) (Op (StoreInsn kind rs src (low_half to)))
  store_goal at to rs src kind imm rest a b small e ys good leads kept h =
      do_lift at Plain (StoreInsn kind rs src (low_half to)) rest a b (row_of S (Lower to) (StoreInsn kind rs src imm) (operands (StoreInsn kind rs src imm) a.registers) a.store) (λ v. leads 0 v (λ r. refl)) kept h
      (λ o k. store_outside t notes g layout to rs src kind imm (operands (StoreInsn kind rs src imm) a.registers) (operands (StoreInsn kind rs src (low_half to)) b.registers) a.store b.store small e o k)

  -- TERMS

  -- behind a line that goes on stands the next word
  slot_at : {o : Option ℕ} (at m : ℕ) (ys : List Line) → o ≡ Some at → Reads o (Name m ∷ ys) → IsTarget t notes g m → Tied.code at m
  slot_at at m ys e (lift_name f k h) target = let q : m ≡ at = sym (subst (λ o. IsAt o m) e f) in rw q (refl, subst (IsNamed t notes g) q k, subst (IsTarget t notes g) q target)
  slot_at at m ys e (lift_line x w r f u i p d k h) target = absurd k

  slot_tie : (at m : ℕ) (rest ys : List Line) → Reads (Some at) rest → rest ≡ Name m ∷ ys → IsTarget t notes g m → Tied.code at m
  slot_tie at m rest ys h e target = slot_at at m ys refl (subst (Reads (Some at)) e h) target

  -- the cores behind a link
  record Linked (term : Term) (rest : List Line) (c d : Core) : Type 0 where
    kept : Kept c.registers
    alike : (next : List Line) → Goes g (End term) rest next → Alike next c d

  linked : (link at : ℕ) (term : Term) (rest : List Line) (a b : Core) (X : Core → Watches) (go : Core → Moves) → term_link term ≡ link → links term ≡ not (link == 0) → SlotIf t notes g (links term) rest → (links term ≡ true → Reads (Some (at + 4)) rest) → Kept a.registers → Alike (End term ∷ rest) a b → ((c d : Core) → Linked term rest c d → Match (X c) (go d)) → Match (X (monitored.with_link link at a)) (with_link link rest b go)
  linked zero at term rest a b X go same e slot reads kept h k =
      k (monitored.with_link 0 at a) b (record {
        kept = kept_written 0 (Tagged (Code (at + 4))) a.registers kept;
        alike = λ next leads. unwritten next (Holds (Tagged (Code (at + 4)))) a b (behind (End term) rest next a b (λ r. ap (λ d. is_register d r) same ∙ no_link r) leads h);
      })
  linked (suc r) at term rest a b X go same e slot reads kept h k =
      let l : links term ≡ true = e ∙ ap not (not_zero r) in
      let m = subst (λ c. SlotIf t notes g c rest) l slot in
      let tie = slot_tie (at + 4) m.0 rest m.1 (reads l) m.2 m.3 in
      rw m.2
      (k (monitored.with_link (suc r) at a) (with_register (suc r) (Holds (Tagged (Code m.0))) b) (record {
        kept = kept_written (suc r) (Tagged (Code (at + 4))) a.registers kept;
        alike = λ next leads. behind_written (End term) rest next (suc r) (Holds (Tagged (Code (at + 4)))) (Holds (Tagged (Code m.0))) a b (λ q. ap (λ d. is_register d q) same) leads tie h;
      }))

  abbrev LineGoal : ℕ → List Line → Core → Core → Watches → Reading → Type 0
  LineGoal at rest a b x r =
      IsDoor t notes g r → GoodLine t notes g (form_line (form_of notes r)) rest → Reads (onward (form_line (form_of notes r)) at) rest → Kept a.registers → Alike (form_line (form_of notes r) ∷ rest) a b → Match x (lines_step S' g (form_line (form_of notes r) ∷ rest) b)

  -- to a block
  to_block_lift : (n : ℕ) (a b : Core) → IsNamed t notes g n → Kept a.registers → Alike (block_lines g n) a b → Match (at_address n a) (Went None (At (block_lines g n) b))
  to_block_lift n a b named kept h = (refl, (out (lifts_at n named), kept, h))

  jump_goal : (at to : ℕ) (rest : List Line) (a b : Core) → LineGoal at rest a b (at_address to (monitored.with_link 0 at a)) (IsTerm (Jump to))
  jump_goal at to rest a b door good reads kept h =
      to_block_lift to (monitored.with_link 0 at a) b good (kept_written 0 (Tagged (Code (at + 4))) a.registers kept)
      (unwritten (block_lines g to) (Holds (Tagged (Code (at + 4)))) a b (behind (End (Jump to)) rest (block_lines g to) a b no_link refl h))

  is_open : (link at : ℕ) → (not (link == 0)) ≡ true → (if not (not (link == 0)) then None else Some (at + 4)) ≡ Some (at + 4)
  is_open link at e = rw e refl

  call_step : (at link to : ℕ) (rest : List Line) (a b : Core) → GoodLine t notes g (End (Call link to)) rest → Reads (Some (at + 4)) rest → Kept a.registers → Alike (End (Call link to) ∷ rest) a b → Match (at_address to (monitored.with_link link at a)) (lines_step S' g (End (Call link to) ∷ rest) b)
  call_step at link to rest a b good reads kept h =
      linked link at (Call link to) rest a b (at_address to) (λ d. Went None (At (block_lines g to) d)) refl refl good.1 (λ _. reads) kept h
      (λ c d k. to_block_lift to c d good.0 k.kept (k.alike (block_lines g to) refl))

  -- into a procedure
  real_link : (link r : ℕ) → link ≢ 0 → is_register link r ≡ true → r ≡ link
  real_link link r e h = grind (arith, nat_tests)

  own_link : (link : ℕ) → link ≢ 0 → is_register link link ≡ true
  own_link link e = grind (arith, nat_tests)

  written_other : (d r : ℕ) (v : Held) (k : ℕ → Held) → is_register d r ≡ false → written d v k r ≡ k r
  written_other d r v k e = let f : (r == d && not (d == 0)) ≡ false = written_test d r ∙ e in rw f refl

  written_own : (d : ℕ) (v : Held) (k : ℕ → Held) → d ≢ 0 → written d v k d ≡ v
  written_own d v k e = let f : (d == d && not (d == 0)) ≡ true = written_test d d ∙ own_link d e in rw f refl

  enter_step : (at to number : ℕ) (p : Procedure) (rest : List Line) (a b : Core) → slice_get g.procedures number ≡ Some p → (¬ IsLive g p.link (inside p rest)) → ProcedureReads t notes g to p.link p → Reads (Some (at + 4)) rest → Kept a.registers → Alike (Enter number ∷ rest) a b → Match (at_address to (monitored.with_link p.link at a)) (enter (Some p) rest b)
  enter_step at to number p rest a b e dead reads onwards kept h = (
    refl,
    (
      within {registers = written p.link (Holds (Tagged (Code (at + 4)))) a.registers} p.link p.body rest (at + 4) reads.body reads.real (written_own p.link (Holds (Tagged (Code (at + 4)))) a.registers reads.real) onwards,
      kept_written p.link (Tagged (Code (at + 4))) a.registers kept,
      record {
        registers = λ r q n. other r q n.0 n.1 (is_register p.link r) refl;
        store = h.store;
      },
    ),
  )
    where
      other : (r q : ℕ) → q ≡ r → IsLive g r (inside p rest) → (c : Bool) → is_register p.link r ≡ c → SameHeld Tied (written p.link (Holds (Tagged (Code (at + 4)))) a.registers r) (written p.link Lost b.registers q)
      other r q same live true f = absurd (dead (subst (λ x. IsLive g x (inside p rest)) (real_link p.link r reads.real f) live))
      other r q same live false f =
          let write : line_writes g.procedures (Enter number) r ≡ false = ap (λ o. is_link_of o r) e ∙ f in
          rw (same, written_other p.link r (Holds (Tagged (Code (at + 4)))) a.registers f, written_other p.link r Lost b.registers f)
          (h.registers r r (refl, live_behind write (p, e, refl) live))

  links_goal : (at link to : ℕ) (rest : List Line) (a b : Core) → LineGoal at rest a b (at_address to (monitored.with_link link at a)) (Links link to)
  links_goal at link to rest a b = go (procedure_at notes to) refl
    where
      go : (o : Option ℕ) → procedure_at notes to ≡ o → IsDoor t notes g (Links link to) → GoodLine t notes g (form_line (link_form link to o)) rest → Reads (onward (form_line (link_form link to o)) at) rest → Kept a.registers → Alike (form_line (link_form link to o) ∷ rest) a b → Match (at_address to (monitored.with_link link at a)) (lines_step S' g (form_line (link_form link to o) ∷ rest) b)
      go None e door good reads kept h = call_step at link to rest a b good reads kept h
      go (Some number) e door good reads kept h =
          let p = good.0 in
          let d = door number p e good.1 in
          subst (λ l. Match (at_address to (monitored.with_link l at a)) (lines_step S' g (Enter number ∷ rest) b)) (sym d.link_is)
          (rw good.1 (enter_step at to number p rest a b good.1 good.2 (record { body = d.body; link_is = refl; real = d.real }) reads kept h))

  -- off code, where the next step ends
  off_lift : (x link at : ℕ) (term : Term) (rest : List Line) (a b : Core) → is_executable layout x ≡ false → term_link term ≡ link → links term ≡ not (link == 0) → SlotIf t notes g (links term) rest → (links term ≡ true → Reads (Some (at + 4)) rest) → Kept a.registers → Alike (End term ∷ rest) a b → Match (at_address x (monitored.with_link link at a)) (with_link link rest b (λ d. Went None (Fetching x)))
  off_lift x link at term rest a b e same f slot reads kept h =
      linked link at term rest a b (at_address x) (λ d. Went None (Fetching x)) same f slot reads kept h (λ c d k. (refl, (refl, empty x e)))

  number_lift : (x link at : ℕ) (term : Term) (rest : List Line) (a b : Core) → term_link term ≡ link → links term ≡ not (link == 0) → SlotIf t notes g (links term) rest → (links term ≡ true → Reads (Some (at + 4)) rest) → Kept a.registers → Alike (End term ∷ rest) a b → Match (jumped link at a (number_jump S x)) (jump g link rest b (number_jump S' x))
  number_lift x link at term rest a b same f slot reads kept h = go (is_executable layout x) refl
    where
      go : (c : Bool) → is_executable layout x ≡ c → Match (jumped link at a (if c then Broke JumpBreak else Went None (ToNumber x))) (jump g link rest b (if c then Broke JumpBreak else Went None (ToNumber x)))
      go true e = tt
      go false e = off_lift x link at term rest a b e same f slot reads kept h

  code_lift : (n link at : ℕ) (term : Term) (rest : List Line) (a b : Core) → IsNamed t notes g n → Goes g (End term) rest (block_lines g n) → term_link term ≡ link → links term ≡ not (link == 0) → SlotIf t notes g (links term) rest → (links term ≡ true → Reads (Some (at + 4)) rest) → Kept a.registers → Alike (End term ∷ rest) a b → Match (at_address n (monitored.with_link link at a)) (with_link link rest b (λ d. Went None (At (block_lines g n) d)))
  code_lift n link at term rest a b named leads same f slot reads kept h =
      linked link at term rest a b (at_address n) (λ d. Went None (At (block_lines g n) d)) same f slot reads kept h
      (λ c d k. to_block_lift n c d named k.kept (k.alike (block_lines g n) leads))

  -- `jalr` to what a register holds
  away_lift : (link via at : ℕ) (offset : ℤ) (rest : List Line) (a b : Core) (v u : Value) → SameValue Tied v u → SlotIf t notes g (links (Indirect link via offset)) rest → (links (Indirect link via offset) ≡ true → Reads (Some (at + 4)) rest) → Kept a.registers → Alike (End (Indirect link via offset) ∷ rest) a b → Match (jumped link at a (indirect_jump S offset v)) (jump g link rest b (indirect_jump S' offset u))
  away_lift link via at offset rest a b (Num x) u e slot reads kept h = rw e (number_lift (even (wrapped (x + unsigned offset))) link at (Indirect link via offset) rest a b refl refl slot reads kept h)
  away_lift link via at offset rest a b (Tagged (Code n)) (Num y) e slot reads kept h = absurd e
  away_lift link via at offset rest a b (Tagged (Code n)) (Tagged (Part m word)) e slot reads kept h = absurd e
  away_lift link via at offset rest a b (Tagged (Code n)) (Tagged (Code m)) e slot reads kept h = rw e.0 (go (int_eq offset (pos 0)))
    where
      go : (c : Bool) → Match (jumped link at a (if c then Went None (ToName n) else Broke JumpBreak)) (jump g link rest b (if c then Went None (ToName n) else Broke JumpBreak))
      go true = code_lift n link at (Indirect link via offset) rest a b e.1 (n, e.2, refl) refl refl slot reads kept h
      go false = tt
  away_lift link via at offset rest a b (Tagged (Part n word)) u e slot reads kept h = tt

  -- a term that reads one register
  reads_one : (via : ℕ) (term : Term) (rest : List Line) (a b : Core) → term_sources term ≡ via ∷ [] → Kept a.registers → Alike (End term ∷ rest) a b → (reads_lost (term_sources term) b ≡ false) × SameValue Tied (register_value via a.registers) (register_value via b.registers)
  reads_one via term rest a b e kept h =
      let o = read_alike (End term) rest (via ∷ []) a b (λ r f. read_here (subst (λ rs. is_among_but_x0 rs r ≡ true) (sym e) f)) kept h in
      (subst (λ rs. list_any (lost_in b.registers) rs ≡ false) (sym e) o.0, o.1 0)

  -- behind a link stands the next word
  link_onward : (link at : ℕ) (rest : List Line) → Reads (if not (not (link == 0)) then None else Some (at + 4)) rest → (not (link == 0)) ≡ true → Reads (Some (at + 4)) rest
  link_onward link at rest h e = subst (λ o. Reads o rest) (is_open link at e) h

  indirect_goal : (at link via : ℕ) (offset : ℤ) (rest : List Line) (a b : Core) → LineGoal at rest a b (jumped link at a (indirect_jump S offset (register_value via a.registers))) (IsTerm (Indirect link via offset))
  indirect_goal at link via offset rest a b door good reads kept h =
      let o = reads_one via (Indirect link via offset) rest a b refl kept h in
      rw o.0 (away_lift link via at offset rest a b (register_value via a.registers) (register_value via b.registers) o.1 good (link_onward link at rest reads) kept h)

  -- `jalr` with the lower half of an address
  part_text : (at link via to : ℕ) (offset : ℤ) (rest : List Line) (a b : Core) → is_in_text t to ≡ true → LineGoal at rest a b (jumped link at a (part_jump S to offset (register_value via a.registers))) (IsTerm (PartJump link via to))
  part_text at link via to offset rest a b e door good reads kept h =
      let o = reads_one via (PartJump link via to) rest a b refl kept h in
      rw o.0 (go (is_upper_half to offset (register_value via a.registers)) refl o.1)
    where
      go : (c : Bool) → is_upper_half to offset (register_value via a.registers) ≡ c → SameValue Tied (register_value via a.registers) (register_value via b.registers) → Match (jumped link at a (if c then name_jump S to else Broke Half)) (jump g link rest b (part_jump S' to (pos 0) (register_value via b.registers)))
      go true f same =
          let up = in_text_upper t notes g layout to (register_value via b.registers) e (upper_is t notes g layout to offset (register_value via a.registers) (register_value via b.registers) same f) in
          rw (up, e) (code_lift to link at (PartJump link via to) rest a b good.0 refl refl refl good.1 (link_onward link at rest reads) kept h)
      go false f same = tt

  part_outside : (at link via to : ℕ) (offset : ℤ) (rest : List Line) (a b : Core) → to < 2 ^ 32 → is_in_text t to ≡ false → LineGoal at rest a b (jumped link at a (part_jump S to offset (register_value via a.registers))) (IsTerm (Indirect link via (low_half to)))
  part_outside at link via to offset rest a b small e door good reads kept h =
      let o = reads_one via (Indirect link via (low_half to)) rest a b refl kept h in
      rw o.0 (go (is_upper_half to offset (register_value via a.registers)) refl o.1)
    where
      go : (c : Bool) → is_upper_half to offset (register_value via a.registers) ≡ c → SameValue Tied (register_value via a.registers) (register_value via b.registers) → Match (jumped link at a (if c then name_jump S to else Broke Half)) (jump g link rest b (indirect_jump S' (low_half to) (register_value via b.registers)))
      go true f same =
          let up = outside_upper t notes g layout to (register_value via b.registers) e (upper_is t notes g layout to offset (register_value via a.registers) (register_value via b.registers) same f) in
          rw (up, e, halves_add to small) (number_lift (even to) link at (Indirect link via (low_half to)) rest a b refl refl good (link_onward link at rest reads) kept h)
      go false f same = tt

  branched_lift : (at to : ℕ) (rest : List Line) (a b : Core) (o p : Option Bool) → ((c : Bool) → o ≡ Some c → p ≡ Some c) → IsNamed t notes g to → Reads (Some (at + 4)) rest → Kept a.registers → Alike (block_lines g to) a b → Alike rest a b → Match (branched at to a o) (branch g to rest b p)
  branched_lift at to rest a b None p e named reads kept h k = tt
  branched_lift at to rest a b (Some true) p e named reads kept h k = rw (e true refl) (to_block_lift to a b named kept h)
  branched_lift at to rest a b (Some false) p e named reads kept h k = rw (e false refl) (refl, (out reads, kept, k))

  branch_goal : (at to x y : ℕ) (cond : Cond) (rest : List Line) (a b : Core) → LineGoal at rest a b (branched at to a (is_taken S cond (register_value x a.registers) (register_value y a.registers))) (IsTerm (Branch cond x y to))
  branch_goal at to x y cond rest a b door good reads kept h =
      let o = read_alike (End (Branch cond x y to)) rest (x ∷ y ∷ []) a b (λ r f. read_here f) kept h in
      rw o.0
      (branched_lift at to rest a b (is_taken S cond (register_value x a.registers) (register_value y a.registers)) (is_taken S' cond (register_value x b.registers) (register_value y b.registers))
      (λ c e. taken_rel everywhere Tied S all_names cond (register_value x a.registers) (register_value y a.registers) (register_value x b.registers) (register_value y b.registers) c (o.1 0) (o.1 1) e) good reads kept
      (behind (End (Branch cond x y to)) rest (block_lines g to) a b no_link (inl refl) h)
      (behind (End (Branch cond x y to)) rest rest a b no_link (inr refl) h))

  -- READINGS

  item_open : (item : Item) (at : ℕ) → onward (line_of item) at ≡ Some (at + 4)
  item_open (Op insn) at = refl
  item_open (Hi rd to) at = refl
  item_open (Lo rd rs to) at = refl
  item_open (Out procedure) at = refl

  item_line : (at : ℕ) (rest : List Line) (a b : Core) (x : Watches) (item : Item) → ItemGoal at rest a b x item → LineGoal at rest a b x (IsItem item)
  item_line at rest a b x item goal door good reads kept h = goal rest good (λ d v e. out (subst (λ o. Reads o rest) (item_open item at) reads)) kept h

  -- what holds of the reading that is read
  read_as : (P : Reading → Type 0) (r : Reading) (r' : Reading) → Some r' ≡ Some r → P r' → P r
  read_as P r r' e h = let q : r' ≡ r = cc in subst P q h

  -- an item leads on, in a block or in a body; a term as its line says
  abbrev ReadingGoal : ℕ → List Line → Core → Core → Watches → Reading → Type 0
  ReadingGoal at rest a b x (IsItem item) = ItemGoal at rest a b x item
  ReadingGoal at rest a b x (IsTerm term) = LineGoal at rest a b x (IsTerm term)
  ReadingGoal at rest a b x (Links link to) = LineGoal at rest a b x (Links link to)

  reading_line : (at : ℕ) (rest : List Line) (a b : Core) (x : Watches) (r : Reading) → ReadingGoal at rest a b x r → LineGoal at rest a b x r
  reading_line at rest a b x (IsItem item) goal = item_line at rest a b x item goal
  reading_line at rest a b x (IsTerm term) goal = goal
  reading_line at rest a b x (Links link to) goal = goal

  jal_goal : (at link to : ℕ) (rest : List Line) (a b : Core) → ReadingGoal at rest a b (at_address to (monitored.with_link link at a)) (jal_reading link to)
  jal_goal at link to rest a b = go (link == 0) refl
    where
      go : (c : Bool) → (link == 0) ≡ c → ReadingGoal at rest a b (at_address to (monitored.with_link link at a)) (if c then IsTerm (Jump to) else Links link to)
      go true e = let q : link ≡ 0 = eqb-true link 0 e in subst (λ l. ReadingGoal at rest a b (at_address to (monitored.with_link l at a)) (IsTerm (Jump to))) (sym q) (jump_goal at to rest a b)
      go false e = links_goal at link to rest a b

  plain_goal : (at : ℕ) (insn : Insn) (r : Reading) (rest : List Line) (a b : Core) → plain_reading at insn ≡ Some r → ReadingGoal at rest a b (insn_step S at Plain insn a) r
  plain_goal at (Lui rd upper) r rest a b e = read_as (ReadingGoal at rest a b (insn_step S at Plain (Lui rd upper) a)) r (IsItem (Op (Lui rd upper))) e (op_goal at (Lui rd upper) rest a b)
  plain_goal at (Auipc rd upper) r rest a b e = absurd (cc)
  plain_goal at (Jal rd offset) r rest a b e = read_as (ReadingGoal at rest a b (insn_step S at Plain (Jal rd offset) a)) r (jal_reading rd (target_from at offset)) e (jal_goal at rd (target_from at offset) rest a b)
  plain_goal at (Jalr rd rs offset) r rest a b e = read_as (ReadingGoal at rest a b (insn_step S at Plain (Jalr rd rs offset) a)) r (IsTerm (Indirect rd rs offset)) e (indirect_goal at rd rs offset rest a b)
  plain_goal at (BranchInsn cond x y offset) r rest a b e = read_as (ReadingGoal at rest a b (insn_step S at Plain (BranchInsn cond x y offset) a)) r (IsTerm (Branch cond x y (target_from at offset))) e (branch_goal at (target_from at offset) x y cond rest a b)
  plain_goal at (Load kind rd rs offset) r rest a b e = read_as (ReadingGoal at rest a b (insn_step S at Plain (Load kind rd rs offset) a)) r (IsItem (Op (Load kind rd rs offset))) e (op_goal at (Load kind rd rs offset) rest a b)
  plain_goal at (StoreInsn kind rs src offset) r rest a b e = read_as (ReadingGoal at rest a b (insn_step S at Plain (StoreInsn kind rs src offset) a)) r (IsItem (Op (StoreInsn kind rs src offset))) e (op_goal at (StoreInsn kind rs src offset) rest a b)
  plain_goal at (OpImm op rd rs imm) r rest a b e = read_as (ReadingGoal at rest a b (insn_step S at Plain (OpImm op rd rs imm) a)) r (IsItem (Op (OpImm op rd rs imm))) e (op_goal at (OpImm op rd rs imm) rest a b)
  plain_goal at (OpInsn op rd x y) r rest a b e = read_as (ReadingGoal at rest a b (insn_step S at Plain (OpInsn op rd x y) a)) r (IsItem (Op (OpInsn op rd x y))) e (op_goal at (OpInsn op rd x y) rest a b)
  plain_goal at (Fence word) r rest a b e = read_as (ReadingGoal at rest a b (insn_step S at Plain (Fence word) a)) r (IsItem (Op (Fence word))) e (op_goal at (Fence word) rest a b)
  plain_goal at Ecall r rest a b e = read_as (ReadingGoal at rest a b (insn_step S at Plain Ecall a)) r (IsItem (Op Ecall)) e (op_goal at Ecall rest a b)
  plain_goal at Ebreak r rest a b e = read_as (ReadingGoal at rest a b (insn_step S at Plain Ebreak a)) r (IsTerm (Stop ebreak_word)) e (λ door good reads kept h. refl)
  plain_goal at (Unimp word) r rest a b e = read_as (ReadingGoal at rest a b (insn_step S at Plain (Unimp word) a)) r (IsTerm (Stop word)) e (λ door good reads kept h. refl)
  plain_goal at (Atomic op order rd rs src) r rest a b e = read_as (ReadingGoal at rest a b (insn_step S at Plain (Atomic op order rd rs src) a)) r (IsItem (Op (Atomic op order rd rs src))) e (op_goal at (Atomic op order rd rs src) rest a b)

  upper_case : (at to : ℕ) (insn : Insn) (r : Reading) (rest : List Line) (a b : Core) → upper_reading t to insn ≡ Some r → ReadingGoal at rest a b (insn_step S at (Upper to (upper_value at insn)) insn a) r
  upper_case at to (Lui rd upper) r rest a b e =
      let x : Watches = insn_step S at (Upper to (upper_value at (Lui rd upper))) (Lui rd upper) a in
      read_as (ReadingGoal at rest a b x) r (IsItem (upper_item t to rd)) e (upper_goal at to rd (upper_value at (Lui rd upper)) (Lui rd upper) rest a b)
  upper_case at to (Auipc rd upper) r rest a b e =
      let x : Watches = insn_step S at (Upper to (upper_value at (Auipc rd upper))) (Auipc rd upper) a in
      read_as (ReadingGoal at rest a b x) r (IsItem (upper_item t to rd)) e (upper_goal at to rd (upper_value at (Auipc rd upper)) (Auipc rd upper) rest a b)
  upper_case at to insn r rest a b e = absurd (cc)

  lower_case : (at to : ℕ) (insn : Insn) (r : Reading) (rest : List Line) (a b : Core) → to < 2 ^ 32 → lower_reading t to insn ≡ Some r → ReadingGoal at rest a b (insn_step S at (Lower to) insn a) r
  lower_case at to (OpImm Addi rd rs imm) r rest a b small e =
      let x : Watches = insn_step S at (Lower to) (OpImm Addi rd rs imm) a in
      let i : Item = if is_in_text t to then Lo rd rs to else Op (OpImm Addi rd rs (low_half to)) in
      read_as (ReadingGoal at rest a b x) r (IsItem i) e (addi_goal at to rd rs imm rest a b small)
  lower_case at to (Load kind rd rs imm) r rest a b small e = go (is_in_text t to) refl e
    where
      go : (c : Bool) → is_in_text t to ≡ c → (if c then None else Some (IsItem (Op (Load kind rd rs (low_half to))))) ≡ Some r → ReadingGoal at rest a b (insn_step S at (Lower to) (Load kind rd rs imm) a) r
      go true f e = absurd (cc)
      go false f e =
          let x : Watches = insn_step S at (Lower to) (Load kind rd rs imm) a in
          read_as (ReadingGoal at rest a b x) r (IsItem (Op (Load kind rd rs (low_half to)))) e (load_goal at to rd rs kind imm rest a b small f)
  lower_case at to (StoreInsn kind rs src imm) r rest a b small e = go (is_in_text t to) refl e
    where
      go : (c : Bool) → is_in_text t to ≡ c → (if c then None else Some (IsItem (Op (StoreInsn kind rs src (low_half to))))) ≡ Some r → ReadingGoal at rest a b (insn_step S at (Lower to) (StoreInsn kind rs src imm) a) r
      go true f e = absurd (cc)
      go false f e =
          let x : Watches = insn_step S at (Lower to) (StoreInsn kind rs src imm) a in
          read_as (ReadingGoal at rest a b x) r (IsItem (Op (StoreInsn kind rs src (low_half to)))) e (store_goal at to rs src kind imm rest a b small f)
  lower_case at to (Jalr rd rs offset) r rest a b small e = go (is_in_text t to) refl e
    where
      go : (c : Bool) → is_in_text t to ≡ c → Some (IsTerm (if c then PartJump rd rs to else Indirect rd rs (low_half to))) ≡ Some r → ReadingGoal at rest a b (insn_step S at (Lower to) (Jalr rd rs offset) a) r
      go true f e = read_as (ReadingGoal at rest a b (insn_step S at (Lower to) (Jalr rd rs offset) a)) r (IsTerm (PartJump rd rs to)) e (part_text at rd rs to offset rest a b f)
      go false f e = read_as (ReadingGoal at rest a b (insn_step S at (Lower to) (Jalr rd rs offset) a)) r (IsTerm (Indirect rd rs (low_half to))) e (part_outside at rd rs to offset rest a b small f)
  lower_case at to insn r rest a b small e = absurd (cc)

  marked_goal : (at : ℕ) (mark : Mark) (insn : Insn) (r : Reading) (rest : List Line) (a b : Core) → MarkFits mark → marked_reading t at mark insn ≡ Some r → ReadingGoal at rest a b (insn_step S at (half_of at mark insn) insn a) r
  marked_goal at PlainMark insn r rest a b small e = plain_goal at insn r rest a b e
  marked_goal at (HiMark to) insn r rest a b small e = upper_case at to insn r rest a b e
  marked_goal at (LoMark to) insn r rest a b small e = lower_case at to insn r rest a b small e
  marked_goal at mark insn r rest a b small e = absurd (cc)

  insn_goal : (at : ℕ) (mark : Mark) (o : Option Insn) (r : Reading) (rest : List Line) (a b : Core) → MarkFits mark → option_and_then (marked_reading t at mark) o ≡ Some r → ReadingGoal at rest a b (marked_step S at mark o a) r
  insn_goal at mark None r rest a b small e = absurd (cc)
  insn_goal at mark (Some insn) r rest a b small e = marked_goal at mark insn r rest a b small e

  -- PLACES

  line_act : {o : Option ℕ} {xs : List Line} (at : ℕ) (a b : Core) → o ≡ Some at → Reads o xs → Kept a.registers → Alike xs a b → Match (word_step S at (word_at t at) a) (lines_step S' g xs b)
  line_act at a b e lift_end kept h = absurd (cc)
  line_act at a b e (lift_name {n = n} {xs = xs} f k reads) kept h =
      let q : at ≡ n = subst (λ o. IsAt o n) e f in
      line_act at a b (ap Some (sym q)) reads kept (behind (Name n) xs xs a b (λ r. refl) refl h)
  line_act at a b e (lift_line x {l = l} {xs = xs} w r f u i p d k reads) kept h =
      let q : x ≡ at = let v : Some x ≡ Some at = sym f ∙ e in cc in
      let u' : word_at t at ≡ Some w = subst (λ y. word_at t y ≡ Some w) q u in
      let i' : reading_of t at w ≡ Some r = subst (λ y. reading_of t y w ≡ Some r) q i in
      let goal = reading_line at xs a b (marked_step S at w.mark (insn_in w) a) r (insn_goal at w.mark (insn_in w) r xs a b (marks at w u') i') in
      rw (u', p)
      (goal d (subst (λ l. GoodLine t notes g l xs) p k) (subst (λ l. Reads (onward l at) xs) p (subst (λ y. Reads (onward l y) xs) q reads)) kept (subst (λ l. Alike (l ∷ xs) a b) p h))

  held_value : (link : ℕ) (k : ℕ → Held) (v : Value) → link ≢ 0 → k link ≡ Holds v → register_value link k ≡ v
  held_value zero k v e h = absurd (e refl)
  held_value (suc link) k v e h = rw h refl

  return_act : (at link back : ℕ) (w : Word) (xs : List Line) (a b : Core) → word_at t at ≡ Some w → w.mark ≡ PlainMark → insn_in w ≡ Some (Jalr 0 link (pos 0)) → link ≢ 0 → a.registers link ≡ Holds (Tagged (Code back)) → Reads (Some back) xs → Kept a.registers → Alike (Return link ∷ xs) a b → Match (word_step S at (word_at t at) a) (lines_step S' g (Return link ∷ xs) b)
  return_act at link back w xs a b u m i real holds reads kept h =
      rw (u, m, i, held_value link a.registers (Tagged (Code back)) real holds)
      (refl, (out reads, kept_written 0 (Tagged (Code (at + 4))) a.registers kept, unwritten xs (Holds (Tagged (Code (at + 4)))) a b (behind (Return link) xs xs a b (λ r. refl) refl h)))

  not_link : (link d : ℕ) (v : Held) (k : ℕ → Held) (e : Held) → is_register d link ≡ false → k link ≡ e → written d v k link ≡ e
  not_link link d v k e f h = written_other d link v k f ∙ h

  place_act : (at : ℕ) (a b : Core) {xs : List Line} → Stands at a.registers xs → Kept a.registers → Alike xs a b → Match (word_step S at (word_at t at) a) (lines_step S' g xs b)
  place_act at a b (out reads) kept h = line_act at a b refl reads kept h
  place_act at a b (within link [] xs back body real holds reads) kept h = return_act at link back body.0 xs a b body.1 body.2 body.3 real holds reads kept h
  place_act at a b (within link (item ∷ items) xs back body real holds reads) kept h =
      let w = body.0.0 in
      let rest : List Line = map line_of items ++ (Return link ∷ xs) in
      let goal : ItemGoal at rest a b (marked_step S at w.mark (insn_in w) a) item = insn_goal at w.mark (insn_in w) (IsItem item) rest a b (marks at w body.0.1) body.0.2 in
      rw body.0.1
      (goal [] body.0.3
      (λ d v e. within {registers = written d (Holds v) a.registers} link items xs back body.1 real (not_link link d (Holds v) a.registers (Holds (Tagged (Code back))) (sym (e link) ∙ body.0.4) holds) reads) kept h)

  lift_step : (x : Watched) (y : State) → IsLiftOf t notes g x y → Match (monitored_step layout t x) (graph_step S' g y)
  lift_step x (At xs b) r = place_act x.pc x.core b r.0 r.1 r.2
  lift_step x (Fetching y) r = rw (r.0, r.1) refl

  -- THE RUN of the graph shows what that of the program shows, at each number of steps.
  pub lifted_locks : (x : Watched) (y : State) → IsLiftOf t notes g x y → LocksWith (monitored_step layout t) x (graph_step S' g) y
  lifted_locks x y r = locks_by (monitored_step layout t) (graph_step S' g) (IsLiftOf t notes g) lift_step x y r

  pub starts_alike : (entry : ℕ) (a b : Core) → IsNamed t notes g entry → Kept a.registers → Alike (block_lines g entry) a b → IsLiftOf t notes g (record { pc = entry; core = a }) (At (block_lines g entry) b)
  starts_alike entry a b named kept h = (out (lifts_at entry named), kept, h)
