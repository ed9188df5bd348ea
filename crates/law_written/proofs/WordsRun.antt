-- The plain machine with a graph's words as its text does what the graph does.
use Rattle.std.proofs.Common.{◌≡◌, ◌≢◌, ◌⊎◌, inl, inr, ℕ, zero, suc, ℤ, pos, ◌-ℤ◌, ◌+◌, ◌*◌, ◌%◌, ◌^◌, ◌<◌, ◌≤◌, nat_lt, nat_le, Bool, true, false, not, ◌==◌, ◌&&◌, ◌||◌, List, [], ◌∷◌, ◌++◌, length, map, Option, Some, None, if◌then◌else◌, slice_get, slice_index_or, refl, sym, ap, ◌∙◌, subst, arith}
use Rattle.std.specs.Option.{option_map}
use Rattle.std.specs.Ordering.{int_eq}
use Rattle.std.specs.List.{list_any}
use Rattle.std.proofs.lemmas.Bool.{and_parts, eqb-true, or_parts}
use Rattle.std.proofs.lemmas.Bool.Decides.{nat_tests, Decides-int_eq}
use Rattle.std.proofs.lemmas.Int.{ints}
use Rattle.sq_num.specs.Halves.{high_half, low_half}
use Rattle.sq_isa.specs.Words.{wrapped, unsigned, upper_word, even}
use Rattle.sq_isa.specs.Values.{value_imm_of}
use Rattle.sq_isa.specs.Registers.{written, is_among}
use Rattle.sq_isa.specs.Ranges.{FieldsFit}
use Rattle.sq_isa.specs.Uses.{sources_of, destination_of}
use Rattle.sq_isa.specs.Branches.{taken_of}
use Rattle.sq_isa.specs.Accesses.{bytes_number}
use Rattle.sq_isa.specs.Encoding.{word_of}
use Rattle.sq_isa.proofs.Encoded.{insn_of-word_of}
use Rattle.sq_isa.specs.declared.instructions.Cond.{Cond}
use Rattle.sq_isa.specs.declared.instructions.Insn.{Insn}
use Rattle.sq_isa.specs.declared.instructions.Insn.TheVariants.{Lui, Jal, Jalr, Branch as BranchInsn, OpImm, Ebreak, Unimp}
use Rattle.sq_isa.specs.declared.instructions.ImmOp.TheVariants.{Addi}
use Rattle.law_runs.specs.Runs.{Went, Ended, Broke}
use Rattle.law_runs.specs.Simulation.{Matches}
use Rattle.law_runs.specs.Follows.{LocksWith}
use Rattle.law_runs.proofs.Simulate.{locks_by}
use Rattle.sq_memory.specs.Cells.{Cells}
use Rattle.sq_memory.proofs.RangeLaws.{cells_from-same}
use Rattle.sq_system.specs.Starts.{Start, stack_pointer}
use Rattle.sq_system.specs.World.{World as Layout, is_executable, is_range}
use Rattle.sq_system.specs.declared.event.Halt.TheVariants.{Fetch, Illegal, Breakpoint}
use Rattle.sq_machine.specs.State.{State, number_at, aligned_number, with_register, jump, next_pc, address_of, target_of}
use Rattle.sq_machine.specs.Rows as plain
use Rattle.sq_machine.specs.Steps.{fetched, insn_step, word_step, step_of}
use Rattle.sq_graph.specs.declared.item.Item.{Item}
use Rattle.sq_graph.specs.declared.item.Item.TheVariants.{Op, Hi, Lo, Out}
use Rattle.sq_graph.specs.declared.item.Term.{Term}
use Rattle.sq_graph.specs.declared.item.Term.TheVariants.{Fall, Jump, Branch, Call, PartJump, Indirect, Stop}
use Rattle.sq_graph.specs.Graph.{Procedure, Graph}
use Rattle.sq_graph.specs.Blocks.{HasBlock, HasProcedure}
use Rattle.sq_graph.specs.Lines.{AddressHalf, Plain, Upper, Lower, Line, Name, Do, Enter, Return, End, inside, line_of, lines_of, slot_name}
use Rattle.sq_graph.specs.Walks.{term_sources}
use Rattle.sq_graph.specs.Words.{words_of}
use Rattle.sq_graph.proofs.RulesByBlock.{by_block}
use Rattle.law_follow.specs.declared.kind.Kind.TheVariants.{Half, Jump as JumpBreak}
use Rattle.law_follow.specs.Values.{Code, Part, Value, Num, Tagged, Held, Holds, Lost}
use Rattle.law_follow.specs.Settings.{Setting, is_in_text}
use Rattle.law_follow.specs.Arithmetic.{is_taken, is_upper_half, word_fits}
use Rattle.law_follow.specs.Accesses.{Step}
use Rattle.law_follow.specs.Rows.{source, row_of}
use Rattle.law_follow.specs.Jumps.{ToName, ToNumber, Jumped, number_jump, indirect_jump, part_jump, stop}
use Rattle.law_follow.specs.GraphRuns as graph
use Rattle.law_follow.specs.GraphRuns.{Core, At, Fetching, Moves, ReadsLost, value_in, register_value, is_lost, lost_in, reads_lost, operands, graph_step}
use Rattle.law_follow.specs.Worlds.{World, layout_of, setting_of, first_registers}
use Rattle.law_follow.specs.Follows.{state_at_start}
use Rattle.law_erasure.specs.Erasure.{Erasing, IsErasing, IsErased, IsErasedHeld, IsErasedCore, IsErasedSetting}
use Rattle.law_erasure.proofs.Accessing.{Plainly, IsErasedMade, nothing_written}
use Rattle.law_erasure.proofs.Rows.{AddUp, plain_erased, upper_erased, addi_erased, taken_erased}
use Rattle.sq_write.specs.Points.{Point, new_address, new_start, call_link, offset_to, stop_insn, point_word, text_points}
use Rattle.sq_write.proofs.Fitting.{new_spot, text_stands}
use Rattle.sq_write.proofs.Lengths.{length_text}
use Rattle.law_written.specs.Writable.{IsWritable}
use Rattle.law_written.specs.Runs.{new_names, IsOutsideText, IsWrittenStart, WritingKeepsRuns}
use Rattle.law_written.proofs.PlainText.{Unbroken, surely, KeepsText, outside_text, finish_keeps, plain_keeps}
use Rattle.sq_write.proofs.PointFields.{AllFit, text_fits}
use Rattle.law_written.proofs.GraphLines.{DoStands, EndStands, Stands, BodyStands, behind_stands, AreThere, lines_stand, procedure_stands}

-- NUMBERS

-- the two halves of an address
parts_add : (a : ℕ) → a < 2 ^ 32 → wrapped (upper_word (high_half a) + unsigned (low_half a)) ≡ a
parts_add a small = go (nat_lt (a % 4096) 2048) refl
  where
    go : (b : Bool) → nat_lt (a % 4096) 2048 ≡ b → wrapped (upper_word (high_half a) + unsigned (if b then pos (a % 4096) else (pos (a % 4096) -ℤ pos 4096))) ≡ a
    go true e = let less : a % 4096 < 2048 = grind (arith, nat_tests) in omega (arith, ints)
    go false e = let more : 2048 ≤ a % 4096 = grind (arith, nat_tests) in omega (arith, ints)

-- an offset between places that are near leads to its target
offset_leads : (at to : ℕ) → at < 2 ^ 32 → to < 2 ^ 32 → to < at + 2 ^ 21 → at < to + 2 ^ 21 → wrapped (at + unsigned (offset_to at to)) ≡ to
offset_leads at to h k near far = omega (arith, ints)

wrapped_small : (x : ℕ) → x < 2 ^ 32 → wrapped x ≡ x
wrapped_small x h = omega arith

next_wraps : (at : ℕ) → wrapped (wrapped at + 4) ≡ wrapped (at + 4)
next_wraps at = omega arith

even_word : (x : ℕ) → x < 2 ^ 32 → x % 4 ≡ 0 → even (wrapped (x + 0)) ≡ x
even_word x h k = omega (arith, h, k)

even_whole : (x : ℕ) → x < 2 ^ 32 → x % 4 ≡ 0 → even x ≡ x
even_whole x h k = omega (arith, h, k)

wrapped_word : (x : ℕ) → x % 4 ≡ 0 → wrapped x % 4 ≡ 0
wrapped_word x h = omega (arith, h)

wrapped_below : (x : ℕ) → wrapped x < 2 ^ 32
wrapped_below x = omega arith

plus_zero : (x : ℕ) → x + 0 ≡ x
plus_zero x = omega arith

zero_written : (d v : ℕ) (k : ℕ → ℕ) → k 0 ≡ 0 → written d v k 0 ≡ 0
zero_written d v k h = go (0 == d && not (d == 0)) (grind (arith, nat_tests))
  where
    go : (c : Bool) → c ≡ false → (if c then v else k 0) ≡ 0
    go true e = absurd (cc)
    go false e = h

-- a register that isn't mentioned isn't written
other_written : (d r v : ℕ) (k : ℕ → ℕ) (more : Bool) → r ≢ 0 → (not (r == 0) && (d == r || more)) ≡ false → written d v k r ≡ k r
other_written d r v k more some e =
    let none : (r == 0) ≡ false = grind (arith, nat_tests) in
    let either : (d == r || more) ≡ false = rw none at e in
    let other : (d == r) ≡ false = (or_parts (d == r) more either).0 in
    let apart : (r == d) ≡ false = grind (arith, nat_tests) in
    rw apart refl

-- WORDS OF TEXT

-- the word of the instruction is in the text at this address
record IsThere (plain_world : Layout) (memory : Cells ℕ) (lo hi : ℕ) (x : ℕ) (insn : Insn) : Type 0 where
  low : lo ≤ x
  high : x + 4 ≤ hi
  whole : x % 4 ≡ 0
  range : is_range (is_executable plain_world) x 4 ≡ true
  number : aligned_number memory x 4 ≡ Some (word_of insn)
  fits : FieldsFit insn

module _ (plain_world : Layout) (memory : Cells ℕ) (lo hi : ℕ) (g : Graph) where
  points_there : (ps : List Point) (at : ℕ) → AllFit ps → lo ≤ at → at % 4 ≡ 0 → at + 4 * length ps ≤ hi → ((i : ℕ) (p : Point) → slice_get ps i ≡ Some p → (is_range (is_executable plain_world) (at + 4 * i) 4 ≡ true) × (aligned_number memory (at + 4 * i) 4 ≡ Some (point_word p))) → AreThere g lo (IsThere plain_world memory lo hi) at ps
  points_there [] at fits low whole most words = tt
  points_there (p ∷ ps) at fits low whole most words =
      let here : at + 4 * 0 ≡ at = omega arith in
      let word = words 0 p refl in (
        record {
          low = low;
          high = omega (arith, most);
          whole = whole;
          range = subst (λ x. is_range (is_executable plain_world) x 4 ≡ true) here word.0;
          number = subst (λ x. aligned_number memory x 4 ≡ Some (point_word p)) here word.1;
          fits = fits.0;
        },
        points_there ps (at + 4) fits.1 (omega (arith, low)) (omega (arith, whole)) (omega (arith, most)) (λ i q e. next i q (words (suc i) q e)),
      )
    where
      next : (i : ℕ) (q : Point) → (is_range (is_executable plain_world) (at + 4 * suc i) 4 ≡ true) × (aligned_number memory (at + 4 * suc i) 4 ≡ Some (point_word q)) → (is_range (is_executable plain_world) (at + 4 + 4 * i) 4 ≡ true) × (aligned_number memory (at + 4 + 4 * i) 4 ≡ Some (point_word q))
      next i q word =
          let same : at + 4 * suc i ≡ at + 4 + 4 * i = omega arith in
          (subst (λ x. is_range (is_executable plain_world) x 4 ≡ true) same word.0, subst (λ x. aligned_number memory x 4 ≡ Some (point_word q)) same word.1)

module _ (w : World) (g : Graph) (can : IsWritable g w.lo w.hi) (start : Start) (plain_world : Layout) (first : State) (begins : IsWrittenStart w g start plain_world first) where
  abbrev S : Setting
  S = setting_of w start

  abbrev E : Erasing
  E = new_names g w.lo first.memory

  abbrev P : ℕ → Type 0
  P = IsOutsideText S

  abbrev address : ℕ → ℕ
  address n = new_address g w.lo n

  abbrev There : ℕ → Insn → Type 0
  There = IsThere plain_world first.memory w.lo w.hi

  few : words_of g ≤ 262144
  few = let a = can.words in let b = can.short in omega (arith, a, b)

  -- each block's address is one of a word of text
  record Placed (n : ℕ) : Type 0 where
    from : w.lo ≤ address n
    below : address n < w.hi
    inside : is_in_text S (address n) ≡ true
    small : address n < 2 ^ 32
    whole : address n % 4 ≡ 0

  in_text : (x : ℕ) → w.lo ≤ x → x < w.hi → is_in_text S x ≡ true
  in_text x low high =
      let a : nat_le w.lo x ≡ true = grind (arith, nat_tests) in
      let b : nat_lt x w.hi ≡ true = grind (arith, nat_tests) in
      rw (a, b) refl

  placed : (n : ℕ) → HasBlock g n → Placed n
  placed n has =
      let spot = new_spot g w.lo can.rules few n has in
      let is : address n ≡ w.lo + spot.0 = spot.2 in
      let place : ℕ = spot.3.place in
      let at : spot.0 ≡ 4 * place = spot.3.is in
      let within : place < words_of g = spot.3.within in
      let words = can.words in
      let end = can.end in
      let aligned = can.aligned in
      let from : w.lo ≤ address n = omega (arith, is) in
      let below : address n < w.hi = omega (arith, is, at, within, words) in
      record {
        from = from;
        below = below;
        inside = in_text (address n) from below;
        small = omega (arith, is, at, within, words, end);
        whole = omega (arith, is, at, aligned);
      }

  naming : IsErasing E S
  naming = record {
    in_text = λ n h. (placed n h).inside;
    small = λ n h. (placed n h).small;
    whole = λ n h. (placed n h).whole;
    word_small = λ n v h. omega arith;
  }

  above_text : (x : ℕ) → 2 ^ 32 ≤ x → is_in_text S x ≡ false
  above_text x h =
      let end = can.end in
      let b : nat_lt x w.hi ≡ false = grind (arith, nat_tests) in
      rw b (none (nat_le w.lo x))
    where
      none : (c : Bool) → (c && false) ≡ false
      none true = refl
      none false = refl

  laid : IsErasedSetting P S plain_world
  laid = record {
    base = begins.laid_out.base;
    size = begins.laid_out.size;
    writable = λ x h. begins.laid_out.writable x h;
    above = above_text;
    outside = outside_text S;
  }

  -- the words of the graph, its lines and its procedures
  words_there : AreThere g w.lo There w.lo (text_points g w.lo)
  words_there =
      let words = can.words in
      let size = length_text g w.lo in
      points_there plain_world first.memory w.lo w.hi g (text_points g w.lo) w.lo (text_fits g w.lo can.rules (text_stands g w.lo can.rules few can.reach)) (omega arith) can.aligned (omega (arith, words, size)) begins.text

  all_stand : Stands g w.lo There w.lo (lines_of g.blocks)
  all_stand = lines_stand g w.lo There can.rules words_there

  -- a procedure begins in text
  record InText (at : ℕ) : Type 0 where
    from : w.lo ≤ at
    below : at < w.hi

  word_inside : (at : ℕ) (insn : Insn) → There at insn → InText at
  word_inside at insn t = let high = t.high in record { from = t.low; below = omega (arith, high) }

  body_inside : (items : List Item) (link at : ℕ) → BodyStands g w.lo There link at items → InText at
  body_inside [] link at t = word_inside at (Jalr 0 link (pos 0)) t
  body_inside (Op insn ∷ items) link at t = word_inside at insn t.0.0
  body_inside (Hi rd to ∷ items) link at t = word_inside at (Lui rd (high_half (address to))) t.0.0
  body_inside (Lo rd rs to ∷ items) link at t = word_inside at (OpImm Addi rd rs (low_half (address to))) t.0.0
  body_inside (Out p ∷ items) link at t = absurd t.0

  -- THE RELATION

  record IsWrittenCore (core : Core) (b : State) : Type 0 where
    erased : IsErasedCore P E core b
    text : (y : ℕ) → is_in_text S y ≡ true → b.memory y ≡ first.memory y

  -- at lines of blocks
  record Outside (lines : List Line) (b : State) : Type 0 where
    at : ℕ
    pc : b.pc ≡ wrapped at
    stands : Stands g w.lo There at lines

  -- in the body of a procedure, whose link has the address of what stands behind the Out
  record Inside (lines : List Line) (b : State) : Type 0 where
    at : ℕ
    pc : b.pc ≡ wrapped at
    items : List Item
    link : ℕ
    some_link : link ≢ 0
    rest : List Line
    lines_are : lines ≡ map line_of items ++ (Return link ∷ rest)
    body : BodyStands g w.lo There link at items
    back : ℕ
    back_is : b.registers link ≡ wrapped back
    whole : back % 4 ≡ 0
    behind : Stands g w.lo There back rest

  abbrev Place : List Line → State → Type 0
  Place lines b = Outside lines b ⊎ Inside lines b

  abbrev IsWritten : graph.State → State → Type 0
  IsWritten (At lines core) b = Place lines b × IsWrittenCore core b
  IsWritten (Fetching x) b = (b.pc ≡ x) × (is_executable plain_world x ≡ false)

  abbrev Match : Moves → Plainly → Type 0
  Match = Matches IsWritten

  -- FETCHING

  pc_small : (x : ℕ) (insn : Insn) (b : State) → There x insn → b.pc ≡ wrapped x → b.pc ≡ x
  pc_small x insn b t e = let high = t.high in let end = can.end in e ∙ wrapped_small x (omega (arith, high, end))

  same_number : (x : ℕ) (insn : Insn) (core : Core) (b : State) → There x insn → IsWrittenCore core b → aligned_number b.memory x 4 ≡ Some (word_of insn)
  unfolding number_at
  same_number x insn core b t h =
      let low = t.low in
      let high = t.high in
      let inside : (i : ℕ) → i < 4 → is_in_text S (x + i) ≡ true = λ i l. in_text (x + i) (omega (arith, low)) (omega (arith, l, high)) in
      let same = cells_from-same 4 b.memory first.memory x (λ i l. h.text (x + i) (inside i l)) in
      ap (λ o. if x % 4 == 0 then option_map bytes_number o else None) same ∙ t.number

  fetched_word : (x : ℕ) (insn : Insn) (core : Core) (b : State) → There x insn → b.pc ≡ wrapped x → IsWrittenCore core b → fetched plain_world b ≡ Some (word_of insn)
  fetched_word x insn core b t e h =
      let at = pc_small x insn b t e in
      let range : is_range (is_executable plain_world) b.pc 4 ≡ true = subst (λ pc. is_range (is_executable plain_world) pc 4 ≡ true) (sym at) t.range in
      rw range (subst (λ pc. aligned_number b.memory pc 4 ≡ Some (word_of insn)) (sym at) (same_number x insn core b t h))

  steps_by : (b : State) → step_of plain_world b ≡ word_step plain_world b (fetched plain_world b)
  unfolding step_of
  steps_by b = refl

  -- the step is that of the instruction
  step_is : (x : ℕ) (insn : Insn) (core : Core) (b : State) → There x insn → b.pc ≡ wrapped x → IsWrittenCore core b → step_of plain_world b ≡ plain.row_of plain_world b insn
  step_is x insn core b t e h =
      steps_by b ∙ ap (word_step plain_world b) (fetched_word x insn core b t e h) ∙ ap (insn_step plain_world b) (insn_of-word_of insn t.fits)

  by_insn : (x : ℕ) (insn : Insn) (core : Core) (b : State) (m : Moves) → There x insn → b.pc ≡ wrapped x → IsWrittenCore core b → Match m (plain.row_of plain_world b insn) → Match m (step_of plain_world b)
  by_insn x insn core b m t e h k = subst (λ y. Match m y) (sym (step_is x insn core b t e h)) k

  fetched_none : (x : ℕ) (b : State) → b.pc ≡ x → is_executable plain_world x ≡ false → fetched plain_world b ≡ None
  fetched_none x b e f =
      let away : is_executable plain_world (b.pc + 0) ≡ false = subst (λ pc. is_executable plain_world pc ≡ false) (sym e ∙ sym (plus_zero b.pc)) f in
      let range : is_range (is_executable plain_world) b.pc 4 ≡ false = rw away (none (nat_le (b.pc + 4) (2 ^ 32))) in
      rw range refl
    where
      none : (c : Bool) → (c && false) ≡ false
      none true = refl
      none false = refl

  -- REGISTERS

  read_value : (r : ℕ) (core : Core) (b : State) → lost_in core.registers r ≡ false → IsWrittenCore core b → IsErased E (register_value r core.registers) (b.registers r)
  read_value zero core b e h = h.erased.zero
  read_value (suc r) core b e h = go (core.registers (suc r)) e (h.erased.registers (suc r))
    where
      go : (x : Held) → is_lost x ≡ false → IsErasedHeld E x (b.registers (suc r)) → IsErased E (value_in x) (b.registers (suc r))
      go (Holds v) f k = k
      go Lost f k = absurd (cc)

  sources_kept : (rs : List ℕ) (k : ℕ → Held) (i : ℕ) → list_any (lost_in k) rs ≡ false → lost_in k (slice_index_or rs i 0) ≡ false
  sources_kept [] k i e = refl
  sources_kept (r ∷ rs) k zero e = (or_parts (lost_in k r) (list_any (lost_in k) rs) e).0
  sources_kept (r ∷ rs) k (suc i) e = sources_kept rs k i (or_parts (lost_in k r) (list_any (lost_in k) rs) e).1

  operands_erased : (insn : Insn) (core : Core) (b : State) → reads_lost (sources_of insn) core ≡ false → IsWrittenCore core b → (i : ℕ) → IsErased E (operands insn core.registers i) (b.registers (source insn i))
  operands_erased insn core b e h i = read_value (source insn i) core b (sources_kept (sources_of insn) core.registers i e) h

  held_written : (u x : Held) (v y : ℕ) (c : Bool) → IsErasedHeld E u v → IsErasedHeld E x y → IsErasedHeld E (if c then u else x) (if c then v else y)
  held_written u x v y true h k = h
  held_written u x v y false h k = k

  -- a value, or nothing that may be read, in a register
  register_core : (d : ℕ) (u : Held) (v : ℕ) (core : Core) (b : State) → IsErasedHeld E u v → IsWrittenCore core b → IsWrittenCore (graph.with_register d u core) (with_register d v b)
  unfolding with_register
  register_core d u v core b e h = record {
    erased = record {
      registers = λ r. held_written u (core.registers r) v (b.registers r) (r == d && not (d == 0)) e (h.erased.registers r);
      zero = zero_written d v b.registers h.erased.zero;
      store = record { memory = h.erased.store.memory; stale = h.erased.store.stale; input = h.erased.store.input; reservation = h.erased.store.reservation };
    };
    text = h.text;
  }

  -- x0 takes no value
  no_register_core : (v : ℕ) (core : Core) (b : State) → IsWrittenCore core b → IsWrittenCore core (with_register 0 v b)
  unfolding with_register
  no_register_core v core b h = record {
    erased = record {
      registers = λ r. subst (IsErasedHeld E (core.registers r)) (sym (nothing_written v b.registers r)) (h.erased.registers r);
      zero = zero_written 0 v b.registers h.erased.zero;
      store = record { memory = h.erased.store.memory; stale = h.erased.store.stale; input = h.erased.store.input; reservation = h.erased.store.reservation };
    };
    text = h.text;
  }

  jump_core : (pc : ℕ) (core : Core) (b : State) → IsWrittenCore core b → IsWrittenCore core (jump pc b)
  unfolding jump
  jump_core pc core b h = record {
    erased = record {
      registers = h.erased.registers;
      zero = h.erased.zero;
      store = record { memory = h.erased.store.memory; stale = h.erased.store.stale; input = h.erased.store.input; reservation = h.erased.store.reservation };
    };
    text = h.text;
  }

  jumped_pc : (pc : ℕ) (b : State) → (jump pc b).pc ≡ pc
  unfolding jump
  jumped_pc pc b = refl

  -- ITEMS

  -- behind an instruction that goes on
  finish_write : (d : ℕ) (rest : List Line) (core : Core) (b : State) (x : Step) (y : Plainly) → IsWrittenCore core b → ((c : State) (v : ℕ) → c.pc ≡ next_pc b → ((r : ℕ) → c.registers r ≡ written d v b.registers r) → Place rest c) → Matches (IsErasedMade P E S plain_world naming laid d (next_pc b) b.registers) x y → Unbroken x (KeepsText S b y) → Match (graph.finish d rest core x) y
  finish_write d rest core b (Went e made) (Went f c) h next m kept = (
    m.0,
    (
      next c m.1.value m.1.pc_is m.1.registers,
      record {
        erased = record {
          registers = λ r. subst (IsErasedHeld E (written d (Holds made.value) core.registers r)) (sym (m.1.registers r)) (held_written (Holds made.value) (core.registers r) m.1.value (b.registers r) (r == d && not (d == 0)) m.1.value_is (h.erased.registers r));
          zero = m.1.registers 0 ∙ zero_written d m.1.value b.registers h.erased.zero;
          store = m.1.store;
        };
        text = λ y e. kept y e ∙ h.text y e;
      },
    ),
  )
  finish_write d rest core b (Went e made) (Ended g') h next m kept = absurd m
  finish_write d rest core b (Went e made) (Broke c) h next m kept = absurd m
  finish_write d rest core b (Ended halt) (Went e c) h next m kept = absurd m
  finish_write d rest core b (Ended halt) (Ended g') h next m kept = m
  finish_write d rest core b (Ended halt) (Broke c) h next m kept = absurd m
  finish_write d rest core b (Broke kind) y h next m kept = tt

  unless_lost : (lost : Bool) (x : Moves) (y : Plainly) → (lost ≡ false → Match x y) → Match (if lost then Broke ReadsLost else x) y
  unless_lost true x y h = tt
  unless_lost false x y h = h refl

  halves_add : (n : ℕ) (imm : ℤ) → HasBlock g n → AddUp P E S plain_world naming laid n imm (low_half (address n)) (address n)
  halves_add n imm has (Num x) y h e = absurd (cc)
  halves_add n imm has (Tagged (Code m)) y h e = absurd (cc)
  halves_add n imm has (Tagged (Part m word)) y h e =
      let r = and_parts (m == n) (word_fits word n imm) e in
      let same : m ≡ n = eqb-true m n r.0 in
      let is : y ≡ upper_word (high_half (address n)) = h.1 ∙ ap (λ k. upper_word (high_half (new_address g w.lo k))) same in
      rw is (parts_add (address n) (placed n has).small)

  abbrev Next : ℕ → State → List Line → Type 0
  Next d b rest = (c : State) (v : ℕ) → c.pc ≡ next_pc b → ((r : ℕ) → c.registers r ≡ written d v b.registers r) → Place rest c

  do_write : (half : AddressHalf) (insn : Insn) (rest : List Line) (at : ℕ) (core : Core) (b : State) → DoStands g w.lo There at half insn → b.pc ≡ wrapped at → IsWrittenCore core b → Next (destination_of insn) b rest → Match (graph.do_line S half insn rest core) (step_of plain_world b)
  do_write Plain insn rest at core b t e h next =
      unless_lost (reads_lost (sources_of insn) core) (graph.finish (destination_of insn) rest core (row_of S Plain insn (operands insn core.registers) core.store)) (step_of plain_world b)
      (λ kept.
      let erased = operands_erased insn core b kept h in
      by_insn at insn core b (graph.finish (destination_of insn) rest core (row_of S Plain insn (operands insn core.registers) core.store)) t e h
      (finish_write (destination_of insn) rest core b (row_of S Plain insn (operands insn core.registers) core.store) (plain.row_of plain_world b insn) h next
      (plain_erased P E S plain_world naming laid insn (operands insn core.registers) core.store b h.erased.zero erased h.erased.store)
      (plain_keeps E S plain_world insn (operands insn core.registers) core.store b erased)))
  do_write (Upper n word) (Lui rd upper) rest at core b t e h next =
      let made : ℕ = upper_word (high_half (address n)) in
      by_insn at (Lui rd (high_half (address n))) core b (graph.finish rd rest core (row_of S (Upper n word) (Lui rd upper) (operands (Lui rd upper) core.registers) core.store)) t.0 e h
      (finish_write rd rest core b (row_of S (Upper n word) (Lui rd upper) (operands (Lui rd upper) core.registers) core.store) (plain.row_of plain_world b (Lui rd (high_half (address n)))) h next
      (upper_erased P E S plain_world naming laid n rd made word (Lui rd upper) (operands (Lui rd upper) core.registers) core.store b t.1 refl h.erased.store)
      (finish_keeps E S plain_world rd made b))
  do_write (Lower n) (OpImm Addi rd rs imm) rest at core b t e h next =
      let insn : Insn = OpImm Addi rd rs imm in
      let low : ℤ = low_half (address n) in
      unless_lost (reads_lost (rs ∷ []) core) (graph.finish rd rest core (row_of S (Lower n) insn (operands insn core.registers) core.store)) (step_of plain_world b)
      (λ kept.
      by_insn at (OpImm Addi rd rs low) core b (graph.finish rd rest core (row_of S (Lower n) insn (operands insn core.registers) core.store)) t.0 e h
      (finish_write rd rest core b (row_of S (Lower n) insn (operands insn core.registers) core.store) (plain.row_of plain_world b (OpImm Addi rd rs low)) h next
      (addi_erased P E S plain_world naming laid n (address n) rd rs imm low (operands insn core.registers) core.store b (halves_add n imm t.1) (t.1, refl) (operands_erased insn core b kept h 0) h.erased.store)
      (surely (row_of S (Lower n) insn (operands insn core.registers) core.store) (KeepsText S b (plain.row_of plain_world b (OpImm Addi rd rs low))) (finish_keeps E S plain_world rd (value_imm_of Addi (b.registers rs) low) b))))
  do_write (Upper n word) insn rest at core b t e h next = absurd t
  do_write (Lower n) insn rest at core b t e h next = absurd t

  -- behind an instruction of a block
  next_outside : (d : ℕ) (rest : List Line) (at : ℕ) (b : State) → b.pc ≡ wrapped at → Stands g w.lo There (at + 4) rest → Next d b rest
  next_outside d rest at b e s c v pc registers =
      inl (record { at = at + 4; pc = pc ∙ ap (λ x. wrapped (x + 4)) e ∙ next_wraps at; stands = s })

  -- JUMPS

  -- to a block
  arrive : (n pc : ℕ) (core : Core) (b : State) → pc ≡ wrapped (address n) → IsWrittenCore core b → Match (graph.to_block g n core) (Went None (jump pc b))
  arrive n pc core b e h = (
    refl,
    (
      inl (record { at = address n; pc = jumped_pc pc b ∙ e; stands = behind_stands g w.lo There (lines_of g.blocks) w.lo n all_stand }),
      jump_core pc core b h,
    ),
  )

  away : (x pc : ℕ) (b : State) → pc ≡ x → is_executable plain_world x ≡ false → Match (Went None (Fetching x)) (Went None (jump pc b))
  away x pc b e f = (refl, (jumped_pc pc b ∙ e, f))

  -- with the address of the next slot in the link
  link_write : (link at pc : ℕ) (rest : List Line) (core : Core) (b : State) (go : Core → Moves) → Stands g w.lo There (at + 4) rest → b.pc ≡ wrapped at → IsWrittenCore core b → ((linked : Core) → IsWrittenCore linked (with_register link (next_pc b) b) → Match (go linked) (Went None (jump pc (with_register link (next_pc b) b)))) → Match (graph.with_link link rest core go) (Went None (jump pc (with_register link (next_pc b) b)))
  link_write zero at pc rest core b go s e h k = k core (no_register_core (next_pc b) core b h)
  link_write (suc r) at pc rest core b go s e h k = slot rest s
    where
      slot : (rest : List Line) → Stands g w.lo There (at + 4) rest → Match (graph.link_to (suc r) (slot_name rest) core go) (Went None (jump pc (with_register (suc r) (next_pc b) b)))
      slot [] s = tt
      slot (Name n ∷ rest) s =
          let small = (placed n s.0).small in
          let is : next_pc b ≡ address n = ap (λ x. wrapped (x + 4)) e ∙ next_wraps at ∙ ap wrapped (sym s.1) ∙ wrapped_small (address n) small in
          k (graph.with_register (suc r) (Holds (Tagged (Code n))) core) (register_core (suc r) (Holds (Tagged (Code n))) (next_pc b) core b (s.0, is) h)
      slot (Do half insn ∷ rest) s = tt
      slot (Enter p ∷ rest) s = tt
      slot (Return link ∷ rest) s = tt
      slot (End term ∷ rest) s = tt

  -- where a jump goes, and the plain machine's pc behind it
  abbrev LeadsTo : Jumped → ℕ → Type 0
  LeadsTo (Went event (ToName n)) pc = pc ≡ wrapped (address n)
  LeadsTo (Went event (ToNumber x)) pc = (pc ≡ x) × (is_executable plain_world x ≡ false)
  LeadsTo (Ended halt) pc = ⊥
  LeadsTo (Broke kind) pc = Unit {0}

  jump_write : (jumped : Jumped) (link at pc : ℕ) (rest : List Line) (core : Core) (b : State) → LeadsTo jumped pc → Stands g w.lo There (at + 4) rest → b.pc ≡ wrapped at → IsWrittenCore core b → Match (graph.jump g link rest core jumped) (Went None (jump pc (with_register link (next_pc b) b)))
  jump_write (Went event (ToName n)) link at pc rest core b l s e h =
      link_write link at pc rest core b (λ linked. graph.to_block g n linked) s e h (λ linked k. arrive n pc linked (with_register link (next_pc b) b) l k)
  jump_write (Went event (ToNumber x)) link at pc rest core b l s e h =
      link_write link at pc rest core b (λ linked. Went None (Fetching x)) s e h (λ linked k. away x pc (with_register link (next_pc b) b) l.0 l.1)
  jump_write (Ended halt) link at pc rest core b l s e h = absurd l
  jump_write (Broke kind) link at pc rest core b l s e h = tt

  number_leads : (x pc : ℕ) → pc ≡ x → LeadsTo (number_jump S x) pc
  number_leads x pc e = go (is_executable (layout_of w start) x) refl
    where
      go : (c : Bool) → is_executable (layout_of w start) x ≡ c → LeadsTo (if c then Broke JumpBreak else Went None (ToNumber x)) pc
      go true f = tt
      go false f = (e, begins.laid_out.executable x f)

  indirect_leads : (offset : ℤ) (v : Value) (y : ℕ) → IsErased E v y → LeadsTo (indirect_jump S offset v) (even (wrapped (y + unsigned offset)))
  indirect_leads offset (Num x) y h = number_leads (even (wrapped (x + unsigned offset))) (even (wrapped (y + unsigned offset))) (ap (λ z. even (wrapped (z + unsigned offset))) h)
  indirect_leads offset (Tagged (Part n word)) y h = tt
  indirect_leads offset (Tagged (Code n)) y h = go (int_eq offset (pos 0)) refl
    where
      go : (c : Bool) → int_eq offset (pos 0) ≡ c → LeadsTo (if c then Went None (ToName n) else Broke JumpBreak) (even (wrapped (y + unsigned offset)))
      go false f = tt
      go true f =
          let z : offset ≡ pos 0 = (Decides-int_eq offset (pos 0)).0 f in
          let p = placed n h.0 in
          let at : even (wrapped (address n + 0)) ≡ address n = even_word (address n) p.small p.whole in
          rw (z, h.1) (at ∙ sym (wrapped_small (address n) p.small))

  part_leads : (to : ℕ) (v : Value) (y : ℕ) → HasBlock g to → IsErased E v y → LeadsTo (part_jump S to (pos 0) v) (even (wrapped (y + unsigned (low_half (address to)))))
  part_leads to v y has h = go (is_upper_half to (pos 0) v) refl
    where
      go : (c : Bool) → is_upper_half to (pos 0) v ≡ c → LeadsTo (if c then Went None (ToName to) else Broke Half) (even (wrapped (y + unsigned (low_half (address to)))))
      go false f = tt
      go true f =
          let p = placed to has in
          ap even (halves_add to (pos 0) has v y h f) ∙ even_whole (address to) p.small p.whole ∙ sym (wrapped_small (address to) p.small)

  -- the target of a branch or a `jal`
  target_is : (at to : ℕ) (insn : Insn) (b : State) → There at insn → b.pc ≡ wrapped at → w.lo ≤ to → to < w.hi → target_of (offset_to at to) b ≡ wrapped to
  target_is at to insn b t e from below =
      let low = t.low in
      let high = t.high in
      let end = can.end in
      let short = can.short in
      let small : to < 2 ^ 32 = omega (arith, below, end) in
      ap (λ pc. wrapped (pc + unsigned (offset_to at to))) (pc_small at insn b t e)
      ∙ offset_leads at to (omega (arith, high, end)) small (omega (arith, low, below, short)) (omega (arith, high, from, short))
      ∙ sym (wrapped_small to small)

  block_target : (at n : ℕ) (insn : Insn) (b : State) → There at insn → b.pc ≡ wrapped at → HasBlock g n → target_of (offset_to at (address n)) b ≡ wrapped (address n)
  block_target at n insn b t e has = let p = placed n has in target_is at (address n) insn b t e p.from p.below

  branch_write : (cond : Cond) (x y to at : ℕ) (rest : List Line) (core : Core) (b : State) (o : Option Bool) → target_of (offset_to at (address to)) b ≡ wrapped (address to) → Stands g w.lo There (at + 4) rest → b.pc ≡ wrapped at → IsWrittenCore core b → ((c : Bool) → o ≡ Some c → taken_of cond (b.registers x) (b.registers y) ≡ c) → Match (graph.branch g to rest core o) (plain.branch_row cond x y (offset_to at (address to)) b)
  branch_write cond x y to at rest core b None target s e h taken = tt
  branch_write cond x y to at rest core b (Some true) target s e h taken = rw (taken true refl) (arrive to (target_of (offset_to at (address to)) b) core b target h)
  branch_write cond x y to at rest core b (Some false) target s e h taken =
      rw (taken false refl) (refl, (inl (record { at = at + 4; pc = jumped_pc (next_pc b) b ∙ ap (λ x. wrapped (x + 4)) e ∙ next_wraps at; stands = s }), jump_core (next_pc b) core b h))

  stop_write : (word : ℕ) (b : State) → Match (Ended (stop word)) (plain.row_of plain_world b (stop_insn word))
  stop_write word b = go (word == 0x00100073)
    where
      go : (c : Bool) → Match (Ended (if c then Breakpoint else Illegal)) (plain.row_of plain_world b (if c then Ebreak else Unimp word))
      go true = refl
      go false = refl

  one_source : (r : ℕ) (core : Core) (b : State) → reads_lost (r ∷ []) core ≡ false → IsWrittenCore core b → IsErased E (register_value r core.registers) (b.registers r)
  one_source r core b kept h = read_value r core b (or_parts (lost_in core.registers r) false kept).0 h

  term_write : (term : Term) (rest : List Line) (at : ℕ) (core : Core) (b : State) → EndStands g w.lo There at term → Stands g w.lo There (at + 4) rest → b.pc ≡ wrapped at → IsWrittenCore core b → reads_lost (term_sources term) core ≡ false → Match (graph.term_step S g term rest core) (step_of plain_world b)
  term_write Fall rest at core b t s e h kept = absurd t
  term_write (Jump to) rest at core b t s e h kept =
      let insn : Insn = Jal 0 (offset_to at (address to)) in
      by_insn at insn core b (graph.to_block g to core) t.0 e h
      (arrive to (target_of (offset_to at (address to)) b) core (with_register 0 (next_pc b) b) (block_target at to insn b t.0 e t.1) (no_register_core (next_pc b) core b h))
  term_write (Branch cond x y to) rest at core b t s e h kept =
      let insn : Insn = BranchInsn cond x y (offset_to at (address to)) in
      let lost = or_parts (lost_in core.registers x) (lost_in core.registers y || false) kept in
      let v : Value = register_value x core.registers in
      let u : Value = register_value y core.registers in
      let first_ : IsErased E v (b.registers x) = read_value x core b lost.0 h in
      let second_ : IsErased E u (b.registers y) = read_value y core b (or_parts (lost_in core.registers y) false lost.1).0 h in
      by_insn at insn core b (graph.branch g to rest core (is_taken S cond v u)) t.0 e h
      (branch_write cond x y to at rest core b (is_taken S cond v u) (block_target at to insn b t.0 e t.1) s e h
      (λ c f. taken_erased P E S plain_world naming laid cond v u (b.registers x) (b.registers y) c first_ second_ f))
  term_write (Call link to) rest at core b t s e h kept =
      let insn : Insn = Jal link (offset_to at (address to)) in
      let pc : ℕ = target_of (offset_to at (address to)) b in
      by_insn at insn core b (graph.with_link link rest core (graph.to_block g to)) t.0 e h
      (link_write link at pc rest core b (graph.to_block g to) s e h
      (λ linked k. arrive to pc linked (with_register link (next_pc b) b) (block_target at to insn b t.0 e t.1) k))
  term_write (PartJump link part to) rest at core b t s e h kept =
      let low : ℤ = low_half (address to) in
      let v : Value = register_value part core.registers in
      by_insn at (Jalr link part low) core b (graph.jump g link rest core (part_jump S to (pos 0) v)) t.0 e h
      (jump_write (part_jump S to (pos 0) v) link at (even (address_of part low b)) rest core b (part_leads to v (b.registers part) t.1 (one_source part core b kept h)) s e h)
  term_write (Indirect link register offset) rest at core b t s e h kept =
      let v : Value = register_value register core.registers in
      by_insn at (Jalr link register offset) core b (graph.jump g link rest core (indirect_jump S offset v)) t e h
      (jump_write (indirect_jump S offset v) link at (even (address_of register offset b)) rest core b (indirect_leads offset v (b.registers register) (one_source register core b kept h)) s e h)
  term_write (Stop word) rest at core b t s e h kept = by_insn at (stop_insn word) core b (Ended (stop word)) t e h (stop_write word b)

  end_write : (term : Term) (rest : List Line) (at : ℕ) (core : Core) (b : State) → EndStands g w.lo There at term → Stands g w.lo There (at + 4) rest → b.pc ≡ wrapped at → IsWrittenCore core b → Match (graph.term_line S g term rest core) (step_of plain_world b)
  end_write term rest at core b t s e h =
      unless_lost (reads_lost (term_sources term) core) (graph.term_step S g term rest core) (step_of plain_world b) (λ kept. term_write term rest at core b t s e h kept)

  -- PROCEDURES

  -- the link has the address of what stands behind the Out
  linked_back : (link : ℕ) (b : State) → link ≢ 0 → (with_register link (next_pc b) b).registers link ≡ next_pc b
  unfolding with_register
  linked_back link b some =
      let own : (link == link && not (link == 0)) ≡ true = grind (arith, nat_tests) in
      rw own refl

  jumped_registers : (pc r : ℕ) (b : State) → (jump pc b).registers r ≡ b.registers r
  unfolding jump
  jumped_registers pc r b = refl

  enter_write : (index : ℕ) (rest : List Line) (at : ℕ) (core : Core) (b : State) → There at (Jal (call_link g index) (offset_to at (new_start g w.lo index))) → Stands g w.lo There (at + 4) rest → b.pc ≡ wrapped at → IsWrittenCore core b → Match (graph.enter (slice_get g.procedures index) rest core) (step_of plain_world b)
  enter_write index rest at core b t s e h = go (slice_get g.procedures index) refl
    where
      target : ℕ
      target = new_start g w.lo index

      go : (o : Option Procedure) → slice_get g.procedures index ≡ o → Match (graph.enter o rest core) (step_of plain_world b)
      go None f = tt
      go (Some p) f =
          let stands = procedure_stands g w.lo There can.rules words_there index p f in
          let pc : ℕ = target_of (offset_to at target) b in
          let linked : State = with_register p.link (next_pc b) b in
          let whole = t.whole in
          let inside_ = body_inside p.body p.link target stands.body in
          by_insn at (Jal (call_link g index) (offset_to at target)) core b (Went None (At (inside p rest) (graph.with_register p.link Lost core))) t e h
          (subst (λ link. Match (Went None (At (inside p rest) (graph.with_register p.link Lost core))) (Went None (jump pc (with_register link (next_pc b) b)))) (sym stands.link) (
            refl,
            (
              inr (record {
                at = target;
                pc = jumped_pc pc linked ∙ target_is at target (Jal (call_link g index) (offset_to at target)) b t e inside_.from inside_.below;
                items = p.body;
                link = p.link;
                some_link = stands.some_link;
                rest = rest;
                lines_are = refl;
                body = stands.body;
                back = at + 4;
                back_is = jumped_registers pc p.link linked ∙ linked_back p.link b stands.some_link ∙ ap (λ x. wrapped (x + 4)) e ∙ next_wraps at;
                whole = omega (arith, whole);
                behind = s;
              }),
              jump_core pc (graph.with_register p.link Lost core) linked (register_core p.link Lost (next_pc b) core b tt h),
            ),
          ))

  -- behind an item of a body, which doesn't write the link
  next_inside : (d at : ℕ) (items : List Item) (link : ℕ) (rest : List Line) (back : ℕ) (b : State) → b.pc ≡ wrapped at → link ≢ 0 → ((v : ℕ) → written d v b.registers link ≡ b.registers link) → BodyStands g w.lo There link (at + 4) items → b.registers link ≡ wrapped back → back % 4 ≡ 0 → Stands g w.lo There back rest → Next d b (map line_of items ++ (Return link ∷ rest))
  next_inside d at items link rest back b e some other body is whole behind c v pc registers =
      inr (record {
        at = at + 4;
        pc = pc ∙ ap (λ x. wrapped (x + 4)) e ∙ next_wraps at;
        items = items;
        link = link;
        some_link = some;
        rest = rest;
        lines_are = refl;
        body = body;
        back = back;
        back_is = registers link ∙ other v ∙ is;
        whole = whole;
        behind = behind;
      })

  inside_write : (items : List Item) (link : ℕ) (rest : List Line) (at back : ℕ) (core : Core) (b : State) → link ≢ 0 → BodyStands g w.lo There link at items → b.pc ≡ wrapped at → b.registers link ≡ wrapped back → back % 4 ≡ 0 → Stands g w.lo There back rest → IsWrittenCore core b → Match (graph.lines_step S g (map line_of items ++ (Return link ∷ rest)) core) (step_of plain_world b)
  inside_write [] link rest at back core b some t e is whole behind h =
      let pc : ℕ = even (address_of link (pos 0) b) in
      let linked : State = with_register 0 (next_pc b) b in
      let at_back : pc ≡ wrapped back = ap (λ y. even (wrapped (y + 0))) is ∙ even_word (wrapped back) (wrapped_below back) (wrapped_word back whole) in
      by_insn at (Jalr 0 link (pos 0)) core b (Went None (At rest core)) t e h
      (refl, (inl (record { at = back; pc = jumped_pc pc linked ∙ at_back; stands = behind }), jump_core pc core linked (no_register_core (next_pc b) core b h)))
  inside_write (Op insn ∷ items) link rest at back core b some t e is whole behind h =
      do_write Plain insn (map line_of items ++ (Return link ∷ rest)) at core b t.0.0 e h
      (next_inside (destination_of insn) at items link rest back b e some (λ v. other_written (destination_of insn) link v b.registers (is_among (sources_of insn) link) some t.0.1) t.1 is whole behind)
  inside_write (Hi rd to ∷ items) link rest at back core b some t e is whole behind h =
      do_write (Upper to None) (Lui rd 0) (map line_of items ++ (Return link ∷ rest)) at core b (t.0.0, refl) e h
      (next_inside rd at items link rest back b e some (λ v. other_written rd link v b.registers false some t.0.1) t.1 is whole behind)
  inside_write (Lo rd rs to ∷ items) link rest at back core b some t e is whole behind h =
      do_write (Lower to) (OpImm Addi rd rs (pos 0)) (map line_of items ++ (Return link ∷ rest)) at core b (t.0.0, t.0.1) e h
      (next_inside rd at items link rest back b e some (λ v. other_written rd link v b.registers (rs == link || false) some t.0.2) t.1 is whole behind)
  inside_write (Out p ∷ items) link rest at back core b some t e is whole behind h = absurd t.0

  -- EACH STEP

  outside_write : (lines : List Line) (at : ℕ) (core : Core) (b : State) → Stands g w.lo There at lines → b.pc ≡ wrapped at → IsWrittenCore core b → Match (graph.lines_step S g lines core) (step_of plain_world b)
  outside_write [] at core b s e h = tt
  outside_write (Name n ∷ rest) at core b s e h = outside_write rest at core b s.2 e h
  outside_write (Do half insn ∷ rest) at core b s e h = do_write half insn rest at core b s.0 e h (next_outside (destination_of insn) rest at b e s.1)
  outside_write (Enter index ∷ rest) at core b s e h = enter_write index rest at core b s.0 s.2 e h
  outside_write (Return link ∷ rest) at core b s e h = absurd s
  outside_write (End Fall ∷ rest) at core b s e h = absurd s.0
  outside_write (End (Jump to) ∷ rest) at core b s e h = end_write (Jump to) rest at core b s.0 s.1 e h
  outside_write (End (Branch cond x y to) ∷ rest) at core b s e h = end_write (Branch cond x y to) rest at core b s.0 s.1 e h
  outside_write (End (Call link to) ∷ rest) at core b s e h = end_write (Call link to) rest at core b s.0 s.1 e h
  outside_write (End (PartJump link part to) ∷ rest) at core b s e h = end_write (PartJump link part to) rest at core b s.0 s.1 e h
  outside_write (End (Indirect link register offset) ∷ rest) at core b s e h = end_write (Indirect link register offset) rest at core b s.0 s.1 e h
  outside_write (End (Stop word) ∷ rest) at core b s e h = end_write (Stop word) rest at core b s.0 s.1 e h

  place_write : (lines : List Line) (core : Core) (b : State) → Place lines b → IsWrittenCore core b → Match (graph.lines_step S g lines core) (step_of plain_world b)
  place_write lines core b (inl o) h = outside_write lines o.at core b o.stands o.pc h
  place_write lines core b (inr i) h =
      subst (λ (ls : List Line). Match (graph.lines_step S g ls core) (step_of plain_world b)) (sym i.lines_are)
      (inside_write i.items i.link i.rest i.at i.back core b i.some_link i.body i.pc i.back_is i.whole i.behind h)

  state_write : (a : graph.State) (b : State) → IsWritten a b → Match (graph_step S g a) (step_of plain_world b)
  state_write (At lines core) b h = place_write lines core b h.0 h.1
  state_write (Fetching x) b h =
      subst (λ y. Match (Ended (Fetch x)) y) (sym (steps_by b ∙ ap (word_step plain_world b) (fetched_none x b h.0 h.1))) (ap Fetch h.0)

  -- THE START

  start_held : (r : ℕ) → IsErasedHeld E (first_registers start r) (first.registers r)
  start_held r = subst (IsErasedHeld E (first_registers start r)) (sym (begins.registers r)) (go (r == 2 && not (2 == 0)))
    where
      go : (c : Bool) → IsErasedHeld E (if c then Holds (Num (stack_pointer start)) else Holds (Num 0)) (if c then stack_pointer start else 0)
      go true = refl
      go false = refl

  pub writing : LocksWith (graph_step S g) (state_at_start w g start) (step_of plain_world) first
  writing =
      let by = by_block (HasBlock g) (HasProcedure g) g can.rules can.rules.named_all can.rules.called_all in
      let small = (placed g.entry by.entry).small in
      locks_by (graph_step S g) (step_of plain_world) IsWritten state_write (state_at_start w g start) first (
        inl (record { at = address g.entry; pc = begins.pc ∙ sym (wrapped_small (address g.entry) small); stands = behind_stands g w.lo There (lines_of g.blocks) w.lo g.entry all_stand }),
        record {
          erased = record {
            registers = start_held;
            zero = begins.registers 0 ∙ zero_written 2 (stack_pointer start) (λ r. 0) refl;
            store = record { memory = begins.memory; stale = λ x _ e. refl; input = begins.input; reservation = begins.reservation };
          };
          text = λ y e. refl;
        },
      )

pub writing_keeps_runs : WritingKeepsRuns
writing_keeps_runs w g can start plain_world b begins = writing w g can start plain_world b begins
