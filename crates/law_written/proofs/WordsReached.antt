-- Each word of text of the file of a whole graph is reached.
use Rattle.std.proofs.Common.{◌≡◌, ◌≢◌, ℕ, zero, suc, pos, ◌+◌, ◌*◌, ◌%◌, ◌^◌, ◌<◌, ◌≤◌, ◌==◌, Bool, true, false, not, ◌⊎◌, inl, inr, List, [], ◌∷◌, ◌++◌, length, map, sum_by, Some, IsSome, slice_get, if◌then◌else◌, refl, sym, ap, subst, ◌∙◌, arith, length-append, eq-eqb}
use Rattle.std.specs.List.{All, Contains, flat_map}
use Rattle.std.specs.Option.{unwrap_or, is_some}
use Rattle.std.proofs.lemmas.Bool.{cases_Bool, eqb-true, ne_eqb}
use Rattle.std.proofs.lemmas.List.Elements.{All-nil, All-cons, All-head, All-tail, All-append, All-weaker, All-contains, Contains-append_left, Contains-append_right}
use Rattle.std.proofs.lemmas.List.Sums.{sum_by-cons}
use Rattle.sq_arena.specs.Entries.{HasDistinctKeys, value_of}
use Rattle.sq_arena.proofs.EntriesLaws.{distinct_back}
use Rattle.sq_num.specs.Halves.{low_half}
use Rattle.sq_isa.specs.declared.instructions.Insn.{Insn}
use Rattle.sq_isa.specs.declared.instructions.Insn.TheVariants.{Lui, Auipc, Jal, Jalr, Branch as BranchInsn, Load, Store, OpImm, Op as OpInsn, Fence, Ecall, Ebreak, Unimp, Atomic}
use Rattle.sq_isa.specs.Ranges.{FieldsFit}
use Rattle.sq_isa.proofs.Encoded.{insn_of-word_of}
use Rattle.sq_elf.specs.Text.{text_of}
use Rattle.sq_graph.specs.declared.item.Item.{Item}
use Rattle.sq_graph.specs.declared.item.Item.TheVariants.{Op, Hi, Lo, Out}
use Rattle.sq_graph.specs.declared.item.Term.{Term}
use Rattle.sq_graph.specs.declared.item.Term.TheVariants.{Fall, Jump, Branch, Call, PartJump, Indirect, Stop}
use Rattle.sq_graph.specs.declared.parts.CodeRef.{CodeRef}
use Rattle.sq_graph.specs.Graph.{Block, Procedure, Graph}
use Rattle.sq_graph.specs.Blocks.{named, HasBlock, HasProcedure, items_of_blocks}
use Rattle.sq_graph.specs.Places.{address_in, procedure_addresses}
use Rattle.sq_graph.specs.Rules.{IsGraph, IsOperation, TermFits, last_goes_on}
use Rattle.sq_graph.specs.Terms.{goes_on}
use Rattle.sq_graph.specs.Uses.{item_uses, items_uses, term_uses, code_word_uses, item_calls}
use Rattle.sq_graph.specs.Walks.{procedure_names, called_names, first_name, block_successors, successors_in, successors, word_name, IsReachedBlock, entry, code_word, walk}
use Rattle.sq_graph.specs.Words.{term_words, block_words, procedure_words, words_of}
use Rattle.sq_graph.proofs.Eachs.{All-flat_map}
use Rattle.sq_graph.proofs.RulesByBlock.{ItemStands, BlockStands, BodyStands, by_block}
use Rattle.sq_layout.proofs.Walks.{fresh}
use Rattle.law_program.specs.Programs.{word_from, word_at, IsWord, target_of}
use Rattle.law_program.specs.Reached.{jump_target, half_target, insn_goes_on, next_word, insn_leads, marked_leads, word_leads, leads_from, IsReached, Decides, entry as entry_reached, code_word as code_word_reached, walk as walk_reached}
use Rattle.law_program.specs.Notes.{used_notes}
use Rattle.sq_write.specs.Points.{Point, new_address, new_start, call_link, offset_to, low_entry, item_insn, item_point, items_points, plain_point, term_points, block_points, blocks_points, procedure_points, procedures_at, procedures_points, text_points}
use Rattle.sq_write.proofs.Fitting.{text_stands}
use Rattle.sq_write.proofs.Lengths.{length_items, length_blocks}
use Rattle.law_written.specs.Written.{IsWritable}
use Rattle.law_written.specs.Programs.{word_at_point, graph_text, new_code_word, notes_from, graph_notes, graph_program}
use Rattle.law_written.specs.Whole.{IsWhole, WrittenWordsAreReached, WrittenNotesAreUsed}
use Rattle.law_written.specs.Words.{point_mark}
use Rattle.law_written.proofs.CodeWords.{low_word}
use Rattle.law_written.proofs.Faults.{IsPlaced, block_placed, procedure_placed, placed_word, leads, some_room, own_word, rest_stops}
use Rattle.sq_write.proofs.PointFields.{AllFit, text_fits}
use Rattle.law_written.proofs.NoteFaults.{AreThere, front_there, back_there, text_there}
use Rattle.law_written.proofs.Points.{block_length}
use Rattle.law_written.proofs.Readings.{link_real}
use Rattle.law_written.proofs.WrittenRelocations.{high, few_words}

-- LISTS

first_in : (x : ℕ) → Contains (x ∷ []) x
first_in x = (0, omega arith, refl)

one : (P : ℕ → Type 0) (x : ℕ) → P x → All P (x ∷ [])
one P x holds = All-cons P x [] holds (All-nil P)

still : (b : Bool) (m n : ℕ) → (m < n) ⊎ (b ≡ false) → b ≡ true → m < n
still b m n (inl less) goes = less
still b m n (inr stops) goes = absurd (let never : true ≡ false = sym goes ∙ stops in cc never)

-- INSTRUCTIONS

-- an Op goes on
operation_goes : (insn : Insn) → IsOperation insn → insn_goes_on insn ≡ true
operation_goes (Lui rd upper) op = refl
operation_goes (Auipc rd upper) op = refl
operation_goes (Jal rd offset) op = absurd op
operation_goes (Jalr rd rs offset) op = absurd op
operation_goes (BranchInsn c a b offset) op = refl
operation_goes (Load kind rd rs offset) op = refl
operation_goes (Store kind rs src offset) op = refl
operation_goes (OpImm o rd rs imm) op = refl
operation_goes (OpInsn o rd a b) op = refl
operation_goes (Fence word) op = refl
operation_goes Ecall op = refl
operation_goes Ebreak op = absurd op
operation_goes (Unimp word) op = absurd op
operation_goes (Atomic o order rd rs src) op = refl

-- a `jal` with a link goes on
link_goes : (link : ℕ) → link ≢ 0 → not (link == 0) ≡ true
link_goes link some = ap not (ne_eqb link 0 some)

module _ (g : Graph) (lo : ℕ) (rules : IsGraph g) (few : words_of g ≤ 262144) (ends : lo + 4 * words_of g ≤ 2 ^ 32) (even : lo % 4 ≡ 0) where
  abbrev R : ℕ → Type 0
  R x = IsReached (graph_program g lo) x

  -- a block whose first word is reached, and a procedure
  abbrev Named : ℕ → Type 0
  Named n = R (new_address g lo n)

  abbrev Called : ℕ → Type 0
  Called q = R (new_start g lo q)

  abbrev Keeps : Item → Type 0
  Keeps = ItemStands (HasBlock g) (HasProcedure g)

  word : (x j : ℕ) → x ≡ lo + 4 * j → j < words_of g → IsWord (graph_text g lo) x
  word x j is within = placed_word g lo rules few ends even x (record { place = j; is = is; within = within })

  block_word : (n : ℕ) → HasBlock g n → IsWord (graph_text g lo) (new_address g lo n)
  block_word n there = placed_word g lo rules few ends even (new_address g lo n) (block_placed g lo rules few ends even n there)

  procedure_word : (q : ℕ) → HasProcedure g q → IsWord (graph_text g lo) (new_start g lo q)
  procedure_word q there = placed_word g lo rules few ends even (new_start g lo q) (procedure_placed g lo rules few ends even q there)

  -- ONE WORD

  module _ (at : ℕ) (p : Point) (here : (word_at (graph_text g lo) at ≡ Some (word_at_point p)) × FieldsFit p.insn) (from : R at) where
    step : (y : ℕ) → Contains (insn_leads at (point_mark p) p.insn) y → IsWord (graph_text g lo) y → R y
    step y to is =
        let leads_so : leads_from (graph_text g lo) at ≡ insn_leads at (point_mark p) p.insn = ap (word_leads at) here.0 ∙ ap (marked_leads at (point_mark p)) (insn_of-word_of p.insn here.1) in
        walk_reached from (subst (λ xs. Contains xs y) (sym leads_so) to) is

    to_target : (y : ℕ) → jump_target at p.insn ≡ y ∷ [] → IsWord (graph_text g lo) y → R y
    to_target y target is =
        step y
        (Contains-append_left (jump_target at p.insn ++ half_target (point_mark p)) (next_word at p.insn) y
        (Contains-append_left (jump_target at p.insn) (half_target (point_mark p)) y (subst (λ xs. Contains xs y) (sym target) (first_in y))))
        is

    to_half : (y : ℕ) → half_target (point_mark p) ≡ y ∷ [] → IsWord (graph_text g lo) y → R y
    to_half y half is =
        step y
        (Contains-append_left (jump_target at p.insn ++ half_target (point_mark p)) (next_word at p.insn) y
        (Contains-append_right (jump_target at p.insn) (half_target (point_mark p)) y (subst (λ xs. Contains xs y) (sym half) (first_in y))))
        is

    to_next : insn_goes_on p.insn ≡ true → IsWord (graph_text g lo) (at + 4) → R (at + 4)
    to_next goes is =
        let next : next_word at p.insn ≡ (at + 4) ∷ [] = ap (λ b. if b then (at + 4) ∷ [] else []) goes in
        step (at + 4)
        (Contains-append_right (jump_target at p.insn ++ half_target (point_mark p)) (next_word at p.insn) (at + 4) (subst (λ xs. Contains xs (at + 4)) (sym next) (first_in (at + 4))))
        is

  -- points that stand from an address on, at reached words
  abbrev AreReached : ℕ → List Point → Type 0
  AreReached at [] = Unit {0}
  AreReached at (p ∷ ps) = R at × AreReached (at + 4) ps

  both_reached : (xs ys : List Point) (at to : ℕ) → to ≡ at + 4 * length xs → AreReached at xs → AreReached to ys → AreReached at (xs ++ ys)
  both_reached [] ys at to e front back = let same : to ≡ at = omega (arith, e) in subst (λ x. AreReached x ys) same back
  both_reached (x ∷ xs) ys at to e front back = (front.0, both_reached xs ys (at + 4) to (omega (arith, e)) front.1 back)

  -- ITEMS

  -- where an item leads
  record ItemLeads (item : Item) : Type 0 where
    names : All Named (item_uses item)
    calls : All Called (item_calls item)

  item_leads : (item : Item) (at j : ℕ) → at ≡ lo + 4 * j → j < words_of g → AreThere (graph_text g lo) at (item_point g lo at item ∷ []) → Keeps item → R at → ItemLeads item
  item_leads (Op insn) at j is within there keeps from = record { names = All-nil Named; calls = All-nil Called }
  item_leads (Hi rd to) at j is within there keeps from =
      let reached = to_half at (item_point g lo at (Hi rd to)) there.0 from (new_address g lo to) refl (block_word to (All-head (HasBlock g) to [] keeps.names)) in
      record { names = one Named to reached; calls = All-nil Called }
  item_leads (Lo rd rs to) at j is within there keeps from =
      let reached = to_half at (item_point g lo at (Lo rd rs to)) there.0 from (new_address g lo to) refl (block_word to (All-head (HasBlock g) to [] keeps.names)) in
      record { names = one Named to reached; calls = All-nil Called }
  item_leads (Out q) at j is within there keeps from =
      let has = All-head (HasProcedure g) q [] keeps.calls in
      let lead = leads g lo rules few ends even at (new_start g lo q) (omega arith) (omega arith) (procedure_placed g lo rules few ends even q has) in
      let reached = to_target at (item_point g lo at (Out q)) there.0 from (new_start g lo q) (ap (λ x. x ∷ []) lead) (procedure_word q has) in
      record { names = All-nil Named; calls = one Called q reached }

  item_goes : (item : Item) (at : ℕ) → Keeps item → insn_goes_on (item_insn g lo at item) ≡ true
  item_goes (Op insn) at keeps = operation_goes insn keeps.fits.0
  item_goes (Hi rd to) at keeps = refl
  item_goes (Lo rd rs to) at keeps = refl
  item_goes (Out q) at keeps = link_goes (call_link g q) (link_real g.procedures q (All-head (HasProcedure g) q [] keeps.calls) rules.procedures)

  -- items of which the first word is reached, where a word follows them
  record ItemsReached (items : List Item) (at : ℕ) : Type 0 where
    points : AreReached at (items_points g lo at items)
    lead : All ItemLeads items
    behind : R (at + 4 * length items)

  items_reached : (items : List Item) (at j : ℕ) → at ≡ lo + 4 * j → j + length items < words_of g → AreThere (graph_text g lo) at (items_points g lo at items) → All Keeps items → R at → ItemsReached items at
  items_reached [] at j is within there all from =
      let none : at ≡ at + 4 * 0 = omega arith in record { points = tt; lead = All-nil {X = Item} ItemLeads; behind = subst R none from }
  items_reached (item ∷ items) at j is within there all from =
      let own = All-head {X = Item} Keeps item items all in
      let next = to_next at (item_point g lo at item) there.0 from (item_goes item at own) (word (at + 4) (j + 1) (omega arith) (omega arith)) in
      let more = items_reached items (at + 4) (j + 1) (omega arith) (omega arith) there.1 (All-tail {X = Item} Keeps item items all) next in
      let further : at + 4 + 4 * length items ≡ at + 4 * length (item ∷ items) = omega arith in
      record {
        points = (from, more.points);
        lead = All-cons {X = Item} ItemLeads item items (item_leads item at j is (omega arith) (there.0, tt) own from) more.lead;
        behind = subst R further more.behind;
      }

  -- TERMS

  record TermReached (term : Term) (at : ℕ) : Type 0 where
    points : AreReached at (term_points g lo at term)
    names : All Named (term_uses term)
    behind : goes_on term ≡ true → R (at + 4 * term_words term)

  -- a jump or a branch to a block
  jump_reached : (at j to : ℕ) (p : Point) → at ≡ lo + 4 * j → j < words_of g → (word_at (graph_text g lo) at ≡ Some (word_at_point p)) × FieldsFit p.insn → R at → HasBlock g to → (IsPlaced g lo rules few ends even (new_address g lo to) → jump_target at p.insn ≡ new_address g lo to ∷ []) → Named to
  jump_reached at j to p is within there from has target =
      to_target at p there from (new_address g lo to) (target (block_placed g lo rules few ends even to has)) (block_word to has)

  term_reached : (term : Term) (at j : ℕ) → at ≡ lo + 4 * j → j < words_of g → (j + term_words term < words_of g) ⊎ (goes_on term ≡ false) → AreThere (graph_text g lo) at (term_points g lo at term) → All (HasBlock g) (term_uses term) → TermFits term → R at → TermReached term at
  term_reached Fall at j is within room there names fits from =
      let none : at ≡ at + 4 * 0 = omega arith in record { points = tt; names = All-nil Named; behind = λ goes. subst R none from }
  term_reached (Jump to) at j is within room there names fits from = record {
    points = (from, tt);
    names = one Named to (jump_reached at j to (record { insn = Jal 0 (offset_to at (new_address g lo to)); entries = [] }) is within there.0 from (All-head (HasBlock g) to [] names) (λ placed. ap (λ x. x ∷ []) (leads g lo rules few ends even at (new_address g lo to) (omega arith) (omega arith) placed)));
    behind = λ goes. absurd (cc goes);
  }
  term_reached (Branch c a b to) at j is within room there names fits from = record {
    points = (from, tt);
    names = one Named to (jump_reached at j to (record { insn = BranchInsn c a b (offset_to at (new_address g lo to)); entries = [] }) is within there.0 from (All-head (HasBlock g) to [] names) (λ placed. ap (λ x. x ∷ []) (leads g lo rules few ends even at (new_address g lo to) (omega arith) (omega arith) placed)));
    behind = λ goes. to_next at (record { insn = BranchInsn c a b (offset_to at (new_address g lo to)); entries = [] }) there.0 from refl (word (at + 4) (j + 1) (omega arith) (still true (j + 1) (words_of g) room goes));
  }
  term_reached (Call link to) at j is within room there names fits from = record {
    points = (from, tt);
    names = one Named to (jump_reached at j to (record { insn = Jal link (offset_to at (new_address g lo to)); entries = [] }) is within there.0 from (All-head (HasBlock g) to [] names) (λ placed. ap (λ x. x ∷ []) (leads g lo rules few ends even at (new_address g lo to) (omega arith) (omega arith) placed)));
    behind = λ goes. to_next at (record { insn = Jal link (offset_to at (new_address g lo to)); entries = [] }) there.0 from (link_goes link fits.1) (word (at + 4) (j + 1) (omega arith) (still true (j + 1) (words_of g) room goes));
  }
  term_reached (PartJump link part to) at j is within room there names fits from =
      let point : Point = record { insn = Jalr link part (low_half (new_address g lo to)); entries = low_entry at (new_address g lo to) } in
      record {
        points = (from, tt);
        names = one Named to (to_half at point there.0 from (new_address g lo to) refl (block_word to (All-head (HasBlock g) to [] names)));
        behind = λ goes. to_next at point there.0 from goes (word (at + 4) (j + 1) (omega arith) (still (not (link == 0)) (j + 1) (words_of g) room goes));
      }
  term_reached (Indirect link register offset) at j is within room there names fits from = record {
    points = (from, tt);
    names = All-nil Named;
    behind = λ goes. to_next at (record { insn = Jalr link register offset; entries = [] }) there.0 from goes (word (at + 4) (j + 1) (omega arith) (still (not (link == 0)) (j + 1) (words_of g) room goes));
  }
  term_reached (Stop w) at j is within room there names fits from =
      record { points = (from, tt); names = All-nil Named; behind = λ goes. absurd (cc goes) }

  -- BLOCKS

  -- the last of the blocks, which stand from an address on
  record StandsAt (bs : List Block) (at : ℕ) : Type 0 where
    place : ℕ
    is : at ≡ lo + 4 * place
    end : place + sum_by block_words bs ≤ words_of g
    stops : last_goes_on bs ≡ false
    distinct : HasDistinctKeys (named bs)
    known : (n : ℕ) → IsSome (value_of (named bs) n) → HasBlock g n
    address : (n : ℕ) → IsSome (value_of (named bs) n) → address_in g.blocks lo n ≡ address_in bs at n
    there : AreThere (graph_text g lo) at (blocks_points g lo at bs)
    keeps : All (BlockStands (HasBlock g) (HasProcedure g)) bs

  next_stands : (b : Block) (bs : List Block) (at : ℕ) → StandsAt (b ∷ bs) at → StandsAt bs (at + 4 * block_words b)
  next_stands b bs at s =
      let sum = sum_by-cons block_words b bs in
      let next : at + 4 * block_words b ≡ at + 4 * length (block_points g lo at b) = omega (arith, block_length g lo b at) in
      record {
        place = s.place + block_words b;
        is = omega (arith, s.is);
        end = omega (arith, s.end, sum);
        stops = rest_stops g lo rules few ends even b bs s.stops;
        distinct = distinct_back ((b.name, b) ∷ []) (named bs) s.distinct;
        known = λ n has. s.known n (behind_first n has);
        address = λ n has. let apart = fresh b bs n s.distinct has in s.address n (behind_first n has) ∙ (rw apart refl);
        there = back_there (graph_text g lo) (block_points g lo at b) (blocks_points g lo (at + 4 * block_words b) bs) at (at + 4 * block_words b) next s.there;
        keeps = All-tail {X = Block} (BlockStands (HasBlock g) (HasProcedure g)) b bs s.keeps;
      }
    where
      behind_first : (n : ℕ) → IsSome (value_of (named bs) n) → IsSome (value_of (named (b ∷ bs)) n)
      behind_first n has = let apart = fresh b bs n s.distinct has in rw apart has

  first_known : (b : Block) (bs : List Block) → IsSome (value_of (named (b ∷ bs)) b.name)
  first_known b bs = let same : (b.name == b.name) ≡ true = eq-eqb b.name b.name refl in rw same refl

  first_address : (b : Block) (bs : List Block) (at : ℕ) → StandsAt (b ∷ bs) at → new_address g lo b.name ≡ at
  first_address b bs at s =
      let same : (b.name == b.name) ≡ true = eq-eqb b.name b.name refl in
      let own : address_in (b ∷ bs) at b.name ≡ Some at = rw same refl in
      ap (λ o. unwrap_or o 0) (s.address b.name (first_known b bs) ∙ own)

  record BlockReached (b : Block) (at : ℕ) : Type 0 where
    points : AreReached at (block_points g lo at b)
    lead : All ItemLeads b.items
    names : All Named (term_uses b.term)
    behind : goes_on b.term ≡ true → R (at + 4 * block_words b)

  block_reached : (b : Block) (bs : List Block) (at : ℕ) → StandsAt (b ∷ bs) at → R at → BlockReached b at
  block_reached b bs at s from =
      let keeps = All-head {X = Block} (BlockStands (HasBlock g) (HasProcedure g)) b bs s.keeps in
      let sum = sum_by-cons block_words b bs in
      let room = room_here (some_room g lo rules few ends even b bs s.stops) (end_here s.end sum) in
      let middle : at + 4 * length b.items ≡ at + 4 * length (items_points g lo at b.items) = omega (arith, length_items g lo at b.items) in
      let whole = front_there (graph_text g lo) (block_points g lo at b) (blocks_points g lo (at + 4 * block_words b) bs) at s.there in
      let items_there = front_there (graph_text g lo) (items_points g lo at b.items) (term_points g lo (at + 4 * length b.items) b.term) at whole in
      let term_there = back_there (graph_text g lo) (items_points g lo at b.items) (term_points g lo (at + 4 * length b.items) b.term) at (at + 4 * length b.items) middle whole in
      let items = items_reached b.items at s.place s.is room.0 items_there keeps.items from in
      let term = term_reached b.term (at + 4 * length b.items) (s.place + length b.items) (omega (arith, s.is)) room.0 room.1 term_there keeps.names keeps.fits items.behind in
      let last : at + 4 * length b.items + 4 * term_words b.term ≡ at + 4 * block_words b = omega arith in
      record {
        points = both_reached (items_points g lo at b.items) (term_points g lo (at + 4 * length b.items) b.term) at (at + 4 * length b.items) middle items.points term.points;
        lead = items.lead;
        names = term.names;
        behind = λ goes. subst R last (term.behind goes);
      }
    where
      end_here : s.place + sum_by block_words (b ∷ bs) ≤ words_of g → sum_by block_words (b ∷ bs) ≡ block_words b + sum_by block_words bs → s.place + (block_words b + sum_by block_words bs) ≤ words_of g
      end_here end sum = omega (arith, end, sum)

      room_here : (1 ≤ sum_by block_words bs) ⊎ (goes_on b.term ≡ false) → s.place + (block_words b + sum_by block_words bs) ≤ words_of g → (s.place + length b.items < words_of g) × ((s.place + length b.items + term_words b.term < words_of g) ⊎ (goes_on b.term ≡ false))
      room_here (inl more) end = (omega (arith, more, end), inl (omega (arith, more, end)))
      room_here (inr stops) end = (omega (arith, own_word g lo rules few ends even b.term stops, end), inr stops)

  -- PROCEDURES

  -- the last of the procedures, which stand from an address on
  record StandBehind (ps : List Procedure) (at : ℕ) : Type 0 where
    place : ℕ
    is : at ≡ lo + 4 * place
    end : place + sum_by procedure_words ps ≤ words_of g
    there : AreThere (graph_text g lo) at (procedures_points g lo at ps)
    keeps : All (BodyStands (HasBlock g) (HasProcedure g)) ps

  procedure_length : (p : Procedure) (at : ℕ) → length (procedure_points g lo at p) ≡ procedure_words p
  procedure_length p at = omega (arith, length-append (items_points g lo at p.body) (plain_point (Jalr 0 p.link (pos 0))), length_items g lo at p.body)

  next_procedure : (p : Procedure) (ps : List Procedure) (at : ℕ) → StandBehind (p ∷ ps) at → StandBehind ps (at + 4 * procedure_words p)
  next_procedure p ps at s =
      let sum = sum_by-cons procedure_words p ps in
      let next : at + 4 * procedure_words p ≡ at + 4 * length (procedure_points g lo at p) = omega (arith, procedure_length p at) in
      record {
        place = s.place + procedure_words p;
        is = omega (arith, s.is);
        end = omega (arith, s.end, sum);
        there = back_there (graph_text g lo) (procedure_points g lo at p) (procedures_points g lo (at + 4 * procedure_words p) ps) at (at + 4 * procedure_words p) next s.there;
        keeps = All-tail {X = Procedure} (BodyStands (HasBlock g) (HasProcedure g)) p ps s.keeps;
      }

  record ProcedureReached (p : Procedure) (at : ℕ) : Type 0 where
    points : AreReached at (procedure_points g lo at p)
    lead : All ItemLeads p.body

  procedure_reached : (p : Procedure) (ps : List Procedure) (at : ℕ) → StandBehind (p ∷ ps) at → R at → ProcedureReached p at
  procedure_reached p ps at s from =
      let keeps = All-head {X = Procedure} (BodyStands (HasBlock g) (HasProcedure g)) p ps s.keeps in
      let sum = sum_by-cons procedure_words p ps in
      let middle : at + 4 * length p.body ≡ at + 4 * length (items_points g lo at p.body) = omega (arith, length_items g lo at p.body) in
      let whole = front_there (graph_text g lo) (procedure_points g lo at p) (procedures_points g lo (at + 4 * procedure_words p) ps) at s.there in
      let items_there = front_there (graph_text g lo) (items_points g lo at p.body) (plain_point (Jalr 0 p.link (pos 0))) at whole in
      let items = items_reached p.body at s.place s.is (omega (arith, s.end, sum)) items_there keeps.items from in
      record {
        points = both_reached (items_points g lo at p.body) (plain_point (Jalr 0 p.link (pos 0))) at (at + 4 * length p.body) middle items.points (items.behind, tt);
        lead = items.lead;
      }

  lead_names : (items : List Item) → All ItemLeads items → All Named (items_uses items)
  lead_names items lead = All-flat_map Named item_uses items (All-weaker {X = Item} ItemLeads (λ item. All Named (item_uses item)) (λ item leads_to. leads_to.names) items lead)

  body_names : (ps : List Procedure) (at q : ℕ) → StandBehind ps at → R (unwrap_or (slice_get (procedure_addresses ps at) q) 0) → All Named (procedure_names (slice_get ps q))
  body_names [] at q s from = All-nil Named
  body_names (p ∷ ps) at zero s from = let body = procedure_reached p ps at s from in lead_names p.body body.lead
  body_names (p ∷ ps) at (suc q) s from = body_names ps (at + 4 * procedure_words p) q (next_procedure p ps at s) from

  -- ALL PROCEDURES

  procedures_reached : (ps : List Procedure) (at : ℕ) → StandBehind ps at → ((q : ℕ) → q < length ps → R (unwrap_or (slice_get (procedure_addresses ps at) q) 0)) → AreReached at (procedures_points g lo at ps)
  procedures_reached [] at s starts = tt
  procedures_reached (p ∷ ps) at s starts =
      let next : at + 4 * procedure_words p ≡ at + 4 * length (procedure_points g lo at p) = omega (arith, procedure_length p at) in
      let own = procedure_reached p ps at s (starts 0 (omega arith)) in
      both_reached (procedure_points g lo at p) (procedures_points g lo (at + 4 * procedure_words p) ps) at (at + 4 * procedure_words p) next own.points
      (procedures_reached ps (at + 4 * procedure_words p) (next_procedure p ps at s) (λ q less. starts (suc q) (omega arith)))

  -- WHERE BLOCKS LEAD

  module _ (all_behind : StandBehind g.procedures (procedures_at g lo)) where
    item_names : (item : Item) → ItemLeads item → All Named (called_names g.procedures item)
    item_names (Op insn) lead = lead.names
    item_names (Hi rd to) lead = lead.names
    item_names (Lo rd rs to) lead = lead.names
    item_names (Out q) lead = body_names g.procedures (procedures_at g lo) q all_behind (All-head Called q [] lead.calls)

    next_names : (b : Block) (bs : List Block) (at : ℕ) → StandsAt (b ∷ bs) at → (goes : Bool) → (goes ≡ true → R (at + 4 * block_words b)) → All Named (if goes then first_name bs else [])
    next_names b bs at s false behind = All-nil Named
    next_names b [] at s true behind = All-nil Named
    next_names b (c ∷ bs) at s true behind =
        one Named c.name (subst R (sym (first_address c bs (at + 4 * block_words b) (next_stands b (c ∷ bs) at s))) (behind refl))

    block_leads : (b : Block) (bs : List Block) (at : ℕ) → StandsAt (b ∷ bs) at → R at → All Named (block_successors g.procedures b bs)
    block_leads b bs at s from =
        let block = block_reached b bs at s from in
        All-append Named (term_uses b.term ++ (if goes_on b.term then first_name bs else [])) (flat_map (called_names g.procedures) b.items)
        (All-append Named (term_uses b.term) (if goes_on b.term then first_name bs else []) block.names (next_names b bs at s (goes_on b.term) block.behind))
        (All-flat_map Named (called_names g.procedures) b.items (All-weaker {X = Item} ItemLeads (λ item. All Named (called_names g.procedures item)) item_names b.items block.lead))

    successors_reached : (bs : List Block) (at n : ℕ) → StandsAt bs at → R (unwrap_or (address_in bs at n) 0) → All Named (successors_in g.procedures bs n)
    successors_reached [] at n s from = All-nil Named
    successors_reached (b ∷ bs) at n s from =
        by_test (cases_Bool (b.name == n)) (λ later. successors_reached bs (at + 4 * block_words b) n (next_stands b bs at s) later)
      where
        by_test : ((b.name == n) ≡ true) ⊎ ((b.name == n) ≡ false) → (R (unwrap_or (address_in bs (at + 4 * block_words b) n) 0) → All Named (successors_in g.procedures bs n)) → All Named (successors_in g.procedures (b ∷ bs) n)
        by_test (inl e) more = rw e (block_leads b bs at s (rw e at from))
        by_test (inr e) more = rw e (more (rw e at from))

    -- ALL BLOCKS

    module _ (all_stand : StandsAt g.blocks lo) where
      targets : (words : List CodeRef) (n : ℕ) → Contains (map word_name words) n → Contains (map target_of (map (new_code_word g lo) words)) (new_address g lo n)
      targets [] n c = absurd (let none : c.0 < 0 = c.1 in omega arith)
      targets (w ∷ words) n (zero, h, e) = (0, omega arith, ap (new_address g lo) e)
      targets (w ∷ words) n (suc k, h, e) = let more = targets words n (k, omega (arith, h), e) in (suc more.0, omega (arith, more.1), more.2)

      -- a walk over blocks is a walk over words
      name_reached : {n : ℕ} → IsReachedBlock g n → Named n
      name_reached entry =
          let by = by_block (HasBlock g) (HasProcedure g) g rules rules.named_all rules.called_all in
          entry_reached (block_word g.entry by.entry)
      name_reached (code_word {n} c) =
          let by = by_block (HasBlock g) (HasProcedure g) g rules rules.named_all rules.called_all in
          code_word_reached (targets g.code_words n c) (block_word n (All-contains (HasBlock g) (code_word_uses g.code_words) n by.words c))
      name_reached (walk {n} {m} w c) =
          All-contains Named (successors g n) m (successors_reached g.blocks lo n all_stand (name_reached w)) c

      module _ (whole : IsWhole g) where
        record BlocksReached (bs : List Block) (at : ℕ) : Type 0 where
          points : AreReached at (blocks_points g lo at bs)
          lead : All ItemLeads (items_of_blocks bs)

        blocks_reached : (bs : List Block) (at : ℕ) → StandsAt bs at → BlocksReached bs at
        blocks_reached [] at s = record { points = tt; lead = All-nil {X = Item} ItemLeads }
        blocks_reached (b ∷ bs) at s =
            let next : at + 4 * block_words b ≡ at + 4 * length (block_points g lo at b) = omega (arith, block_length g lo b at) in
            let from = subst R (first_address b bs at s) (name_reached (whole.blocks b.name (s.known b.name (first_known b bs)))) in
            let own = block_reached b bs at s from in
            let more = blocks_reached bs (at + 4 * block_words b) (next_stands b bs at s) in
            record {
              points = both_reached (block_points g lo at b) (blocks_points g lo (at + 4 * block_words b) bs) at (at + 4 * block_words b) next own.points more.points;
              lead = All-append {X = Item} ItemLeads b.items (items_of_blocks bs) own.lead more.lead;
            }

        procedure_called : (q : ℕ) → HasProcedure g q → Called q
        procedure_called q there =
            let blocks = blocks_reached g.blocks lo all_stand in
            All-contains Called (flat_map item_calls (items_of_blocks g.blocks)) q
            (All-flat_map Called item_calls (items_of_blocks g.blocks) (All-weaker {X = Item} ItemLeads (λ item. All Called (item_calls item)) (λ item lead. lead.calls) (items_of_blocks g.blocks) blocks.lead))
            (whole.called q there)

        text_reached : AreReached lo (text_points g lo)
        text_reached =
            let next : procedures_at g lo ≡ lo + 4 * length (blocks_points g lo lo g.blocks) = omega (arith, length_blocks g lo lo g.blocks) in
            let blocks = blocks_reached g.blocks lo all_stand in
            both_reached (blocks_points g lo lo g.blocks) (procedures_points g lo (procedures_at g lo) g.procedures) lo (procedures_at g lo) next blocks.points
            (procedures_reached g.procedures (procedures_at g lo) all_behind procedure_called)

  -- THE TEXT

  point_reached : (ps : List Point) (at x : ℕ) → AreReached at ps → is_some (word_from x at (map word_at_point ps)) ≡ true → R x
  point_reached [] at x reached there = absurd (cc there)
  point_reached (p ∷ ps) at x reached there = by_test (cases_Bool (x == at)) (λ later. point_reached ps (at + 4) x reached.1 later)
    where
      by_test : ((x == at) ≡ true) ⊎ ((x == at) ≡ false) → (is_some (word_from x (at + 4) (map word_at_point ps)) ≡ true → R x) → R x
      by_test (inl e) more = subst R (sym (eqb-true x at e)) reached.0
      by_test (inr e) more = more (rw e at there)

  module _ (fits : AllFit (text_points g lo)) (whole : IsWhole g) where
    next : procedures_at g lo ≡ lo + 4 * length (blocks_points g lo lo g.blocks)
    next = omega (arith, length_blocks g lo lo g.blocks)

    all_there : AreThere (graph_text g lo) lo (text_points g lo)
    all_there = text_there g lo rules few ends even fits

    all_stand : StandsAt g.blocks lo
    all_stand =
        let by = by_block (HasBlock g) (HasProcedure g) g rules rules.named_all rules.called_all in
        record {
          place = 0;
          is = omega arith;
          end = omega arith;
          stops = rules.ends;
          distinct = rules.distinct;
          known = λ n has. has;
          address = λ n has. refl;
          there = front_there (graph_text g lo) (blocks_points g lo lo g.blocks) (procedures_points g lo (procedures_at g lo) g.procedures) lo all_there;
          keeps = by.blocks;
        }

    all_behind : StandBehind g.procedures (procedures_at g lo)
    all_behind =
        let by = by_block (HasBlock g) (HasProcedure g) g rules rules.named_all rules.called_all in
        record {
          place = sum_by block_words g.blocks;
          is = refl;
          end = omega arith;
          there = back_there (graph_text g lo) (blocks_points g lo lo g.blocks) (procedures_points g lo (procedures_at g lo) g.procedures) lo (procedures_at g lo) next all_there;
          keeps = by.bodies;
        }

    pub word_reached : (x : ℕ) → IsWord (graph_text g lo) x → R x
    word_reached x there = point_reached (text_points g lo) lo x (text_reached all_behind all_stand whole) there

    pub start_reached : (q : ℕ) → HasProcedure g q → R (new_start g lo q)
    start_reached q there = procedure_called all_behind all_stand whole q there

-- NOTES

notes_used : (is : ℕ → Bool) (ps : List Procedure) (at : ℕ) → ((q : ℕ) → q < length ps → is (unwrap_or (slice_get (procedure_addresses ps at) q) 0) ≡ true) → used_notes is (notes_from at ps) ≡ notes_from at ps
notes_used is [] at starts = refl
notes_used is (p ∷ ps) at starts =
    let first : is at ≡ true = starts 0 (omega arith) in
    let more = notes_used is ps (at + 4 * procedure_words p) (λ q less. starts (suc q) (omega arith)) in
    rw first (ap (λ ns. record { address = at; link = p.link; length = length p.body } ∷ ns) more)

module _ (bytes : List ℕ) (g : Graph) (can : IsWritable bytes g) where
  ends_within : (text_of bytes).lo + 4 * words_of g ≤ 2 ^ 32
  ends_within = omega (arith, can.words, high bytes g can)

  fits : AllFit (text_points g (text_of bytes).lo)
  fits = text_fits g (text_of bytes).lo can.rules (text_stands g (text_of bytes).lo can.rules (few_words bytes g can) can.reach)

  words_reached : IsWhole g → (x : ℕ) → IsWord (graph_text g (text_of bytes).lo) x → IsReached (graph_program g (text_of bytes).lo) x
  words_reached whole x there = word_reached g (text_of bytes).lo can.rules (few_words bytes g can) ends_within (low_word bytes g can) fits whole x there

  all_notes_used : IsWhole g → (is : ℕ → Bool) → Decides (graph_program g (text_of bytes).lo) is → used_notes is (graph_notes g (text_of bytes).lo) ≡ graph_notes g (text_of bytes).lo
  all_notes_used whole is decides =
      notes_used is g.procedures (procedures_at g (text_of bytes).lo)
      (λ q there. decides.all (new_start g (text_of bytes).lo q) (start_reached g (text_of bytes).lo can.rules (few_words bytes g can) ends_within (low_word bytes g can) fits whole q there))

pub written_words_are_reached : WrittenWordsAreReached
written_words_are_reached = λ bytes g can whole x there. words_reached bytes g can whole x there

pub written_notes_are_used : WrittenNotesAreUsed
written_notes_are_used = λ bytes g can whole is decides. all_notes_used bytes g can whole is decides
