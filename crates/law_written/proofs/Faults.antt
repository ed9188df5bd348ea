-- No word of text of the file of a graph has a fault.
use Rattle.std.proofs.Common.{◌≡◌, ℕ, zero, suc, pos, ◌+◌, ◌*◌, ◌%◌, ◌^◌, ◌<◌, ◌≤◌, ◌==◌, Bool, true, false, not, ◌&&◌, ◌⊎◌, inl, inr, List, [], ◌∷◌, ◌++◌, length, map, sum_by, Some, None, slice_get, refl, ap, subst, ◌∙◌, arith, length-append, eq-eqb}
use Rattle.std.specs.List.{All, list_any}
use Rattle.std.specs.Option.{is_some, unwrap_or}
use Rattle.std.proofs.lemmas.Bool.{cases_Bool, and_right}
use Rattle.std.proofs.lemmas.Bool.Decides.{nat_tests}
use Rattle.std.proofs.lemmas.List.{length-map}
use Rattle.std.proofs.lemmas.List.Elements.{All-head, All-tail}
use Rattle.std.proofs.lemmas.List.Sums.{sum_by-cons}
use Rattle.sq_num.specs.Halves.{high_half, low_half}
use Rattle.sq_isa.specs.declared.instructions.Insn.{Insn}
use Rattle.sq_isa.specs.declared.instructions.Insn.TheVariants.{Lui, Auipc, Jal, Jalr, Branch as BranchInsn, Load, Store, OpImm, Op as OpInsn, Fence, Ecall, Ebreak, Unimp, Atomic}
use Rattle.sq_isa.specs.declared.instructions.ImmOp.TheVariants.{Addi}
use Rattle.sq_isa.specs.Ranges.{FieldsFit}
use Rattle.sq_isa.proofs.Encoded.{insn_of-word_of}
use Rattle.sq_elf.specs.Text.{text_of}
use Rattle.sq_reloc.specs.declared.mark.Mark.TheVariants.{Hi as HiMark, Lo as LoMark}
use Rattle.sq_graph.specs.declared.item.Item.{Item}
use Rattle.sq_graph.specs.declared.item.Item.TheVariants.{Op, Hi, Lo, Out}
use Rattle.sq_graph.specs.declared.item.Term.{Term}
use Rattle.sq_graph.specs.declared.item.Term.TheVariants.{Fall, Jump, Branch, Call, PartJump, Indirect, Stop}
use Rattle.sq_graph.specs.Graph.{Block, Procedure, Graph}
use Rattle.sq_graph.specs.Blocks.{HasBlock, HasProcedure}
use Rattle.sq_graph.specs.Places.{procedure_addresses}
use Rattle.sq_graph.specs.Rules.{IsGraph, IsOperation, last_goes_on}
use Rattle.sq_graph.specs.Terms.{goes_on}
use Rattle.sq_graph.specs.Uses.{term_uses}
use Rattle.sq_graph.specs.Words.{term_words, block_words, procedure_words, words_of}
use Rattle.sq_graph.proofs.RulesByBlock.{ItemStands, BlockStands, BodyStands, by_block}
use Rattle.sq_layout.proofs.Counts.{word_is_left}
use Rattle.law_program.specs.Programs.{Text, word_at, is_word, is_in_text, end_of, insn_in}
use Rattle.law_program.specs.Reached.{target_from, jump_target, insn_goes_on}
use Rattle.law_program.specs.Faults.{mark_refusal, is_astray, falls_off, is_auipc, is_access, is_lower_in_text, is_conflict, is_lone, fault_of, fault_from}
use Rattle.sq_write.specs.Points.{Point, new_address, new_start, call_link, offset_to, low_entry, item_point, items_points, stop_insn, plain_point, term_points, block_points, blocks_points, procedure_points, procedures_at, procedures_points, text_points}
use Rattle.sq_write.proofs.Fitting.{new_spot, text_stands}
use Rattle.sq_write.proofs.Lengths.{length_items, length_term, length_blocks, length_text}
use Rattle.law_written.proofs.Lists.{some_at}
use Rattle.law_written.specs.Faults.{WrittenTextIsNotRefused}
use Rattle.law_written.specs.Programs.{word_at_point, graph_text}
use Rattle.law_written.specs.Words.{point_mark}
use Rattle.law_written.proofs.CodeWords.{low_word}
use Rattle.sq_write.proofs.PointFields.{AllFit, text_fits}
use Rattle.law_written.proofs.Readings.{offset_leads, word_there}
use Rattle.law_written.proofs.WrittenRelocations.{high, few_words}

-- a word without a fault
record IsFine (t : Text) (at : ℕ) (p : Point) : Type 0 where
  marked : mark_refusal at (point_mark p) ≡ None
  straight : is_astray t at (point_mark p) p.insn ≡ false
  stays : falls_off t at p.insn ≡ false
  no_auipc : is_auipc p.insn ≡ false
  reads : (is_access p.insn && is_lower_in_text t (point_mark p)) ≡ false
  agrees : is_conflict (point_mark p) ≡ false
  paired : is_lone (point_mark p) ≡ false

fault_none : (t : Text) (at : ℕ) (p : Point) → FieldsFit p.insn → IsFine t at p → fault_of t at (word_at_point p) ≡ None
fault_none t at p fits fine =
    let is : insn_in (word_at_point p) ≡ Some p.insn = insn_of-word_of p.insn fits in
    rw (is, fine.marked, fine.straight, fine.stays, fine.no_auipc, fine.reads, fine.agrees, fine.paired) refl

-- points that stand from an address on
abbrev AreFine : Text → ℕ → List Point → Type 0
AreFine t at [] = Unit {0}
AreFine t at (p ∷ ps) = IsFine t at p × AreFine t (at + 4) ps

both_fine : (t : Text) (xs ys : List Point) (at to : ℕ) → to ≡ at + 4 * length xs → AreFine t at xs → AreFine t to ys → AreFine t at (xs ++ ys)
both_fine t [] ys at to e front back = let same : to ≡ at = omega (arith, e) in subst (λ x. AreFine t x ys) same back
both_fine t (x ∷ xs) ys at to e front back = (front.0, both_fine t xs ys (at + 4) to (omega (arith, e)) front.1 back)

no_faults : (is : ℕ → Bool) (t : Text) (at : ℕ) (ps : List Point) → AllFit ps → AreFine t at ps → fault_from is t at (map word_at_point ps) ≡ None
no_faults is t at [] fits fine = refl
no_faults is t at (p ∷ ps) fits fine = by_test (cases_Bool (is at)) (no_faults is t (at + 4) ps fits.1 fine.1)
  where
    by_test : (is at ≡ true) ⊎ (is at ≡ false) → fault_from is t (at + 4) (map word_at_point ps) ≡ None → fault_from is t at (map word_at_point (p ∷ ps)) ≡ None
    by_test (inl e) more = rw (e, fault_none t at p fits.0 fine.0) more
    by_test (inr e) more = rw e more

-- a point without an entry
plain_fine : (t : Text) (at : ℕ) (insn : Insn) → list_any (λ x. not (is_word t x)) (jump_target at insn) ≡ false → falls_off t at insn ≡ false → is_auipc insn ≡ false → IsFine t at (record { insn = insn; entries = [] })
plain_fine t at insn straight stays no_auipc = record {
  marked = refl;
  straight = rw straight refl;
  stays = stays;
  no_auipc = no_auipc;
  reads = and_right (is_access insn) false refl;
  agrees = refl;
  paired = refl;
}

-- an Op names no address
pub no_target : (at : ℕ) (insn : Insn) → IsOperation insn → (jump_target at insn ≡ []) × (is_auipc insn ≡ false)
no_target at (Lui rd upper) op = (refl, refl)
no_target at (Auipc rd upper) op = absurd op
no_target at (Jal rd offset) op = absurd op
no_target at (Jalr rd rs offset) op = absurd op
no_target at (BranchInsn c a b offset) op = absurd op
no_target at (Load kind rd rs offset) op = (refl, refl)
no_target at (Store kind rs src offset) op = (refl, refl)
no_target at (OpImm o rd rs imm) op = (refl, refl)
no_target at (OpInsn o rd a b) op = (refl, refl)
no_target at (Fence word) op = (refl, refl)
no_target at Ecall op = (refl, refl)
no_target at Ebreak op = absurd op
no_target at (Unimp word) op = absurd op
no_target at (Atomic o order rd rs src) op = (refl, refl)

pub stop_facts : (at word : ℕ) → (jump_target at (stop_insn word) ≡ []) × (is_auipc (stop_insn word) ≡ false) × (insn_goes_on (stop_insn word) ≡ false)
stop_facts at word = by_test (cases_Bool (word == 0x00100073))
  where
    by_test : ((word == 0x00100073) ≡ true) ⊎ ((word == 0x00100073) ≡ false) → (jump_target at (stop_insn word) ≡ []) × (is_auipc (stop_insn word) ≡ false) × (insn_goes_on (stop_insn word) ≡ false)
    by_test (inl e) = rw e (refl, refl, refl)
    by_test (inr e) = rw e (refl, refl, refl)

not_there : (x y : ℕ) → x < y → (x == y) ≡ false
not_there x y less = grind (arith, nat_tests)

-- where a procedure stands, in words
pub start_place : (ps : List Procedure) (at p : ℕ) → p < length ps → (a j : ℕ) × (slice_get (procedure_addresses ps at) p ≡ Some a) × (a ≡ at + 4 * j) × (j < sum_by procedure_words ps)
start_place [] at p within = absurd (let f : p < 0 = within in omega arith)
start_place (q ∷ ps) at zero within = (at, 0, refl, omega arith, omega (arith, sum_by-cons procedure_words q ps))
start_place (q ∷ ps) at (suc p) within =
    let more = start_place ps (at + 4 * procedure_words q) p (let f : suc p < suc (length ps) = within in omega arith) in
    (more.0, procedure_words q + more.1, more.2, omega (arith, more.3), omega (arith, more.4, sum_by-cons procedure_words q ps))

module _ (g : Graph) (lo : ℕ) (rules : IsGraph g) (few : words_of g ≤ 262144) (ends : lo + 4 * words_of g ≤ 2 ^ 32) (even : lo % 4 ≡ 0) where
  size : length (map word_at_point (text_points g lo)) ≡ words_of g
  size = length-map (text_points g lo) word_at_point ∙ length_text g lo

  -- a word of text
  pub record IsPlaced (x : ℕ) : Type 0 where
    pub place : ℕ
    pub is : x ≡ lo + 4 * place
    pub within : place < words_of g

  pub block_placed : (n : ℕ) → HasBlock g n → IsPlaced (new_address g lo n)
  block_placed n there =
      let found = new_spot g lo rules few n there in
      record { place = found.3.place; is = omega (arith, found.2, found.3.is); within = found.3.within }

  pub procedure_placed : (p : ℕ) → HasProcedure g p → IsPlaced (new_start g lo p)
  procedure_placed p there =
      let found = start_place g.procedures (procedures_at g lo) p there in
      let is : new_start g lo p ≡ found.0 = ap (λ o. unwrap_or o 0) found.2 in
      record { place = sum_by block_words g.blocks + found.1; is = omega (arith, is, found.3); within = omega (arith, found.4) }

  pub placed_word : (x : ℕ) → IsPlaced x → is_word (graph_text g lo) x ≡ true
  placed_word x placed =
      let word = some_at (map word_at_point (text_points g lo)) placed.place (omega (arith, size, placed.within)) in
      ap is_some (ap (word_at (graph_text g lo)) placed.is ∙ word_there (map word_at_point (text_points g lo)) lo placed.place word.0 word.1)

  even_place : (x : ℕ) → IsPlaced x → (is_in_text (graph_text g lo) x && not (x % 4 == 0)) ≡ false
  even_place x placed =
      let aligned : (x % 4 == 0) ≡ true = eq-eqb (x % 4) 0 (omega (arith, placed.is, even)) in
      and_right (is_in_text (graph_text g lo) x) (not (x % 4 == 0)) (ap not aligned)

  -- text goes on behind the word, or the instruction doesn't
  more_text : (at : ℕ) (insn : Insn) → at + 4 < lo + 4 * words_of g → falls_off (graph_text g lo) at insn ≡ false
  more_text at insn less = and_right (insn_goes_on insn) (at + 4 == end_of (graph_text g lo)) (not_there (at + 4) (end_of (graph_text g lo)) (omega (arith, size, less)))

  last_word : (at : ℕ) (insn : Insn) → insn_goes_on insn ≡ false → falls_off (graph_text g lo) at insn ≡ false
  last_word at insn stops = rw stops refl

  -- a jump or a branch to a word of text
  leads_there : (at x y : ℕ) → y ≡ x → IsPlaced x → list_any (λ z. not (is_word (graph_text g lo) z)) (y ∷ []) ≡ false
  leads_there at x y same placed =
      let there : is_word (graph_text g lo) y ≡ true = ap (is_word (graph_text g lo)) same ∙ placed_word x placed in
      rw there refl

  pub leads : (at x : ℕ) → lo ≤ at → at < lo + 4 * words_of g → IsPlaced x → target_from at (offset_to at x) ≡ x
  leads at x low high placed =
      let is = placed.is in
      let within = placed.within in
      offset_leads at x (omega arith) (omega arith) (omega arith) (omega arith)

  upper_fine : (at rd half to : ℕ) (p : Point) → p.insn ≡ Lui rd half → point_mark p ≡ HiMark to → IsPlaced to → falls_off (graph_text g lo) at p.insn ≡ false → IsFine (graph_text g lo) at p
  upper_fine at rd half to p insn mark placed stays = record {
    marked = rw mark refl;
    straight = rw (insn, mark) (rw (even_place to placed) refl);
    stays = stays;
    no_auipc = rw insn refl;
    reads = rw insn refl;
    agrees = rw mark refl;
    paired = rw mark refl;
  }

  lower_fine : (at to : ℕ) (p : Point) → jump_target at p.insn ≡ [] → is_auipc p.insn ≡ false → is_access p.insn ≡ false → point_mark p ≡ LoMark to → IsPlaced to → falls_off (graph_text g lo) at p.insn ≡ false → IsFine (graph_text g lo) at p
  lower_fine at to p target auipc access mark placed stays = record {
    marked = rw mark refl;
    straight = rw (target, mark) (rw (even_place to placed) refl);
    stays = stays;
    no_auipc = auipc;
    reads = rw access refl;
    agrees = rw mark refl;
    paired = rw mark refl;
  }

  abbrev Keeps : Item → Type 0
  Keeps = ItemStands (HasBlock g) (HasProcedure g)

  item_fine : (item : Item) (at : ℕ) → lo ≤ at → at + 4 < lo + 4 * words_of g → Keeps item → IsFine (graph_text g lo) at (item_point g lo at item)
  item_fine (Op insn) at low high keeps =
      let none = no_target at insn keeps.fits.0 in
      plain_fine (graph_text g lo) at insn (ap (list_any (λ x. not (is_word (graph_text g lo) x))) none.0) (more_text at insn high) none.1
  item_fine (Hi rd to) at low high keeps =
      upper_fine at rd (high_half (new_address g lo to)) (new_address g lo to) (item_point g lo at (Hi rd to)) refl refl (block_placed to (All-head (HasBlock g) to [] keeps.names)) (more_text at (Lui rd (high_half (new_address g lo to))) high)
  item_fine (Lo rd rs to) at low high keeps =
      lower_fine at (new_address g lo to) (item_point g lo at (Lo rd rs to)) refl refl refl refl (block_placed to (All-head (HasBlock g) to [] keeps.names)) (more_text at (OpImm Addi rd rs (low_half (new_address g lo to))) high)
  item_fine (Out p) at low high keeps =
      let placed = procedure_placed p (All-head (HasProcedure g) p [] keeps.calls) in
      plain_fine (graph_text g lo) at (Jal (call_link g p) (offset_to at (new_start g lo p)))
      (leads_there at (new_start g lo p) (target_from at (offset_to at (new_start g lo p))) (leads at (new_start g lo p) low (omega arith) placed) placed)
      (more_text at (Jal (call_link g p) (offset_to at (new_start g lo p))) high) refl

  items_fine : (items : List Item) (at : ℕ) → lo ≤ at → at + 4 * length items < lo + 4 * words_of g → All Keeps items → AreFine (graph_text g lo) at (items_points g lo at items)
  items_fine [] at low high all = tt
  items_fine (item ∷ items) at low high all = (
    item_fine item at low (omega (arith, high)) (All-head {X = Item} Keeps item items all),
    items_fine items (at + 4) (omega arith) (omega (arith, high)) (All-tail {X = Item} Keeps item items all),
  )

  -- a term behind which text goes on, or which doesn't go on
  term_fine : (term : Term) (at : ℕ) → lo ≤ at → at + 4 * term_words term ≤ lo + 4 * words_of g → (at + 4 * term_words term < lo + 4 * words_of g) ⊎ (goes_on term ≡ false) → All (HasBlock g) (term_uses term) → AreFine (graph_text g lo) at (term_points g lo at term)
  term_fine Fall at low high room names = tt
  term_fine (Jump to) at low high room names =
      let placed = block_placed to (All-head (HasBlock g) to [] names) in (
        plain_fine (graph_text g lo) at (Jal 0 (offset_to at (new_address g lo to)))
            (leads_there at (new_address g lo to) (target_from at (offset_to at (new_address g lo to))) (leads at (new_address g lo to) low (omega arith) placed) placed)
            (last_word at (Jal 0 (offset_to at (new_address g lo to))) refl) refl,
        tt,
      )
  term_fine (Branch c a b to) at low high room names =
      let placed = block_placed to (All-head (HasBlock g) to [] names) in (
        plain_fine (graph_text g lo) at (BranchInsn c a b (offset_to at (new_address g lo to)))
            (leads_there at (new_address g lo to) (target_from at (offset_to at (new_address g lo to))) (leads at (new_address g lo to) low (omega arith) placed) placed)
            (go room) refl,
        tt,
      )
    where
      go : (at + 4 * 1 < lo + 4 * words_of g) ⊎ (true ≡ false) → falls_off (graph_text g lo) at (BranchInsn c a b (offset_to at (new_address g lo to))) ≡ false
      go (inl less) = more_text at (BranchInsn c a b (offset_to at (new_address g lo to))) (omega (arith, less))
      go (inr never) = absurd (cc never)
  term_fine (Call link to) at low high room names =
      let placed = block_placed to (All-head (HasBlock g) to [] names) in (
        plain_fine (graph_text g lo) at (Jal link (offset_to at (new_address g lo to)))
            (leads_there at (new_address g lo to) (target_from at (offset_to at (new_address g lo to))) (leads at (new_address g lo to) low (omega arith) placed) placed)
            (go room) refl,
        tt,
      )
    where
      go : (at + 4 * 1 < lo + 4 * words_of g) ⊎ (true ≡ false) → falls_off (graph_text g lo) at (Jal link (offset_to at (new_address g lo to))) ≡ false
      go (inl less) = more_text at (Jal link (offset_to at (new_address g lo to))) (omega (arith, less))
      go (inr never) = absurd (cc never)
  term_fine (PartJump link part to) at low high room names =
      let placed = block_placed to (All-head (HasBlock g) to [] names) in (
        lower_fine at (new_address g lo to) (record { insn = Jalr link part (low_half (new_address g lo to)); entries = low_entry at (new_address g lo to) }) refl refl refl refl placed (go room),
        tt,
      )
    where
      go : (at + 4 * 1 < lo + 4 * words_of g) ⊎ (not (link == 0) ≡ false) → falls_off (graph_text g lo) at (Jalr link part (low_half (new_address g lo to))) ≡ false
      go (inl less) = more_text at (Jalr link part (low_half (new_address g lo to))) (omega (arith, less))
      go (inr stops) = last_word at (Jalr link part (low_half (new_address g lo to))) stops
  term_fine (Indirect link register offset) at low high room names = (plain_fine (graph_text g lo) at (Jalr link register offset) refl (go room) refl, tt)
    where
      go : (at + 4 * 1 < lo + 4 * words_of g) ⊎ (not (link == 0) ≡ false) → falls_off (graph_text g lo) at (Jalr link register offset) ≡ false
      go (inl less) = more_text at (Jalr link register offset) (omega (arith, less))
      go (inr stops) = last_word at (Jalr link register offset) stops
  term_fine (Stop word) at low high room names =
      let none = stop_facts at word in
      (plain_fine (graph_text g lo) at (stop_insn word) (ap (list_any (λ x. not (is_word (graph_text g lo) x))) none.0) (last_word at (stop_insn word) none.2) none.1, tt)

  block_length : (b : Block) (at : ℕ) → length (block_points g lo at b) ≡ block_words b
  block_length b at =
      omega (arith, length-append (items_points g lo at b.items) (term_points g lo (at + 4 * length b.items) b.term), length_items g lo at b.items, length_term g lo (at + 4 * length b.items) b.term)

  -- where a block's term stands, text hasn't ended
  pub some_room : (b : Block) (bs : List Block) → last_goes_on (b ∷ bs) ≡ false → (1 ≤ sum_by block_words bs) ⊎ (goes_on b.term ≡ false)
  some_room b [] stops = inr stops
  some_room b (c ∷ bs) stops = inl (word_is_left c bs stops)

  pub own_word : (term : Term) → goes_on term ≡ false → term_words term ≡ 1
  own_word Fall stops = absurd (cc stops)
  own_word (Jump to) stops = refl
  own_word (Branch c a b to) stops = refl
  own_word (Call link to) stops = refl
  own_word (PartJump link part to) stops = refl
  own_word (Indirect link register offset) stops = refl
  own_word (Stop word) stops = refl

  pub rest_stops : (b : Block) (bs : List Block) → last_goes_on (b ∷ bs) ≡ false → last_goes_on bs ≡ false
  rest_stops b [] stops = refl
  rest_stops b (c ∷ bs) stops = stops

  blocks_fine : (bs : List Block) (at : ℕ) → last_goes_on bs ≡ false → lo ≤ at → at + 4 * sum_by block_words bs ≤ lo + 4 * words_of g → All (BlockStands (HasBlock g) (HasProcedure g)) bs → AreFine (graph_text g lo) at (blocks_points g lo at bs)
  blocks_fine [] at stops low high all = tt
  blocks_fine (b ∷ bs) at stops low high all =
      let keeps = All-head {X = Block} (BlockStands (HasBlock g) (HasProcedure g)) b bs all in
      let sum = sum_by-cons block_words b bs in
      let next : at + 4 * block_words b ≡ at + 4 * length (block_points g lo at b) = omega (arith, block_length b at) in
      let middle : at + 4 * length b.items ≡ at + 4 * length (items_points g lo at b.items) = omega (arith, length_items g lo at b.items) in
      let room = room_here (some_room b bs stops) (high_here sum high) in
      both_fine (graph_text g lo) (block_points g lo at b) (blocks_points g lo (at + 4 * block_words b) bs) at (at + 4 * block_words b) next
      (both_fine (graph_text g lo) (items_points g lo at b.items) (term_points g lo (at + 4 * length b.items) b.term) at (at + 4 * length b.items) middle
      (items_fine b.items at low room.0 keeps.items)
      (term_fine b.term (at + 4 * length b.items) (omega arith) (omega (arith, high, sum)) room.1 keeps.names))
      (blocks_fine bs (at + 4 * block_words b) (rest_stops b bs stops) (omega arith) (omega (arith, high, sum)) (All-tail {X = Block} (BlockStands (HasBlock g) (HasProcedure g)) b bs all))
    where
      high_here : sum_by block_words (b ∷ bs) ≡ block_words b + sum_by block_words bs → at + 4 * sum_by block_words (b ∷ bs) ≤ lo + 4 * words_of g → at + 4 * (block_words b + sum_by block_words bs) ≤ lo + 4 * words_of g
      high_here sum high = omega (arith, sum, high)

      room_here : (1 ≤ sum_by block_words bs) ⊎ (goes_on b.term ≡ false) → at + 4 * (block_words b + sum_by block_words bs) ≤ lo + 4 * words_of g → (at + 4 * length b.items < lo + 4 * words_of g) × ((at + 4 * length b.items + 4 * term_words b.term < lo + 4 * words_of g) ⊎ (goes_on b.term ≡ false))
      room_here (inl more) high = (omega (arith, more, high), inl (omega (arith, more, high)))
      room_here (inr stops) high = (omega (arith, own_word b.term stops, high), inr stops)

  procedures_fine : (ps : List Procedure) (at : ℕ) → lo ≤ at → at + 4 * sum_by procedure_words ps ≤ lo + 4 * words_of g → All (BodyStands (HasBlock g) (HasProcedure g)) ps → AreFine (graph_text g lo) at (procedures_points g lo at ps)
  procedures_fine [] at low high all = tt
  procedures_fine (p ∷ ps) at low high all =
      let keeps = All-head {X = Procedure} (BodyStands (HasBlock g) (HasProcedure g)) p ps all in
      let sum = sum_by-cons procedure_words p ps in
      let long : length (procedure_points g lo at p) ≡ procedure_words p = omega (arith, length-append (items_points g lo at p.body) (plain_point (Jalr 0 p.link (pos 0))), length_items g lo at p.body) in
      let next : at + 4 * procedure_words p ≡ at + 4 * length (procedure_points g lo at p) = omega (arith, long) in
      let last : ℕ = at + 4 * length (items_points g lo at p.body) in
      both_fine (graph_text g lo) (procedure_points g lo at p) (procedures_points g lo (at + 4 * procedure_words p) ps) at (at + 4 * procedure_words p) next
      (both_fine (graph_text g lo) (items_points g lo at p.body) (plain_point (Jalr 0 p.link (pos 0))) at (at + 4 * length (items_points g lo at p.body)) refl
      (items_fine p.body at low (omega (arith, high, sum)) keeps.items)
      (plain_fine (graph_text g lo) (at + 4 * length (items_points g lo at p.body)) (Jalr 0 p.link (pos 0)) refl (last_word (at + 4 * length (items_points g lo at p.body)) (Jalr 0 p.link (pos 0)) refl) refl, tt))
      (procedures_fine ps (at + 4 * procedure_words p) (omega arith) (omega (arith, high, sum)) (All-tail {X = Procedure} (BodyStands (HasBlock g) (HasProcedure g)) p ps all))

  text_fine : AreFine (graph_text g lo) lo (text_points g lo)
  text_fine =
      let by = by_block (HasBlock g) (HasProcedure g) g rules rules.named_all rules.called_all in
      let behind : procedures_at g lo ≡ lo + 4 * length (blocks_points g lo lo g.blocks) = omega (arith, length_blocks g lo lo g.blocks) in
      both_fine (graph_text g lo) (blocks_points g lo lo g.blocks) (procedures_points g lo (procedures_at g lo) g.procedures) lo (procedures_at g lo) behind
      (blocks_fine g.blocks lo rules.ends (omega arith) (omega arith) by.blocks) (procedures_fine g.procedures (procedures_at g lo) (omega arith) (omega arith) by.bodies)

pub written_text_is_not_refused : WrittenTextIsNotRefused
written_text_is_not_refused = λ bytes g can is.
    let ends : (text_of bytes).lo + 4 * words_of g ≤ 2 ^ 32 = omega (arith, can.words, high bytes g can) in
    no_faults is (graph_text g (text_of bytes).lo) (text_of bytes).lo (text_points g (text_of bytes).lo)
    (text_fits g (text_of bytes).lo can.rules (text_stands g (text_of bytes).lo can.rules (few_words bytes g can) can.reach))
    (text_fine g (text_of bytes).lo can.rules (few_words bytes g can) ends (low_word bytes g can))
