-- Each word of text of the file of a graph reads as what it was written of.
use Rattle.std.proofs.Common.{◌≡◌, ◌≢◌, ℕ, ℤ, zero, suc, pos, ◌+◌, ◌*◌, ◌^◌, ◌<◌, ◌≤◌, ◌==◌, true, false, ◌⊎◌, inl, inr, nat_lt, nat_le, List, [], ◌∷◌, ◌++◌, length, map, sum_by, Some, slice_get, refl, sym, ap, subst, ◌∙◌, arith, length-append, eq-eqb}
use Rattle.std.specs.List.{All, flat_map}
use Rattle.std.specs.Option.{unwrap_or, option_and_then, option_map}
use Rattle.std.proofs.lemmas.Bool.{cases_Bool, lt-ltb, le-leb, eqb-true}
use Rattle.std.proofs.lemmas.Bool.Decides.{nat_tests}
use Rattle.std.proofs.lemmas.Int.{ints}
use Rattle.std.proofs.lemmas.List.{length-map}
use Rattle.std.proofs.lemmas.List.Elements.{All-head, All-tail}
use Rattle.std.proofs.lemmas.List.Sums.{sum_by-cons}
use Rattle.std.proofs.lemmas.Option.{slice_get-map}
use Rattle.sq_isa.specs.declared.instructions.Insn.{Insn}
use Rattle.sq_isa.specs.declared.instructions.Insn.TheVariants.{Lui, Auipc, Jal, Jalr, Branch as BranchInsn, Load, Store, OpImm, Op as OpInsn, Fence, Ecall, Ebreak, Unimp, Atomic}
use Rattle.sq_isa.proofs.Encoded.{insn_of-word_of}
use Rattle.sq_elf.specs.Text.{text_of}
use Rattle.sq_graph.specs.declared.item.Item.{Item}
use Rattle.sq_graph.specs.declared.item.Item.TheVariants.{Op, Hi, Lo, Out}
use Rattle.sq_graph.specs.declared.item.Term.{Term}
use Rattle.sq_graph.specs.declared.item.Term.TheVariants.{Fall, Jump, Branch, Call, PartJump, Indirect, Stop}
use Rattle.sq_graph.specs.Graph.{Block, Procedure, Graph}
use Rattle.sq_graph.specs.Blocks.{HasBlock, HasProcedure, procedure_link}
use Rattle.sq_graph.specs.Places.{procedure_addresses}
use Rattle.sq_graph.specs.Rules.{IsGraph, IsOperation, ProcedureFits, TermFits}
use Rattle.sq_graph.specs.Uses.{term_uses}
use Rattle.sq_graph.specs.Words.{term_words, block_words, procedure_words, words_of}
use Rattle.sq_graph.proofs.RulesByBlock.{ItemStands, BlockStands, BodyStands, by_block}
use Rattle.law_program.specs.Programs.{Word, Text, word_from, is_in_text}
use Rattle.law_program.specs.Reached.{target_from}
use Rattle.law_program.specs.Readings.{Reading, IsItem, IsTerm, Links, jal_reading, plain_reading, marked_reading, reading_of, reading_at}
use Rattle.sq_write.specs.Points.{Point, new_address, new_start, call_link, offset_to, item_point, items_points, stop_insn, plain_point, term_points, block_points, blocks_points, procedure_points, procedures_at, procedures_points, text_points}
use Rattle.sq_write.proofs.Fitting.{new_spot}
use Rattle.sq_write.proofs.Lengths.{length_items, length_term, length_blocks, length_text}
use Rattle.law_written.specs.Written.{IsWritable}
use Rattle.law_written.specs.Programs.{word_at_point, graph_text}
use Rattle.law_written.specs.Readings.{item_reading, term_readings, block_readings, procedure_readings, text_readings, WrittenWordsReadBack}
use Rattle.law_written.specs.Words.{point_mark}
use Rattle.law_written.proofs.Words.{point_fits}
use Rattle.law_written.proofs.WrittenRelocations.{high, few_words}

-- an offset between places that are near leads to its target
pub offset_leads : (at to : ℕ) → at < 2 ^ 32 → to < 2 ^ 32 → to < at + 2 ^ 21 → at < to + 2 ^ 21 → target_from at (offset_to at to) ≡ to
offset_leads at to h k near far = omega (arith, ints)

apart : (x : ℕ) → x ≢ 0 → (x == 0) ≡ false
apart x some = grind (arith, nat_tests)

-- an Op reads as itself
operation_reads : (at : ℕ) (insn : Insn) → IsOperation insn → plain_reading at insn ≡ Some (IsItem (Op insn))
operation_reads at (Lui rd upper) op = refl
operation_reads at (Auipc rd upper) op = absurd op
operation_reads at (Jal rd offset) op = absurd op
operation_reads at (Jalr rd rs offset) op = absurd op
operation_reads at (BranchInsn c a b offset) op = absurd op
operation_reads at (Load kind rd rs offset) op = refl
operation_reads at (Store kind rs src offset) op = refl
operation_reads at (OpImm o rd rs imm) op = refl
operation_reads at (OpInsn o rd a b) op = refl
operation_reads at (Fence word) op = refl
operation_reads at Ecall op = refl
operation_reads at Ebreak op = absurd op
operation_reads at (Unimp word) op = absurd op
operation_reads at (Atomic o order rd rs src) op = refl

stop_reads : (at word : ℕ) → plain_reading at (stop_insn word) ≡ Some (IsTerm (Stop word))
stop_reads at word = by_test (cases_Bool (word == 0x00100073))
  where
    by_test : ((word == 0x00100073) ≡ true) ⊎ ((word == 0x00100073) ≡ false) → plain_reading at (stop_insn word) ≡ Some (IsTerm (Stop word))
    by_test (inl is) = rw is (ap (λ w. Some (IsTerm (Stop w))) (sym (eqb-true word 0x00100073 is)))
    by_test (inr other) = rw other refl

links_read : (at link to : ℕ) (offset : ℤ) → link ≢ 0 → target_from at offset ≡ to → plain_reading at (Jal link offset) ≡ Some (Links link to)
links_read at link to offset some leads = ap (λ x. Some (jal_reading link x)) leads ∙ (rw (apart link some) refl)

-- PROCEDURES

start_in : (ps : List Procedure) (at p : ℕ) → p < length ps → (a : ℕ) × (slice_get (procedure_addresses ps at) p ≡ Some a) × (at ≤ a) × (a < at + 4 * sum_by procedure_words ps)
start_in [] at p within = absurd (let f : p < 0 = within in omega arith)
start_in (q ∷ ps) at zero within = (at, refl, omega arith, omega (arith, sum_by-cons procedure_words q ps))
start_in (q ∷ ps) at (suc p) within =
    let more = start_in ps (at + 4 * procedure_words q) p (let f : suc p < suc (length ps) = within in omega arith) in
    (more.0, more.1, omega (arith, more.2), omega (arith, more.3, sum_by-cons procedure_words q ps))

pub link_real : (ps : List Procedure) (p : ℕ) → p < length ps → All ProcedureFits ps → unwrap_or (procedure_link (slice_get ps p)) 0 ≢ 0
link_real [] p within all = absurd (let f : p < 0 = within in omega arith)
link_real (q ∷ ps) zero within all = let fits = All-head {X = Procedure} ProcedureFits q ps all in fits.link
link_real (q ∷ ps) (suc p) within all =
    link_real ps p (let f : suc p < suc (length ps) = within in omega arith) (All-tail {X = Procedure} ProcedureFits q ps all)

-- TEXT

abbrev pub ReadsAs : Text → ℕ → Point → Reading → Type 0
ReadsAs t at p r = marked_reading t at (point_mark p) p.insn ≡ Some r

-- these points, which stand from an address on, read as these
abbrev pub AreRead : Text → ℕ → List Point → List Reading → Type 0
AreRead t at [] [] = Unit {0}
AreRead t at [] (r ∷ rs) = ⊥
AreRead t at (p ∷ ps) [] = ⊥
AreRead t at (p ∷ ps) (r ∷ rs) = ReadsAs t at p r × AreRead t (at + 4) ps rs

both_read : (t : Text) (xs ys : List Point) (rs ss : List Reading) (at to : ℕ) → to ≡ at + 4 * length xs → AreRead t at xs rs → AreRead t to ys ss → AreRead t at (xs ++ ys) (rs ++ ss)
both_read t [] ys [] ss at to e front back = let same : to ≡ at = omega (arith, e) in subst (λ x. AreRead t x ys ss) same back
both_read t [] ys (r ∷ rs) ss at to e front back = absurd front
both_read t (x ∷ xs) ys [] ss at to e front back = absurd front
both_read t (x ∷ xs) ys (r ∷ rs) ss at to e front back = (front.0, both_read t xs ys rs ss (at + 4) to (omega (arith, e)) front.1 back)

record IsReadAt (t : Text) (ps : List Point) (at k : ℕ) (r : Reading) : Type 0 where
  point : Point
  there : slice_get ps k ≡ Some point
  reads : ReadsAs t (at + 4 * k) point r

read_at : (t : Text) (ps : List Point) (rs : List Reading) (at k : ℕ) (r : Reading) → AreRead t at ps rs → slice_get rs k ≡ Some r → IsReadAt t ps at k r
read_at t [] [] at k r all is = absurd (cc is)
read_at t [] (q ∷ rs) at k r all is = absurd all
read_at t (p ∷ ps) [] at k r all is = absurd all
read_at t (p ∷ ps) (q ∷ rs) at zero r all is =
    let same : q ≡ r = cc is in
    let none : at ≡ at + 4 * 0 = omega arith in
    record { point = p; there = refl; reads = subst (λ x. ReadsAs t x p r) none (subst (λ x. ReadsAs t at p x) same all.0) }
read_at t (p ∷ ps) (q ∷ rs) at (suc k) r all is =
    let more = read_at t ps rs (at + 4) k r all.1 is in
    let next : at + 4 + 4 * k ≡ at + 4 * suc k = omega arith in
    record { point = more.point; there = more.there; reads = subst (λ x. ReadsAs t x more.point r) next more.reads }

module _ (g : Graph) (lo : ℕ) (rules : IsGraph g) (few : words_of g ≤ 262144) (ends : lo + 4 * words_of g ≤ 2 ^ 32) where
  abbrev t : Text
  t = graph_text g lo

  abbrev to_end : ℕ
  to_end = lo + 4 * words_of g

  record IsInside (x : ℕ) : Type 0 where
    low : lo ≤ x
    high : x < lo + 4 * words_of g

  block_inside : (n : ℕ) → HasBlock g n → IsInside (new_address g lo n)
  block_inside n there =
      let found = new_spot g lo rules few n there in
      record { low = omega (arith, found.2); high = omega (arith, found.2, found.3.is, found.3.within) }

  procedure_inside : (p : ℕ) → HasProcedure g p → IsInside (new_start g lo p)
  procedure_inside p there =
      let found = start_in g.procedures (procedures_at g lo) p there in
      let is : new_start g lo p ≡ found.0 = ap (λ o. unwrap_or o 0) found.1 in
      record { low = omega (arith, is, found.2); high = omega (arith, is, found.3) }

  in_text : (n : ℕ) → HasBlock g n → is_in_text (graph_text g lo) (new_address g lo n) ≡ true
  in_text n there =
      let inside = block_inside n there in
      let size : length (map word_at_point (text_points g lo)) ≡ words_of g = length-map (text_points g lo) word_at_point ∙ length_text g lo in
      let low : nat_le lo (new_address g lo n) ≡ true = le-leb lo (new_address g lo n) inside.low in
      let high : nat_lt (new_address g lo n) (lo + 4 * length (map word_at_point (text_points g lo))) ≡ true = lt-ltb (new_address g lo n) (lo + 4 * length (map word_at_point (text_points g lo))) (omega (arith, size, inside.high)) in
      rw (low, high) refl

  leads : (at x : ℕ) → lo ≤ at → at < lo + 4 * words_of g → IsInside x → target_from at (offset_to at x) ≡ x
  leads at x low high inside =
      let from = inside.low in
      let below = inside.high in
      offset_leads at x (omega arith) (omega arith) (omega arith) (omega arith)

  abbrev Keeps : Item → Type 0
  Keeps = ItemStands (HasBlock g) (HasProcedure g)

  pub item_reads : (item : Item) (at : ℕ) → lo ≤ at → at < lo + 4 * words_of g → Keeps item → ReadsAs (graph_text g lo) at (item_point g lo at item) (item_reading g lo item)
  item_reads (Op insn) at low high keeps = operation_reads at insn keeps.fits.0
  item_reads (Hi rd to) at low high keeps = rw (in_text to (All-head (HasBlock g) to [] keeps.names)) refl
  item_reads (Lo rd rs to) at low high keeps = rw (in_text to (All-head (HasBlock g) to [] keeps.names)) refl
  item_reads (Out p) at low high keeps =
      let there = All-head (HasProcedure g) p [] keeps.calls in
      links_read at (call_link g p) (new_start g lo p) (offset_to at (new_start g lo p)) (link_real g.procedures p there rules.procedures) (leads at (new_start g lo p) low high (procedure_inside p there))

  items_read : (items : List Item) (at : ℕ) → lo ≤ at → at + 4 * length items ≤ lo + 4 * words_of g → All Keeps items → AreRead (graph_text g lo) at (items_points g lo at items) (map (item_reading g lo) items)
  items_read [] at low high all = tt
  items_read (item ∷ items) at low high all = (
    item_reads item at low (omega (arith, high)) (All-head {X = Item} Keeps item items all),
    items_read items (at + 4) (omega arith) (omega (arith, high)) (All-tail {X = Item} Keeps item items all),
  )

  term_reads : (term : Term) (at : ℕ) → lo ≤ at → at + 4 * term_words term ≤ lo + 4 * words_of g → All (HasBlock g) (term_uses term) → TermFits term → AreRead (graph_text g lo) at (term_points g lo at term) (term_readings g lo term)
  term_reads Fall at low high names fits = tt
  term_reads (Jump to) at low high names fits =
      let there = All-head (HasBlock g) to [] names in
      (ap (λ x. Some (jal_reading 0 x)) (leads at (new_address g lo to) low (omega arith) (block_inside to there)), tt)
  term_reads (Branch c a b to) at low high names fits =
      let there = All-head (HasBlock g) to [] names in
      (ap (λ x. Some (IsTerm (Branch c a b x))) (leads at (new_address g lo to) low (omega arith) (block_inside to there)), tt)
  term_reads (Call link to) at low high names fits =
      let there = All-head (HasBlock g) to [] names in
      (links_read at link (new_address g lo to) (offset_to at (new_address g lo to)) fits.1 (leads at (new_address g lo to) low (omega arith) (block_inside to there)), tt)
  term_reads (PartJump link part to) at low high names fits = (rw (in_text to (All-head (HasBlock g) to [] names)) refl, tt)
  term_reads (Indirect link register offset) at low high names fits = (refl, tt)
  term_reads (Stop word) at low high names fits = (stop_reads at word, tt)

  block_length : (b : Block) (at : ℕ) → length (block_points g lo at b) ≡ block_words b
  block_length b at =
      omega (arith, length-append (items_points g lo at b.items) (term_points g lo (at + 4 * length b.items) b.term), length_items g lo at b.items, length_term g lo (at + 4 * length b.items) b.term)

  blocks_read : (bs : List Block) (at : ℕ) → lo ≤ at → at + 4 * sum_by block_words bs ≤ lo + 4 * words_of g → All (BlockStands (HasBlock g) (HasProcedure g)) bs → AreRead (graph_text g lo) at (blocks_points g lo at bs) (flat_map (block_readings g lo) bs)
  blocks_read [] at low high all = tt
  blocks_read (b ∷ bs) at low high all =
      let keeps = All-head {X = Block} (BlockStands (HasBlock g) (HasProcedure g)) b bs all in
      let sum = sum_by-cons block_words b bs in
      let next : at + 4 * block_words b ≡ at + 4 * length (block_points g lo at b) = omega (arith, block_length b at) in
      let middle : at + 4 * length b.items ≡ at + 4 * length (items_points g lo at b.items) = omega (arith, length_items g lo at b.items) in
      let items = items_read b.items at low (omega (arith, high, sum)) keeps.items in
      let term = term_reads b.term (at + 4 * length b.items) (omega arith) (omega (arith, high, sum)) keeps.names keeps.fits in
      let block = both_read (graph_text g lo) (items_points g lo at b.items) (term_points g lo (at + 4 * length b.items) b.term) (map (item_reading g lo) b.items) (term_readings g lo b.term) at (at + 4 * length b.items) middle items term in
      both_read (graph_text g lo) (block_points g lo at b) (blocks_points g lo (at + 4 * block_words b) bs) (block_readings g lo b) (flat_map (block_readings g lo) bs) at (at + 4 * block_words b) next block
      (blocks_read bs (at + 4 * block_words b) (omega arith) (omega (arith, high, sum)) (All-tail {X = Block} (BlockStands (HasBlock g) (HasProcedure g)) b bs all))

  procedures_read : (ps : List Procedure) (at : ℕ) → lo ≤ at → at + 4 * sum_by procedure_words ps ≤ lo + 4 * words_of g → All (BodyStands (HasBlock g) (HasProcedure g)) ps → AreRead (graph_text g lo) at (procedures_points g lo at ps) (flat_map (procedure_readings g lo) ps)
  procedures_read [] at low high all = tt
  procedures_read (p ∷ ps) at low high all =
      let keeps = All-head {X = Procedure} (BodyStands (HasBlock g) (HasProcedure g)) p ps all in
      let sum = sum_by-cons procedure_words p ps in
      let size : length (procedure_points g lo at p) ≡ procedure_words p = omega (arith, length-append (items_points g lo at p.body) (plain_point (Jalr 0 p.link (pos 0))), length_items g lo at p.body) in
      let next : at + 4 * procedure_words p ≡ at + 4 * length (procedure_points g lo at p) = omega (arith, size) in
      let body = items_read p.body at low (omega (arith, high, sum)) keeps.items in
      let whole = both_read (graph_text g lo) (items_points g lo at p.body) (plain_point (Jalr 0 p.link (pos 0))) (map (item_reading g lo) p.body) (IsTerm (Indirect 0 p.link (pos 0)) ∷ []) at (at + 4 * length (items_points g lo at p.body)) refl body (refl, tt) in
      both_read (graph_text g lo) (procedure_points g lo at p) (procedures_points g lo (at + 4 * procedure_words p) ps) (procedure_readings g lo p) (flat_map (procedure_readings g lo) ps) at (at + 4 * procedure_words p) next whole
      (procedures_read ps (at + 4 * procedure_words p) (omega arith) (omega (arith, high, sum)) (All-tail {X = Procedure} (BodyStands (HasBlock g) (HasProcedure g)) p ps all))

  pub text_read : AreRead (graph_text g lo) lo (text_points g lo) (text_readings g lo)
  text_read =
      let by = by_block (HasBlock g) (HasProcedure g) g rules rules.named_all rules.called_all in
      let behind : procedures_at g lo ≡ lo + 4 * length (blocks_points g lo lo g.blocks) = omega (arith, length_blocks g lo lo g.blocks) in
      both_read (graph_text g lo) (blocks_points g lo lo g.blocks) (procedures_points g lo (procedures_at g lo) g.procedures) (flat_map (block_readings g lo) g.blocks) (flat_map (procedure_readings g lo) g.procedures) lo (procedures_at g lo) behind
      (blocks_read g.blocks lo (omega arith) (omega arith) by.blocks) (procedures_read g.procedures (procedures_at g lo) (omega arith) (omega arith) by.bodies)

-- THE WORD AT AN ADDRESS

here : (a b : ℕ) → a ≡ b → (a == b) ≡ true
here a b same = eq-eqb a b same

later : (at k : ℕ) → (at + 4 * suc k == at) ≡ false
later at k = grind (arith, nat_tests)

pub word_there : (ws : List Word) (at k : ℕ) (w : Word) → slice_get ws k ≡ Some w → word_from (at + 4 * k) at ws ≡ Some w
word_there [] at k w is = absurd (cc is)
word_there (v ∷ ws) at zero w is = let first : (at + 4 * 0 == at) ≡ true = here (at + 4 * 0) at (omega arith) in rw first is
word_there (v ∷ ws) at (suc k) w is =
    let next : at + 4 * suc k ≡ at + 4 + 4 * k = omega arith in
    rw (later at k) (ap (λ x. word_from x (at + 4) ws) next ∙ word_there ws (at + 4) k w is)

module _ (bytes : List ℕ) (g : Graph) (can : IsWritable bytes g) where
  ends_within : (text_of bytes).lo + 4 * words_of g ≤ 2 ^ 32
  ends_within = omega (arith, can.words, high bytes g can)

  pub reading_here : (k : ℕ) (r : Reading) → slice_get (text_readings g (text_of bytes).lo) k ≡ Some r → reading_at (graph_text g (text_of bytes).lo) ((text_of bytes).lo + 4 * k) ≡ Some r
  reading_here k r is =
      let lo = (text_of bytes).lo in
      let text = graph_text g (text_of bytes).lo in
      let found = read_at (graph_text g (text_of bytes).lo) (text_points g (text_of bytes).lo) (text_readings g (text_of bytes).lo) (text_of bytes).lo k r (text_read g (text_of bytes).lo can.rules (few_words bytes g can) ends_within) is in
      let there : slice_get (map word_at_point (text_points g (text_of bytes).lo)) k ≡ Some (word_at_point found.point) = slice_get-map word_at_point (text_points g (text_of bytes).lo) k ∙ ap (option_map word_at_point) found.there in
      let word = word_there (map word_at_point (text_points g (text_of bytes).lo)) (text_of bytes).lo k (word_at_point found.point) there in
      let fits = point_fits bytes g can k found.point found.there in
      ap (option_and_then (reading_of (graph_text g (text_of bytes).lo) ((text_of bytes).lo + 4 * k))) word
      ∙ ap (option_and_then (marked_reading (graph_text g (text_of bytes).lo) ((text_of bytes).lo + 4 * k) (point_mark found.point))) (insn_of-word_of found.point.insn fits)
      ∙ found.reads

pub written_words_read_back : WrittenWordsReadBack
written_words_read_back = λ bytes g can k r is. reading_here bytes g can k r is
