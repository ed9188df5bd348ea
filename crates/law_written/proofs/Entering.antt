-- What leads into a noted procedure of the file of a graph: its calls alone.
use Rattle.std.proofs.Common.{◌≡◌, ℕ, zero, suc, pos, ◌+◌, ◌*◌, ◌%◌, ◌^◌, ◌<◌, ◌≤◌, ◌==◌, Bool, true, false, not, ◌&&◌, ◌||◌, ◌⊎◌, inl, inr, List, [], ◌∷◌, ◌++◌, length, map, sum_by, Some, if◌then◌else◌, refl, sym, ap, subst, ◌∙◌, arith, length-append, eq-eqb}
use Rattle.std.specs.List.{All, list_any}
use Rattle.std.proofs.lemmas.Bool.{cases_Bool, or_from, and_left, and_right}
use Rattle.std.proofs.lemmas.Bool.Decides.{nat_tests}
use Rattle.std.proofs.lemmas.List.Elements.{All-head, All-tail}
use Rattle.std.proofs.lemmas.List.Sums.{sum_by-cons}
use Rattle.sq_num.specs.Halves.{high_half, low_half}
use Rattle.sq_isa.specs.declared.instructions.Insn.{Insn}
use Rattle.sq_isa.specs.declared.instructions.Insn.TheVariants.{Lui, Jal, Jalr, Branch as BranchInsn, OpImm}
use Rattle.sq_isa.specs.declared.instructions.ImmOp.TheVariants.{Addi}
use Rattle.sq_isa.proofs.Encoded.{insn_of-word_of}
use Rattle.sq_reloc.specs.declared.mark.Mark.{Mark}
use Rattle.sq_reloc.specs.declared.mark.Mark.TheVariants.{Plain, Hi as HiMark, Lo as LoMark}
use Rattle.sq_graph.specs.declared.item.Item.{Item}
use Rattle.sq_graph.specs.declared.item.Item.TheVariants.{Op, Hi, Lo, Out}
use Rattle.sq_graph.specs.declared.item.Term.{Term}
use Rattle.sq_graph.specs.declared.item.Term.TheVariants.{Fall, Jump, Branch, Call, PartJump, Indirect, Stop}
use Rattle.sq_graph.specs.Graph.{Block, Procedure, Graph}
use Rattle.sq_graph.specs.Blocks.{HasBlock, HasProcedure}
use Rattle.sq_graph.specs.Places.{address_in}
use Rattle.sq_graph.specs.Rules.{IsGraph, last_goes_on}
use Rattle.sq_graph.specs.Terms.{goes_on}
use Rattle.sq_graph.specs.Uses.{term_uses}
use Rattle.sq_graph.specs.Words.{term_words, block_words, procedure_words, words_of}
use Rattle.sq_graph.proofs.RulesByBlock.{ItemStands, BlockStands, BodyStands}
use Rattle.sq_layout.proofs.Counts.{word_is_left}
use Rattle.law_program.specs.Programs.{Note, insn_in}
use Rattle.law_program.specs.Reached.{target_from, jump_target, half_target, insn_goes_on, next_word}
use Rattle.law_program.specs.Notes.{is_within, is_in_procedure, is_call, enters_from_outside, insn_enters, marked_enters, words_enter}
use Rattle.sq_write.specs.Points.{Point, new_address, new_start, call_link, offset_to, item_point, items_points, stop_insn, plain_point, term_points, block_points, blocks_points, procedure_points, procedures_at, procedures_points}
use Rattle.sq_write.proofs.Fitting.{new_spot}
use Rattle.sq_write.proofs.Lengths.{length_items, length_term}
use Rattle.law_written.specs.Programs.{word_at_point}
use Rattle.law_written.specs.Words.{point_mark}
use Rattle.law_written.proofs.Faults.{no_target, stop_facts, own_word, some_room, rest_stops, procedure_placed, block_placed, IsPlaced}
use Rattle.sq_write.proofs.PointFields.{AllFit}
use Rattle.law_written.proofs.Readings.{offset_leads}

-- RANGES OF WORDS

apart_below : (x y : ℕ) → x < y → (y == x) ≡ false
apart_below x y less = grind (arith, nat_tests)

apart_above : (x y : ℕ) → y < x → (y == x) ≡ false
apart_above x y less = grind (arith, nat_tests)

pub not_below : (at n x : ℕ) → x < at → is_within at n x ≡ false
not_below at zero x less = refl
not_below at (suc n) x less = rw (apart_below x at less) (not_below (at + 4) n x (omega arith))

pub not_above : (at n x : ℕ) → at + 4 * n ≤ x → is_within at n x ≡ false
not_above at zero x more = refl
not_above at (suc n) x more = rw (apart_above x at (omega arith)) (not_above (at + 4) n x (omega arith))

pub is_inside : (at n j : ℕ) → j < n → is_within at n (at + 4 * j) ≡ true
is_inside at zero j less = absurd (omega arith)
is_inside at (suc n) zero less = let same : (at == at + 4 * 0) ≡ true = eq-eqb at (at + 4 * 0) (omega arith) in rw same refl
is_inside at (suc n) (suc j) less =
    let apart : (at == at + 4 * suc j) ≡ false = apart_above (at + 4 * suc j) at (omega arith) in
    let next : at + 4 * suc j ≡ at + 4 + 4 * j = omega arith in
    rw apart (ap (is_within (at + 4) n) next ∙ is_inside (at + 4) n j (omega arith))

-- ONE WORD

module _ (n : Note) where
  abbrev within : ℕ → Bool
  within x = is_in_procedure n x

  abbrev Quiet : ℕ → Mark → Insn → Type 0
  Quiet at mark insn = insn_enters n at mark insn ≡ false

  -- from outside: neither the half, nor the next word, nor a target other than a call leads in
  outside_quiet : (at : ℕ) (mark : Mark) (insn : Insn) → list_any within (half_target mark) ≡ false → list_any within (next_word at insn) ≡ false → list_any (λ x. within x && not (is_call n insn x)) (jump_target at insn) ≡ false → Quiet at mark insn
  outside_quiet at mark insn half next jump =
      or_from (list_any within (half_target mark)) (enters_from_outside n at insn) half
      (and_right (not (within at)) (list_any within (next_word at insn) || list_any (λ x. within x && not (is_call n insn x)) (jump_target at insn))
      (or_from (list_any within (next_word at insn)) (list_any (λ x. within x && not (is_call n insn x)) (jump_target at insn)) next jump))

  -- from inside: the half doesn't
  inside_quiet : (at : ℕ) (mark : Mark) (insn : Insn) → within at ≡ true → list_any within (half_target mark) ≡ false → Quiet at mark insn
  inside_quiet at mark insn inside half =
      or_from (list_any within (half_target mark)) (enters_from_outside n at insn) half
      (and_left (not (within at)) (list_any within (next_word at insn) || list_any (λ x. within x && not (is_call n insn x)) (jump_target at insn)) (ap not inside))

  next_out : (at : ℕ) (insn : Insn) → (within (at + 4) ≡ false) ⊎ (insn_goes_on insn ≡ false) → list_any within (next_word at insn) ≡ false
  next_out at insn (inl out) = by_test (insn_goes_on insn)
    where
      by_test : (b : Bool) → list_any within (if b then (at + 4) ∷ [] else []) ≡ false
      by_test true = rw out refl
      by_test false = refl
  next_out at insn (inr stops) = rw stops refl

  one_out : (x : ℕ) → within x ≡ false → list_any within (x ∷ []) ≡ false
  one_out x out = rw out refl

  jump_out : (insn : Insn) (x y : ℕ) → y ≡ x → within x ≡ false → list_any (λ z. within z && not (is_call n insn z)) (y ∷ []) ≡ false
  jump_out insn x y same out = let there : within y ≡ false = ap within same ∙ out in rw there refl

  abbrev pub AreQuiet : ℕ → List Point → Type 0
  AreQuiet at [] = Unit {0}
  AreQuiet at (p ∷ ps) = Quiet at (point_mark p) p.insn × AreQuiet (at + 4) ps

  pub both_quiet : (xs ys : List Point) (at to : ℕ) → to ≡ at + 4 * length xs → AreQuiet at xs → AreQuiet to ys → AreQuiet at (xs ++ ys)
  both_quiet [] ys at to e front back = let same : to ≡ at = omega (arith, e) in subst (λ x. AreQuiet x ys) same back
  both_quiet (x ∷ xs) ys at to e front back = (front.0, both_quiet xs ys (at + 4) to (omega (arith, e)) front.1 back)

  pub none_enters : (is : ℕ → Bool) (at : ℕ) (ps : List Point) → AllFit ps → AreQuiet at ps → words_enter is n at (map word_at_point ps) ≡ false
  none_enters is at [] fits quiet = refl
  none_enters is at (p ∷ ps) fits quiet =
      let there : insn_in (word_at_point p) ≡ Some p.insn = insn_of-word_of p.insn fits.0 in
      let one : marked_enters n at (point_mark p) (insn_in (word_at_point p)) ≡ false = ap (marked_enters n at (point_mark p)) there ∙ quiet.0 in
      or_from (is at && marked_enters n at (point_mark p) (insn_in (word_at_point p))) (words_enter is n (at + 4) (map word_at_point ps))
      (and_right (is at) (marked_enters n at (point_mark p) (insn_in (word_at_point p))) one)
      (none_enters is (at + 4) ps fits.1 quiet.1)

-- a block of a list that ends stands before the end of the list
block_below : (bs : List Block) (at name a : ℕ) → last_goes_on bs ≡ false → address_in bs at name ≡ Some a → a < at + 4 * sum_by block_words bs
block_below [] at name a stops is = absurd (cc is)
block_below (b ∷ bs) at name a stops is =
    by_test (cases_Bool (b.name == name)) (λ more. block_below bs (at + 4 * block_words b) name a (rest_ends bs stops) more)
  where
    rest_ends : (bs : List Block) → last_goes_on (b ∷ bs) ≡ false → last_goes_on bs ≡ false
    rest_ends [] stops = refl
    rest_ends (c ∷ cs) stops = stops

    first : at ≡ a → a < at + 4 * sum_by block_words (b ∷ bs)
    first same = omega (arith, same, word_is_left b bs stops)

    widen : a < at + 4 * block_words b + 4 * sum_by block_words bs → a < at + 4 * sum_by block_words (b ∷ bs)
    widen less = omega (arith, less, sum_by-cons block_words b bs)

    by_test : ((b.name == name) ≡ true) ⊎ ((b.name == name) ≡ false) → (address_in bs (at + 4 * block_words b) name ≡ Some a → a < at + 4 * block_words b + 4 * sum_by block_words bs) → a < at + 4 * sum_by block_words (b ∷ bs)
    by_test (inl e) more = first (let there : (if true then Some at else address_in bs (at + 4 * block_words b) name) ≡ Some a = rw e at is in cc there)
    by_test (inr e) more = widen (more (rw e at is))

pub block_before : (g : Graph) (lo : ℕ) → IsGraph g → words_of g ≤ 262144 → (n : ℕ) → HasBlock g n → new_address g lo n < procedures_at g lo
block_before g lo rules few n there =
    let found = new_spot g lo rules few n there in
    let below : found.0 < 0 + 4 * sum_by block_words g.blocks = block_below g.blocks 0 n found.0 rules.ends found.1 in
    omega (arith, found.2, below)

-- ALL WORDS

module _ (g : Graph) (lo : ℕ) (rules : IsGraph g) (few : words_of g ≤ 262144) (ends : lo + 4 * words_of g ≤ 2 ^ 32) (even : lo % 4 ≡ 0) (n : Note) (behind : procedures_at g lo ≤ n.address) (calls : (q : ℕ) → HasProcedure g q → (is_in_procedure n (new_start g lo q) ≡ false) ⊎ ((n.link ≡ call_link g q) × (n.address ≡ new_start g lo q))) where
  before_out : (x : ℕ) → x < procedures_at g lo → is_in_procedure n x ≡ false
  before_out x less = not_below n.address (n.length + 1) x (omega arith)

  block_out : (b : ℕ) → HasBlock g b → is_in_procedure n (new_address g lo b) ≡ false
  block_out b there = before_out (new_address g lo b) (block_before g lo rules few b there)

  leads : (at x : ℕ) → lo ≤ at → at < lo + 4 * words_of g → IsPlaced g lo rules few ends even x → target_from at (offset_to at x) ≡ x
  leads at x low high placed =
      let is = placed.is in
      let within = placed.within in
      offset_leads at x (omega arith) (omega arith) (omega arith) (omega arith)

  call_quiet : (at q : ℕ) → lo ≤ at → at < lo + 4 * words_of g → HasProcedure g q → list_any (λ x. is_in_procedure n x && not (is_call n (Jal (call_link g q) (offset_to at (new_start g lo q))) x)) (jump_target at (Jal (call_link g q) (offset_to at (new_start g lo q)))) ≡ false
  call_quiet at q low high there =
      by_call (leads at (new_start g lo q) low high (procedure_placed g lo rules few ends even q there)) (calls q there)
    where
      by_call : target_from at (offset_to at (new_start g lo q)) ≡ new_start g lo q → (is_in_procedure n (new_start g lo q) ≡ false) ⊎ ((n.link ≡ call_link g q) × (n.address ≡ new_start g lo q)) → list_any (λ x. is_in_procedure n x && not (is_call n (Jal (call_link g q) (offset_to at (new_start g lo q))) x)) (jump_target at (Jal (call_link g q) (offset_to at (new_start g lo q)))) ≡ false
      by_call lead (inl out) = jump_out n (Jal (call_link g q) (offset_to at (new_start g lo q))) (new_start g lo q) (target_from at (offset_to at (new_start g lo q))) lead out
      by_call lead (inr own) =
          let link : (call_link g q == n.link) ≡ true = eq-eqb (call_link g q) n.link (sym own.0) in
          let start : (target_from at (offset_to at (new_start g lo q)) == n.address) ≡ true = eq-eqb (target_from at (offset_to at (new_start g lo q))) n.address (lead ∙ sym own.1) in
          or_from (is_in_procedure n (target_from at (offset_to at (new_start g lo q))) && not ((call_link g q == n.link) && (target_from at (offset_to at (new_start g lo q)) == n.address))) false
          (and_right (is_in_procedure n (target_from at (offset_to at (new_start g lo q)))) (not ((call_link g q == n.link) && (target_from at (offset_to at (new_start g lo q)) == n.address))) (rw (link, start) refl)) refl

  abbrev Keeps : Item → Type 0
  Keeps = ItemStands (HasBlock g) (HasProcedure g)

  item_quiet : (item : Item) (at : ℕ) → lo ≤ at → at < lo + 4 * words_of g → is_in_procedure n (at + 4) ≡ false → Keeps item → AreQuiet n at (item_point g lo at item ∷ [])
  item_quiet (Op insn) at low high out keeps =
      let none = no_target at insn keeps.fits.0 in
      (outside_quiet n at Plain insn refl (next_out n at insn (inl out)) (ap (list_any (λ x. is_in_procedure n x && not (is_call n insn x))) none.0), tt)
  item_quiet (Hi rd to) at low high out keeps = (
    outside_quiet n at (HiMark (new_address g lo to)) (Lui rd (high_half (new_address g lo to))) (one_out n (new_address g lo to) (block_out to (All-head (HasBlock g) to [] keeps.names))) (next_out n at (Lui rd (high_half (new_address g lo to))) (inl out)) refl,
    tt,
  )
  item_quiet (Lo rd rs to) at low high out keeps = (
    outside_quiet n at (LoMark (new_address g lo to)) (OpImm Addi rd rs (low_half (new_address g lo to))) (one_out n (new_address g lo to) (block_out to (All-head (HasBlock g) to [] keeps.names))) (next_out n at (OpImm Addi rd rs (low_half (new_address g lo to))) (inl out)) refl,
    tt,
  )
  item_quiet (Out q) at low high out keeps =
      let there = All-head (HasProcedure g) q [] keeps.calls in
      (outside_quiet n at Plain (Jal (call_link g q) (offset_to at (new_start g lo q))) refl (next_out n at (Jal (call_link g q) (offset_to at (new_start g lo q))) (inl out)) (call_quiet at q low high there), tt)

  -- items that are followed by words outside the procedure
  items_quiet : (items : List Item) (at : ℕ) → lo ≤ at → at + 4 * length items ≤ lo + 4 * words_of g → ((x : ℕ) → at ≤ x → x ≤ at + 4 * length items → is_in_procedure n x ≡ false) → All Keeps items → AreQuiet n at (items_points g lo at items)
  items_quiet [] at low high out all = tt
  items_quiet (item ∷ items) at low high out all = (
    (item_quiet item at low (omega (arith, high)) (out (at + 4) (omega arith) (omega arith)) (All-head {X = Item} Keeps item items all)).0,
    items_quiet items (at + 4) (omega arith) (omega (arith, high)) (λ x least most. out x (omega arith) (omega arith)) (All-tail {X = Item} Keeps item items all),
  )

  -- items of the procedure itself
  own_item : (item : Item) (at : ℕ) → is_in_procedure n at ≡ true → Keeps item → AreQuiet n at (item_point g lo at item ∷ [])
  own_item (Op insn) at inside keeps = (inside_quiet n at Plain insn inside refl, tt)
  own_item (Hi rd to) at inside keeps = (inside_quiet n at (HiMark (new_address g lo to)) (Lui rd (high_half (new_address g lo to))) inside (one_out n (new_address g lo to) (block_out to (All-head (HasBlock g) to [] keeps.names))), tt)
  own_item (Lo rd rs to) at inside keeps = (inside_quiet n at (LoMark (new_address g lo to)) (OpImm Addi rd rs (low_half (new_address g lo to))) inside (one_out n (new_address g lo to) (block_out to (All-head (HasBlock g) to [] keeps.names))), tt)
  own_item (Out q) at inside keeps = (inside_quiet n at Plain (Jal (call_link g q) (offset_to at (new_start g lo q))) inside refl, tt)

  own_items : (items : List Item) (at : ℕ) → ((k : ℕ) → k < length items → is_in_procedure n (at + 4 * k) ≡ true) → All Keeps items → AreQuiet n at (items_points g lo at items)
  own_items [] at inside all = tt
  own_items (item ∷ items) at inside all =
      let none : at + 4 * 0 ≡ at = omega arith in (
        (own_item item at (subst (λ x. is_in_procedure n x ≡ true) none (inside 0 (omega arith))) (All-head {X = Item} Keeps item items all)).0,
        own_items items (at + 4) (λ k less. let next : at + 4 * suc k ≡ at + 4 + 4 * k = omega arith in subst (λ x. is_in_procedure n x ≡ true) next (inside (suc k) (omega arith))) (All-tail {X = Item} Keeps item items all),
      )

  term_quiet : (term : Term) (at : ℕ) → lo ≤ at → at + 4 * term_words term ≤ lo + 4 * words_of g → (is_in_procedure n (at + 4 * term_words term) ≡ false) ⊎ (goes_on term ≡ false) → All (HasBlock g) (term_uses term) → AreQuiet n at (term_points g lo at term)
  term_quiet Fall at low high room names = tt
  term_quiet (Jump to) at low high room names =
      let there = All-head (HasBlock g) to [] names in
      let insn = Jal 0 (offset_to at (new_address g lo to)) in
      (outside_quiet n at Plain (Jal 0 (offset_to at (new_address g lo to))) refl (next_out n at (Jal 0 (offset_to at (new_address g lo to))) (inr refl)) (jump_out n (Jal 0 (offset_to at (new_address g lo to))) (new_address g lo to) (target_from at (offset_to at (new_address g lo to))) (leads at (new_address g lo to) low (omega arith) (block_placed g lo rules few ends even to there)) (block_out to there)), tt)
  term_quiet (Branch c a b to) at low high room names =
      let there = All-head (HasBlock g) to [] names in
      (outside_quiet n at Plain (BranchInsn c a b (offset_to at (new_address g lo to))) refl (next_out n at (BranchInsn c a b (offset_to at (new_address g lo to))) (go room)) (jump_out n (BranchInsn c a b (offset_to at (new_address g lo to))) (new_address g lo to) (target_from at (offset_to at (new_address g lo to))) (leads at (new_address g lo to) low (omega arith) (block_placed g lo rules few ends even to there)) (block_out to there)), tt)
    where
      go : (is_in_procedure n (at + 4 * 1) ≡ false) ⊎ (true ≡ false) → (is_in_procedure n (at + 4) ≡ false) ⊎ (true ≡ false)
      go (inl out) = inl out
      go (inr never) = inr never
  term_quiet (Call link to) at low high room names =
      let there = All-head (HasBlock g) to [] names in
      (outside_quiet n at Plain (Jal link (offset_to at (new_address g lo to))) refl (next_out n at (Jal link (offset_to at (new_address g lo to))) (go room)) (jump_out n (Jal link (offset_to at (new_address g lo to))) (new_address g lo to) (target_from at (offset_to at (new_address g lo to))) (leads at (new_address g lo to) low (omega arith) (block_placed g lo rules few ends even to there)) (block_out to there)), tt)
    where
      go : (is_in_procedure n (at + 4 * 1) ≡ false) ⊎ (true ≡ false) → (is_in_procedure n (at + 4) ≡ false) ⊎ (not (link == 0) ≡ false)
      go (inl out) = inl out
      go (inr never) = absurd (cc never)
  term_quiet (PartJump link part to) at low high room names =
      let there = All-head (HasBlock g) to [] names in
      (outside_quiet n at (LoMark (new_address g lo to)) (Jalr link part (low_half (new_address g lo to))) (one_out n (new_address g lo to) (block_out to there)) (next_out n at (Jalr link part (low_half (new_address g lo to))) room) refl, tt)
  term_quiet (Indirect link register offset) at low high room names = (outside_quiet n at Plain (Jalr link register offset) refl (next_out n at (Jalr link register offset) room) refl, tt)
  term_quiet (Stop word) at low high room names =
      let none = stop_facts at word in
      (outside_quiet n at Plain (stop_insn word) refl (next_out n at (stop_insn word) (inr none.2)) (ap (list_any (λ x. is_in_procedure n x && not (is_call n (stop_insn word) x))) none.0), tt)

  block_length : (b : Block) (at : ℕ) → length (block_points g lo at b) ≡ block_words b
  block_length b at =
      omega (arith, length-append (items_points g lo at b.items) (term_points g lo (at + 4 * length b.items) b.term), length_items g lo at b.items, length_term g lo (at + 4 * length b.items) b.term)

  pub blocks_quiet : (bs : List Block) (at : ℕ) → last_goes_on bs ≡ false → lo ≤ at → at + 4 * sum_by block_words bs ≡ procedures_at g lo → All (BlockStands (HasBlock g) (HasProcedure g)) bs → AreQuiet n at (blocks_points g lo at bs)
  blocks_quiet [] at stops low end all = tt
  blocks_quiet (b ∷ bs) at stops low end all =
      let keeps = All-head {X = Block} (BlockStands (HasBlock g) (HasProcedure g)) b bs all in
      let sum = sum_by-cons block_words b bs in
      let next : at + 4 * block_words b ≡ at + 4 * length (block_points g lo at b) = omega (arith, block_length b at) in
      let middle : at + 4 * length b.items ≡ at + 4 * length (items_points g lo at b.items) = omega (arith, length_items g lo at b.items) in
      let room = room_here (some_room g lo rules few ends even b bs stops) (end_here sum end) in
      both_quiet n (block_points g lo at b) (blocks_points g lo (at + 4 * block_words b) bs) at (at + 4 * block_words b) next
      (both_quiet n (items_points g lo at b.items) (term_points g lo (at + 4 * length b.items) b.term) at (at + 4 * length b.items) middle
      (items_quiet b.items at low (omega (arith, room.0)) (λ x least most. before_out x (omega (arith, room.0, most))) keeps.items)
      (term_quiet b.term (at + 4 * length b.items) (omega arith) (omega (arith, end, sum)) room.1 keeps.names))
      (blocks_quiet bs (at + 4 * block_words b) (rest_stops g lo rules few ends even b bs stops) (omega arith) (omega (arith, end, sum)) (All-tail {X = Block} (BlockStands (HasBlock g) (HasProcedure g)) b bs all))
    where
      end_here : sum_by block_words (b ∷ bs) ≡ block_words b + sum_by block_words bs → at + 4 * sum_by block_words (b ∷ bs) ≡ procedures_at g lo → at + 4 * (block_words b + sum_by block_words bs) ≡ procedures_at g lo
      end_here sum end = omega (arith, sum, end)

      room_here : (1 ≤ sum_by block_words bs) ⊎ (goes_on b.term ≡ false) → at + 4 * (block_words b + sum_by block_words bs) ≡ procedures_at g lo → (at + 4 * length b.items < procedures_at g lo) × ((is_in_procedure n (at + 4 * length b.items + 4 * term_words b.term) ≡ false) ⊎ (goes_on b.term ≡ false))
      room_here (inl more) end = (omega (arith, more, end), inl (before_out (at + 4 * length b.items + 4 * term_words b.term) (omega (arith, more, end))))
      room_here (inr stops) end = (omega (arith, own_word g lo rules few ends even b.term stops, end), inr stops)

  -- PROCEDURES

  point_length : (p : Procedure) (at : ℕ) → length (procedure_points g lo at p) ≡ procedure_words p
  point_length p at = omega (arith, length-append (items_points g lo at p.body) (plain_point (Jalr 0 p.link (pos 0))), length_items g lo at p.body)

  -- another procedure: its return goes on to no word
  other_quiet : (p : Procedure) (at : ℕ) → lo ≤ at → at + 4 * procedure_words p ≤ lo + 4 * words_of g → ((x : ℕ) → at ≤ x → x < at + 4 * procedure_words p → is_in_procedure n x ≡ false) → BodyStands (HasBlock g) (HasProcedure g) p → AreQuiet n at (procedure_points g lo at p)
  other_quiet p at low high out keeps =
      let last = at + 4 * length (items_points g lo at p.body) in
      both_quiet n (items_points g lo at p.body) (plain_point (Jalr 0 p.link (pos 0))) at (at + 4 * length (items_points g lo at p.body)) refl
      (items_quiet p.body at low (omega (arith, high)) (λ x least most. out x least (omega arith)) keeps.items)
      (outside_quiet n (at + 4 * length (items_points g lo at p.body)) Plain (Jalr 0 p.link (pos 0)) refl (next_out n (at + 4 * length (items_points g lo at p.body)) (Jalr 0 p.link (pos 0)) (inr refl)) refl, tt)

  pub others_quiet : (ps : List Procedure) (at : ℕ) → lo ≤ at → at + 4 * sum_by procedure_words ps ≤ lo + 4 * words_of g → ((x : ℕ) → at ≤ x → x < at + 4 * sum_by procedure_words ps → is_in_procedure n x ≡ false) → All (BodyStands (HasBlock g) (HasProcedure g)) ps → AreQuiet n at (procedures_points g lo at ps)
  others_quiet [] at low high out all = tt
  others_quiet (p ∷ ps) at low high out all =
      let sum = sum_by-cons procedure_words p ps in
      let next : at + 4 * procedure_words p ≡ at + 4 * length (procedure_points g lo at p) = omega (arith, point_length p at) in
      both_quiet n (procedure_points g lo at p) (procedures_points g lo (at + 4 * procedure_words p) ps) at (at + 4 * procedure_words p) next
      (other_quiet p at low (omega (arith, high, sum)) (λ x least most. out x least (omega (arith, most, sum))) (All-head {X = Procedure} (BodyStands (HasBlock g) (HasProcedure g)) p ps all))
      (others_quiet ps (at + 4 * procedure_words p) (omega arith) (omega (arith, high, sum)) (λ x least most. out x (omega arith) (omega (arith, most, sum))) (All-tail {X = Procedure} (BodyStands (HasBlock g) (HasProcedure g)) p ps all))

  own_quiet : (p : Procedure) (at : ℕ) → ((k : ℕ) → k < procedure_words p → is_in_procedure n (at + 4 * k) ≡ true) → BodyStands (HasBlock g) (HasProcedure g) p → AreQuiet n at (procedure_points g lo at p)
  own_quiet p at inside keeps =
      let long = length_items g lo at p.body in
      both_quiet n (items_points g lo at p.body) (plain_point (Jalr 0 p.link (pos 0))) at (at + 4 * length (items_points g lo at p.body)) refl
      (own_items p.body at (λ k less. inside k (omega arith)) keeps.items)
      (inside_quiet n (at + 4 * length (items_points g lo at p.body)) Plain (Jalr 0 p.link (pos 0)) (inside (length (items_points g lo at p.body)) (omega (arith, long))) refl, tt)

  -- the procedures, of which the one behind these is the noted one
  pub procedures_quiet : (front : List Procedure) (p : Procedure) (back : List Procedure) (at : ℕ) → lo ≤ at → at + 4 * sum_by procedure_words (front ++ p ∷ back) ≤ lo + 4 * words_of g → at + 4 * sum_by procedure_words front ≡ n.address → n.length ≡ length p.body → All (BodyStands (HasBlock g) (HasProcedure g)) (front ++ p ∷ back) → AreQuiet n at (procedures_points g lo at (front ++ p ∷ back))
  procedures_quiet [] p back at low high is size all =
      let sum = sum_by-cons procedure_words p back in
      let same : at ≡ n.address = omega (arith, is) in
      let next : at + 4 * procedure_words p ≡ at + 4 * length (procedure_points g lo at p) = omega (arith, point_length p at) in
      both_quiet n (procedure_points g lo at p) (procedures_points g lo (at + 4 * procedure_words p) back) at (at + 4 * procedure_words p) next
      (own_quiet p at (λ k less. subst (λ a. is_in_procedure n (a + 4 * k) ≡ true) (sym same) (is_inside n.address (n.length + 1) k (omega (arith, less, size)))) (All-head {X = Procedure} (BodyStands (HasBlock g) (HasProcedure g)) p back all))
      (others_quiet back (at + 4 * procedure_words p) (omega arith) (omega (arith, high, sum)) (λ x least most. not_above n.address (n.length + 1) x (omega (arith, least, same, size))) (All-tail {X = Procedure} (BodyStands (HasBlock g) (HasProcedure g)) p back all))
  procedures_quiet (f ∷ front) p back at low high is size all =
      let sum = sum_by-cons procedure_words f (front ++ p ∷ back) in
      let own = sum_by-cons procedure_words f front in
      let next : at + 4 * procedure_words f ≡ at + 4 * length (procedure_points g lo at f) = omega (arith, point_length f at) in
      both_quiet n (procedure_points g lo at f) (procedures_points g lo (at + 4 * procedure_words f) (front ++ p ∷ back)) at (at + 4 * procedure_words f) next
      (other_quiet f at low (omega (arith, high, sum)) (λ x least most. not_below n.address (n.length + 1) x (omega (arith, most, is, own))) (All-head {X = Procedure} (BodyStands (HasBlock g) (HasProcedure g)) f (front ++ p ∷ back) all))
      (procedures_quiet front p back (at + 4 * procedure_words f) (omega arith) (omega (arith, high, sum)) (omega (arith, is, own)) size (All-tail {X = Procedure} (BodyStands (HasBlock g) (HasProcedure g)) f (front ++ p ∷ back) all))
