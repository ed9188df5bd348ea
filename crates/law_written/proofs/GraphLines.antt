-- The lines of a graph stand where its words do.
use Rattle.std.proofs.Common.{◌≡◌, ◌≢◌, ℕ, zero, suc, pos, ◌+◌, ◌*◌, Bool, true, false, ◌==◌, List, [], ◌∷◌, ◌++◌, length, length-append, map, sum_by, Some, None, IsSome, if◌then◌else◌, slice_get, refl, sym, ap, ◌∙◌, subst, arith, eq-eqb}
use Rattle.std.specs.Option.{unwrap_or}
use Rattle.std.specs.List.{All}
use Rattle.std.proofs.lemmas.Bool.{eqb-true}
use Rattle.std.proofs.lemmas.List.Elements.{All-head, All-tail}
use Rattle.sq_num.specs.Halves.{high_half, low_half}
use Rattle.sq_arena.specs.Entries.{HasDistinctKeys, value_of}
use Rattle.sq_arena.proofs.EntriesLaws.{distinct_back}
use Rattle.sq_isa.specs.declared.instructions.Insn.{Insn}
use Rattle.sq_isa.specs.declared.instructions.Insn.TheVariants.{Lui, Jal, Jalr, Branch as BranchInsn, OpImm}
use Rattle.sq_isa.specs.declared.instructions.ImmOp.TheVariants.{Addi}
use Rattle.sq_graph.specs.declared.item.Item.{Item}
use Rattle.sq_graph.specs.declared.item.Item.TheVariants.{Op, Hi, Lo, Out}
use Rattle.sq_graph.specs.declared.item.Term.{Term}
use Rattle.sq_graph.specs.declared.item.Term.TheVariants.{Fall, Jump, Branch, Call, PartJump, Indirect, Stop}
use Rattle.sq_graph.specs.Graph.{Block, Procedure, Graph}
use Rattle.sq_graph.specs.Blocks.{named, HasBlock, HasProcedure, procedure_link}
use Rattle.sq_graph.specs.Lines.{AddressHalf, Plain, Upper, Lower, Line, Name, Do, Enter, Return, End, line_of, term_lines, lines_of, behind_name}
use Rattle.sq_graph.specs.Rules.{IsGraph, ProcedureFits, mentions}
use Rattle.sq_graph.specs.Uses.{item_calls, term_uses}
use Rattle.sq_graph.specs.Words.{term_words, block_words, procedure_words}
use Rattle.sq_graph.specs.Places.{address_in, procedure_addresses}
use Rattle.sq_graph.proofs.RulesByBlock.{ItemStands as ItemKeeps, BlockStands as BlockKeeps, BodyStands as BodyKeeps, by_block}
use Rattle.sq_layout.proofs.Walks.{fresh}
use Rattle.sq_write.proofs.Lengths.{length_items, length_term, length_blocks}
use Rattle.sq_write.specs.Points.{Point, new_address, new_start, call_link, offset_to, item_insn, items_points, stop_insn, plain_point, term_points, blocks_points, procedure_points, procedures_points, procedures_at, text_points}

-- WHERE LINES STAND

-- `There at insn` says that the instruction's word is in the text at this address
module _ (g : Graph) (lo : ℕ) (There : ℕ → Insn → Type 0) where
  abbrev address : ℕ → ℕ
  address n = new_address g lo n

  -- a half is that of the block's new address
  abbrev pub DoStands : ℕ → AddressHalf → Insn → Type 0
  DoStands at Plain insn = There at insn
  DoStands at (Upper n word) (Lui rd upper) = There at (Lui rd (high_half (address n))) × (word ≡ None)
  DoStands at (Upper n word) insn = ⊥
  DoStands at (Lower n) (OpImm Addi rd rs imm) = There at (OpImm Addi rd rs (low_half (address n))) × HasBlock g n
  DoStands at (Lower n) insn = ⊥

  abbrev pub EndStands : ℕ → Term → Type 0
  EndStands at Fall = ⊥
  EndStands at (Jump to) = There at (Jal 0 (offset_to at (address to))) × HasBlock g to
  EndStands at (Branch cond a b to) = There at (BranchInsn cond a b (offset_to at (address to))) × HasBlock g to
  EndStands at (Call link to) = There at (Jal link (offset_to at (address to))) × HasBlock g to
  EndStands at (PartJump link part to) = There at (Jalr link part (low_half (address to))) × HasBlock g to
  EndStands at (Indirect link register offset) = There at (Jalr link register offset)
  EndStands at (Stop word) = There at (stop_insn word)

  -- these lines of blocks stand from an address on: each name at its block's address
  abbrev pub Stands : ℕ → List Line → Type 0
  Stands at [] = Unit {0}
  Stands at (Name n ∷ rest) = HasBlock g n × (address n ≡ at) × Stands at rest
  Stands at (Do half insn ∷ rest) = DoStands at half insn × Stands (at + 4) rest
  Stands at (Enter p ∷ rest) = There at (Jal (call_link g p) (offset_to at (new_start g lo p))) × HasProcedure g p × Stands (at + 4) rest
  Stands at (Return link ∷ rest) = ⊥
  Stands at (End term ∷ rest) = EndStands at term × Stands (at + 4) rest

  -- an item of a procedure's body stands at an address
  abbrev pub InBody : ℕ → ℕ → Item → Type 0
  InBody link at (Op insn) = There at insn × (mentions (Op insn) link ≡ false)
  InBody link at (Hi rd to) = There at (Lui rd (high_half (address to))) × (mentions (Hi rd to) link ≡ false)
  InBody link at (Lo rd rs to) = There at (OpImm Addi rd rs (low_half (address to))) × HasBlock g to × (mentions (Lo rd rs to) link ≡ false)
  InBody link at (Out p) = ⊥

  -- the items of a body, and the return behind them
  abbrev pub BodyStands : ℕ → ℕ → List Item → Type 0
  BodyStands link at [] = There at (Jalr 0 link (pos 0))
  BodyStands link at (item ∷ items) = InBody link at item × BodyStands link (at + 4) items

  pub record ProcedureStands (index : ℕ) (p : Procedure) : Type 0 where
    pub link : call_link g index ≡ p.link
    pub some_link : p.link ≢ 0
    pub body : BodyStands p.link (new_start g lo index) p.body

  -- what stands behind a name
  pub behind_stands : (lines : List Line) (at n : ℕ) → Stands at lines → Stands (address n) (behind_name n lines)
  behind_stands [] at n s = tt
  behind_stands (Name m ∷ rest) at n s = go (m == n) refl (behind_stands rest at n s.2)
    where
      go : (b : Bool) → (m == n) ≡ b → Stands (address n) (behind_name n rest) → Stands (address n) (if b then rest else behind_name n rest)
      go false e k = k
      go true e k = subst (λ x. Stands x rest) (sym s.1 ∙ ap (new_address g lo) (eqb-true m n e)) s.2
  behind_stands (Do half insn ∷ rest) at n s = behind_stands rest (at + 4) n s.1
  behind_stands (Enter p ∷ rest) at n s = behind_stands rest (at + 4) n s.2
  behind_stands (Return link ∷ rest) at n s = absurd s
  behind_stands (End term ∷ rest) at n s = behind_stands rest (at + 4) n s.1

  -- FROM POINTS TO LINES

  abbrev pub AreThere : ℕ → List Point → Type 0
  AreThere at [] = Unit {0}
  AreThere at (p ∷ ps) = There at p.insn × AreThere (at + 4) ps

  front_there : (xs ys : List Point) (at : ℕ) → AreThere at (xs ++ ys) → AreThere at xs
  front_there [] ys at h = tt
  front_there (x ∷ xs) ys at h = (h.0, front_there xs ys (at + 4) h.1)

  back_there : (xs ys : List Point) (at to : ℕ) → to ≡ at + 4 * length xs → AreThere at (xs ++ ys) → AreThere to ys
  back_there [] ys at to e h = let same : at ≡ to = omega (arith, e) in subst (λ x. AreThere x ys) same h
  back_there (x ∷ xs) ys at to e h = back_there xs ys (at + 4) to (omega (arith, e)) h.1

  abbrev Keeps : Item → Type 0
  Keeps = ItemKeeps (HasBlock g) (HasProcedure g)

  items_lines : (items : List Item) (at to : ℕ) (rest : List Line) → to ≡ at + 4 * length items → AreThere at (items_points g lo at items) → All Keeps items → Stands to rest → Stands at (map line_of items ++ rest)
  items_lines [] at to rest e h all k = let same : to ≡ at = omega (arith, e) in subst (λ x. Stands x rest) same k
  items_lines (item ∷ items) at to rest e h all k =
      one item h.0 (All-head {X = Item} Keeps item items all)
      (items_lines items (at + 4) to rest (omega (arith, e)) h.1 (All-tail {X = Item} Keeps item items all) k)
    where
      one : (item : Item) → There at (item_insn g lo at item) → Keeps item → Stands (at + 4) (map line_of items ++ rest) → Stands at (line_of item ∷ (map line_of items ++ rest))
      one (Op insn) t keeps s = (t, s)
      one (Hi rd n) t keeps s = ((t, refl), s)
      one (Lo rd rs n) t keeps s = ((t, All-head (HasBlock g) n [] keeps.names), s)
      one (Out p) t keeps s = (t, All-head (HasProcedure g) p [] keeps.calls, s)

  term_line : (t : Term) (at : ℕ) (rest : List Line) → AreThere at (term_points g lo at t) → All (HasBlock g) (term_uses t) → Stands (at + 4 * term_words t) rest → Stands at (term_lines t rest)
  term_line Fall at rest h names k = let same : at + 4 * 0 ≡ at = omega arith in subst (λ x. Stands x rest) same k
  term_line (Jump to) at rest h names k = ((h.0, All-head (HasBlock g) to [] names), k)
  term_line (Branch c a b to) at rest h names k = ((h.0, All-head (HasBlock g) to [] names), k)
  term_line (Call link to) at rest h names k = ((h.0, All-head (HasBlock g) to [] names), k)
  term_line (PartJump link part to) at rest h names k = ((h.0, All-head (HasBlock g) to [] names), k)
  term_line (Indirect link register offset) at rest h names k = (h.0, k)
  term_line (Stop word) at rest h names k = (h.0, k)

  abbrev Block_ : Block → Type 0
  Block_ = BlockKeeps (HasBlock g) (HasProcedure g)

  -- the addresses of these blocks are counted from here on
  record AreCounted (bs : List Block) (at : ℕ) : Type 0 where
    addresses : (n : ℕ) → IsSome (value_of (named bs) n) → address n ≡ unwrap_or (address_in bs at n) 0
    there : (n : ℕ) → IsSome (value_of (named bs) n) → HasBlock g n
    distinct : HasDistinctKeys (named bs)

  own_name : (b : Block) (bs : List Block) → IsSome (value_of (named (b ∷ bs)) b.name)
  own_name b bs = let same = eq-eqb b.name b.name refl in rw same refl

  first_counted : (b : Block) (bs : List Block) (at : ℕ) → AreCounted (b ∷ bs) at → HasBlock g b.name × (address b.name ≡ at)
  first_counted b bs at c =
      let there = own_name b bs in
      let same = eq-eqb b.name b.name refl in
      let here : unwrap_or (address_in (b ∷ bs) at b.name) 0 ≡ at = rw same refl in
      (c.there b.name there, c.addresses b.name there ∙ here)

  others_counted : (b : Block) (bs : List Block) (at : ℕ) → AreCounted (b ∷ bs) at → AreCounted bs (at + 4 * block_words b)
  others_counted b bs at c = record {
    addresses = λ n there. let apart = fresh b bs n c.distinct there in c.addresses n (more n there apart) ∙ rw apart refl;
    there = λ n there. let apart = fresh b bs n c.distinct there in c.there n (more n there apart);
    distinct = distinct_back ((b.name, b) ∷ []) (named bs) c.distinct;
  }
    where
      more : (n : ℕ) → IsSome (value_of (named bs) n) → (b.name == n) ≡ false → IsSome (value_of (named (b ∷ bs)) n)
      more n there apart = rw apart there

  blocks_lines : (bs : List Block) (at : ℕ) → AreThere at (blocks_points g lo at bs) → All Block_ bs → AreCounted bs at → Stands at (lines_of bs)
  blocks_lines [] at h all c = tt
  blocks_lines (b ∷ bs) at h all c =
      let middle : ℕ = at + 4 * length b.items in
      let next : ℕ = at + 4 * block_words b in
      let keeps = All-head {X = Block} Block_ b bs all in
      let items : List Point = items_points g lo at b.items in
      let term : List Point = term_points g lo middle b.term in
      let behind : List Point = blocks_points g lo next bs in
      let here = front_there (items ++ term) behind at h in
      let sizes : length (items ++ term) ≡ block_words b = length-append items term ∙ sums (length items) (length term) (length b.items) (term_words b.term) (length_items g lo at b.items) (length_term g lo middle b.term) in
      let rest = blocks_lines bs next (back_there (items ++ term) behind at next (ap (λ n. at + 4 * n) (sym sizes)) h) (All-tail {X = Block} Block_ b bs all) (others_counted b bs at c) in
      let size : length items ≡ length b.items = length_items g lo at b.items in
      let ends : middle + 4 * term_words b.term ≡ next = omega arith in
      let closed = term_line b.term middle (lines_of bs) (back_there items term at middle (ap (λ n. at + 4 * n) (sym size)) here) keeps.names (subst (λ x. Stands x (lines_of bs)) (sym ends) rest) in
      let first = first_counted b bs at c in
      (first.0, first.1, items_lines b.items at middle (term_lines b.term (lines_of bs)) refl (front_there items term at here) keeps.items closed)
    where
      sums : (m n p q : ℕ) → m ≡ p → n ≡ q → m + n ≡ p + q
      sums m n p q e f = omega (arith, e, f)

  body_lines_stand : (items : List Item) (at link : ℕ) → AreThere at (items_points g lo at items ++ plain_point (Jalr 0 link (pos 0))) → All Keeps items → All (λ item. item_calls item ≡ []) items → All (λ item. mentions item link ≡ false) items → BodyStands link at items
  body_lines_stand [] at link h all calls quiet = h.0
  body_lines_stand (item ∷ items) at link h all calls quiet = (
    one item h.0 (All-head {X = Item} Keeps item items all) (All-head {X = Item} (λ item. item_calls item ≡ []) item items calls) (All-head {X = Item} (λ item. mentions item link ≡ false) item items quiet),
    body_lines_stand items (at + 4) link h.1 (All-tail {X = Item} Keeps item items all) (All-tail {X = Item} (λ item. item_calls item ≡ []) item items calls) (All-tail {X = Item} (λ item. mentions item link ≡ false) item items quiet),
  )
    where
      one : (item : Item) → There at (item_insn g lo at item) → Keeps item → item_calls item ≡ [] → mentions item link ≡ false → InBody link at item
      one (Op insn) t keeps c m = (t, m)
      one (Hi rd n) t keeps c m = (t, m)
      one (Lo rd rs n) t keeps c m = (t, All-head (HasBlock g) n [] keeps.names, m)
      one (Out p) t keeps c m = absurd (cc)

  abbrev Body_ : Procedure → Type 0
  Body_ = BodyKeeps (HasBlock g) (HasProcedure g)

  -- where a procedure of a list stands, and its body there
  record IsPlaced (ps : List Procedure) (at index : ℕ) (p : Procedure) : Type 0 where
    start : ℕ
    start_is : slice_get (procedure_addresses ps at) index ≡ Some start
    body : BodyStands p.link start p.body
    fits : ProcedureFits p

  procedures_placed : (ps : List Procedure) (at index : ℕ) (p : Procedure) → AreThere at (procedures_points g lo at ps) → All Body_ ps → slice_get ps index ≡ Some p → IsPlaced ps at index p
  procedures_placed [] at index p h all e = absurd (cc)
  procedures_placed (q ∷ ps) at zero p h all e =
      let same : q ≡ p = cc in
      let keeps = All-head {X = Procedure} Body_ q ps all in
      let fits = keeps.fits in
      subst (IsPlaced (q ∷ ps) at 0) same (record {
        start = at;
        start_is = refl;
        body = body_lines_stand q.body at q.link (front_there (procedure_points g lo at q) (procedures_points g lo (at + 4 * procedure_words q) ps) at h) keeps.items fits.no_calls fits.no_mention;
        fits = fits;
      })
  procedures_placed (q ∷ ps) at (suc index) p h all e =
      let points : List Point = procedure_points g lo at q in
      let next : ℕ = at + 4 * procedure_words q in
      let size : length points ≡ procedure_words q = length-append (items_points g lo at q.body) (plain_point (Jalr 0 q.link (pos 0))) ∙ ap (λ n. n + 1) (length_items g lo at q.body) in
      let more = procedures_placed ps next index p (back_there points (procedures_points g lo next ps) at next (ap (λ n. at + 4 * n) (sym size)) h) (All-tail {X = Procedure} Body_ q ps all) e in
      record { start = more.start; start_is = more.start_is; body = more.body; fits = more.fits }

  module _ (rules : IsGraph g) (there : AreThere lo (text_points g lo)) where
    abbrev blocks : List Point
    blocks = blocks_points g lo lo g.blocks

    abbrev bodies : List Point
    bodies = procedures_points g lo (procedures_at g lo) g.procedures

    -- the lines of all blocks stand from the start of text on
    pub lines_stand : Stands lo (lines_of g.blocks)
    lines_stand =
        let by = by_block (HasBlock g) (HasProcedure g) g rules rules.named_all rules.called_all in
        blocks_lines g.blocks lo (front_there blocks bodies lo there) by.blocks (record { addresses = λ n some. refl; there = λ n some. some; distinct = rules.distinct })

    -- and each procedure at its address
    pub procedure_stands : (index : ℕ) (p : Procedure) → slice_get g.procedures index ≡ Some p → ProcedureStands index p
    procedure_stands index p e =
        let by = by_block (HasBlock g) (HasProcedure g) g rules rules.named_all rules.called_all in
        let size : length blocks ≡ sum_by block_words g.blocks = length_blocks g lo lo g.blocks in
        let placed = procedures_placed g.procedures (procedures_at g lo) index p (back_there blocks bodies lo (procedures_at g lo) (ap (λ n. lo + 4 * n) (sym size)) there) by.bodies e in
        let fits = placed.fits in
        let start : placed.start ≡ new_start g lo index = sym (ap (λ o. unwrap_or o 0) placed.start_is) in
        record {
          link = ap (λ o. unwrap_or (procedure_link o) 0) e;
          some_link = fits.link;
          body = subst (λ at. BodyStands p.link at p.body) start placed.body;
        }
