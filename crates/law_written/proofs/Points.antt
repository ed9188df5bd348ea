-- The points of a graph's text, each plain or with a half of a block's address.
use Rattle.std.proofs.Common.{◌≡◌, ℕ, ◌+◌, ◌*◌, ◌≤◌, ℤ, true, ◌⊎◌, inl, inr, List, [], ◌∷◌, ◌++◌, length, pos, Some, refl, sym, subst, arith, eq-eqb, length-append}
use Rattle.std.specs.List.{All, AllByRecursion, flat_map}
use Rattle.std.specs.Ordering.{int_eq}
use Rattle.std.proofs.lemmas.Bool.Decides.{nat_tests, Decides-int_eq}
use Rattle.std.proofs.lemmas.List.Elements.{All-head, All-tail}
use Rattle.sq_num.specs.Halves.{high_half, low_half}
use Rattle.sq_isa.specs.declared.instructions.Insn.TheVariants.{Jalr}
use Rattle.sq_reloc.specs.Required.{is_lui, has_low_i}
use Rattle.sq_graph.specs.declared.item.Item.{Item}
use Rattle.sq_graph.specs.declared.item.Item.TheVariants.{Op, Hi, Lo, Out}
use Rattle.sq_graph.specs.declared.item.Term.{Term}
use Rattle.sq_graph.specs.declared.item.Term.TheVariants.{Fall, Jump, Branch, Call, PartJump, Indirect, Stop}
use Rattle.sq_graph.specs.Graph.{Block, Procedure, Graph}
use Rattle.sq_graph.specs.Blocks.{HasBlock, HasProcedure}
use Rattle.sq_graph.specs.Rules.{IsGraph}
use Rattle.sq_graph.specs.Uses.{item_uses, term_uses}
use Rattle.sq_graph.specs.Words.{block_words, procedure_words}
use Rattle.sq_graph.proofs.RulesByBlock.{ItemStands, BlockStands, BodyStands, by_block}
use Rattle.sq_write.specs.Output.{Relocation}
use Rattle.sq_write.specs.Points.{Point, new_address, high_entry, low_entry, item_point, items_points, plain_point, term_points, block_points, blocks_points, procedure_points, procedures_at, procedures_points, text_points}
use Rattle.sq_write.proofs.Lengths.{length_items, length_term, length_blocks}
use Rattle.law_written.proofs.Pairs.{all_append}

-- an upper and a lower half of a block's new address
pub record IsUpper (g : Graph) (lo at : ℕ) (p : Point) : Type 0 where
  pub block : ℕ
  pub there : HasBlock g block
  pub entries : p.entries ≡ high_entry at (new_address g lo block)
  pub insn : is_lui (high_half (new_address g lo block)) (Some p.insn) ≡ true

pub record IsLower (g : Graph) (lo at : ℕ) (p : Point) : Type 0 where
  pub block : ℕ
  pub there : HasBlock g block
  pub entries : p.entries ≡ low_entry at (new_address g lo block)
  pub insn : has_low_i (low_half (new_address g lo block)) (Some p.insn) ≡ true

abbrev pub Shape : Graph → ℕ → ℕ → Point → Type 0
Shape g lo at p = (p.entries ≡ []) ⊎ (IsUpper g lo at p ⊎ IsLower g lo at p)

-- points that stand from an address on
abbrev pub AreShaped : Graph → ℕ → ℕ → List Point → Type 0
AreShaped g lo at [] = Unit {0}
AreShaped g lo at (p ∷ ps) = Shape g lo at p × AreShaped g lo (at + 4) ps

same_half : (z : ℤ) → int_eq z z ≡ true
same_half z = grind (arith, nat_tests, Decides-int_eq)

module _ (g : Graph) (lo : ℕ) where
  shaped_append : (xs ys : List Point) (at to : ℕ) → to ≡ at + 4 * length xs → AreShaped g lo at xs → AreShaped g lo to ys → AreShaped g lo at (xs ++ ys)
  shaped_append [] ys at to e front back = let same : to ≡ at = omega (arith, e) in subst (λ x. AreShaped g lo x ys) same back
  shaped_append (x ∷ xs) ys at to e front back = (front.0, shaped_append xs ys (at + 4) to (omega (arith, e)) front.1 back)

  item_shaped : (item : Item) (at : ℕ) → All (HasBlock g) (item_uses item) → Shape g lo at (item_point g lo at item)
  item_shaped (Op insn) at names = inl refl
  item_shaped (Hi rd to) at names =
      inr (inl (record { block = to; there = All-head (HasBlock g) to [] names; entries = refl; insn = eq-eqb (high_half (new_address g lo to)) (high_half (new_address g lo to)) refl }))
  item_shaped (Lo rd rs to) at names =
      inr (inr (record { block = to; there = All-head (HasBlock g) to [] names; entries = refl; insn = same_half (low_half (new_address g lo to)) }))
  item_shaped (Out p) at names = inl refl

  abbrev Keeps : Item → Type 0
  Keeps = ItemStands (HasBlock g) (HasProcedure g)

  items_shaped : (items : List Item) (at : ℕ) → All Keeps items → AreShaped g lo at (items_points g lo at items)
  items_shaped [] at all = tt
  items_shaped (item ∷ items) at all =
      let keeps = All-head {X = Item} Keeps item items all in
      (item_shaped item at keeps.names, items_shaped items (at + 4) (All-tail {X = Item} Keeps item items all))

  term_shaped : (t : Term) (at : ℕ) → All (HasBlock g) (term_uses t) → AreShaped g lo at (term_points g lo at t)
  term_shaped Fall at names = tt
  term_shaped (Jump to) at names = (inl refl, tt)
  term_shaped (Branch c a b to) at names = (inl refl, tt)
  term_shaped (Call link to) at names = (inl refl, tt)
  term_shaped (PartJump link part to) at names = (
    inr (inr (record { block = to; there = All-head (HasBlock g) to [] names; entries = refl; insn = same_half (low_half (new_address g lo to)) })),
    tt,
  )
  term_shaped (Indirect link register offset) at names = (inl refl, tt)
  term_shaped (Stop word) at names = (inl refl, tt)

  pub block_length : (b : Block) (at : ℕ) → length (block_points g lo at b) ≡ block_words b
  block_length b at =
      omega (arith, length-append (items_points g lo at b.items) (term_points g lo (at + 4 * length b.items) b.term), length_items g lo at b.items, length_term g lo (at + 4 * length b.items) b.term)

  blocks_shaped : (bs : List Block) (at : ℕ) → All (BlockStands (HasBlock g) (HasProcedure g)) bs → AreShaped g lo at (blocks_points g lo at bs)
  blocks_shaped [] at all = tt
  blocks_shaped (b ∷ bs) at all =
      let keeps = All-head {X = Block} (BlockStands (HasBlock g) (HasProcedure g)) b bs all in
      let next : at + 4 * block_words b ≡ at + 4 * length (block_points g lo at b) = omega (arith, block_length b at) in
      let middle : at + 4 * length b.items ≡ at + 4 * length (items_points g lo at b.items) = omega (arith, length_items g lo at b.items) in
      shaped_append (block_points g lo at b) (blocks_points g lo (at + 4 * block_words b) bs) at (at + 4 * block_words b) next
      (shaped_append (items_points g lo at b.items) (term_points g lo (at + 4 * length b.items) b.term) at (at + 4 * length b.items) middle (items_shaped b.items at keeps.items) (term_shaped b.term (at + 4 * length b.items) keeps.names))
      (blocks_shaped bs (at + 4 * block_words b) (All-tail {X = Block} (BlockStands (HasBlock g) (HasProcedure g)) b bs all))

  procedures_shaped : (ps : List Procedure) (at : ℕ) → All (BodyStands (HasBlock g) (HasProcedure g)) ps → AreShaped g lo at (procedures_points g lo at ps)
  procedures_shaped [] at all = tt
  procedures_shaped (p ∷ ps) at all =
      let keeps = All-head {X = Procedure} (BodyStands (HasBlock g) (HasProcedure g)) p ps all in
      let last = plain_point (Jalr 0 p.link (pos 0)) in
      let size : length (procedure_points g lo at p) ≡ procedure_words p = omega (arith, length-append (items_points g lo at p.body) (plain_point (Jalr 0 p.link (pos 0))), length_items g lo at p.body) in
      let next : at + 4 * procedure_words p ≡ at + 4 * length (procedure_points g lo at p) = omega (arith, size) in
      shaped_append (procedure_points g lo at p) (procedures_points g lo (at + 4 * procedure_words p) ps) at (at + 4 * procedure_words p) next
      (shaped_append (items_points g lo at p.body) (plain_point (Jalr 0 p.link (pos 0))) at (at + 4 * length (items_points g lo at p.body)) refl (items_shaped p.body at keeps.items) (inl refl, tt))
      (procedures_shaped ps (at + 4 * procedure_words p) (All-tail {X = Procedure} (BodyStands (HasBlock g) (HasProcedure g)) p ps all))

  pub text_shaped : IsGraph g → AreShaped g lo lo (text_points g lo)
  text_shaped rules =
      let by = by_block (HasBlock g) (HasProcedure g) g rules rules.named_all rules.called_all in
      let blocks = blocks_points g lo lo g.blocks in
      let ends : procedures_at g lo ≡ lo + 4 * length (blocks_points g lo lo g.blocks) = omega (arith, length_blocks g lo lo g.blocks) in
      shaped_append (blocks_points g lo lo g.blocks) (procedures_points g lo (procedures_at g lo) g.procedures) lo (procedures_at g lo) ends
      (blocks_shaped g.blocks lo by.blocks) (procedures_shaped g.procedures (procedures_at g lo) by.bodies)

  -- a relocation of a word of text between two addresses
  pub record IsHalf (low high : ℕ) (r : Relocation) : Type 0 where
    pub begins : low ≤ r.offset
    pub ends : r.offset + 4 ≤ high
    pub kind : (r.kind ≡ 26) ⊎ (r.kind ≡ 27)
    pub block : ℕ
    pub there : HasBlock g block
    pub addend : r.addend ≡ new_address g lo block

  abbrev pub entries_in : List Point → List Relocation
  entries_in ps = flat_map (λ (p : Point). p.entries) ps

  pub point_halves : (low high at : ℕ) (p : Point) → low ≤ at → at + 4 ≤ high → Shape g lo at p → AllByRecursion (IsHalf low high) p.entries
  point_halves low high at p below within (inl none) = subst (λ es. AllByRecursion (IsHalf low high) es) (sym none) tt
  point_halves low high at p below within (inr (inl upper)) =
      subst (λ es. AllByRecursion (IsHalf low high) es) (sym upper.entries)
      (record { begins = below; ends = within; kind = inl refl; block = upper.block; there = upper.there; addend = refl }, tt)
  point_halves low high at p below within (inr (inr lower)) =
      subst (λ es. AllByRecursion (IsHalf low high) es) (sym lower.entries)
      (record { begins = below; ends = within; kind = inr refl; block = lower.block; there = lower.there; addend = refl }, tt)

  pub halves_of : (ps : List Point) (low high at : ℕ) → low ≤ at → at + 4 * length ps ≤ high → AreShaped g lo at ps → AllByRecursion (IsHalf low high) (entries_in ps)
  halves_of [] low high at below within shaped = tt
  halves_of (p ∷ ps) low high at below within shaped =
      all_append (IsHalf low high) p.entries (entries_in ps)
      (point_halves low high at p below (omega arith) shaped.0)
      (halves_of ps low high (at + 4) (omega arith) (omega arith) shaped.1)
