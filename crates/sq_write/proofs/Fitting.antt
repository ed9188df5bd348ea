-- Each word of a graph's text fits where it stands, where the graph is in reach and its words are those of at most one
-- mebibyte.
use Rattle.std.proofs.Common.{◌≡◌, ℕ, zero, suc, pos, ◌-ℤ◌, ◌+◌, ◌*◌, ◌<◌, ◌≤◌, ◌==◌, true, false, ◌⊎◌, inl, inr, List, [], ◌∷◌, length, sum_by, Some, IsSome, option_map, slice_get, refl, ap, ◌∙◌, arith}
use Rattle.std.specs.List.{All}
use Rattle.std.specs.Option.{unwrap_or}
use Rattle.std.proofs.lemmas.Bool.{cases_Bool}
use Rattle.std.proofs.lemmas.Int.{ints}
use Rattle.std.proofs.lemmas.List.Elements.{All-head, All-tail}
use Rattle.std.proofs.lemmas.List.Sums.{sum_by-cons}
use Rattle.sq_arena.specs.Entries.{value_of}
use Rattle.sq_isa.specs.declared.instructions.Insn.{Insn}
use Rattle.sq_isa.specs.declared.instructions.Insn.TheVariants.{Lui, Auipc, Jal, Jalr, Branch as BranchInsn, Load, Store, OpImm, Op as OpInsn, Fence, Ecall, Ebreak, Unimp, Atomic}
use Rattle.sq_isa.specs.Ranges.{IsSigned, IsEven}
use Rattle.sq_graph.specs.declared.item.Item.{Item}
use Rattle.sq_graph.specs.declared.item.Item.TheVariants.{Op, Hi, Lo, Out}
use Rattle.sq_graph.specs.declared.item.Term.{Term}
use Rattle.sq_graph.specs.declared.item.Term.TheVariants.{Fall, Jump, Branch, Call, PartJump, Indirect, Stop}
use Rattle.sq_graph.specs.Graph.{Block, Procedure, Graph}
use Rattle.sq_graph.specs.Blocks.{named, HasBlock, HasProcedure}
use Rattle.sq_graph.specs.Rules.{IsGraph, IsOperation, TermFits, last_goes_on}
use Rattle.sq_graph.specs.Uses.{term_uses}
use Rattle.sq_graph.specs.Words.{term_words, block_words, procedure_words, words_of}
use Rattle.sq_graph.specs.Places.{address_in, block_address, procedure_addresses, Reaches, TermReaches, BranchesReach, IsInReach}
use Rattle.sq_graph.proofs.RulesByBlock.{ItemStands as ItemKeeps, BlockStands as BlockKeeps, BodyStands as BodyKeeps, by_block}
use Rattle.sq_layout.proofs.Counts.{word_is_left}
use Rattle.sq_write.specs.Points.{new_address, new_start, offset_to, procedures_at, stop_insn}
use Rattle.sq_write.specs.Standing.{OffsetFits, ItemStands, ItemsStand, TermStands, BlocksStand, ProceduresStand, TextStands}

-- a jump within one mebibyte
jump_fits : (lo at to j k : ℕ) → at ≡ lo + 4 * j → to ≡ lo + 4 * k → j < 262144 → k < 262144 → IsSigned 21 (offset_to at to) × IsEven (offset_to at to)
jump_fits lo at to j k e f g h = (omega (arith, ints), omega (arith, ints))

branch_fits : (lo at to j k m : ℕ) → at ≡ lo + 4 * j → to ≡ lo + 4 * k → m ≡ 4 * j → Reaches (pos (4 * k) -ℤ pos m) → IsSigned 13 (offset_to at to) × IsEven (offset_to at to)
branch_fits lo at to j k m e f g reach =
    let least = reach.least in
    let most = reach.most in
    (omega (arith, ints), omega (arith, ints))

-- Where blocks stand, in words from the start of text
pub record Spot (words address : ℕ) : Type 0 where
  pub place : ℕ
  pub is : address ≡ 4 * place
  pub within : place < words

-- a block that is there has a spot
block_spot : (bs : List Block) (at j n : ℕ) → at ≡ 4 * j → last_goes_on bs ≡ false → IsSome (value_of (named bs) n) → (a : ℕ) × (address_in bs at n ≡ Some a) × Spot (j + sum_by block_words bs) a
block_spot [] at j n e ends there = absurd (cc)
block_spot (b ∷ rest) at j n e ends there =
    by_test (cases_Bool (b.name == n)) (λ d. block_spot rest (at + 4 * block_words b) (j + block_words b) n (omega arith) d)
  where
    rest_ends : (rest : List Block) → last_goes_on (b ∷ rest) ≡ false → IsSome (value_of (named rest) n) → last_goes_on rest ≡ false
    rest_ends [] d some = absurd (cc)
    rest_ends (x ∷ xs) d some = d

    widen : (a : ℕ) → Spot (j + block_words b + sum_by block_words rest) a → Spot (j + sum_by block_words (b ∷ rest)) a
    widen a s = record { place = s.place; is = s.is; within = omega (arith, s.within, sum_by-cons block_words b rest) }

    by_test : ((b.name == n) ≡ true) ⊎ ((b.name == n) ≡ false) → (last_goes_on rest ≡ false → IsSome (value_of (named rest) n) → (a : ℕ) × (address_in rest (at + 4 * block_words b) n ≡ Some a) × Spot (j + block_words b + sum_by block_words rest) a) → (a : ℕ) × (address_in (b ∷ rest) at n ≡ Some a) × Spot (j + sum_by block_words (b ∷ rest)) a
    by_test (inl same) more =
        (at, rw same refl, record { place = j; is = e; within = omega (arith, word_is_left b rest ends) })
    by_test (inr apart) more =
        let some : IsSome (value_of (named rest) n) = rw apart at there in
        let found = more (rest_ends rest ends some) some in
        (found.0, rw apart found.1, widen found.0 found.2)

-- addresses from `lo` on are those from 0 on, and `lo`
shifted : (lo : ℕ) (bs : List Block) (m at n : ℕ) → at ≡ lo + m → address_in bs at n ≡ option_map (λ a. lo + a) (address_in bs m n)
shifted lo [] m at n e = refl
shifted lo (b ∷ rest) m at n e =
    by_test (cases_Bool (b.name == n)) (shifted lo rest (m + 4 * block_words b) (at + 4 * block_words b) n (omega arith))
  where
    by_test : ((b.name == n) ≡ true) ⊎ ((b.name == n) ≡ false) → address_in rest (at + 4 * block_words b) n ≡ option_map (λ a. lo + a) (address_in rest (m + 4 * block_words b) n) → address_in (b ∷ rest) at n ≡ option_map (λ a. lo + a) (address_in (b ∷ rest) m n)
    by_test (inl same) more = rw same (ap Some e)
    by_test (inr apart) more = rw apart more

procedure_spot : (lo : ℕ) (ps : List Procedure) (at j p : ℕ) → at ≡ lo + 4 * j → p < length ps → (a : ℕ) × (slice_get (procedure_addresses ps at) p ≡ Some (lo + a)) × Spot (j + sum_by procedure_words ps) a
procedure_spot lo [] at j p e within = absurd (omega arith)
procedure_spot lo (q ∷ ps) at j zero e within =
    (4 * j, ap Some e, record { place = j; is = refl; within = omega (arith, sum_by-cons procedure_words q ps) })
procedure_spot lo (q ∷ ps) at j (suc p) e within =
    widen (procedure_spot lo ps (at + 4 * procedure_words q) (j + procedure_words q) p (omega arith) (omega arith))
  where
    widen : (a : ℕ) × (slice_get (procedure_addresses ps (at + 4 * procedure_words q)) p ≡ Some (lo + a)) × Spot (j + procedure_words q + sum_by procedure_words ps) a → (a : ℕ) × (slice_get (procedure_addresses (q ∷ ps) at) (suc p) ≡ Some (lo + a)) × Spot (j + sum_by procedure_words (q ∷ ps)) a
    widen found =
        (found.0, found.1, record { place = found.2.place; is = found.2.is; within = omega (arith, found.2.within, sum_by-cons procedure_words q ps) })

-- an Op is no jump and no branch
operation_fits : (insn : Insn) → IsOperation insn → OffsetFits insn
operation_fits (Jal rd offset) op = absurd op
operation_fits (BranchInsn c a b offset) op = absurd op
operation_fits (Lui rd upper) op = tt
operation_fits (Auipc rd upper) op = tt
operation_fits (Jalr rd rs offset) op = tt
operation_fits (Load kind rd rs offset) op = tt
operation_fits (Store kind rs src offset) op = tt
operation_fits (OpImm o rd rs imm) op = tt
operation_fits (OpInsn o rd a b) op = tt
operation_fits (Fence word) op = tt
operation_fits Ecall op = tt
operation_fits Ebreak op = tt
operation_fits (Unimp word) op = tt
operation_fits (Atomic o order rd rs src) op = tt

stop_fits : (word : ℕ) → OffsetFits (stop_insn word)
stop_fits word = elim (cases_Bool (word == 0x00100073)) [ inl same ↦ rw same tt | inr apart ↦ rw apart tt ]

module _ (g : Graph) (lo : ℕ) (rules : IsGraph g) (few : words_of g ≤ 262144) where
  pub new_spot : (n : ℕ) → HasBlock g n → (a : ℕ) × (block_address g 0 n ≡ Some a) × (new_address g lo n ≡ lo + a) × Spot (words_of g) a
  new_spot n there =
      let found = block_spot g.blocks 0 0 n refl rules.ends there in
      let shift : block_address g lo n ≡ option_map (λ a. lo + a) (block_address g 0 n) = shifted lo g.blocks 0 lo n (omega arith) in
      (found.0, found.1, ap (λ o. unwrap_or o 0) (shift ∙ ap (option_map (λ a. lo + a)) found.1), record { place = found.2.place; is = found.2.is; within = omega (arith, found.2.within) })

  start_spot : (p : ℕ) → HasProcedure g p → (a : ℕ) × (new_start g lo p ≡ lo + a) × Spot (words_of g) a
  start_spot p there =
      let found = procedure_spot lo g.procedures (procedures_at g lo) (sum_by block_words g.blocks) p refl there in
      (found.0, ap (λ o. unwrap_or o 0) found.1, found.2)

  item_stands : (item : Item) (at j : ℕ) → at ≡ lo + 4 * j → j < words_of g → ItemKeeps (HasBlock g) (HasProcedure g) item → ItemStands g lo at item
  item_stands (Op insn) at j e within keeps = (keeps.fits, operation_fits insn keeps.fits.0)
  item_stands (Hi rd to) at j e within keeps = (keeps.fits, tt)
  item_stands (Lo rd rs to) at j e within keeps = (keeps.fits, tt)
  item_stands (Out p) at j e within keeps =
      let found = start_spot p (All-head (HasProcedure g) p [] keeps.calls) in
      (tt, jump_fits lo at (new_start g lo p) j found.2.place e (omega (arith, found.1, found.2.is)) (omega (arith, few)) (omega (arith, few, found.2.within)))

  items_stand : (items : List Item) (at j : ℕ) → at ≡ lo + 4 * j → j + length items ≤ words_of g → All (ItemKeeps (HasBlock g) (HasProcedure g)) items → ItemsStand g lo at items
  items_stand [] at j e within all = tt
  items_stand (item ∷ items) at j e within all = (
    item_stands item at j e (omega arith) (All-head {X = Item} (ItemKeeps (HasBlock g) (HasProcedure g)) item items all),
    items_stand items (at + 4) (j + 1) (omega arith) (omega arith) (All-tail {X = Item} (ItemKeeps (HasBlock g) (HasProcedure g)) item items all),
  )

  jump_stands : (rd to at j : ℕ) → at ≡ lo + 4 * j → j < words_of g → HasBlock g to → OffsetFits (Jal rd (offset_to at (new_address g lo to)))
  jump_stands rd to at j e within there =
      let found = new_spot to there in
      jump_fits lo at (new_address g lo to) j found.3.place e (omega (arith, found.2, found.3.is)) (omega (arith, few)) (omega (arith, few, found.3.within))

  term_stands : (t : Term) (at m j : ℕ) → at ≡ lo + 4 * j → m ≡ 4 * j → j + term_words t ≤ words_of g → All (HasBlock g) (term_uses t) → TermFits t → TermReaches g m t → TermStands g lo at t
  term_stands Fall at m j e f within names fits reach = (fits, tt)
  term_stands (Jump to) at m j e f within names fits reach =
      (fits, (jump_stands 0 to at j e (omega arith) (All-head (HasBlock g) to [] names), tt))
  term_stands (Branch c a b to) at m j e f within names fits reach =
      let found = new_spot to (All-head (HasBlock g) to [] names) in
      let near = rw found.3.is at (reach found.0 found.1) in
      (fits, (branch_fits lo at (new_address g lo to) j found.3.place m e (omega (arith, found.2, found.3.is)) f near, tt))
  term_stands (Call link to) at m j e f within names fits reach =
      (fits, (jump_stands link to at j e (omega arith) (All-head (HasBlock g) to [] names), tt))
  term_stands (PartJump link part to) at m j e f within names fits reach = (fits, (tt, tt))
  term_stands (Indirect link register offset) at m j e f within names fits reach = (fits, (tt, tt))
  term_stands (Stop word) at m j e f within names fits reach = (fits, (stop_fits word, tt))

  blocks_stand : (bs : List Block) (at m j : ℕ) → at ≡ lo + 4 * j → m ≡ 4 * j → j + sum_by block_words bs ≤ words_of g → All (BlockKeeps (HasBlock g) (HasProcedure g)) bs → BranchesReach g m bs → BlocksStand g lo at bs
  blocks_stand [] at m j e f within all reach = tt
  blocks_stand (b ∷ bs) at m j e f within all reach =
      let keeps = All-head (BlockKeeps (HasBlock g) (HasProcedure g)) b bs all in
      let sum = sum_by-cons block_words b bs in (
        (
          items_stand b.items at j e (omega (arith, sum)) keeps.items,
          term_stands b.term (at + 4 * length b.items) (m + 4 * length b.items) (j + length b.items) (omega arith) (omega arith) (omega (arith, sum)) keeps.names keeps.fits reach.0,
        ),
        blocks_stand bs (at + 4 * block_words b) (m + 4 * block_words b) (j + block_words b) (omega arith) (omega arith) (omega (arith, sum)) (All-tail (BlockKeeps (HasBlock g) (HasProcedure g)) b bs all) reach.1,
      )

  procedures_stand : (ps : List Procedure) (at j : ℕ) → at ≡ lo + 4 * j → j + sum_by procedure_words ps ≤ words_of g → All (BodyKeeps (HasBlock g) (HasProcedure g)) ps → ProceduresStand g lo at ps
  procedures_stand [] at j e within all = tt
  procedures_stand (p ∷ ps) at j e within all =
      let keeps = All-head (BodyKeeps (HasBlock g) (HasProcedure g)) p ps all in
      let sum = sum_by-cons procedure_words p ps in (
        items_stand p.body at j e (omega (arith, sum)) keeps.items,
        procedures_stand ps (at + 4 * procedure_words p) (j + procedure_words p) (omega arith) (omega (arith, sum)) (All-tail (BodyKeeps (HasBlock g) (HasProcedure g)) p ps all),
      )

  pub text_stands : IsInReach g → TextStands g lo
  text_stands reach =
      let by = by_block (HasBlock g) (HasProcedure g) g rules rules.named_all rules.called_all in
      record {
        blocks = blocks_stand g.blocks lo 0 0 (omega arith) refl (omega arith) by.blocks reach;
        procedures = procedures_stand g.procedures (procedures_at g lo) (sum_by block_words g.blocks) refl (omega arith) by.bodies;
      }
