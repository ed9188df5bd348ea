-- The points of a graph's text are instructions whose fields fit.
use Rattle.std.proofs.Common.{◌≡◌, inl, inr, ℕ, zero, suc, pos, ◌-ℤ◌, ◌+◌, ◌*◌, ◌%◌, ◌^◌, ◌<◌, nat_lt, Bool, true, false, ◌==◌, List, [], ◌∷◌, ◌++◌, length, if◌then◌else◌, slice_get, refl, sym, ◌∙◌, arith, eq-eqb}
use Rattle.std.specs.Option.{unwrap_or}
use Rattle.std.specs.List.{All}
use Rattle.std.proofs.lemmas.Bool.Decides.{nat_tests}
use Rattle.std.proofs.lemmas.Int.{ints}
use Rattle.std.proofs.lemmas.List.Elements.{All-head, All-tail}
use Rattle.sq_num.specs.Halves.{high_half, low_half}
use Rattle.sq_isa.specs.declared.instructions.Insn.TheVariants.{Jalr, Ebreak, Unimp}
use Rattle.sq_isa.specs.Ranges.{IsRegister, IsSigned, FieldsFit}
use Rattle.sq_graph.specs.declared.item.Item.{Item}
use Rattle.sq_graph.specs.declared.item.Item.TheVariants.{Op, Hi, Lo, Out}
use Rattle.sq_graph.specs.declared.item.Term.{Term}
use Rattle.sq_graph.specs.declared.item.Term.TheVariants.{Fall, Jump, Branch, Call, PartJump, Indirect, Stop}
use Rattle.sq_graph.specs.Graph.{Block, Procedure, Graph}
use Rattle.sq_graph.specs.Blocks.{procedure_link}
use Rattle.sq_graph.specs.Rules.{IsGraph, IsStop, ProcedureFits}
use Rattle.sq_graph.specs.Words.{block_words, procedure_words}
use Rattle.sq_write.specs.Points.{Point, new_address, item_insn, items_points, stop_insn, plain_point, term_points, block_points, blocks_points, procedure_points, procedures_points, procedures_at, text_points}
use Rattle.sq_write.specs.Standing.{ItemStands, ItemsStand, TermStands, BlocksStand, ProceduresStand, TextStands}

high_small : (t : ℕ) → high_half t < 2 ^ 20
high_small t = omega arith

low_small : (t : ℕ) → IsSigned 12 (low_half t)
low_small t = go (nat_lt (t % 4096) 2048) refl
  where
    go : (b : Bool) → nat_lt (t % 4096) 2048 ≡ b → IsSigned 12 (if b then pos (t % 4096) else (pos (t % 4096) -ℤ pos 4096))
    go true e = (grind (arith, nat_tests), grind (arith, nat_tests))
    go false e = (grind (arith, nat_tests), grind (arith, nat_tests))

abbrev pub AllFit : List Point → Type 0
AllFit [] = Unit {0}
AllFit (p ∷ ps) = FieldsFit p.insn × AllFit ps

both_fit : (xs ys : List Point) → AllFit xs → AllFit ys → AllFit (xs ++ ys)
both_fit [] ys h k = k
both_fit (x ∷ xs) ys h k = (h.0, both_fit xs ys h.1 k)

link_fits : (ps : List Procedure) (index : ℕ) → All ProcedureFits ps → IsRegister (unwrap_or (procedure_link (slice_get ps index)) 0)
link_fits [] index all = omega arith
link_fits (p ∷ ps) zero all = let fits = All-head ProcedureFits p ps all in fits.register
link_fits (p ∷ ps) (suc index) all = link_fits ps index (All-tail ProcedureFits p ps all)

stop_insn_fits : (word : ℕ) → IsStop word → FieldsFit (stop_insn word)
stop_insn_fits word stops = go (word == 0x00100073) refl
  where
    go : (b : Bool) → (word == 0x00100073) ≡ b → FieldsFit (if b then Ebreak else Unimp word)
    go true e = tt
    go false e = elim stops [ inl same ↦ absurd (let f : true ≡ false = sym (eq-eqb word 0x00100073 same) ∙ e in cc) | inr unimp ↦ unimp ]

module _ (g : Graph) (lo : ℕ) (rules : IsGraph g) where
  item_fits : (item : Item) (at : ℕ) → ItemStands g lo at item → FieldsFit (item_insn g lo at item)
  item_fits (Op insn) at s = s.0.1
  item_fits (Hi rd to) at s = (s.0, high_small (new_address g lo to))
  item_fits (Lo rd rs to) at s = (s.0.0, s.0.1, low_small (new_address g lo to))
  item_fits (Out p) at s = (link_fits g.procedures p rules.procedures, s.1.0, s.1.1)

  items_fit : (items : List Item) (at : ℕ) → ItemsStand g lo at items → AllFit (items_points g lo at items)
  items_fit [] at h = tt
  items_fit (item ∷ items) at h = (item_fits item at h.0, items_fit items (at + 4) h.1)

  term_fits : (t : Term) (at : ℕ) → TermStands g lo at t → AllFit (term_points g lo at t)
  term_fits Fall at s = tt
  term_fits (Jump to) at s = let h = s.1.0 in ((omega arith, h.0, h.1), tt)
  term_fits (Branch c a b to) at s = let h = s.1.0 in ((s.0.0, s.0.1, h.0, h.1), tt)
  term_fits (Call link to) at s = let h = s.1.0 in ((s.0.0, h.0, h.1), tt)
  term_fits (PartJump link part to) at s = ((s.0.0, s.0.1, low_small (new_address g lo to)), tt)
  term_fits (Indirect link register offset) at s = (s.0, tt)
  term_fits (Stop word) at s = (stop_insn_fits word s.0, tt)

  blocks_fit : (bs : List Block) (at : ℕ) → BlocksStand g lo at bs → AllFit (blocks_points g lo at bs)
  blocks_fit [] at h = tt
  blocks_fit (b ∷ bs) at h =
      let middle : ℕ = at + 4 * length b.items in
      let next : ℕ = at + 4 * block_words b in
      both_fit (block_points g lo at b) (blocks_points g lo next bs)
      (both_fit (items_points g lo at b.items) (term_points g lo middle b.term) (items_fit b.items at h.0.0) (term_fits b.term middle h.0.1))
      (blocks_fit bs next h.1)

  procedures_fit : (ps : List Procedure) (at : ℕ) → ProceduresStand g lo at ps → All ProcedureFits ps → AllFit (procedures_points g lo at ps)
  procedures_fit [] at h all = tt
  procedures_fit (p ∷ ps) at h all =
      let fits = All-head ProcedureFits p ps all in
      let next : ℕ = at + 4 * procedure_words p in
      both_fit (procedure_points g lo at p) (procedures_points g lo next ps)
      (both_fit (items_points g lo at p.body) (plain_point (Jalr 0 p.link (pos 0))) (items_fit p.body at h.0) ((omega arith, fits.register, zero_small), tt))
      (procedures_fit ps next h.1 (All-tail ProcedureFits p ps all))
    where
      zero_small : IsSigned 12 (pos 0)
      zero_small = (omega (arith, ints), omega (arith, ints))

  pub text_fits : TextStands g lo → AllFit (text_points g lo)
  text_fits h = both_fit (blocks_points g lo lo g.blocks) (procedures_points g lo (procedures_at g lo) g.procedures) (blocks_fit g.blocks lo h.blocks) (procedures_fit g.procedures (procedures_at g lo) h.procedures rules.procedures)
