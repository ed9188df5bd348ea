-- How many words, entries and bytes a graph's text has.
use Rattle.std.proofs.Common.{◌≡◌, ℕ, suc, Bool, true, false, ◌⊎◌, inl, inr, ◌+◌, ◌*◌, ◌≤◌, List, [], ◌∷◌, ◌++◌, pos, map, filter, length, sum_by, nat_lt, nat_le, refl, ap, ◌∙◌, arith, length-append}
use Rattle.std.specs.List.{flat_map}
use Rattle.std.proofs.lemmas.Bool.{cases_Bool}
use Rattle.std.proofs.lemmas.List.{length-map}
use Rattle.std.proofs.lemmas.List.Concat.{flat_map-append}
use Rattle.std.proofs.lemmas.List.Sums.{sum_by-cons}
use Rattle.sq_isa.specs.declared.instructions.Insn.TheVariants.{Jalr}
use Rattle.sq_graph.specs.declared.item.Item.{Item}
use Rattle.sq_graph.specs.declared.item.Item.TheVariants.{Op, Hi, Lo, Out}
use Rattle.sq_graph.specs.declared.item.Term.{Term}
use Rattle.sq_graph.specs.declared.item.Term.TheVariants.{Fall, Jump, Branch, Call, PartJump, Indirect, Stop}
use Rattle.sq_graph.specs.declared.parts.CodeRef.{CodeRef}
use Rattle.sq_graph.specs.Graph.{Block, Procedure, Graph}
use Rattle.sq_graph.specs.Words.{term_words, block_words, procedure_words, words_of}
use Rattle.sq_write.specs.Output.{words, Relocation, relocation_table}
use Rattle.sq_write.specs.Points.{Point, plain_point, point_word, items_points, term_points, block_points, blocks_points, procedure_points, procedures_at, procedures_points, text_points}
use Rattle.sq_write.specs.Written.{word_entry, entries_of, note_entries, note_from, note_of}
use Rattle.sq_write.proofs.Splitting.{length_words}

module _ (g : Graph) (lo : ℕ) where
  pub length_items : (at : ℕ) (items : List Item) → length (items_points g lo at items) ≡ length items
  length_items at [] = refl
  length_items at (item ∷ items) = omega (arith, length_items (at + 4) items)

  pub length_term : (at : ℕ) (t : Term) → length (term_points g lo at t) ≡ term_words t
  length_term at Fall = refl
  length_term at (Jump to) = refl
  length_term at (Branch c a b to) = refl
  length_term at (Call link to) = refl
  length_term at (PartJump link part to) = refl
  length_term at (Indirect link register offset) = refl
  length_term at (Stop word) = refl

  pub length_blocks : (at : ℕ) (bs : List Block) → length (blocks_points g lo at bs) ≡ sum_by block_words bs
  length_blocks at [] = refl
  length_blocks at (b ∷ bs) =
      omega (arith, length-append (block_points g lo at b) (blocks_points g lo (at + 4 * block_words b) bs), length-append (items_points g lo at b.items) (term_points g lo (at + 4 * length b.items) b.term), length_items at b.items, length_term (at + 4 * length b.items) b.term, length_blocks (at + 4 * block_words b) bs, sum_by-cons block_words b bs)

  length_procedures : (at : ℕ) (ps : List Procedure) → length (procedures_points g lo at ps) ≡ sum_by procedure_words ps
  length_procedures at [] = refl
  length_procedures at (p ∷ ps) =
      omega (arith, length-append (procedure_points g lo at p) (procedures_points g lo (at + 4 * procedure_words p) ps), length-append (items_points g lo at p.body) (plain_point (Jalr 0 p.link (pos 0))), length_items at p.body, length_procedures (at + 4 * procedure_words p) ps, sum_by-cons procedure_words p ps)

  pub length_text : length (text_points g lo) ≡ words_of g
  length_text =
      omega (arith, length-append (blocks_points g lo lo g.blocks) (procedures_points g lo (procedures_at g lo) g.procedures), length_blocks lo g.blocks, length_procedures (procedures_at g lo) g.procedures)

  pub text_bytes : length (words (map point_word (text_points g lo))) ≡ 4 * words_of g
  text_bytes = omega (arith, length_words (map point_word (text_points g lo)), length-map (text_points g lo) point_word, length_text)

  -- a word has one relocation entry at most
  abbrev entries_in : List Point → List Relocation
  entries_in points = flat_map (λ (p : Point). p.entries) points

  entries-append : (ps qs : List Point) → length (entries_in (ps ++ qs)) ≡ length (entries_in ps) + length (entries_in qs)
  entries-append ps qs = ap length (flat_map-append (λ (p : Point). p.entries) ps qs) ∙ length-append (entries_in ps) (entries_in qs)

  few_of_items : (at : ℕ) (items : List Item) → length (entries_in (items_points g lo at items)) ≤ length items
  few_of_items at [] = omega arith
  few_of_items at (Op insn ∷ items) = omega (arith, few_of_items (at + 4) items)
  few_of_items at (Hi rd to ∷ items) = omega (arith, few_of_items (at + 4) items)
  few_of_items at (Lo rd rs to ∷ items) = omega (arith, few_of_items (at + 4) items)
  few_of_items at (Out p ∷ items) = omega (arith, few_of_items (at + 4) items)

  few_of_term : (at : ℕ) (t : Term) → length (entries_in (term_points g lo at t)) ≤ term_words t
  few_of_term at Fall = omega arith
  few_of_term at (Jump to) = omega arith
  few_of_term at (Branch c a b to) = omega arith
  few_of_term at (Call link to) = omega arith
  few_of_term at (PartJump link part to) = omega arith
  few_of_term at (Indirect link register offset) = omega arith
  few_of_term at (Stop word) = omega arith

  few_of_blocks : (at : ℕ) (bs : List Block) → length (entries_in (blocks_points g lo at bs)) ≤ sum_by block_words bs
  few_of_blocks at [] = omega arith
  few_of_blocks at (b ∷ bs) =
      omega (arith, entries-append (block_points g lo at b) (blocks_points g lo (at + 4 * block_words b) bs), entries-append (items_points g lo at b.items) (term_points g lo (at + 4 * length b.items) b.term), few_of_items at b.items, few_of_term (at + 4 * length b.items) b.term, few_of_blocks (at + 4 * block_words b) bs, sum_by-cons block_words b bs)

  few_of_procedures : (at : ℕ) (ps : List Procedure) → length (entries_in (procedures_points g lo at ps)) ≤ sum_by procedure_words ps
  few_of_procedures at [] = omega arith
  few_of_procedures at (p ∷ ps) =
      omega (arith, entries-append (procedure_points g lo at p) (procedures_points g lo (at + 4 * procedure_words p) ps), entries-append (items_points g lo at p.body) (plain_point (Jalr 0 p.link (pos 0))), few_of_items at p.body, few_of_procedures (at + 4 * procedure_words p) ps, sum_by-cons procedure_words p ps)

  few_of_text : length (entries_in (text_points g lo)) ≤ words_of g
  few_of_text =
      omega (arith, entries-append (blocks_points g lo lo g.blocks) (procedures_points g lo (procedures_at g lo) g.procedures), few_of_blocks lo g.blocks, few_of_procedures (procedures_at g lo) g.procedures)

  few_kept : (p : CodeRef → Bool) (ws : List CodeRef) → length (map (word_entry g lo) (filter p ws)) ≤ length ws
  few_kept p [] = omega arith
  few_kept p (w ∷ ws) = by_test (cases_Bool (p w)) (few_kept p ws)
    where
      by_test : (p w ≡ true) ⊎ (p w ≡ false) → length (map (word_entry g lo) (filter p ws)) ≤ length ws → length (map (word_entry g lo) (filter p (w ∷ ws))) ≤ suc (length ws)
      by_test (inl e) more = rw e (omega arith)
      by_test (inr e) more = rw e (omega arith)

  table_size : (rs : List Relocation) → length (relocation_table rs) ≡ 12 * length rs
  table_size [] = refl
  table_size (r ∷ rs) = omega (arith, table_size rs)

  pub few_entries : length (relocation_table (entries_of g lo)) ≤ 12 * (2 * length g.code_words + words_of g)
  few_entries =
      let before = map (word_entry g lo) (filter (λ word. nat_lt word.at lo) g.code_words) in
      let behind = map (word_entry g lo) (filter (λ word. nat_le lo word.at) g.code_words) in
      omega (arith, table_size (entries_of g lo), length-append (before ++ entries_in (text_points g lo)) behind, length-append before (entries_in (text_points g lo)), few_kept (λ word. nat_lt word.at lo) g.code_words, few_kept (λ word. nat_le lo word.at) g.code_words, few_of_text)

  note_size : (at : ℕ) (ps : List Procedure) → length (note_entries at ps) ≡ 12 * length ps
  note_size at [] = refl
  note_size at (p ∷ ps) = omega (arith, note_size (at + 4 * procedure_words p) ps)

  few_procedures : (ps : List Procedure) → length ps ≤ sum_by procedure_words ps
  few_procedures [] = omega arith
  few_procedures (p ∷ ps) = omega (arith, few_procedures ps, sum_by-cons procedure_words p ps)

  note_from_size : (at : ℕ) (ps : List Procedure) → length (note_from at ps) ≡ 8 + 12 * length ps
  note_from_size at [] = refl
  note_from_size at (p ∷ ps) = omega (arith, note_size at (p ∷ ps))

  pub few_noted : length (note_of g lo) ≤ 8 + 12 * words_of g
  few_noted = omega (arith, note_from_size (procedures_at g lo) g.procedures, few_procedures g.procedures)
