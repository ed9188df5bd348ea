-- The entry, the code words and the procedures of a graph, as they are lifted from its file.
use Rattle.std.proofs.Common.{◌≡◌, ℕ, ◌+◌, ◌*◌, ◌^◌, ◌≤◌, List, [], ◌∷◌, pos, length, map, sum_by, Some, refl, ap, ◌∙◌, arith, length-append}
use Rattle.std.specs.List.{All}
use Rattle.std.specs.Option.{option_and_then}
use Rattle.std.proofs.lemmas.List.Elements.{All-head, All-tail}
use Rattle.std.proofs.lemmas.List.Sums.{sum_by-cons}
use Rattle.sq_isa.specs.declared.instructions.Insn.TheVariants.{Jalr}
use Rattle.sq_isa.proofs.Encoded.{insn_of-word_of}
use Rattle.sq_elf.specs.Text.{text_of}
use Rattle.sq_graph.specs.declared.item.Item.{Item}
use Rattle.sq_graph.specs.declared.item.Item.TheVariants.{Op, Hi, Lo, Out}
use Rattle.sq_graph.specs.declared.parts.CodeRef.{CodeRef}
use Rattle.sq_graph.specs.Graph.{Procedure, Graph}
use Rattle.sq_graph.specs.Blocks.{HasBlock, HasProcedure}
use Rattle.sq_graph.specs.Renames.{retargeted_item, retargeted_procedure, retargeted_word}
use Rattle.sq_graph.specs.Rules.{IsGraph}
use Rattle.sq_graph.specs.Uses.{item_calls}
use Rattle.sq_graph.specs.Words.{procedure_words, words_of}
use Rattle.sq_graph.proofs.RulesByBlock.{ItemStands, BodyStands, by_block}
use Rattle.law_program.specs.Readings.{marked_reading, reading_of, reading_at}
use Rattle.law_program.specs.Lifted.{with_item, body_from, procedure_of, code_ref}
use Rattle.sq_write.specs.Points.{new_address, item_point, items_points, plain_point, blocks_points, procedure_points, procedures_at, procedures_points}
use Rattle.sq_write.proofs.Fitting.{text_stands}
use Rattle.sq_write.proofs.Lengths.{length_items, length_blocks}
use Rattle.law_written.specs.Parts.{WrittenPartsLiftBack}
use Rattle.law_written.specs.Programs.{graph_text, new_code_word, notes_from}
use Rattle.law_written.specs.Readings.{item_reading}
use Rattle.law_written.specs.Words.{point_mark}
use Rattle.law_written.proofs.CodeWords.{low_word}
use Rattle.sq_write.proofs.PointFields.{text_fits}
use Rattle.law_written.proofs.NoteFaults.{AreThere, front_there, back_there, text_there}
use Rattle.law_written.proofs.Readings.{item_reads}
use Rattle.law_written.proofs.WrittenRelocations.{high, few_words}

words_back : (g : Graph) (lo : ℕ) (words : List CodeRef) → map code_ref (map (new_code_word g lo) words) ≡ map (retargeted_word (new_address g lo)) words
words_back g lo [] = refl
words_back g lo (word ∷ words) = ap (λ ws. retargeted_word (new_address g lo) word ∷ ws) (words_back g lo words)

item_back : (g : Graph) (lo : ℕ) (item : Item) (rest : List Item) → item_calls item ≡ [] → with_item (Some (item_reading g lo item)) rest ≡ retargeted_item (new_address g lo) item ∷ rest
item_back g lo (Op insn) rest calls = refl
item_back g lo (Hi rd to) rest calls = refl
item_back g lo (Lo rd rs to) rest calls = refl
item_back g lo (Out p) rest calls = absurd (cc calls)

made_procedure : ℕ → List Item → Procedure
made_procedure link body = record { link = link; body = body }

module _ (g : Graph) (lo : ℕ) (rules : IsGraph g) (few : words_of g ≤ 262144) (ends : lo + 4 * words_of g ≤ 2 ^ 32) where
  abbrev Keeps : Item → Type 0
  Keeps = ItemStands (HasBlock g) (HasProcedure g)

  body_back : (items : List Item) (at : ℕ) → lo ≤ at → at + 4 * length items ≤ lo + 4 * words_of g → All Keeps items → All (λ item. item_calls item ≡ []) items → AreThere (graph_text g lo) at (items_points g lo at items) → body_from (graph_text g lo) at (length items) ≡ map (retargeted_item (new_address g lo)) items
  body_back [] at low high keeps calls there = refl
  body_back (item ∷ items) at low high keeps calls there =
      let reading : reading_at (graph_text g lo) at ≡ Some (item_reading g lo item) =
      ap (option_and_then (reading_of (graph_text g lo) at)) there.0.0
      ∙ ap (option_and_then (marked_reading (graph_text g lo) at (point_mark (item_point g lo at item)))) (insn_of-word_of (item_point g lo at item).insn there.0.1)
      ∙ item_reads g lo rules few ends item at low (omega (arith, high)) (All-head {X = Item} Keeps item items keeps)
      in
      let more = body_back items (at + 4) (omega arith) (omega (arith, high)) (All-tail {X = Item} Keeps item items keeps) (All-tail {X = Item} (λ i. item_calls i ≡ []) item items calls) there.1 in
      ap (λ r. with_item r (body_from (graph_text g lo) (at + 4) (length items))) reading
      ∙ ap (with_item (Some (item_reading g lo item))) more
      ∙ item_back g lo item (map (retargeted_item (new_address g lo)) items) (All-head {X = Item} (λ i. item_calls i ≡ []) item items calls)

  procedures_back : (ps : List Procedure) (at : ℕ) → lo ≤ at → at + 4 * sum_by procedure_words ps ≤ lo + 4 * words_of g → All (BodyStands (HasBlock g) (HasProcedure g)) ps → AreThere (graph_text g lo) at (procedures_points g lo at ps) → map (procedure_of (graph_text g lo)) (notes_from at ps) ≡ map (retargeted_procedure (new_address g lo)) ps
  unfolding made_procedure
  procedures_back [] at low high all there = refl
  procedures_back (p ∷ ps) at low high all there =
      let keeps = All-head {X = Procedure} (BodyStands (HasBlock g) (HasProcedure g)) p ps all in
      let fits = keeps.fits in
      let sum = sum_by-cons procedure_words p ps in
      let long : length (procedure_points g lo at p) ≡ procedure_words p = omega (arith, length-append (items_points g lo at p.body) (plain_point (Jalr 0 p.link (pos 0))), length_items g lo at p.body) in
      let whole = front_there (graph_text g lo) (procedure_points g lo at p) (procedures_points g lo (at + 4 * procedure_words p) ps) at there in
      let items = front_there (graph_text g lo) (items_points g lo at p.body) (plain_point (Jalr 0 p.link (pos 0))) at whole in
      let rest = back_there (graph_text g lo) (procedure_points g lo at p) (procedures_points g lo (at + 4 * procedure_words p) ps) at (at + 4 * procedure_words p) (omega (arith, long)) there in
      let body = body_back p.body at low (omega (arith, high, sum)) keeps.items fits.no_calls items in
      let more = procedures_back ps (at + 4 * procedure_words p) (omega arith) (omega (arith, high, sum)) (All-tail {X = Procedure} (BodyStands (HasBlock g) (HasProcedure g)) p ps all) rest in
      ap (λ b. made_procedure p.link b ∷ map (procedure_of (graph_text g lo)) (notes_from (at + 4 * procedure_words p) ps)) body
      ∙ ap (λ qs. made_procedure p.link (map (retargeted_item (new_address g lo)) p.body) ∷ qs) more

pub written_parts_lift_back : WrittenPartsLiftBack
written_parts_lift_back = λ bytes g can is.
    let lo = (text_of bytes).lo in
    let ends : (text_of bytes).lo + 4 * words_of g ≤ 2 ^ 32 = omega (arith, can.words, high bytes g can) in
    let few = few_words bytes g can in
    let by = by_block (HasBlock g) (HasProcedure g) g can.rules can.rules.named_all can.rules.called_all in
    let fits = text_fits g (text_of bytes).lo can.rules (text_stands g (text_of bytes).lo can.rules few can.reach) in
    let next : procedures_at g (text_of bytes).lo ≡ (text_of bytes).lo + 4 * length (blocks_points g (text_of bytes).lo (text_of bytes).lo g.blocks) = omega (arith, length_blocks g (text_of bytes).lo (text_of bytes).lo g.blocks) in
    let there = back_there (graph_text g (text_of bytes).lo) (blocks_points g (text_of bytes).lo (text_of bytes).lo g.blocks) (procedures_points g (text_of bytes).lo (procedures_at g (text_of bytes).lo) g.procedures) (text_of bytes).lo (procedures_at g (text_of bytes).lo) next (text_there g (text_of bytes).lo can.rules few ends (low_word bytes g can) fits) in
    record {
      entry = refl;
      code_words = words_back g (text_of bytes).lo g.code_words;
      procedures = procedures_back g (text_of bytes).lo can.rules few ends g.procedures (procedures_at g (text_of bytes).lo) (omega arith) (omega arith) by.bodies there;
    }
