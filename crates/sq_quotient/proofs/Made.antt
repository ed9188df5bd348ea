-- The graph that is made of the parts is the folded one, named by positions.
use Rattle.std.proofs.Common.{◌≡◌, ℕ, ◌+◌, ◌≤◌, ◌<◌, ◌^◌, nat_eq, List, ◌++◌, map, length, sym, ap, ◌∙◌, subst, arith}
use Rattle.std.specs.HashMap.{get}
use Rattle.std.specs.Option.{unwrap_or}
use Rattle.std.proofs.lemmas.List.{length-map}
use Rattle.std.proofs.lemmas.List.Elements.{All-head}
use Rattle.sq_graph.specs.declared.item.Item.{Item}
use Rattle.sq_graph.specs.declared.parts.BlockPart.{BlockPart}
use Rattle.sq_graph.specs.declared.parts.ProcedurePart.{ProcedurePart}
use Rattle.sq_graph.specs.declared.parts.CodeRef.{CodeRef}
use Rattle.sq_graph.specs.declared.parts.Room.{Room}
use Rattle.sq_graph.specs.Graph.{Graph}
use Rattle.sq_graph.specs.Blocks.{HasBlock, all_items, items_of_blocks, items_of_bodies}
use Rattle.sq_graph.specs.Parts.{names_of, LengthsFit, length_of_blocks, length_of_bodies, graph_of_parts}
use Rattle.sq_graph.specs.Renames.{retargeted_item, retargeted_procedure, retargeted_words, renamed_block}
use Rattle.sq_graph.specs.Room.{IsSmall, count_of}
use Rattle.sq_graph.specs.Rules.{IsGraph}
use Rattle.sq_graph.specs.Slotted.{position_in, slotted}
use Rattle.sq_graph.specs.Uses.{code_word_uses, terms_uses, items_uses}
use Rattle.sq_graph.specs.Words.{most_words}
use Rattle.sq_graph.proofs.Renamed.{renamed_rules}
use Rattle.sq_graph.proofs.RetargetRules.{all_items-other}
use Rattle.sq_graph.proofs.Slotting.{positions_apart}
use Rattle.sq_quotient.specs.declared.folding.Folding.{Folding}
use Rattle.sq_quotient.specs.Folded.{new_name, merged}
use Rattle.sq_quotient.specs.Folding.{stays_for, Merges}
use Rattle.sq_quotient.specs.Staying.{stays_in, TellsStaying, place_in, ArePositions, parts_of, items_left, procedure_part, IsMerged}
use Rattle.sq_quotient.proofs.Firsts.{partition_merges}
use Rattle.sq_quotient.proofs.FoldedRules.{folded_rules}
use Rattle.sq_quotient.proofs.Keeping.{are_new}
use Rattle.sq_quotient.proofs.Left.{folded_length, items_few}
use Rattle.sq_quotient.proofs.PartsLeft.{part_of, lengths_fit, parts_left, items_here, words_left, procedure_parts_left, slotted_again}

-- the entry is a block
pub entry_there : (g : Graph) → IsGraph g → HasBlock g g.entry
entry_there g rules = All-head (HasBlock g) g.entry (code_word_uses g.code_words ++ (terms_uses g.blocks ++ items_uses (all_items g))) rules.named_all

-- what is asked of parts, and what their graph is
pub record IsMade (g : Graph) (parts : List BlockPart) (items : List Item) (entry : ℕ) (words : List CodeRef) (procedures : List ProcedurePart) : Type 0 where
  pub lengths : LengthsFit parts items procedures
  pub rules : IsGraph (graph_of_parts parts items entry words procedures)
  pub small : IsSmall (count_of (graph_of_parts parts items entry words procedures))
  pub is : IsMerged g (graph_of_parts parts items entry words procedures)

module _ (g : Graph) (folding : Folding) (rules : IsGraph g) (few : length g.blocks ≤ most_words) (spare : Room) (small_items : length (all_items g) + spare.items < 2 ^ 29) (small_procedures : length g.procedures + spare.procedures < 2 ^ 29)
    (t : TellsStaying g folding.staying) (positions : ArePositions (stays_in folding.staying) g (get nat_eq folding.positions)) where
  abbrev f : ℕ → ℕ
  f = stays_for g t.class

  abbrev place : ℕ → ℕ
  place = place_in folding

  merges : Merges g (stays_for g t.class)
  merges = partition_merges g t.class rules t.coarsest.stable

  abbrev h : Graph
  h = merged g t.class

  left : IsGraph h
  left = folded_rules g f (new_name g) rules merges (are_new g)

  told : stays_in folding.staying ≡ f
  told = λ i n. t.each n i

  positions_are : ArePositions f g (get nat_eq folding.positions)
  positions_are = subst (λ k. ArePositions k g (get nat_eq folding.positions)) told positions

  place_is : (n : ℕ) → HasBlock g n → place n ≡ position_in (names_of h) (f n)
  place_is n has =
      ap (λ k. unwrap_or (get nat_eq folding.positions k) 0) (t.each n)
      ∙ ap (λ o. unwrap_or o 0) (positions_are (f n) (merges.there n has) (merges.again n has))

  slotted_small : IsSmall (count_of (slotted h))
  slotted_small =
      let p = position_in (names_of h) in
      let blocks : length (slotted h).blocks ≡ length h.blocks = length-map h.blocks (renamed_block p) in
      let twice = folded_length f (new_name g) g.blocks in
      let items : length (all_items (slotted h)) ≡ length (all_items h) = ap (λ (is : List Item). length is) (all_items-other p (λ b. p b.name) h) ∙ length-map (all_items h) (retargeted_item p) in
      let fewer = items_few f (new_name g) g in
      let procedures : length (slotted h).procedures ≡ length g.procedures = length-map h.procedures (retargeted_procedure p) ∙ length-map g.procedures (retargeted_procedure f) in
      record {
        blocks = omega (arith, blocks, twice, few);
        items = omega (arith, items, fewer, small_items);
        procedures = omega (arith, procedures, small_procedures);
      }

  module _ (parts : List BlockPart) (items : List Item) (entry : ℕ) (words : List CodeRef) (procedures : List ProcedurePart)
      (parts_are : parts ≡ parts_of place (stays_in folding.staying) g.blocks)
      (items_are : items ≡ items_left place (stays_in folding.staying) g.blocks ++ items_of_bodies (map (retargeted_procedure place) g.procedures))
      (entry_is : entry ≡ place g.entry)
      (words_are : words ≡ retargeted_words place g.code_words)
      (procedures_are : procedures ≡ map procedure_part g.procedures)
      (entry_has : HasBlock g g.entry) where
    parts_end : parts ≡ map part_of (slotted h).blocks
    parts_end = parts_are ∙ ap (λ k. parts_of place k g.blocks) told ∙ parts_left g f (new_name g) place rules left place_is

    items_end : items ≡ items_of_blocks (slotted h).blocks ++ items_of_bodies (slotted h).procedures
    items_end =
        items_are
        ∙ ap (λ k. items_left place k g.blocks ++ items_of_bodies (map (retargeted_procedure place) g.procedures)) told
        ∙ items_here g f (new_name g) place rules left place_is

    entry_end : entry ≡ (slotted h).entry
    entry_end = entry_is ∙ place_is g.entry entry_has

    words_end : words ≡ (slotted h).code_words
    words_end = words_are ∙ words_left g f (new_name g) place rules left place_is

    procedures_end : procedures ≡ map procedure_part (slotted h).procedures
    procedures_end = procedures_are ∙ procedure_parts_left g f (new_name g) place rules left place_is

    graph_is : graph_of_parts parts items entry words procedures ≡ slotted h
    graph_is =
        (λ i. graph_of_parts (parts_end i) (items_end i) (entry_end i) (words_end i) (procedures_end i))
        ∙ slotted_again g f (new_name g) place rules left place_is

    pub all_made : IsMade g parts items entry words procedures
    all_made = record {
      lengths = omega (arith, lengths_fit (slotted h).blocks (slotted h).procedures, ap length_of_blocks parts_end, ap length_of_bodies procedures_end, ap (λ (is : List Item). length is) items_end);
      rules = subst IsGraph (sym graph_is) (renamed_rules (position_in (names_of h)) h (positions_apart h) left);
      small = subst (λ (k : Graph). IsSmall (count_of k)) (sym graph_is) slotted_small;
      is = record { class = t.class; coarsest = t.coarsest; is = graph_is };
    }
