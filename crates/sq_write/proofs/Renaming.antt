-- The file of a graph doesn't depend on the names of its blocks.
use Rattle.std.proofs.Common.{◌≡◌, ℕ, pos, zero, suc, ◌+◌, ◌*◌, Bool, true, false, nat_lt, nat_le, nat_eq, ◌⊎◌, inl, inr, List, [], ◌∷◌, ◌++◌, map, filter, length, Option, Some, option_map, slice_get, refl, ap, ◌∙◌, arith}
use Rattle.std.specs.List.{All, find}
use Rattle.std.specs.Option.{unwrap_or}
use Rattle.std.proofs.lemmas.Bool.{cases_Bool}
use Rattle.std.proofs.lemmas.List.{length-map}
use Rattle.std.proofs.lemmas.List.Elements.{All-head, All-tail}
use Rattle.sq_num.specs.Halves.{high_half, low_half}
use Rattle.sq_isa.specs.declared.instructions.Insn.TheVariants.{Lui, Jal, Jalr, Branch as BranchInsn, OpImm}
use Rattle.sq_isa.specs.declared.instructions.ImmOp.TheVariants.{Addi}
use Rattle.sq_elf.specs.Text.{text_of}
use Rattle.sq_graph.specs.declared.item.Item.{Item}
use Rattle.sq_graph.specs.declared.item.Item.TheVariants.{Op, Hi, Lo, Out}
use Rattle.sq_graph.specs.declared.item.Term.{Term}
use Rattle.sq_graph.specs.declared.item.Term.TheVariants.{Fall, Jump, Branch, Call, PartJump, Indirect, Stop}
use Rattle.sq_graph.specs.declared.parts.CodeRef.{CodeRef}
use Rattle.sq_graph.specs.Graph.{Block, Procedure, Graph}
use Rattle.sq_graph.specs.Blocks.{HasBlock, HasProcedure, procedure_link}
use Rattle.sq_graph.specs.Places.{procedure_addresses}
use Rattle.sq_graph.specs.Renames.{retargeted_item, retargeted_items, retargeted_term, retargeted_procedure, retargeted_word, renamed_block, renamed}
use Rattle.sq_graph.specs.Rules.{IsGraph}
use Rattle.sq_graph.specs.Uses.{item_uses, term_uses}
use Rattle.sq_graph.specs.Words.{block_words, procedure_words}
use Rattle.sq_graph.proofs.Renamed.{names_there}
use Rattle.sq_graph.proofs.RenamedReach.{same_length, same_block, same_procedure, same_sum, same_starts, same_address}
use Rattle.sq_graph.proofs.RulesByBlock.{ItemStands, BlockStands, BodyStands, IsByBlock, by_block}
use Rattle.sq_write.specs.Output.{Output, Relocation, output_file}
use Rattle.sq_write.specs.Points.{Point, new_address, new_start, call_link, offset_to, point_word, high_entry, low_entry, item_point, items_points, plain_point, term_points, block_points, blocks_points, procedure_points, procedures_points, procedures_at, text_points}
use Rattle.sq_write.specs.Pieces.{set_word_at, pieces_before, pieces_behind}
use Rattle.sq_write.specs.Written.{word_entry, entries_of, note_entries, note_from, note_of, written_output, written}

abbrev output : List ℕ → ℕ → (ℕ → Option ℕ) → List Point → List Relocation → List ℕ → Output
output bytes entry set points relocations note = record {
  entry = entry;
  before = pieces_before bytes set;
  start = (text_of bytes).lo;
  text = map point_word points;
  after = pieces_behind bytes set;
  relocations = relocations;
  note = note;
}

module _ (f : ℕ → ℕ) where
  same_link : (ps : List Procedure) (k : ℕ) → procedure_link (slice_get (map (retargeted_procedure f) ps) k) ≡ procedure_link (slice_get ps k)
  same_link [] k = refl
  same_link (p ∷ ps) zero = refl
  same_link (p ∷ ps) (suc k) = same_link ps k

  same_entries : (ps : List Procedure) (at : ℕ) → note_entries at (map (retargeted_procedure f) ps) ≡ note_entries at ps
  same_entries [] at = refl
  same_entries (p ∷ ps) at =
      let rest = same_entries ps (at + 4 * procedure_words p) in
      rw (same_length f p.body, rest) refl

  same_note : (ps : List Procedure) (at : ℕ) → note_from at (map (retargeted_procedure f) ps) ≡ note_from at ps
  same_note [] at = refl
  same_note (p ∷ ps) at =
      let count = length-map ps (retargeted_procedure f) in
      rw (count, same_entries (p ∷ ps) at) refl

  module _ (g : Graph) (rules : IsGraph g) (one : (m n : ℕ) → HasBlock g m → HasBlock g n → f m ≡ f n → m ≡ n) where
    new_is : (lo n : ℕ) → HasBlock g n → new_address (renamed f g) lo (f n) ≡ new_address g lo n
    new_is lo n there = ap (λ o. unwrap_or o 0) (same_address f g one g.blocks lo n (names_there g.blocks) there)

    start_is : (lo p : ℕ) → new_start (renamed f g) lo p ≡ new_start g lo p
    start_is lo p =
        let at : procedures_at (renamed f g) lo ≡ procedures_at g lo = omega (arith, same_sum f g.blocks) in
        ap (λ n. unwrap_or (slice_get (procedure_addresses (map (retargeted_procedure f) g.procedures) n) p) 0) at
        ∙ ap (λ xs. unwrap_or (slice_get xs p) 0) (same_starts f g.procedures (procedures_at g lo))

    link_is : (p : ℕ) → call_link (renamed f g) p ≡ call_link g p
    link_is p = ap (λ o. unwrap_or o 0) (same_link g.procedures p)

    module _ (lo : ℕ) where
      same_item : (item : Item) (at : ℕ) → All (HasBlock g) (item_uses item) → item_point (renamed f g) lo at (retargeted_item f item) ≡ item_point g lo at item
      same_item (Op insn) at names = refl
      same_item (Hi rd to) at names =
          ap (λ (a : ℕ). let p : Point = record { insn = Lui rd (high_half a); entries = high_entry at a } in p) (new_is lo to (All-head (HasBlock g) to [] names))
      same_item (Lo rd rs to) at names =
          ap (λ (a : ℕ). let p : Point = record { insn = OpImm Addi rd rs (low_half a); entries = low_entry at a } in p) (new_is lo to (All-head (HasBlock g) to [] names))
      same_item (Out p) at names =
          ap (λ (r : ℕ). let q : Point = record { insn = Jal r (offset_to at (new_start (renamed f g) lo p)); entries = [] } in q) (link_is p)
          ∙ ap (λ (a : ℕ). let q : Point = record { insn = Jal (call_link g p) (offset_to at a); entries = [] } in q) (start_is lo p)

      same_items : (items : List Item) (at : ℕ) → All (ItemStands (HasBlock g) (HasProcedure g)) items → items_points (renamed f g) lo at (retargeted_items f items) ≡ items_points g lo at items
      same_items [] at all = refl
      same_items (item ∷ items) at all =
          let here = All-head {X = Item} (ItemStands (HasBlock g) (HasProcedure g)) item items all in
          ap (λ p. p ∷ items_points (renamed f g) lo (at + 4) (retargeted_items f items)) (same_item item at here.names)
          ∙ ap (λ ps. item_point g lo at item ∷ ps) (same_items items (at + 4) (All-tail {X = Item} (ItemStands (HasBlock g) (HasProcedure g)) item items all))

      same_end : (t : Term) (at : ℕ) → All (HasBlock g) (term_uses t) → term_points (renamed f g) lo at (retargeted_term f t) ≡ term_points g lo at t
      same_end Fall at names = refl
      same_end (Jump to) at names = ap (λ a. plain_point (Jal 0 (offset_to at a))) (new_is lo to (All-head (HasBlock g) to [] names))
      same_end (Branch c a b to) at names = ap (λ x. plain_point (BranchInsn c a b (offset_to at x))) (new_is lo to (All-head (HasBlock g) to [] names))
      same_end (Call link to) at names = ap (λ a. plain_point (Jal link (offset_to at a))) (new_is lo to (All-head (HasBlock g) to [] names))
      same_end (PartJump link part to) at names =
          ap (λ (a : ℕ). let p : List Point = record { insn = Jalr link part (low_half a); entries = low_entry at a } ∷ [] in p) (new_is lo to (All-head (HasBlock g) to [] names))
      same_end (Indirect link register offset) at names = refl
      same_end (Stop word) at names = refl

      same_blocks : (bs : List Block) (at : ℕ) → All (BlockStands (HasBlock g) (HasProcedure g)) bs → blocks_points (renamed f g) lo at (map (renamed_block f) bs) ≡ blocks_points g lo at bs
      same_blocks [] at all = refl
      same_blocks (b ∷ bs) at all =
          let here = All-head (BlockStands (HasBlock g) (HasProcedure g)) b bs all in
          let rest = same_blocks bs (at + 4 * block_words b) (All-tail (BlockStands (HasBlock g) (HasProcedure g)) b bs all) in
          let items = same_items b.items at here.items in
          let term = same_end b.term (at + 4 * length b.items) here.names in
          ap (λ n. (items_points (renamed f g) lo at (retargeted_items f b.items) ++ term_points (renamed f g) lo (at + 4 * n) (retargeted_term f b.term)) ++ blocks_points (renamed f g) lo (at + 4 * block_words (renamed_block f b)) (map (renamed_block f) bs)) (same_length f b.items)
          ∙ ap (λ n. (items_points (renamed f g) lo at (retargeted_items f b.items) ++ term_points (renamed f g) lo (at + 4 * length b.items) (retargeted_term f b.term)) ++ blocks_points (renamed f g) lo (at + 4 * n) (map (renamed_block f) bs)) (same_block f b)
          ∙ ap (λ ps. (ps ++ term_points (renamed f g) lo (at + 4 * length b.items) (retargeted_term f b.term)) ++ blocks_points (renamed f g) lo (at + 4 * block_words b) (map (renamed_block f) bs)) items
          ∙ ap (λ ps. (items_points g lo at b.items ++ ps) ++ blocks_points (renamed f g) lo (at + 4 * block_words b) (map (renamed_block f) bs)) term
          ∙ ap (λ ps. block_points g lo at b ++ ps) rest

      same_procedures : (ps : List Procedure) (at : ℕ) → All (BodyStands (HasBlock g) (HasProcedure g)) ps → procedures_points (renamed f g) lo at (map (retargeted_procedure f) ps) ≡ procedures_points g lo at ps
      same_procedures [] at all = refl
      same_procedures (p ∷ ps) at all =
          let here = All-head (BodyStands (HasBlock g) (HasProcedure g)) p ps all in
          let rest = same_procedures ps (at + 4 * procedure_words p) (All-tail (BodyStands (HasBlock g) (HasProcedure g)) p ps all) in
          ap (λ xs. (xs ++ plain_point (Jalr 0 p.link (pos 0))) ++ procedures_points (renamed f g) lo (at + 4 * procedure_words (retargeted_procedure f p)) (map (retargeted_procedure f) ps)) (same_items p.body at here.items)
          ∙ ap (λ n. procedure_points g lo at p ++ procedures_points (renamed f g) lo (at + 4 * n) (map (retargeted_procedure f) ps)) (same_procedure f p)
          ∙ ap (λ xs. procedure_points g lo at p ++ xs) rest

      by : IsByBlock (HasBlock g) (HasProcedure g) g
      by = by_block (HasBlock g) (HasProcedure g) g rules rules.named_all rules.called_all

      same_at : procedures_at (renamed f g) lo ≡ procedures_at g lo
      same_at = omega (arith, same_sum f g.blocks)

      same_text : text_points (renamed f g) lo ≡ text_points g lo
      same_text =
          ap (λ ps. ps ++ procedures_points (renamed f g) lo (procedures_at (renamed f g) lo) (map (retargeted_procedure f) g.procedures)) (same_blocks g.blocks lo by.blocks)
          ∙ ap (λ n. blocks_points g lo lo g.blocks ++ procedures_points (renamed f g) lo n (map (retargeted_procedure f) g.procedures)) same_at
          ∙ ap (λ ps. blocks_points g lo lo g.blocks ++ ps) (same_procedures g.procedures (procedures_at g lo) by.bodies)

      -- code words keep their addresses
      same_words : (p : ℕ → Bool) (ws : List CodeRef) → All (HasBlock g) (map (λ w. w.block) ws) → map (word_entry (renamed f g) lo) (filter (λ w. p w.at) (map (retargeted_word f) ws)) ≡ map (word_entry g lo) (filter (λ w. p w.at) ws)
      same_words p [] all = refl
      same_words p (w ∷ ws) all = by_test (cases_Bool (p w.at)) (same_words p ws (All-tail (HasBlock g) w.block (map (λ w. w.block) ws) all))
        where
          here : word_entry (renamed f g) lo (retargeted_word f w) ≡ word_entry g lo w
          here = ap (λ (a : ℕ). let r : Relocation = record { offset = w.at; kind = 1; addend = a } in r) (new_is lo w.block (All-head (HasBlock g) w.block (map (λ w. w.block) ws) all))

          by_test : (p w.at ≡ true) ⊎ (p w.at ≡ false) → map (word_entry (renamed f g) lo) (filter (λ w. p w.at) (map (retargeted_word f) ws)) ≡ map (word_entry g lo) (filter (λ w. p w.at) ws) → map (word_entry (renamed f g) lo) (filter (λ w. p w.at) (map (retargeted_word f) (w ∷ ws))) ≡ map (word_entry g lo) (filter (λ w. p w.at) (w ∷ ws))
          by_test (inl e) more = rw e (ap (λ r. r ∷ map (word_entry (renamed f g) lo) (filter (λ w. p w.at) (map (retargeted_word f) ws))) here ∙ ap (λ rs. word_entry g lo w ∷ rs) more)
          by_test (inr e) more = rw e more

      same_set : (ws : List CodeRef) (x : ℕ) → All (HasBlock g) (map (λ w. w.block) ws) → option_map (λ w. new_address (renamed f g) lo w.block) (find (λ w. nat_eq w.at x) (map (retargeted_word f) ws)) ≡ option_map (λ w. new_address g lo w.block) (find (λ w. nat_eq w.at x) ws)
      same_set [] x all = refl
      same_set (w ∷ ws) x all = by_test (cases_Bool (nat_eq w.at x)) (same_set ws x (All-tail (HasBlock g) w.block (map (λ w. w.block) ws) all))
        where
          by_test : (nat_eq w.at x ≡ true) ⊎ (nat_eq w.at x ≡ false) → option_map (λ w. new_address (renamed f g) lo w.block) (find (λ w. nat_eq w.at x) (map (retargeted_word f) ws)) ≡ option_map (λ w. new_address g lo w.block) (find (λ w. nat_eq w.at x) ws) → option_map (λ w. new_address (renamed f g) lo w.block) (find (λ w. nat_eq w.at x) (map (retargeted_word f) (w ∷ ws))) ≡ option_map (λ w. new_address g lo w.block) (find (λ w. nat_eq w.at x) (w ∷ ws))
          by_test (inl e) more = rw e (ap Some (new_is lo w.block (All-head (HasBlock g) w.block (map (λ w. w.block) ws) all)))
          by_test (inr e) more = rw e more

      same_table : entries_of (renamed f g) lo ≡ entries_of g lo
      same_table =
          let before = same_words (λ at. nat_lt at lo) g.code_words by.words in
          let behind = same_words (λ at. nat_le lo at) g.code_words by.words in
          rw (before, behind, same_text) refl

    same_output : (bytes : List ℕ) → written_output bytes (renamed f g) ≡ written_output bytes g
    same_output bytes =
        let lo = (text_of bytes).lo in
        let entry = new_is (text_of bytes).lo g.entry (by (text_of bytes).lo).entry in
        let sets : set_word_at (renamed f g) (text_of bytes).lo ≡ set_word_at g (text_of bytes).lo = λ i x. same_set (text_of bytes).lo g.code_words x (by (text_of bytes).lo).words i in
        let note : note_of (renamed f g) (text_of bytes).lo ≡ note_of g (text_of bytes).lo =
        ap (λ n. note_from n (map (retargeted_procedure f) g.procedures)) (same_at (text_of bytes).lo) ∙ same_note g.procedures (procedures_at g (text_of bytes).lo) in
        ap (λ x. output bytes x (set_word_at (renamed f g) lo) (text_points (renamed f g) lo) (entries_of (renamed f g) lo) (note_of (renamed f g) lo)) entry
        ∙ ap (λ x. output bytes (new_address g lo g.entry) x (text_points (renamed f g) lo) (entries_of (renamed f g) lo) (note_of (renamed f g) lo)) sets
        ∙ ap (λ x. output bytes (new_address g lo g.entry) (set_word_at g lo) x (entries_of (renamed f g) lo) (note_of (renamed f g) lo)) (same_text lo)
        ∙ ap (λ x. output bytes (new_address g lo g.entry) (set_word_at g lo) (text_points g lo) x (note_of (renamed f g) lo)) (same_table lo)
        ∙ ap (λ x. output bytes (new_address g lo g.entry) (set_word_at g lo) (text_points g lo) (entries_of g lo) x) note

    pub same_file : (bytes : List ℕ) → written bytes (renamed f g) ≡ written bytes g
    unfolding written
    same_file bytes = ap output_file (same_output bytes)
