-- Each entry of the note of the file of a graph is good.
use Rattle.std.proofs.Common.{◌≡◌, ◌≢◌, ℕ, zero, suc, pos, ◌+◌, ◌*◌, ◌%◌, ◌^◌, ◌<◌, ◌≤◌, ◌==◌, Bool, true, false, not, ◌||◌, ◌⊎◌, inl, inr, nat_lt, List, [], ◌∷◌, ◌++◌, length, map, sum_by, Option, Some, None, option_map, slice_get, refl, sym, ap, subst, ◌∙◌, arith, length-append, append_assoc, eq-eqb}
use Rattle.std.specs.List.{All, list_any}
use Rattle.std.specs.Option.{unwrap_or, option_or, option_and_then}
use Rattle.std.proofs.lemmas.Bool.{lt-ltb, or_from}
use Rattle.std.proofs.lemmas.Bool.Decides.{nat_tests}
use Rattle.std.proofs.lemmas.List.Elements.{All-head, All-tail}
use Rattle.std.proofs.lemmas.List.Sums.{sum_by-cons, sum_by-append}
use Rattle.std.proofs.lemmas.Option.{slice_get-map}
use Rattle.sq_num.specs.declared.refusal.Refusal.TheVariants.{BadNote}
use Rattle.sq_isa.specs.declared.instructions.Insn.TheVariants.{Jalr}
use Rattle.sq_isa.specs.Ranges.{FieldsFit}
use Rattle.sq_isa.proofs.Encoded.{insn_of-word_of}
use Rattle.sq_elf.specs.Text.{text_of}
use Rattle.sq_graph.specs.declared.item.Item.{Item}
use Rattle.sq_graph.specs.declared.item.Item.TheVariants.{Op, Hi, Lo, Out}
use Rattle.sq_graph.specs.declared.parts.CodeRef.{CodeRef}
use Rattle.sq_graph.specs.Graph.{Procedure, Graph}
use Rattle.sq_graph.specs.Blocks.{HasBlock, HasProcedure, procedure_link}
use Rattle.sq_graph.specs.Places.{procedure_addresses}
use Rattle.sq_graph.specs.Rules.{IsGraph, mentions}
use Rattle.sq_graph.specs.Soundness.{IsSoundBody}
use Rattle.sq_graph.specs.Uses.{item_calls}
use Rattle.sq_graph.specs.Words.{block_words, procedure_words, words_of}
use Rattle.sq_graph.proofs.RulesByBlock.{ItemStands, BodyStands, by_block}
use Rattle.law_program.specs.Programs.{Text, Note, Program, word_at, is_word, target_of, insn_in}
use Rattle.law_program.specs.Readings.{marked_reading, reading_of, reading_at}
use Rattle.law_program.specs.Notes.{is_in_procedure, is_above, is_in_order, is_item_without, returns_through, is_return, has_body, is_procedure, words_enter, is_entered, is_good_note, bad_note_from, bad_note}
use Rattle.law_program.specs.FilePrograms.{note_refusal}
use Rattle.law_program.specs.NoteSections.{notes_of}
use Rattle.sq_write.specs.Points.{Point, new_address, new_start, call_link, item_point, items_points, plain_point, blocks_points, procedure_points, procedures_at, procedures_points, text_points}
use Rattle.sq_write.specs.Written.{written}
use Rattle.sq_write.proofs.Fitting.{text_stands}
use Rattle.sq_write.proofs.Lengths.{length_items, length_blocks}
use Rattle.law_written.specs.NoteFaults.{WrittenFilesPassEarly}
use Rattle.law_written.specs.Programs.{word_at_point, graph_text, new_code_word, notes_from, graph_program}
use Rattle.law_written.specs.Readings.{item_reading}
use Rattle.law_written.specs.Words.{point_mark}
use Rattle.law_written.proofs.CodeWords.{low_word}
use Rattle.law_written.proofs.Entering.{not_below, not_above, none_enters, both_quiet, AreQuiet, block_before, blocks_quiet, procedures_quiet}
use Rattle.law_written.proofs.Faults.{start_place, placed_word, written_text_is_not_refused}
use Rattle.sq_write.proofs.PointFields.{AllFit, text_fits}
use Rattle.law_written.proofs.Notes.{notes_here}
use Rattle.law_written.proofs.Readings.{item_reads, word_there}
use Rattle.law_written.proofs.WrittenRelocations.{high, few_words}

-- WHERE OTHER PROCEDURES STAND

-- before an address, there with this link, or behind so many bytes
abbrev Where : ℕ → ℕ → ℕ → ℕ → Option ℕ → Type 0
Where start size link a other = (a < start) ⊎ (((a ≡ start) × (other ≡ Some link)) ⊎ (start + size ≤ a))

abbrev Position : List Procedure → ℕ → ℕ → ℕ → ℕ → ℕ → Type 0
Position ps base q start size link = (a : ℕ) × (slice_get (procedure_addresses ps base) q ≡ Some a) × Where start size link a (procedure_link (slice_get ps q))

position : (front : List Procedure) (p : Procedure) (back : List Procedure) (base q : ℕ) → q < length (front ++ p ∷ back) → Position (front ++ p ∷ back) base q (base + 4 * sum_by procedure_words front) (4 * procedure_words p) p.link
position [] p back base zero within = (base, refl, inr (inl (omega arith, refl)))
position [] p back base (suc q) within =
    let more = start_place back (base + 4 * procedure_words p) q (let f : suc q < suc (length back) = within in omega arith) in
    (more.0, more.2, inr (inr (omega (arith, more.3))))
position (f ∷ front) p back base zero within = (base, refl, inl (omega (arith, sum_by-cons procedure_words f front)))
position (f ∷ front) p back base (suc q) within =
    let more = position front p back (base + 4 * procedure_words f) q (let h : suc q < suc (length (front ++ p ∷ back)) = within in omega arith) in
    let same : base + 4 * procedure_words f + 4 * sum_by procedure_words front ≡ base + 4 * sum_by procedure_words (f ∷ front) = omega (arith, sum_by-cons procedure_words f front) in
    (more.0, more.1, subst (λ x. Where x (4 * procedure_words p) p.link more.0 (procedure_link (slice_get (front ++ p ∷ back) q))) same more.2)

-- WORDS THAT ARE THERE

abbrev pub AreThere : Text → ℕ → List Point → Type 0
AreThere t at [] = Unit {0}
AreThere t at (p ∷ ps) = ((word_at t at ≡ Some (word_at_point p)) × FieldsFit p.insn) × AreThere t (at + 4) ps

pub front_there : (t : Text) (xs ys : List Point) (at : ℕ) → AreThere t at (xs ++ ys) → AreThere t at xs
front_there t [] ys at there = tt
front_there t (x ∷ xs) ys at there = (there.0, front_there t xs ys (at + 4) there.1)

pub back_there : (t : Text) (xs ys : List Point) (at to : ℕ) → to ≡ at + 4 * length xs → AreThere t at (xs ++ ys) → AreThere t to ys
back_there t [] ys at to e there = let same : at ≡ to = omega (arith, e) in subst (λ x. AreThere t x ys) same there
back_there t (x ∷ xs) ys at to e there = back_there t xs ys (at + 4) to (omega (arith, e)) there.1

all_there : (t : Text) (ps : List Point) (at : ℕ) → AllFit ps → ((k : ℕ) (p : Point) → slice_get ps k ≡ Some p → word_at t (at + 4 * k) ≡ Some (word_at_point p)) → AreThere t at ps
all_there t [] at fits each = tt
all_there t (p ∷ ps) at fits each =
    let none : at ≡ at + 4 * 0 = omega arith in (
      (ap (word_at t) none ∙ each 0 p refl, fits.0),
      all_there t ps (at + 4) fits.1 (λ k q is. let next : at + 4 + 4 * k ≡ at + 4 * suc k = omega arith in ap (word_at t) next ∙ each (suc k) q is),
    )

good_parts : (prog : Program) (is : ℕ → Bool) (before : Option ℕ) (n : Note) → is_in_order prog.text before n ≡ true → is_procedure prog.text n ≡ true → is_entered is prog n ≡ false → is_good_note is prog before n ≡ true
good_parts prog is before n order body quiet = rw (order, body, quiet) (by_test (is n.address))
  where
    by_test : (b : Bool) → (not b || true) ≡ true
    by_test true = refl
    by_test false = refl

module _ (g : Graph) (lo : ℕ) (rules : IsGraph g) (few : words_of g ≤ 262144) (ends : lo + 4 * words_of g ≤ 2 ^ 32) (even : lo % 4 ≡ 0) where
  abbrev Keeps : Item → Type 0
  Keeps = ItemStands (HasBlock g) (HasProcedure g)

  -- THE BODY

  free_item : (item : Item) (link : ℕ) → item_calls item ≡ [] → mentions item link ≡ false → is_item_without link (Some (item_reading g lo item)) ≡ true
  free_item (Op insn) link calls free = ap not free
  free_item (Hi rd to) link calls free = ap not free
  free_item (Lo rd rs to) link calls free = ap not free
  free_item (Out p) link calls free = absurd (cc calls)

  body_there : (items : List Item) (link at : ℕ) → lo ≤ at → at + 4 * length items < lo + 4 * words_of g → All Keeps items → All (λ item. item_calls item ≡ []) items → All (λ item. mentions item link ≡ false) items → AreThere (graph_text g lo) at (items_points g lo at items ++ plain_point (Jalr 0 link (pos 0))) → has_body (graph_text g lo) link at (length items) ≡ true
  body_there [] link at low high keeps calls free there =
      let word : word_at (graph_text g lo) at ≡ Some (word_at_point (record { insn = Jalr 0 link (pos 0); entries = [] })) = there.0.0 in
      let insn : insn_in (word_at_point (record { insn = Jalr 0 link (pos 0); entries = [] })) ≡ Some (Jalr 0 link (pos 0)) = insn_of-word_of (Jalr 0 link (pos 0)) there.0.1 in
      let same : (link == link) ≡ true = eq-eqb link link refl in
      ap (is_return link) word ∙ ap (returns_through link) insn ∙ (rw same refl)
  body_there (item ∷ items) link at low high keeps calls free there =
      let fits = there.0.1 in
      let reads = item_reads g lo rules few ends item at low (omega (arith, high)) (All-head {X = Item} Keeps item items keeps) in
      let point = item_point g lo at item in
      let reading : reading_at (graph_text g lo) at ≡ Some (item_reading g lo item) =
      ap (option_and_then (reading_of (graph_text g lo) at)) there.0.0
      ∙ ap (option_and_then (marked_reading (graph_text g lo) at (point_mark (item_point g lo at item)))) (insn_of-word_of (item_point g lo at item).insn fits)
      ∙ reads
      in
      let here : is_item_without link (reading_at (graph_text g lo) at) ≡ true =
      ap (is_item_without link) reading ∙ free_item item link (All-head {X = Item} (λ i. item_calls i ≡ []) item items calls) (All-head {X = Item} (λ i. mentions i link ≡ false) item items free)
      in
      rw here (body_there items link (at + 4) (omega arith) (omega (arith, high)) (All-tail {X = Item} Keeps item items keeps) (All-tail {X = Item} (λ i. item_calls i ≡ []) item items calls) (All-tail {X = Item} (λ i. mentions i link ≡ false) item items free) there.1)

  some_items : (items : List Item) → items ≢ [] → nat_lt 0 (length items) ≡ true
  some_items [] some = absurd (some refl)
  some_items (item ∷ items) some = lt-ltb 0 (suc (length items)) (omega arith)

  -- NOTHING ELSE LEADS IN

  module _ (front : List Procedure) (p : Procedure) (back : List Procedure) (same : g.procedures ≡ front ++ p ∷ back) (at : ℕ) (stands : at ≡ procedures_at g lo + 4 * sum_by procedure_words front) where
    abbrev note : Note
    note = record { address = at; link = p.link; length = length p.body }

    calls_in : (q : ℕ) → HasProcedure g q → (is_in_procedure note (new_start g lo q) ≡ false) ⊎ ((p.link ≡ call_link g q) × (at ≡ new_start g lo q))
    calls_in q there = by_where placed.0 placed.1 placed.2
      where
        placed : Position g.procedures (procedures_at g lo) q (procedures_at g lo + 4 * sum_by procedure_words front) (4 * procedure_words p) p.link
        placed =
            subst (λ ps. Position ps (procedures_at g lo) q (procedures_at g lo + 4 * sum_by procedure_words front) (4 * procedure_words p) p.link) (sym same)
            (position front p back (procedures_at g lo) q (subst (λ ps. q < length ps) same there))

        by_where : (a : ℕ) → slice_get (procedure_addresses g.procedures (procedures_at g lo)) q ≡ Some a → Where (procedures_at g lo + 4 * sum_by procedure_words front) (4 * procedure_words p) p.link a (procedure_link (slice_get g.procedures q)) → (is_in_procedure note (new_start g lo q) ≡ false) ⊎ ((p.link ≡ call_link g q) × (at ≡ new_start g lo q))
        by_where a is (inl before) =
            let start : new_start g lo q ≡ a = ap (λ o. unwrap_or o 0) is in
            inl (not_below at (length p.body + 1) (new_start g lo q) (omega (arith, start, before, stands)))
        by_where a is (inr (inl own)) =
            let start : new_start g lo q ≡ a = ap (λ o. unwrap_or o 0) is in
            inr (sym (ap (λ o. unwrap_or o 0) own.1), omega (arith, start, own.0, stands))
        by_where a is (inr (inr after)) =
            let start : new_start g lo q ≡ a = ap (λ o. unwrap_or o 0) is in
            inl (not_above at (length p.body + 1) (new_start g lo q) (omega (arith, start, after, stands)))

    behind : procedures_at g lo ≤ at
    behind = omega (arith, stands)

    block_out : (n : ℕ) → HasBlock g n → is_in_procedure note (new_address g lo n) ≡ false
    block_out n there = not_below at (length p.body + 1) (new_address g lo n) (omega (arith, block_before g lo rules few n there, behind))

    words_out : (words : List CodeRef) → All (HasBlock g) (map (λ w. w.block) words) → list_any (is_in_procedure note) (map target_of (map (new_code_word g lo) words)) ≡ false
    words_out [] all = refl
    words_out (word ∷ words) all =
        or_from (is_in_procedure note (new_address g lo word.block)) (list_any (is_in_procedure note) (map target_of (map (new_code_word g lo) words)))
        (block_out word.block (All-head (HasBlock g) word.block (map (λ w. w.block) words) all)) (words_out words (All-tail (HasBlock g) word.block (map (λ w. w.block) words) all))

    text_quiet : AreQuiet note lo (text_points g lo)
    text_quiet =
        let by = by_block (HasBlock g) (HasProcedure g) g rules rules.named_all rules.called_all in
        let next : procedures_at g lo ≡ lo + 4 * length (blocks_points g lo lo g.blocks) = omega (arith, length_blocks g lo lo g.blocks) in
        let bodies : AreQuiet note (procedures_at g lo) (procedures_points g lo (procedures_at g lo) (front ++ p ∷ back)) =
        procedures_quiet g lo rules few ends even note behind calls_in front p back (procedures_at g lo) (omega arith) (subst (λ ps. procedures_at g lo + 4 * sum_by procedure_words ps ≤ lo + 4 * words_of g) same (omega arith)) (sym stands) refl (subst (λ ps. All (BodyStands (HasBlock g) (HasProcedure g)) ps) same by.bodies)
        in
        both_quiet note (blocks_points g lo lo g.blocks) (procedures_points g lo (procedures_at g lo) g.procedures) lo (procedures_at g lo) next
        (blocks_quiet g lo rules few ends even note behind calls_in g.blocks lo rules.ends (omega arith) (omega arith) by.blocks)
        (subst (λ ps. AreQuiet note (procedures_at g lo) (procedures_points g lo (procedures_at g lo) ps)) (sym same) bodies)

    not_entered : (is : ℕ → Bool) → AllFit (text_points g lo) → is_entered is (graph_program g lo) note ≡ false
    not_entered is fits =
        let by = by_block (HasBlock g) (HasProcedure g) g rules rules.named_all rules.called_all in
        or_from (is_in_procedure note (new_address g lo g.entry) || list_any (is_in_procedure note) (map target_of (map (new_code_word g lo) g.code_words))) (words_enter is note lo (map word_at_point (text_points g lo)))
        (or_from (is_in_procedure note (new_address g lo g.entry)) (list_any (is_in_procedure note) (map target_of (map (new_code_word g lo) g.code_words))) (block_out g.entry by.entry) (words_out g.code_words by.words))
        (none_enters note is lo (text_points g lo) fits text_quiet)

  -- EACH NOTE

  notes_good : (is : ℕ → Bool) (front ps : List Procedure) (at number : ℕ) (before : Option ℕ) → g.procedures ≡ front ++ ps → at ≡ procedures_at g lo + 4 * sum_by procedure_words front → is_above before at ≡ true → AreThere (graph_text g lo) at (procedures_points g lo at ps) → All (BodyStands (HasBlock g) (HasProcedure g)) ps → All IsSoundBody ps → AllFit (text_points g lo) → bad_note_from is (graph_program g lo) before number (notes_from at ps) ≡ None
  notes_good is front [] at number before same stands above there keeps sound fits = refl
  notes_good is front (p ∷ ps) at number before same stands above there keeps sound fits =
      let own = All-head {X = Procedure} (BodyStands (HasBlock g) (HasProcedure g)) p ps keeps in
      let good_body = All-head {X = Procedure} IsSoundBody p ps sound in
      let procedure_fits = own.fits in
      let points = procedure_points g lo at p in
      let long : length (procedure_points g lo at p) ≡ procedure_words p = omega (arith, length-append (items_points g lo at p.body) (plain_point (Jalr 0 p.link (pos 0))), length_items g lo at p.body) in
      let sum : sum_by procedure_words g.procedures ≡ sum_by procedure_words front + sum_by procedure_words (p ∷ ps) = ap (sum_by procedure_words) same ∙ sum_by-append procedure_words front (p ∷ ps) in
      let cons = sum_by-cons procedure_words p ps in
      let here = front_there (graph_text g lo) (procedure_points g lo at p) (procedures_points g lo (at + 4 * procedure_words p) ps) at there in
      let rest = back_there (graph_text g lo) (procedure_points g lo at p) (procedures_points g lo (at + 4 * procedure_words p) ps) at (at + 4 * procedure_words p) (omega (arith, long)) there in
      let word : is_word (graph_text g lo) at ≡ true = placed_word g lo rules few ends even at (record { place = sum_by block_words g.blocks + sum_by procedure_words front; is = omega (arith, stands); within = omega (arith, sum, cons) }) in
      let link_some : nat_lt 0 p.link ≡ true = above_zero p.link procedure_fits.link in
      let link_small : nat_lt p.link 32 ≡ true = lt-ltb p.link 32 procedure_fits.register in
      let order : is_in_order (graph_text g lo) before (record { address = at; link = p.link; length = length p.body }) ≡ true = rw (word, above, link_some, link_small) refl in
      let some : nat_lt 0 (length p.body) ≡ true = some_items p.body good_body.some in
      let body : has_body (graph_text g lo) p.link at (length p.body) ≡ true = body_there p.body p.link at (omega (arith, stands)) (omega (arith, stands, sum, cons)) own.items procedure_fits.no_calls procedure_fits.no_mention here in
      let whole : is_procedure (graph_text g lo) (record { address = at; link = p.link; length = length p.body }) ≡ true = rw (some, body) refl in
      let quiet = not_entered front p ps same at stands is fits in
      let good = good_parts (graph_program g lo) is before (record { address = at; link = p.link; length = length p.body }) order whole quiet in
      let longer : g.procedures ≡ (front ++ p ∷ []) ++ ps = same ∙ sym (append_assoc front (p ∷ []) ps) in
      let further : at + 4 * procedure_words p ≡ procedures_at g lo + 4 * sum_by procedure_words (front ++ p ∷ []) = omega (arith, stands, sum_by-append procedure_words front (p ∷ []), sum_by-cons procedure_words p []) in
      let later : is_above (Some at) (at + 4 * procedure_words p) ≡ true = lt-ltb at (at + 4 * procedure_words p) (omega arith) in
      rw good
      (notes_good is (front ++ p ∷ []) ps (at + 4 * procedure_words p) (number + 1) (Some at) longer further later rest (All-tail {X = Procedure} (BodyStands (HasBlock g) (HasProcedure g)) p ps keeps) (All-tail {X = Procedure} IsSoundBody p ps sound) fits)
    where
      above_zero : (x : ℕ) → x ≢ 0 → nat_lt 0 x ≡ true
      above_zero x some = grind (arith, nat_tests)

  pub text_there : AllFit (text_points g lo) → AreThere (graph_text g lo) lo (text_points g lo)
  text_there fits =
      all_there (graph_text g lo) (text_points g lo) lo fits
      (λ k p is. word_there (map word_at_point (text_points g lo)) lo k (word_at_point p) (slice_get-map word_at_point (text_points g lo) k ∙ ap (option_map word_at_point) is))

  pub all_good : (is : ℕ → Bool) → All IsSoundBody g.procedures → AllFit (text_points g lo) → bad_note is (graph_program g lo) ≡ None
  all_good is sound fits =
      let by = by_block (HasBlock g) (HasProcedure g) g rules rules.named_all rules.called_all in
      let next : procedures_at g lo ≡ lo + 4 * length (blocks_points g lo lo g.blocks) = omega (arith, length_blocks g lo lo g.blocks) in
      notes_good is [] g.procedures (procedures_at g lo) 1 None refl (omega arith) refl
      (back_there (graph_text g lo) (blocks_points g lo lo g.blocks) (procedures_points g lo (procedures_at g lo) g.procedures) lo (procedures_at g lo) next (text_there fits))
      by.bodies sound fits

pub written_files_pass_early : WrittenFilesPassEarly
written_files_pass_early = λ bytes g can sound is.
    let ends : (text_of bytes).lo + 4 * words_of g ≤ 2 ^ 32 = omega (arith, can.words, high bytes g can) in
    let fits = text_fits g (text_of bytes).lo can.rules (text_stands g (text_of bytes).lo can.rules (few_words bytes g can) can.reach) in
    let text = written_text_is_not_refused bytes g can is in
    let note = all_good g (text_of bytes).lo can.rules (few_words bytes g can) ends (low_word bytes g can) is sound fits in
    let prog = graph_program g (text_of bytes).lo in
    ap (λ first. option_or first (note_refusal is (graph_program g (text_of bytes).lo) (notes_of (written bytes g) (graph_text g (text_of bytes).lo)))) text
    ∙ ap (note_refusal is (graph_program g (text_of bytes).lo)) (notes_here bytes g can (graph_text g (text_of bytes).lo))
    ∙ ap (option_map BadNote) note
