-- The words of text of the file of a graph are its items and terms, with new addresses for names.
use Rattle.std.proofs.Common.{◌≡◌, ℕ, suc, zero, pos, ◌+◌, ◌*◌, ◌<◌, ◌≤◌, ◌==◌, Bool, true, false, ◌&&◌, ◌||◌, List, [], ◌∷◌, ◌++◌, length, map, Some, None, option_map, slice_get, if◌then◌else◌, refl, sym, ap, ◌∙◌, arith, eq-eqb}
use Rattle.std.specs.List.{All, flat_map}
use Rattle.std.specs.Option.{unwrap_or, option_and_then}
use Rattle.std.proofs.lemmas.Bool.Decides.{nat_tests}
use Rattle.std.proofs.lemmas.List.{map-append}
use Rattle.std.proofs.lemmas.List.Elements.{All-head, All-tail}
use Rattle.sq_isa.specs.Ranges.{FieldsFit}
use Rattle.sq_isa.specs.Registers.{is_among}
use Rattle.sq_isa.proofs.Encoded.{insn_of-word_of}
use Rattle.sq_graph.specs.declared.item.Item.{Item}
use Rattle.sq_graph.specs.declared.item.Item.TheVariants.{Op, Hi, Lo, Out}
use Rattle.sq_graph.specs.declared.item.Term.{Term}
use Rattle.sq_graph.specs.declared.item.Term.TheVariants.{Fall, Jump, Branch, Call, PartJump, Indirect, Stop}
use Rattle.sq_graph.specs.Graph.{Block, Procedure, Graph}
use Rattle.sq_graph.specs.Blocks.{HasBlock, HasProcedure}
use Rattle.sq_graph.specs.Leaders.{is_fall}
use Rattle.sq_graph.specs.Places.{procedure_addresses}
use Rattle.sq_graph.specs.Renames.{retargeted_item, retargeted_term}
use Rattle.sq_graph.specs.Rules.{IsGraph}
use Rattle.sq_graph.specs.Uses.{term_uses}
use Rattle.sq_graph.specs.Words.{procedure_words, words_of}
use Rattle.sq_graph.proofs.Marks.{is_among-append}
use Rattle.sq_graph.proofs.RulesByBlock.{ItemStands, BlockStands, BodyStands, by_block}
use Rattle.law_program.specs.Programs.{Text, Note}
use Rattle.law_program.specs.Readings.{Reading, IsTerm, marked_reading, reading_of}
use Rattle.law_program.specs.Lifted.{procedure_at, Form, ItemForm, TermForm, link_form, form_of, form_leads, reading_leads, words_lead, Rest, between, with_form, with_reading, begun_if, cut}
use Rattle.sq_write.specs.Points.{Point, new_address, new_start, call_link, procedures_at}
use Rattle.law_written.specs.Programs.{word_at_point, notes_from, graph_notes}
use Rattle.law_written.specs.Readings.{item_reading, term_readings, block_readings, procedure_readings, text_readings}
use Rattle.law_written.specs.Words.{point_mark}
use Rattle.law_written.proofs.Entering.{block_before}
use Rattle.law_written.proofs.Faults.{start_place}
use Rattle.sq_write.proofs.PointFields.{AllFit}
use Rattle.law_written.proofs.Readings.{ReadsAs, AreRead}

-- WORDS AS FORMS

-- where forms lead that stand from an address on
abbrev pub forms_lead : ℕ → List Form → List ℕ
forms_lead at [] = []
forms_lead at (form ∷ forms) = form_leads at form ++ forms_lead (at + 4) forms

-- the blocks that are cut from them
abbrev pub forms_cut : (ℕ → Bool) → (ℕ → Bool) → ℕ → List Form → Rest
forms_cut keeps leads at [] = between []
forms_cut keeps leads at (form ∷ forms) =
    if keeps at
    then begun_if (leads at) at (with_form form (forms_cut keeps leads (at + 4) forms))
    else forms_cut keeps leads (at + 4) forms

word_reads : (t : Text) (at : ℕ) (p : Point) (r : Reading) → FieldsFit p.insn → ReadsAs t at p r → reading_of t at (word_at_point p) ≡ Some r
word_reads t at p r fits reads = ap (option_and_then (marked_reading t at (point_mark p))) (insn_of-word_of p.insn fits) ∙ reads

pub all_lead : (is : ℕ → Bool) (notes : List Note) (t : Text) (at : ℕ) (ps : List Point) (rs : List Reading) (x : ℕ) → AreRead t at ps rs → AllFit ps → ((k : ℕ) → k < length ps → is (at + 4 * k) ≡ true) → words_lead is notes t at (map word_at_point ps) x ≡ is_among (forms_lead at (map (form_of notes) rs)) x
all_lead is notes t at [] [] x read fits every = refl
all_lead is notes t at [] (r ∷ rs) x read fits every = absurd read
all_lead is notes t at (p ∷ ps) [] x read fits every = absurd read
all_lead is notes t at (p ∷ ps) (r ∷ rs) x read fits every =
    let none : at ≡ at + 4 * 0 = omega arith in
    let here : is at ≡ true = ap is none ∙ every 0 (omega arith) in
    let more = all_lead is notes t (at + 4) ps rs x read.1 fits.1 (λ k less. let next : at + 4 + 4 * k ≡ at + 4 * suc k = omega arith in ap is next ∙ every (suc k) (omega arith)) in
    ap (λ b. b && is_among (reading_leads notes at (reading_of t at (word_at_point p))) x || words_lead is notes t (at + 4) (map word_at_point ps) x) here
    ∙ ap (λ o. is_among (reading_leads notes at o) x || words_lead is notes t (at + 4) (map word_at_point ps) x) (word_reads t at p r fits.0 read.0)
    ∙ ap (λ b. is_among (form_leads at (form_of notes r)) x || b) more
    ∙ sym (is_among-append (form_leads at (form_of notes r)) (forms_lead (at + 4) (map (form_of notes) rs)) x)

pub all_cut : (keeps leads : ℕ → Bool) (notes : List Note) (t : Text) (at : ℕ) (ps : List Point) (rs : List Reading) → AreRead t at ps rs → AllFit ps → cut keeps leads notes t at (map word_at_point ps) ≡ forms_cut keeps leads at (map (form_of notes) rs)
all_cut keeps leads notes t at [] [] read fits = refl
all_cut keeps leads notes t at [] (r ∷ rs) read fits = absurd read
all_cut keeps leads notes t at (p ∷ ps) [] read fits = absurd read
all_cut keeps leads notes t at (p ∷ ps) (r ∷ rs) read fits =
    ap (λ o. if keeps at then begun_if (leads at) at (with_reading notes o (cut keeps leads notes t (at + 4) (map word_at_point ps))) else cut keeps leads notes t (at + 4) (map word_at_point ps)) (word_reads t at p r fits.0 read.0)
    ∙ ap (λ rest. if keeps at then begun_if (leads at) at (with_form (form_of notes r) rest) else rest) (all_cut keeps leads notes t (at + 4) ps rs read.1 fits.1)

-- NOTED ADDRESSES

before : (x y : ℕ) → x < y → (x == y) ≡ false
before x y less = grind (arith, nat_tests)

behind : (x y : ℕ) → y < x → (x == y) ≡ false
behind x y less = grind (arith, nat_tests)

number_there : (ps : List Procedure) (at q : ℕ) → q < length ps → procedure_at (notes_from at ps) (unwrap_or (slice_get (procedure_addresses ps at) q) 0) ≡ Some q
number_there [] at q within = absurd (let f : q < 0 = within in omega arith)
number_there (p ∷ ps) at zero within = let same : (at == at) ≡ true = eq-eqb at at refl in rw same refl
number_there (p ∷ ps) at (suc q) within =
    let less : q < length ps = (let f : suc q < suc (length ps) = within in omega arith) in
    let found = start_place ps (at + 4 * procedure_words p) q less in
    let is : unwrap_or (slice_get (procedure_addresses ps (at + 4 * procedure_words p)) q) 0 ≡ found.0 = ap (λ o. unwrap_or o 0) found.2 in
    let other : (at == unwrap_or (slice_get (procedure_addresses ps (at + 4 * procedure_words p)) q) 0) ≡ false = before at (unwrap_or (slice_get (procedure_addresses ps (at + 4 * procedure_words p)) q) 0) (omega (arith, is, found.3)) in
    rw other (ap (option_map suc) (number_there ps (at + 4 * procedure_words p) q less))

not_noted : (ps : List Procedure) (at x : ℕ) → x < at → procedure_at (notes_from at ps) x ≡ None
not_noted [] at x less = refl
not_noted (p ∷ ps) at x less = rw (behind at x less) (ap (option_map suc) (not_noted ps (at + 4 * procedure_words p) x (omega arith)))

-- A GRAPH'S FORMS

module _ (g : Graph) (lo : ℕ) where
  abbrev pub item_form : Item → Form
  item_form item = ItemForm (retargeted_item (new_address g lo) item)

  abbrev pub term_forms : Term → List Form
  term_forms term = if is_fall term then [] else TermForm (retargeted_term (new_address g lo) term) ∷ []

  abbrev pub block_forms : Block → List Form
  block_forms block = map item_form block.items ++ term_forms block.term

  abbrev pub procedure_forms : Procedure → List Form
  procedure_forms procedure = map item_form procedure.body ++ TermForm (Indirect 0 procedure.link (pos 0)) ∷ []

  abbrev pub text_forms : List Form
  text_forms = flat_map block_forms g.blocks ++ flat_map procedure_forms g.procedures

module _ (g : Graph) (lo : ℕ) (rules : IsGraph g) (few : words_of g ≤ 262144) where
  abbrev Keeps : Item → Type 0
  Keeps = ItemStands (HasBlock g) (HasProcedure g)

  item_is : (item : Item) → Keeps item → form_of (graph_notes g lo) (item_reading g lo item) ≡ item_form g lo item
  item_is (Op insn) keeps = refl
  item_is (Hi rd to) keeps = refl
  item_is (Lo rd rs to) keeps = refl
  item_is (Out q) keeps =
      ap (link_form (call_link g q) (new_start g lo q)) (number_there g.procedures (procedures_at g lo) q (All-head (HasProcedure g) q [] keeps.calls))

  items_are : (items : List Item) → All Keeps items → map (form_of (graph_notes g lo)) (map (item_reading g lo) items) ≡ map (item_form g lo) items
  items_are [] all = refl
  items_are (item ∷ items) all =
      ap (λ x. x ∷ map (form_of (graph_notes g lo)) (map (item_reading g lo) items)) (item_is item (All-head {X = Item} Keeps item items all))
      ∙ ap (λ xs. item_form g lo item ∷ xs) (items_are items (All-tail {X = Item} Keeps item items all))

  term_is : (term : Term) → All (HasBlock g) (term_uses term) → map (form_of (graph_notes g lo)) (term_readings g lo term) ≡ term_forms g lo term
  term_is Fall names = refl
  term_is (Jump to) names = refl
  term_is (Branch c a b to) names = refl
  term_is (Call link to) names =
      let there = All-head (HasBlock g) to [] names in
      ap (λ o. link_form link (new_address g lo to) o ∷ []) (not_noted g.procedures (procedures_at g lo) (new_address g lo to) (block_before g lo rules few to there))
  term_is (PartJump link part to) names = refl
  term_is (Indirect link register offset) names = refl
  term_is (Stop word) names = refl

  blocks_are : (bs : List Block) → All (BlockStands (HasBlock g) (HasProcedure g)) bs → map (form_of (graph_notes g lo)) (flat_map (block_readings g lo) bs) ≡ flat_map (block_forms g lo) bs
  blocks_are [] all = refl
  blocks_are (b ∷ bs) all =
      let keeps = All-head {X = Block} (BlockStands (HasBlock g) (HasProcedure g)) b bs all in
      map-append (form_of (graph_notes g lo)) (block_readings g lo b) (flat_map (block_readings g lo) bs)
      ∙ ap (λ xs. xs ++ map (form_of (graph_notes g lo)) (flat_map (block_readings g lo) bs)) (map-append (form_of (graph_notes g lo)) (map (item_reading g lo) b.items) (term_readings g lo b.term))
      ∙ ap (λ xs. (xs ++ map (form_of (graph_notes g lo)) (term_readings g lo b.term)) ++ map (form_of (graph_notes g lo)) (flat_map (block_readings g lo) bs)) (items_are b.items keeps.items)
      ∙ ap (λ xs. (map (item_form g lo) b.items ++ xs) ++ map (form_of (graph_notes g lo)) (flat_map (block_readings g lo) bs)) (term_is b.term keeps.names)
      ∙ ap (λ xs. block_forms g lo b ++ xs) (blocks_are bs (All-tail {X = Block} (BlockStands (HasBlock g) (HasProcedure g)) b bs all))

  procedures_are : (ps : List Procedure) → All (BodyStands (HasBlock g) (HasProcedure g)) ps → map (form_of (graph_notes g lo)) (flat_map (procedure_readings g lo) ps) ≡ flat_map (procedure_forms g lo) ps
  procedures_are [] all = refl
  procedures_are (p ∷ ps) all =
      let keeps = All-head {X = Procedure} (BodyStands (HasBlock g) (HasProcedure g)) p ps all in
      map-append (form_of (graph_notes g lo)) (procedure_readings g lo p) (flat_map (procedure_readings g lo) ps)
      ∙ ap (λ xs. xs ++ map (form_of (graph_notes g lo)) (flat_map (procedure_readings g lo) ps)) (map-append (form_of (graph_notes g lo)) (map (item_reading g lo) p.body) (IsTerm (Indirect 0 p.link (pos 0)) ∷ []))
      ∙ ap (λ xs. (xs ++ TermForm (Indirect 0 p.link (pos 0)) ∷ []) ++ map (form_of (graph_notes g lo)) (flat_map (procedure_readings g lo) ps)) (items_are p.body keeps.items)
      ∙ ap (λ xs. procedure_forms g lo p ++ xs) (procedures_are ps (All-tail {X = Procedure} (BodyStands (HasBlock g) (HasProcedure g)) p ps all))

  pub forms_are : map (form_of (graph_notes g lo)) (text_readings g lo) ≡ text_forms g lo
  forms_are =
      let by = by_block (HasBlock g) (HasProcedure g) g rules rules.named_all rules.called_all in
      map-append (form_of (graph_notes g lo)) (flat_map (block_readings g lo) g.blocks) (flat_map (procedure_readings g lo) g.procedures)
      ∙ ap (λ xs. xs ++ map (form_of (graph_notes g lo)) (flat_map (procedure_readings g lo) g.procedures)) (blocks_are g.blocks by.blocks)
      ∙ ap (λ xs. flat_map (block_forms g lo) g.blocks ++ xs) (procedures_are g.procedures by.bodies)
