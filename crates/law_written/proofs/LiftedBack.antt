-- The graph that is lifted from the file of a graph is that graph, with new addresses for names.
use Rattle.std.proofs.Common.{◌≡◌, ℕ, pos, ◌+◌, ◌*◌, ◌-◌, ◌%◌, ◌^◌, ◌<◌, ◌≤◌, ◌==◌, Bool, true, false, not, ◌||◌, ◌⊎◌, inl, inr, List, [], ◌∷◌, ◌++◌, length, map, sum_by, refl, sym, ap, subst, ◌∙◌, arith, length-append, eq-eqb}
use Rattle.std.specs.List.{All, AllByRecursion, flat_map}
use Rattle.std.proofs.lemmas.Bool.{cases_lt, or_cases, or_left, or_right, or_from, and_from, and_right, eqb-true, false_from_ne_true}
use Rattle.std.proofs.lemmas.List.{length-map}
use Rattle.std.proofs.lemmas.List.Elements.{All-nil, All-cons, All-head, All-tail, All-append, All-weaker}
use Rattle.std.proofs.lemmas.List.Sums.{sum_by-cons}
use Rattle.sq_isa.specs.Registers.{is_among}
use Rattle.sq_elf.specs.Text.{text_of}
use Rattle.sq_graph.specs.declared.item.Term.TheVariants.{Indirect}
use Rattle.sq_graph.specs.declared.parts.CodeRef.{CodeRef}
use Rattle.sq_graph.specs.Graph.{Block, Procedure, Graph}
use Rattle.sq_graph.specs.Blocks.{HasBlock, HasProcedure, all_items}
use Rattle.sq_graph.specs.Leaders.{follows_a_term, IsCanonical}
use Rattle.sq_graph.specs.Renames.{renamed_block}
use Rattle.sq_graph.specs.Rules.{IsGraph}
use Rattle.sq_graph.specs.Uses.{items_uses, terms_uses, code_word_uses, uses}
use Rattle.sq_graph.specs.Words.{block_words, procedure_words, words_of}
use Rattle.sq_graph.proofs.Eachs.{All-left, All-right}
use Rattle.sq_graph.proofs.RulesByBlock.{IsByBlock, by_block}
use Rattle.law_program.specs.Programs.{is_word, target_of}
use Rattle.law_program.specs.Notes.{is_in_procedure, is_in_procedures}
use Rattle.law_program.specs.Lifted.{TermForm, words_lead, is_leader, is_kept, Rest, between, cut}
use Rattle.sq_write.specs.Points.{new_address, procedures_at, text_points}
use Rattle.sq_write.proofs.Fitting.{text_stands}
use Rattle.sq_write.proofs.Lengths.{length_text}
use Rattle.sq_graph.proofs.Renamed.{names_there}
use Rattle.law_written.proofs.Pairs.{all_map}
use Rattle.law_written.specs.Cutting.{lifted_back, WrittenGraphsLiftBack}
use Rattle.law_written.specs.Programs.{word_at_point, graph_text, new_code_word, notes_from, graph_notes, graph_program}
use Rattle.law_written.specs.Readings.{text_readings}
use Rattle.law_written.specs.Whole.{IsWhole}
use Rattle.law_written.proofs.BlockPlaces.{IsFull, some_words, AreAt, blocks_at, IsSplit, all_split, lies_apart, rest_split}
use Rattle.law_written.proofs.CodeWords.{low_word}
use Rattle.law_written.proofs.Cutting.{none_cut, AreCut, blocks_cut}
use Rattle.law_written.proofs.Entering.{not_below, is_inside}
use Rattle.law_written.proofs.Faults.{placed_word}
use Rattle.sq_write.proofs.PointFields.{AllFit, text_fits}
use Rattle.law_written.proofs.Forms.{forms_lead, forms_cut, all_lead, all_cut, item_form, procedure_forms, text_forms, forms_are}
use Rattle.law_written.proofs.GraphLeaders.{reached_leads}
use Rattle.law_written.proofs.Parts.{written_parts_lift_back}
use Rattle.law_written.proofs.Readings.{text_read}
use Rattle.law_written.proofs.TextLeaders.{IsTextLed, text_led, text_like}
use Rattle.law_written.proofs.WrittenRelocations.{high, few_words}

among_all : (P : ℕ → Type 0) (xs : List ℕ) (n : ℕ) → All P xs → is_among xs n ≡ true → P n
among_all P [] n all h = absurd (cc)
among_all P (x ∷ xs) n all h =
    elim (or_cases (x == n) (is_among xs n) h) [
      | inl here ↦ subst P (eqb-true x n here) (All-head P x xs all)
      | inr later ↦ among_all P xs n (All-tail P x xs all) later
    ]

-- WORDS OF PROCEDURES

before_procedures : (ps : List Procedure) (at x : ℕ) → x < at → is_in_procedures (notes_from at ps) x ≡ false
before_procedures [] at x less = refl
before_procedures (p ∷ ps) at x less =
    or_from (is_in_procedure (record { address = at; link = p.link; length = length p.body }) x) (is_in_procedures (notes_from (at + 4 * procedure_words p) ps) x)
    (not_below at (length p.body + 1) x less) (before_procedures ps (at + 4 * procedure_words p) x (omega arith))

inside_procedures : (ps : List Procedure) (at k : ℕ) → k < sum_by procedure_words ps → is_in_procedures (notes_from at ps) (at + 4 * k) ≡ true
inside_procedures [] at k less = absurd (omega arith)
inside_procedures (p ∷ ps) at k less =
    elim (cases_lt k (procedure_words p)) [
      | inl own ↦ or_left (is_in_procedure (record { address = at; link = p.link; length = length p.body }) (at + 4 * k)) (is_in_procedures (notes_from (at + 4 * procedure_words p) ps) (at + 4 * k)) (is_inside at (length p.body + 1) k own)
      | inr past ↦
          let next : at + 4 * k ≡ at + 4 * procedure_words p + 4 * (k - procedure_words p) = omega (arith, past) in
          let more = inside_procedures ps (at + 4 * procedure_words p) (k - procedure_words p) (omega (arith, less, past, sum_by-cons procedure_words p ps)) in
          or_right (is_in_procedure (record { address = at; link = p.link; length = length p.body }) (at + 4 * k)) (is_in_procedures (notes_from (at + 4 * procedure_words p) ps) (at + 4 * k)) (ap (is_in_procedures (notes_from (at + 4 * procedure_words p) ps)) next ∙ more)
    ]

long_procedures : (g : Graph) (lo : ℕ) (ps : List Procedure) → length (flat_map (procedure_forms g lo) ps) ≡ sum_by procedure_words ps
long_procedures g lo [] = refl
long_procedures g lo (p ∷ ps) =
    omega (arith, length-append (procedure_forms g lo p) (flat_map (procedure_forms g lo) ps), length-append (map (item_form g lo) p.body) (TermForm (Indirect 0 p.link (pos 0)) ∷ []), length-map p.body (item_form g lo), long_procedures g lo ps, sum_by-cons procedure_words p ps)

-- CODE WORDS

module _ (g : Graph) (lo : ℕ) where
  abbrev targets : List CodeRef → List ℕ
  targets words = map target_of (map (new_code_word g lo) words)

  code_words_led : (words : List CodeRef) → All (λ n. is_among (targets words) (new_address g lo n) ≡ true) (code_word_uses words)
  code_words_led [] = All-nil (λ n. is_among (targets []) (new_address g lo n) ≡ true)
  code_words_led (word ∷ words) =
      All-cons (λ n. is_among (targets (word ∷ words)) (new_address g lo n) ≡ true) word.block (code_word_uses words)
      (or_left (new_address g lo word.block == new_address g lo word.block) (is_among (targets words) (new_address g lo word.block)) (eq-eqb (new_address g lo word.block) (new_address g lo word.block) refl))
      (All-weaker (λ n. is_among (targets words) (new_address g lo n) ≡ true) (λ n. is_among (targets (word ∷ words)) (new_address g lo n) ≡ true) (λ n there. or_right (new_address g lo word.block == new_address g lo n) (is_among (targets words) (new_address g lo n)) there) (code_word_uses words) (code_words_led words))

  -- the new address of a block
  record IsNewAddress (x : ℕ) : Type 0 where
    name : ℕ
    there : HasBlock g name
    is : new_address g lo name ≡ x

  its_address : (n : ℕ) → HasBlock g n → IsNewAddress (new_address g lo n)
  its_address n has = record { name = n; there = has; is = refl }

  code_words_only : (words : List CodeRef) (x : ℕ) → All (HasBlock g) (code_word_uses words) → is_among (targets words) x ≡ true → IsNewAddress x
  code_words_only [] x all h = absurd (cc)
  code_words_only (word ∷ words) x all h =
      elim (or_cases (new_address g lo word.block == x) (is_among (targets words) x) h) [
        | inl here ↦ record { name = word.block; there = All-head (HasBlock g) word.block (code_word_uses words) all; is = eqb-true (new_address g lo word.block) x here }
        | inr later ↦ code_words_only words x (All-tail (HasBlock g) word.block (code_word_uses words) all) later
      ]

module _ (g : Graph) (lo : ℕ) (rules : IsGraph g) (few : words_of g ≤ 262144) (ends : lo + 4 * words_of g ≤ 2 ^ 32) (even : lo % 4 ≡ 0) (fits : AllFit (text_points g lo)) (canonical : IsCanonical g) (whole : IsWhole g) (is : ℕ → Bool) (every : (x : ℕ) → is_word (graph_text g lo) x ≡ true → is x ≡ true) where
  abbrev keeps : ℕ → Bool
  keeps x = is_kept is (graph_notes g lo) x

  abbrev leads : ℕ → Bool
  leads x = is_leader is (graph_notes g lo) (graph_program g lo) x

  word_is : (k : ℕ) → k < words_of g → is (lo + 4 * k) ≡ true
  word_is k within = every (lo + 4 * k) (placed_word g lo rules few ends even (lo + 4 * k) (record { place = k; is = refl; within = within }))

  -- LEADERS

  words_are : (x : ℕ) → words_lead is (graph_notes g lo) (graph_text g lo) lo (map word_at_point (text_points g lo)) x ≡ is_among (forms_lead lo (text_forms g lo)) x
  words_are x =
      all_lead is (graph_notes g lo) (graph_text g lo) lo (text_points g lo) (text_readings g lo) x (text_read g lo rules few ends) fits (λ k less. word_is k (omega (arith, less, length_text g lo)))
      ∙ ap (λ forms. is_among (forms_lead lo forms) x) (forms_are g lo rules few)

  abbrev from_outside : ℕ → Bool
  from_outside x = new_address g lo g.entry == x || is_among (targets g lo g.code_words) x

  abbrev from_words : ℕ → Bool
  from_words x = words_lead is (graph_notes g lo) (graph_text g lo) lo (map word_at_point (text_points g lo)) x

  led_from_text : (x : ℕ) → is_among (forms_lead lo (text_forms g lo)) x ≡ true → leads x ≡ true
  led_from_text x h = or_right (from_outside x) (from_words x) (words_are x ∙ h)

  led : IsTextLed g lo leads
  led = text_led g lo leads (blocks_at g lo canonical rules) led_from_text

  abbrev Led : ℕ → Type 0
  Led n = leads (new_address g lo n) ≡ true

  all_led : All Led (uses g)
  all_led =
      let entry : Led g.entry = or_left (from_outside (new_address g lo g.entry)) (from_words (new_address g lo g.entry)) (or_left (new_address g lo g.entry == new_address g lo g.entry) (is_among (targets g lo g.code_words) (new_address g lo g.entry)) (eq-eqb (new_address g lo g.entry) (new_address g lo g.entry) refl)) in
      let words : All Led (code_word_uses g.code_words) =
      All-weaker (λ n. is_among (targets g lo g.code_words) (new_address g lo n) ≡ true) Led
      (λ n there. or_left (from_outside (new_address g lo n)) (from_words (new_address g lo n)) (or_right (new_address g lo g.entry == new_address g lo n) (is_among (targets g lo g.code_words) (new_address g lo n)) there))
      (code_word_uses g.code_words) (code_words_led g lo g.code_words)
      in
      All-cons Led g.entry (code_word_uses g.code_words ++ (terms_uses g.blocks ++ items_uses (all_items g))) entry
      (All-append Led (code_word_uses g.code_words) (terms_uses g.blocks ++ items_uses (all_items g)) words
      (All-append Led (terms_uses g.blocks) (items_uses (all_items g)) led.terms led.items))

  -- the new address of each block leads
  block_led : (n : ℕ) → HasBlock g n → leads (new_address g lo n) ≡ true
  block_led n there =
      elim (or_cases (is_among (uses g) n) (follows_a_term g.blocks n) (reached_leads g rules canonical n (whole.blocks n there))) [
        | inl used ↦ among_all Led (uses g) n all_led used
        | inr behind ↦ led.follows n behind
      ]

  by : IsByBlock (HasBlock g) (HasProcedure g) g
  by = by_block (HasBlock g) (HasProcedure g) g rules rules.named_all rules.called_all

  -- and nothing else does
  only_blocks : (x : ℕ) → leads x ≡ true → IsNewAddress g lo x
  only_blocks x h = pick (or_cases (from_outside x) (from_words x) h)
    where
      others : All (HasBlock g) (terms_uses g.blocks ++ items_uses (all_items g))
      others =
          All-right (HasBlock g) (code_word_uses g.code_words) (terms_uses g.blocks ++ items_uses (all_items g))
          (All-tail (HasBlock g) g.entry (code_word_uses g.code_words ++ (terms_uses g.blocks ++ items_uses (all_items g))) rules.named_all)

      like_of : (xs : List ℕ) → All (HasBlock g) xs → All (λ n. IsNewAddress g lo (new_address g lo n)) xs
      like_of xs all = All-weaker (HasBlock g) (λ n. IsNewAddress g lo (new_address g lo n)) (its_address g lo) xs all

      words_only : is_among (forms_lead lo (text_forms g lo)) x ≡ true → IsNewAddress g lo x
      words_only =
          text_like g lo (IsNewAddress g lo) (blocks_at g lo canonical rules) rules.ends
          (all_map (λ b. HasBlock g b.name) (λ b. IsNewAddress g lo (new_address g lo b.name)) (λ b there. its_address g lo b.name there) g.blocks (names_there g.blocks))
          (like_of (terms_uses g.blocks) (All-left (HasBlock g) (terms_uses g.blocks) (items_uses (all_items g)) others))
          (like_of (items_uses (all_items g)) (All-right (HasBlock g) (terms_uses g.blocks) (items_uses (all_items g)) others))
          x

      outside : ((new_address g lo g.entry == x) ≡ true) ⊎ (is_among (targets g lo g.code_words) x ≡ true) → IsNewAddress g lo x
      outside (inl entry) = record { name = g.entry; there = by.entry; is = eqb-true (new_address g lo g.entry) x entry }
      outside (inr word) = code_words_only g lo g.code_words x by.words word

      pick : (from_outside x ≡ true) ⊎ (from_words x ≡ true) → IsNewAddress g lo x
      pick (inl other) = outside (or_cases (new_address g lo g.entry == x) (is_among (targets g lo g.code_words) x) other)
      pick (inr word) = words_only (sym (words_are x) ∙ word)

  -- KEPT WORDS

  block_kept : (x k : ℕ) → x ≡ lo + 4 * k → k < sum_by block_words g.blocks → keeps x ≡ true
  block_kept x k place within =
      and_from (is x) (not (is_in_procedures (graph_notes g lo) x)) (ap is place ∙ word_is k (omega (arith, within)))
      (ap not (before_procedures g.procedures (procedures_at g lo) x (omega (arith, place, within))))

  procedure_dropped : (k : ℕ) → k < length (flat_map (procedure_forms g lo) g.procedures) → keeps (procedures_at g lo + 4 * k) ≡ false
  procedure_dropped k less =
      and_right (is (procedures_at g lo + 4 * k)) (not (is_in_procedures (graph_notes g lo) (procedures_at g lo + 4 * k)))
      (ap not (inside_procedures g.procedures (procedures_at g lo) k (omega (arith, less, long_procedures g lo g.procedures))))

  -- BLOCKS

  are_cut : (bs : List Block) (at j : ℕ) → at ≡ lo + 4 * j → j + sum_by block_words bs ≡ sum_by block_words g.blocks → AllByRecursion (λ b. HasBlock g b.name) bs → All IsFull bs → AreAt (new_address g lo) at bs → IsSplit g lo canonical at bs → AreCut g lo keeps leads at bs
  are_cut [] at j place sum names full places split = tt
  are_cut (b ∷ bs) at j place sum names full places split =
      let own = All-head {X = Block} IsFull b bs full in
      let some = some_words b own in
      let cons = sum_by-cons block_words b bs in (
        record {
          full = own;
          kept = block_kept at j place (omega (arith, sum, cons, some));
          begins = subst (λ a. leads a ≡ true) places.0 (block_led b.name names.0);
          inner = λ k more less. (block_kept (at + 4 * k) (j + k) (omega (arith, place)) (omega (arith, less, sum, cons)), inside k more less);
        },
        are_cut bs (at + 4 * block_words b) (j + block_words b) (omega (arith, place)) (omega (arith, sum, cons)) names.1 (All-tail {X = Block} IsFull b bs full) places.1 (rest_split g lo canonical b bs at split own),
      )
    where
      inside : (k : ℕ) → 0 < k → k < block_words b → leads (at + 4 * k) ≡ false
      inside k more less = false_from_ne_true (leads (at + 4 * k)) (λ h. let found = only_blocks (at + 4 * k) h in clash found (lies_apart g lo canonical b bs at split found.name found.there))
        where
          clash : (found : IsNewAddress g lo (at + 4 * k)) → (new_address g lo found.name ≤ at) ⊎ (at + 4 * block_words b ≤ new_address g lo found.name) → ⊥
          clash found (inl low) = let same = found.is in omega (arith, low, same, more)
          clash found (inr far) = let same = found.is in omega (arith, far, same, less)

  cut_is : cut keeps leads (graph_notes g lo) (graph_text g lo) lo (map word_at_point (text_points g lo)) ≡ between (map (renamed_block (new_address g lo)) g.blocks)
  cut_is =
      let places = blocks_at g lo canonical rules in
      let behind = none_cut keeps leads (flat_map (procedure_forms g lo) g.procedures) (procedures_at g lo) procedure_dropped in
      all_cut keeps leads (graph_notes g lo) (graph_text g lo) lo (text_points g lo) (text_readings g lo) (text_read g lo rules few ends) fits
      ∙ ap (forms_cut keeps leads lo) (forms_are g lo rules few)
      ∙ blocks_cut g lo keeps leads g.blocks lo (flat_map (procedure_forms g lo) g.procedures) places
      (are_cut g.blocks lo 0 (omega arith) (omega arith) (names_there g.blocks) canonical.no_bare places (all_split g lo canonical)) behind

  pub blocks_back : (lifted_back is g lo).blocks ≡ map (renamed_block (new_address g lo)) g.blocks
  blocks_back = ap (λ (rest : Rest). rest.blocks) cut_is

pub written_graphs_lift_back : WrittenGraphsLiftBack
written_graphs_lift_back = λ bytes g can canonical whole is every.
    let few = few_words bytes g can in
    let ends : (text_of bytes).lo + 4 * words_of g ≤ 2 ^ 32 = omega (arith, can.words, high bytes g can) in
    let fits = text_fits g (text_of bytes).lo can.rules (text_stands g (text_of bytes).lo can.rules few can.reach) in
    let blocks = blocks_back g (text_of bytes).lo can.rules few ends (low_word bytes g can) fits canonical whole is every in
    let parts = written_parts_lift_back bytes g can is in
    λ i. record { blocks = blocks i; entry = parts.entry i; code_words = parts.code_words i; procedures = parts.procedures i }
