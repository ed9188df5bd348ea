-- What the words of text of the file of a graph lead to: the new addresses of blocks, each that the graph has as a leader.
use Rattle.std.proofs.Common.{◌≡◌, ℕ, suc, pos, ◌+◌, ◌*◌, ◌==◌, Bool, true, false, not, ◌&&◌, ◌⊎◌, inl, inr, List, [], ◌∷◌, ◌++◌, length, map, sum_by, if◌then◌else◌, refl, sym, ap, subst, ◌∙◌, arith, append_assoc, eq-eqb}
use Rattle.std.specs.List.{All, AllByRecursion, flat_map}
use Rattle.std.proofs.lemmas.Bool.{cases_Bool, or_cases, or_left, or_right, and_parts, eqb-true}
use Rattle.std.proofs.lemmas.List.Concat.{flat_map-append}
use Rattle.std.proofs.lemmas.List.Elements.{All-nil, All-cons, All-head, All-append}
use Rattle.std.proofs.lemmas.List.Sums.{sum_by-cons}
use Rattle.sq_isa.specs.Registers.{is_among}
use Rattle.sq_graph.specs.declared.item.Item.{Item}
use Rattle.sq_graph.specs.declared.item.Item.TheVariants.{Op, Hi, Lo, Out}
use Rattle.sq_graph.specs.declared.item.Term.{Term}
use Rattle.sq_graph.specs.declared.item.Term.TheVariants.{Fall, Jump, Branch, Call, PartJump, Indirect, Stop}
use Rattle.sq_graph.specs.Graph.{Block, Procedure, Graph}
use Rattle.sq_graph.specs.Blocks.{items_of_blocks, items_of_bodies}
use Rattle.sq_graph.specs.Leaders.{is_fall, follows_a_term}
use Rattle.sq_graph.specs.Renames.{retargeted_item, retargeted_term}
use Rattle.sq_graph.specs.Rules.{last_goes_on}
use Rattle.sq_graph.specs.Terms.{goes_on}
use Rattle.sq_graph.specs.Uses.{item_uses, items_uses, term_uses, terms_uses}
use Rattle.sq_graph.specs.Words.{term_words, block_words}
use Rattle.sq_graph.proofs.Eachs.{All-left, All-right}
use Rattle.sq_graph.proofs.Kept.{fall_uses, fall_words}
use Rattle.sq_graph.proofs.Marks.{is_among-append}
use Rattle.law_program.specs.Lifted.{Form, TermForm}
use Rattle.sq_write.specs.Points.{new_address}
use Rattle.law_written.proofs.BlockPlaces.{AreAt}
use Rattle.law_written.proofs.Forms.{forms_lead, item_form, term_forms, block_forms, procedure_forms}

-- a term with other names goes on where it did
pub goes_alike : (f : ℕ → ℕ) (term : Term) → goes_on (retargeted_term f term) ≡ goes_on term
goes_alike f Fall = refl
goes_alike f (Jump to) = refl
goes_alike f (Branch c a b to) = refl
goes_alike f (Call link to) = refl
goes_alike f (PartJump link part to) = refl
goes_alike f (Indirect link register offset) = refl
goes_alike f (Stop word) = refl

-- a term but Fall takes a word
pub one_word : (term : Term) → is_fall term ≡ false → term_words term ≡ 1
one_word Fall e = absurd (cc)
one_word (Jump to) e = refl
one_word (Branch c a b to) e = refl
one_word (Call link to) e = refl
one_word (PartJump link part to) e = refl
one_word (Indirect link register offset) e = refl
one_word (Stop word) e = refl

among_cases : (xs ys : List ℕ) (x : ℕ) → is_among (xs ++ ys) x ≡ true → (is_among xs x ≡ true) ⊎ (is_among ys x ≡ true)
among_cases xs ys x h = or_cases (is_among xs x) (is_among ys x) (sym (is_among-append xs ys x) ∙ h)

among_left : (xs ys : List ℕ) (x : ℕ) → is_among xs x ≡ true → is_among (xs ++ ys) x ≡ true
among_left xs ys x h = is_among-append xs ys x ∙ or_left (is_among xs x) (is_among ys x) h

among_right : (xs ys : List ℕ) (x : ℕ) → is_among ys x ≡ true → is_among (xs ++ ys) x ≡ true
among_right xs ys x h = is_among-append xs ys x ∙ or_right (is_among xs x) (is_among ys x) h

among_first : (x : ℕ) (xs : List ℕ) → is_among (x ∷ xs) x ≡ true
among_first x xs = or_left (x == x) (is_among xs x) (eq-eqb x x refl)

-- the words of a block: its items, its term, and what is behind
pub three_parts : (xs ys zs rest : List Form) → ((xs ++ ys) ++ zs) ++ rest ≡ xs ++ (ys ++ (zs ++ rest))
three_parts xs ys zs rest = append_assoc (xs ++ ys) zs rest ∙ append_assoc xs ys (zs ++ rest)

module _ (g : Graph) (lo : ℕ) where
  -- the word behind a term, where it goes on
  abbrev slot_behind : ℕ → Term → List ℕ
  slot_behind at term = if goes_on (retargeted_term (new_address g lo) term) then (at + 4) ∷ [] else []

  -- WHAT LEADS, WHERE THIS HOLDS WHEREVER WORDS LEAD

  module _ (leads : ℕ → Bool) where
    abbrev Covers : ℕ → List Form → Type 0
    Covers at forms = (x : ℕ) → is_among (forms_lead at forms) x ≡ true → leads x ≡ true

    abbrev pub IsLed : ℕ → Type 0
    IsLed n = leads (new_address g lo n) ≡ true

    item_led : (item : Item) (xs : List ℕ) → ((x : ℕ) → is_among (item_uses (retargeted_item (new_address g lo) item) ++ xs) x ≡ true → leads x ≡ true) → All IsLed (item_uses item)
    item_led (Op insn) xs covers = All-nil IsLed
    item_led (Hi rd to) xs covers = All-cons IsLed to [] (covers (new_address g lo to) (among_first (new_address g lo to) xs)) (All-nil IsLed)
    item_led (Lo rd rs to) xs covers = All-cons IsLed to [] (covers (new_address g lo to) (among_first (new_address g lo to) xs)) (All-nil IsLed)
    item_led (Out q) xs covers = All-nil IsLed

    items_led : (items : List Item) (at : ℕ) (rest : List Form) → Covers at (map (item_form g lo) items ++ rest) → All IsLed (items_uses items) × Covers (at + 4 * length items) rest
    items_led [] at rest covers = let none : at ≡ at + 4 * 0 = omega arith in (All-nil IsLed, subst (λ a. Covers a rest) none covers)
    items_led (item ∷ items) at rest covers =
        let more = items_led items (at + 4) rest (λ x h. covers x (among_right (item_uses (retargeted_item (new_address g lo) item)) (forms_lead (at + 4) (map (item_form g lo) items ++ rest)) x h)) in
        let next : at + 4 + 4 * length items ≡ at + 4 * suc (length items) = omega arith in (
          All-append IsLed (item_uses item) (items_uses items) (item_led item (forms_lead (at + 4) (map (item_form g lo) items ++ rest)) covers) more.0,
          subst (λ a. Covers a rest) next more.1,
        )

    -- a term leads to its targets, and behind itself where it goes on
    record IsTermLed (term : Term) (at : ℕ) (rest : List Form) : Type 0 where
      names : All IsLed (term_uses term)
      next : goes_on term ≡ true → is_fall term ≡ false → leads (at + 4) ≡ true
      behind : Covers (at + 4 * term_words term) rest

    target_led : (term : Term) (xs : List ℕ) → ((x : ℕ) → is_among (term_uses (retargeted_term (new_address g lo) term) ++ xs) x ≡ true → leads x ≡ true) → All IsLed (term_uses term)
    target_led Fall xs covers = All-nil IsLed
    target_led (Jump to) xs covers = All-cons IsLed to [] (covers (new_address g lo to) (among_first (new_address g lo to) xs)) (All-nil IsLed)
    target_led (Branch c a b to) xs covers = All-cons IsLed to [] (covers (new_address g lo to) (among_first (new_address g lo to) xs)) (All-nil IsLed)
    target_led (Call link to) xs covers = All-cons IsLed to [] (covers (new_address g lo to) (among_first (new_address g lo to) xs)) (All-nil IsLed)
    target_led (PartJump link part to) xs covers = All-cons IsLed to [] (covers (new_address g lo to) (among_first (new_address g lo to) xs)) (All-nil IsLed)
    target_led (Indirect link register offset) xs covers = All-nil IsLed
    target_led (Stop word) xs covers = All-nil IsLed

    term_led : (term : Term) (at : ℕ) (rest : List Form) → Covers at (term_forms g lo term ++ rest) → IsTermLed term at rest
    term_led term at rest covers = by_fall (cases_Bool (is_fall term))
      where
        by_fall : (is_fall term ≡ true) ⊎ (is_fall term ≡ false) → IsTermLed term at rest
        by_fall (inl fall) =
            let here : Covers at rest = rw fall at covers in
            let none : at ≡ at + 4 * term_words term = omega (arith, fall_words term fall) in
            record {
              names = subst (All IsLed) (sym (fall_uses term fall)) (All-nil IsLed);
              next = λ goes other. absurd (cc);
              behind = subst (λ a. Covers a rest) none here;
            }
        by_fall (inr other) =
            let here : Covers at (TermForm (retargeted_term (new_address g lo) term) ∷ rest) = rw other at covers in
            let own : (x : ℕ) → is_among (term_uses (retargeted_term (new_address g lo) term) ++ slot_behind at term) x ≡ true → leads x ≡ true =
            (λ x h. here x (among_left (term_uses (retargeted_term (new_address g lo) term) ++ slot_behind at term) (forms_lead (at + 4) rest) x h))
            in
            let one : at + 4 ≡ at + 4 * term_words term = omega (arith, one_word term other) in
            record {
              names = target_led term (slot_behind at term) own;
              next = λ goes still. own (at + 4) (among_right (term_uses (retargeted_term (new_address g lo) term)) (slot_behind at term) (at + 4) (slot_has (goes_alike (new_address g lo) term ∙ goes)));
              behind = subst (λ a. Covers a rest) one (λ x h. here x (among_right (term_uses (retargeted_term (new_address g lo) term) ++ slot_behind at term) (forms_lead (at + 4) rest) x h));
            }
          where
            slot_has : goes_on (retargeted_term (new_address g lo) term) ≡ true → is_among (slot_behind at term) (at + 4) ≡ true
            slot_has goes = rw goes (among_first (at + 4) [])

    record AreBlocksLed (bs : List Block) (at : ℕ) (rest : List Form) : Type 0 where
      terms : All IsLed (terms_uses bs)
      items : All IsLed (items_uses (items_of_blocks bs))
      follows : (n : ℕ) → follows_a_term bs n ≡ true → IsLed n
      behind : Covers (at + 4 * sum_by block_words bs) rest

    blocks_led : (bs : List Block) (at : ℕ) (rest : List Form) → AreAt (new_address g lo) at bs → Covers at (flat_map (block_forms g lo) bs ++ rest) → AreBlocksLed bs at rest
    blocks_led [] at rest places covers =
        let none : at ≡ at + 4 * 0 = omega arith in
        record { terms = All-nil IsLed; items = All-nil IsLed; follows = λ n h. absurd (cc); behind = subst (λ a. Covers a rest) none covers }
    blocks_led (b ∷ bs) at rest places covers =
        let parted : Covers at (map (item_form g lo) b.items ++ (term_forms g lo b.term ++ (flat_map (block_forms g lo) bs ++ rest))) =
        subst (λ fs. Covers at fs) (three_parts (map (item_form g lo) b.items) (term_forms g lo b.term) (flat_map (block_forms g lo) bs) rest) covers
        in
        let own = items_led b.items at (term_forms g lo b.term ++ (flat_map (block_forms g lo) bs ++ rest)) parted in
        let term = term_led b.term (at + 4 * length b.items) (flat_map (block_forms g lo) bs ++ rest) own.1 in
        let next : at + 4 * length b.items + 4 * term_words b.term ≡ at + 4 * block_words b = omega arith in
        let more = blocks_led bs (at + 4 * block_words b) rest places.1 (subst (λ a. Covers a (flat_map (block_forms g lo) bs ++ rest)) next term.behind) in
        let end : at + 4 * block_words b + 4 * sum_by block_words bs ≡ at + 4 * sum_by block_words (b ∷ bs) = omega (arith, sum_by-cons block_words b bs) in
        record {
          terms = All-append IsLed (term_uses b.term) (terms_uses bs) term.names more.terms;
          items = subst (All IsLed) (sym (flat_map-append item_uses b.items (items_of_blocks bs))) (All-append IsLed (items_uses b.items) (items_uses (items_of_blocks bs)) own.0 more.items);
          follows = behind_term bs places.1 term.next more.follows;
          behind = subst (λ a. Covers a rest) end more.behind;
        }
      where
        behind_term : (bs : List Block) → AreAt (new_address g lo) (at + 4 * block_words b) bs → (goes_on b.term ≡ true → is_fall b.term ≡ false → leads (at + 4 * length b.items + 4) ≡ true) → ((n : ℕ) → follows_a_term bs n ≡ true → IsLed n) → (n : ℕ) → follows_a_term (b ∷ bs) n ≡ true → IsLed n
        behind_term [] places next more n h = absurd (cc)
        behind_term (c ∷ cs) places next more n h = pick (or_cases (goes_on b.term && not (is_fall b.term) && c.name == n) (follows_a_term (c ∷ cs) n) h)
          where
            not_fall : (x : Bool) → not x ≡ true → x ≡ false
            not_fall true e = absurd (cc)
            not_fall false e = refl

            pick : ((goes_on b.term && not (is_fall b.term) && c.name == n) ≡ true) ⊎ (follows_a_term (c ∷ cs) n ≡ true) → IsLed n
            pick (inr later) = more n later
            pick (inl here) =
                let parts = and_parts (goes_on b.term && not (is_fall b.term)) (c.name == n) here in
                let goes = and_parts (goes_on b.term) (not (is_fall b.term)) parts.0 in
                let other = not_fall (is_fall b.term) goes.1 in
                let place : at + 4 * length b.items + 4 ≡ at + 4 * block_words b = omega (arith, one_word b.term other) in
                let same : at + 4 * length b.items + 4 ≡ new_address g lo n = place ∙ sym places.0 ∙ ap (new_address g lo) (eqb-true c.name n parts.1) in
                subst (λ a. leads a ≡ true) same (next goes.0 other)

    bodies_led : (ps : List Procedure) (at : ℕ) → Covers at (flat_map (procedure_forms g lo) ps) → All IsLed (items_uses (items_of_bodies ps))
    bodies_led [] at covers = All-nil IsLed
    bodies_led (p ∷ ps) at covers =
        let parted : Covers at (map (item_form g lo) p.body ++ (TermForm (Indirect 0 p.link (pos 0)) ∷ flat_map (procedure_forms g lo) ps)) =
        subst (λ fs. Covers at fs) (append_assoc (map (item_form g lo) p.body) (TermForm (Indirect 0 p.link (pos 0)) ∷ []) (flat_map (procedure_forms g lo) ps)) covers
        in
        let own = items_led p.body at (TermForm (Indirect 0 p.link (pos 0)) ∷ flat_map (procedure_forms g lo) ps) parted in
        subst (All IsLed) (sym (flat_map-append item_uses p.body (items_of_bodies ps)))
        (All-append IsLed (items_uses p.body) (items_uses (items_of_bodies ps)) own.0 (bodies_led ps (at + 4 * length p.body + 4) own.1))

    pub record IsTextLed : Type 0 where
      pub terms : All IsLed (terms_uses g.blocks)
      pub items : All IsLed (items_uses (items_of_blocks g.blocks ++ items_of_bodies g.procedures))
      pub follows : (n : ℕ) → follows_a_term g.blocks n ≡ true → IsLed n

    pub text_led : AreAt (new_address g lo) lo g.blocks → Covers lo (flat_map (block_forms g lo) g.blocks ++ flat_map (procedure_forms g lo) g.procedures) → IsTextLed
    text_led places covers =
        let blocks = blocks_led g.blocks lo (flat_map (procedure_forms g lo) g.procedures) places covers in
        let bodies = bodies_led g.procedures (lo + 4 * sum_by block_words g.blocks) blocks.behind in
        record {
          terms = blocks.terms;
          items = subst (All IsLed) (sym (flat_map-append item_uses (items_of_blocks g.blocks) (items_of_bodies g.procedures))) (All-append IsLed (items_uses (items_of_blocks g.blocks)) (items_uses (items_of_bodies g.procedures)) blocks.items bodies);
          follows = blocks.follows;
        }

  -- WHAT IS LED TO, WHERE ALL OF IT IS LIKE THIS

  module _ (Like : ℕ → Type 0) where
    abbrev Only : ℕ → List Form → Type 0
    Only at forms = (x : ℕ) → is_among (forms_lead at forms) x ≡ true → Like x

    abbrev IsLike : ℕ → Type 0
    IsLike n = Like (new_address g lo n)

    one_like : (n : ℕ) → IsLike n → (x : ℕ) → is_among (new_address g lo n ∷ []) x ≡ true → Like x
    one_like n like x h = pick (or_cases (new_address g lo n == x) false h)
      where
        pick : ((new_address g lo n == x) ≡ true) ⊎ (false ≡ true) → Like x
        pick (inl same) = subst Like (eqb-true (new_address g lo n) x same) like
        pick (inr never) = absurd (cc)

    item_like : (item : Item) → All IsLike (item_uses item) → (x : ℕ) → is_among (item_uses (retargeted_item (new_address g lo) item)) x ≡ true → Like x
    item_like (Op insn) like x h = absurd (cc)
    item_like (Hi rd to) like x h = one_like to (All-head IsLike to [] like) x h
    item_like (Lo rd rs to) like x h = one_like to (All-head IsLike to [] like) x h
    item_like (Out q) like x h = absurd (cc)

    target_like : (term : Term) → All IsLike (term_uses term) → (x : ℕ) → is_among (term_uses (retargeted_term (new_address g lo) term)) x ≡ true → Like x
    target_like Fall like x h = absurd (cc)
    target_like (Jump to) like x h = one_like to (All-head IsLike to [] like) x h
    target_like (Branch c a b to) like x h = one_like to (All-head IsLike to [] like) x h
    target_like (Call link to) like x h = one_like to (All-head IsLike to [] like) x h
    target_like (PartJump link part to) like x h = one_like to (All-head IsLike to [] like) x h
    target_like (Indirect link register offset) like x h = absurd (cc)
    target_like (Stop word) like x h = absurd (cc)

    items_like : (items : List Item) (at : ℕ) (rest : List Form) → All IsLike (items_uses items) → Only (at + 4 * length items) rest → Only at (map (item_form g lo) items ++ rest)
    items_like [] at rest like only = let none : at + 4 * 0 ≡ at = omega arith in subst (λ a. Only a rest) none only
    items_like (item ∷ items) at rest like only = λ x h.
        let next : at + 4 * suc (length items) ≡ at + 4 + 4 * length items = omega arith in
        let more = items_like items (at + 4) rest (All-right IsLike (item_uses item) (items_uses items) like) (subst (λ a. Only a rest) next only) in
        elim (among_cases (item_uses (retargeted_item (new_address g lo) item)) (forms_lead (at + 4) (map (item_form g lo) items ++ rest)) x h) [
          | inl here ↦ item_like item (All-left IsLike (item_uses item) (items_uses items) like) x here
          | inr later ↦ more x later
        ]

    term_like : (term : Term) (at : ℕ) (rest : List Form) → All IsLike (term_uses term) → (goes_on term ≡ true → is_fall term ≡ false → Like (at + 4)) → Only (at + 4 * term_words term) rest → Only at (term_forms g lo term ++ rest)
    term_like term at rest like next only = by_fall (cases_Bool (is_fall term))
      where
        slot_like : (goes : Bool) → goes_on (retargeted_term (new_address g lo) term) ≡ goes → is_fall term ≡ false → (x : ℕ) → is_among (if goes then (at + 4) ∷ [] else []) x ≡ true → Like x
        slot_like false is other x h = absurd (cc)
        slot_like true is other x h = pick (or_cases (at + 4 == x) false h)
          where
            pick : ((at + 4 == x) ≡ true) ⊎ (false ≡ true) → Like x
            pick (inl same) = subst Like (eqb-true (at + 4) x same) (next (sym (goes_alike (new_address g lo) term) ∙ is) other)
            pick (inr never) = absurd (cc)

        by_fall : (is_fall term ≡ true) ⊎ (is_fall term ≡ false) → Only at (term_forms g lo term ++ rest)
        by_fall (inl fall) = let none : at + 4 * term_words term ≡ at = omega (arith, fall_words term fall) in rw fall (subst (λ a. Only a rest) none only)
        by_fall (inr other) =
            let one : at + 4 * term_words term ≡ at + 4 = omega (arith, one_word term other) in
            rw other (own (subst (λ a. Only a rest) one only))
          where
            own : Only (at + 4) rest → Only at (TermForm (retargeted_term (new_address g lo) term) ∷ rest)
            own only x h =
                elim (among_cases (term_uses (retargeted_term (new_address g lo) term) ++ slot_behind at term) (forms_lead (at + 4) rest) x h) [
                  | inl here ↦
                      elim (among_cases (term_uses (retargeted_term (new_address g lo) term)) (slot_behind at term) x here) [
                        | inl target ↦ target_like term like x target
                        | inr slot ↦ slot_like (goes_on (retargeted_term (new_address g lo) term)) refl other x slot
                      ]
                  | inr later ↦ only x later
                ]

    blocks_like : (bs : List Block) (at : ℕ) (rest : List Form) → AreAt (new_address g lo) at bs → last_goes_on bs ≡ false → AllByRecursion (λ b. IsLike b.name) bs → All IsLike (terms_uses bs) → All IsLike (items_uses (items_of_blocks bs)) → Only (at + 4 * sum_by block_words bs) rest → Only at (flat_map (block_forms g lo) bs ++ rest)
    blocks_like [] at rest places stops names terms items only = let none : at + 4 * 0 ≡ at = omega arith in subst (λ a. Only a rest) none only
    blocks_like (b ∷ bs) at rest places stops names terms items only =
        let end : at + 4 * sum_by block_words (b ∷ bs) ≡ at + 4 * block_words b + 4 * sum_by block_words bs = omega (arith, sum_by-cons block_words b bs) in
        let both : All IsLike (items_uses b.items ++ items_uses (items_of_blocks bs)) = subst (All IsLike) (flat_map-append item_uses b.items (items_of_blocks bs)) items in
        let more = blocks_like bs (at + 4 * block_words b) rest places.1 (rest_stops bs stops) names.1 (All-right IsLike (term_uses b.term) (terms_uses bs) terms) (All-right IsLike (items_uses b.items) (items_uses (items_of_blocks bs)) both) (subst (λ a. Only a rest) end only) in
        let next : at + 4 * block_words b ≡ at + 4 * length b.items + 4 * term_words b.term = omega arith in
        let term = term_like b.term (at + 4 * length b.items) (flat_map (block_forms g lo) bs ++ rest) (All-left IsLike (term_uses b.term) (terms_uses bs) terms) (slot_like bs places.1 stops names.1) (subst (λ a. Only a (flat_map (block_forms g lo) bs ++ rest)) next more) in
        let whole = items_like b.items at (term_forms g lo b.term ++ (flat_map (block_forms g lo) bs ++ rest)) (All-left IsLike (items_uses b.items) (items_uses (items_of_blocks bs)) both) term in
        subst (λ fs. Only at fs) (sym (three_parts (map (item_form g lo) b.items) (term_forms g lo b.term) (flat_map (block_forms g lo) bs) rest)) whole
      where
        rest_stops : (bs : List Block) → last_goes_on (b ∷ bs) ≡ false → last_goes_on bs ≡ false
        rest_stops [] stops = refl
        rest_stops (c ∷ cs) stops = stops

        slot_like : (bs : List Block) → AreAt (new_address g lo) (at + 4 * block_words b) bs → last_goes_on (b ∷ bs) ≡ false → AllByRecursion (λ b. IsLike b.name) bs → goes_on b.term ≡ true → is_fall b.term ≡ false → Like (at + 4 * length b.items + 4)
        slot_like [] places stops names goes other = absurd (cc)
        slot_like (c ∷ cs) places stops names goes other =
            let place : at + 4 * block_words b ≡ at + 4 * length b.items + 4 = omega (arith, one_word b.term other) in
            subst Like (places.0 ∙ place) names.0

    bodies_like : (ps : List Procedure) (at : ℕ) → All IsLike (items_uses (items_of_bodies ps)) → Only at (flat_map (procedure_forms g lo) ps)
    bodies_like [] at items = λ x h. absurd (cc)
    bodies_like (p ∷ ps) at items =
        let both : All IsLike (items_uses p.body ++ items_uses (items_of_bodies ps)) = subst (All IsLike) (flat_map-append item_uses p.body (items_of_bodies ps)) items in
        let more = bodies_like ps (at + 4 * length p.body + 4) (All-right IsLike (items_uses p.body) (items_uses (items_of_bodies ps)) both) in
        subst (λ fs. Only at fs) (sym (append_assoc (map (item_form g lo) p.body) (TermForm (Indirect 0 p.link (pos 0)) ∷ []) (flat_map (procedure_forms g lo) ps)))
        (items_like p.body at (TermForm (Indirect 0 p.link (pos 0)) ∷ flat_map (procedure_forms g lo) ps) (All-left IsLike (items_uses p.body) (items_uses (items_of_bodies ps)) both) more)

    pub text_like : AreAt (new_address g lo) lo g.blocks → last_goes_on g.blocks ≡ false → AllByRecursion (λ b. IsLike b.name) g.blocks → All IsLike (terms_uses g.blocks) → All IsLike (items_uses (items_of_blocks g.blocks ++ items_of_bodies g.procedures)) → Only lo (flat_map (block_forms g lo) g.blocks ++ flat_map (procedure_forms g lo) g.procedures)
    text_like places stops names terms items =
        let both : All IsLike (items_uses (items_of_blocks g.blocks) ++ items_uses (items_of_bodies g.procedures)) = subst (All IsLike) (flat_map-append item_uses (items_of_blocks g.blocks) (items_of_bodies g.procedures)) items in
        blocks_like g.blocks lo (flat_map (procedure_forms g lo) g.procedures) places stops names terms (All-left IsLike (items_uses (items_of_blocks g.blocks)) (items_uses (items_of_bodies g.procedures)) both)
        (bodies_like g.procedures (lo + 4 * sum_by block_words g.blocks) (All-right IsLike (items_uses (items_of_blocks g.blocks)) (items_uses (items_of_bodies g.procedures)) both))
