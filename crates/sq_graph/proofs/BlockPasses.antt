-- What the passes of `canonical` over the slots make of blocks.
use Rattle.std.proofs.Common.{◌≡◌, ℕ, suc, ◌+◌, ◌==◌, ◌&&◌, ◌||◌, not, Bool, true, false, if◌then◌else◌, List, [], ◌∷◌, ◌++◌, map, length, None, refl, sym, ap, ◌∙◌, subst, inl, inr, arith, append_assoc, length-append}
use Rattle.std.proofs.lemmas.Bool.{cases_Bool, eqb-true, ne_eqb, and_right, and_left}
use Rattle.std.proofs.lemmas.List.{length-map}
use Rattle.sq_arena.specs.Entries.{keys, HasDistinctKeys, value_of}
use Rattle.sq_arena.proofs.EntriesLaws.{absent_ahead, distinct_back}
use Rattle.sq_isa.specs.Registers.{is_among}
use Rattle.sq_graph.specs.declared.item.Item.{Item}
use Rattle.sq_graph.specs.declared.item.Term.{Term}
use Rattle.sq_graph.specs.declared.item.Term.TheVariants.{Fall, Jump, Branch, Call, PartJump, Indirect, Stop}
use Rattle.sq_graph.specs.declared.slot.Slot.{Slot}
use Rattle.sq_graph.specs.Graph.{Block}
use Rattle.sq_graph.specs.Blocks.{named, items_of_blocks}
use Rattle.sq_graph.specs.Terms.{goes_on}
use Rattle.sq_graph.specs.Uses.{term_uses, terms_uses}
use Rattle.sq_graph.specs.Rules.{last_goes_on}
use Rattle.sq_graph.specs.Renames.{retargeted_term, retargeted_block, retargeted_item}
use Rattle.sq_graph.specs.Slots.{slot_of, slots_from}
use Rattle.sq_graph.specs.Cursor.{slot_uses, retargeted_slots, renumbered, length_of_slots}
use Rattle.sq_graph.specs.Leaders.{is_fall, has_no_items, is_bare, follows_a_term, FallsIntoLeaders}
use Rattle.sq_graph.specs.Canonical.{joined_onto, joined_blocks}
use Rattle.sq_graph.specs.Bypasses.{kept, passed}
use Rattle.sq_graph.specs.CanonicalSlots.{is_bare_slot, aim, aimed, start_of, full_slots, marked, joined_slot_onto, joined_slots}
use Rattle.sq_graph.proofs.Located.{named-append}
use Rattle.sq_graph.proofs.Kept.{absent_behind}
use Rattle.sq_graph.proofs.Marks.{distinct_rest}
use Rattle.sq_graph.proofs.Bypassing.{is_fall-other, falls_on, bare_falls, ends_tail, passed-other, passed-bare, passed-kept}

-- Where uses go

no_items-length : (is : List Item) → (length is == 0) ≡ has_no_items is
no_items-length [] = refl
no_items-length (item ∷ is) = ne_eqb (suc (length is)) 0 (λ same. omega (arith, same))

bare_slot : (n : ℕ) (b : Block) → is_bare_slot (slot_of n b) ≡ is_bare b
bare_slot n b = ap (λ x. x && is_fall b.term) (no_items-length b.items)

aim_passed : (n : ℕ) (b : Block) (rest : List Block) → HasDistinctKeys (named (b ∷ rest)) → last_goes_on (b ∷ rest) ≡ false → aim (slots_from n (b ∷ rest)) ≡ passed (b ∷ rest) b.name
aim_passed n b [] distinct ends =
    elim (cases_Bool (is_bare b)) [
      | inl bare ↦ absurd (let on : goes_on b.term ≡ true = falls_on b.term (bare_falls b bare) in cc)
      | inr solid ↦ rw (bare_slot n b ∙ solid) (sym (passed-kept b [] solid refl))
    ]
aim_passed n b (next ∷ rest) distinct ends =
    elim (cases_Bool (is_bare b)) [
      | inl bare ↦
          rw (bare_slot n b ∙ bare)
          (aim_passed (n + length b.items) next rest (distinct_rest (b.name, b) (named (next ∷ rest)) distinct) ends ∙ sym (passed-bare b next rest bare))
      | inr solid ↦
          rw (bare_slot n b ∙ solid)
          (sym (passed-kept b (next ∷ rest) solid (absent_behind (b.name, b) (named (next ∷ rest)) distinct)))
    ]

pub starts_passed : (n : ℕ) (bs : List Block) → HasDistinctKeys (named bs) → last_goes_on bs ≡ false → (name : ℕ) → start_of (aimed (slots_from n bs)) name ≡ passed bs name
starts_passed n [] distinct ends name = refl
starts_passed n (b ∷ rest) distinct ends name =
    elim (cases_Bool (b.name == name)) [
      | inl here ↦ rw here (aim_passed n b rest distinct ends ∙ ap (passed (b ∷ rest)) (eqb-true b.name name here))
      | inr apart ↦
          rw apart
          (starts_passed (n + length b.items) rest (distinct_rest (b.name, b) (named rest) distinct) (ends_tail b rest ends) name
          ∙ sym (passed-other b rest name apart))
    ]

pub keys-retargeted : (h : ℕ → ℕ) (es : List (ℕ × Slot)) → keys (retargeted_slots h es) ≡ keys es
keys-retargeted h [] = refl
keys-retargeted h (e ∷ es) = ap (λ ks. e.0 ∷ ks) (keys-retargeted h es)

-- Blocks as slots that have marks

-- a mark stands at each of these names
abbrev pub marked_blocks : List ℕ → List Block → List (ℕ × Slot)
marked_blocks names [] = []
marked_blocks names (b ∷ bs) = (b.name, slot_of (if is_among names b.name then 1 else 0) b) ∷ marked_blocks names bs

pub full_slots-blocks : (h : ℕ → ℕ) (n : ℕ) (bs : List Block) → full_slots (retargeted_slots h (aimed (slots_from n bs))) ≡ marked_blocks [] (map (retargeted_block h) (kept bs))
full_slots-blocks h n [] = refl
full_slots-blocks h n (b ∷ bs) =
    let same : (length b.items == 0 && is_fall (retargeted_term h b.term)) ≡ is_bare b =
    ap (λ x. length b.items == 0 && x) (is_fall-other h b.term) ∙ bare_slot n b in
    elim (cases_Bool (is_bare b)) [
      | inl bare ↦ rw (same ∙ bare, bare) (full_slots-blocks h (n + length b.items) bs)
      | inr solid ↦
          rw (same ∙ solid, solid)
          (ap (λ es. (b.name, record { start = 0; length = length b.items; term = retargeted_term h b.term }) ∷ es) (full_slots-blocks h (n + length b.items) bs)
          ∙ ap (λ k. (b.name, record { start = 0; length = k; term = retargeted_term h b.term }) ∷ marked_blocks [] (map (retargeted_block h) (kept bs))) (sym (length-map b.items (retargeted_item h))))
    ]

pub keys-marked_blocks : (us : List ℕ) (bs : List Block) → keys (marked_blocks us bs) ≡ keys (named bs)
keys-marked_blocks us [] = refl
keys-marked_blocks us (b ∷ bs) = ap (λ ks. b.name ∷ ks) (keys-marked_blocks us bs)

pub marked-blocks : (us : List ℕ) (bs : List Block) → marked us (marked_blocks [] bs) ≡ marked_blocks us bs
marked-blocks us [] = refl
marked-blocks us (b ∷ bs) = ap (λ es. (b.name, slot_of (if is_among us b.name then 1 else 0) b) ∷ es) (marked-blocks us bs)

pub slot_uses-marked : (us : List ℕ) (es : List (ℕ × Slot)) → slot_uses (marked us es) ≡ slot_uses es
slot_uses-marked us [] = refl
slot_uses-marked us (e ∷ es) = ap (λ vs. term_uses e.1.term ++ vs) (slot_uses-marked us es)

pub slot_uses-blocks : (us : List ℕ) (bs : List Block) → slot_uses (marked_blocks us bs) ≡ terms_uses bs
slot_uses-blocks us [] = refl
slot_uses-blocks us (b ∷ bs) = ap (λ vs. term_uses b.term ++ vs) (slot_uses-blocks us bs)

pub length_of_slots-blocks : (us : List ℕ) (bs : List Block) → length_of_slots (marked_blocks us bs) ≡ length (items_of_blocks bs)
length_of_slots-blocks us [] = refl
length_of_slots-blocks us (b ∷ bs) = omega (arith, length_of_slots-blocks us bs, length-append b.items (items_of_blocks bs))

pub renumbered-blocks : (us : List ℕ) (n : ℕ) (bs : List Block) → renumbered n (marked_blocks us bs) ≡ slots_from n bs
renumbered-blocks us n [] = refl
renumbered-blocks us n (b ∷ bs) = ap (λ es. (b.name, slot_of n b) ∷ es) (renumbered-blocks us (n + length b.items) bs)

-- Joining

unmarked : (a : Bool) → ((if a then 1 else 0) == 0) ≡ not a
unmarked true = refl
unmarked false = refl

joined_onto-blocks : (us : List ℕ) (b : Block) (rest : List Block) → joined_slot_onto (b.name, slot_of (if is_among us b.name then 1 else 0) b) (marked_blocks us rest) ≡ marked_blocks us (joined_onto (is_among us) b rest)
joined_onto-blocks us b [] = refl
joined_onto-blocks us b (next ∷ rest) =
    let same : (is_fall b.term && (if is_among us next.name then 1 else 0) == 0) ≡ (is_fall b.term && not (is_among us next.name)) =
    ap (λ x. is_fall b.term && x) (unmarked (is_among us next.name)) in
    elim (cases_Bool (is_fall b.term && not (is_among us next.name))) [
      | inl joins ↦
          rw (same ∙ joins, joins)
          (ap (λ k. (b.name, record { start = if is_among us b.name then 1 else 0; length = k; term = next.term }) ∷ marked_blocks us rest) (sym (length-append b.items next.items)))
      | inr stays ↦ rw (same ∙ stays, stays) refl
    ]

pub joined_slots-blocks : (us : List ℕ) (bs : List Block) → joined_slots (marked_blocks us bs) ≡ marked_blocks us (joined_blocks (is_among us) bs)
joined_slots-blocks us [] = refl
joined_slots-blocks us (b ∷ bs) =
    ap (joined_slot_onto (b.name, slot_of (if is_among us b.name then 1 else 0) b)) (joined_slots-blocks us bs)
    ∙ joined_onto-blocks us b (joined_blocks (is_among us) bs)

-- A block that is fallen into stands behind no other term, so it leads only where its name is used.

fall_goes_no_other : (t : Term) → is_fall t ≡ true → (goes_on t && not (is_fall t)) ≡ false
fall_goes_no_other Fall falls = refl
fall_goes_no_other (Jump to) falls = absurd (cc)
fall_goes_no_other (Branch c a b to) falls = absurd (cc)
fall_goes_no_other (Call link to) falls = absurd (cc)
fall_goes_no_other (PartJump link part to) falls = absurd (cc)
fall_goes_no_other (Indirect link at offset) falls = absurd (cc)
fall_goes_no_other (Stop word) falls = absurd (cc)

follows_skip : (x y : Block) (rest : List Block) (n : ℕ) → (y.name == n) ≡ false → follows_a_term (x ∷ y ∷ rest) n ≡ follows_a_term (y ∷ rest) n
follows_skip x y rest n apart = ap (λ t. t || follows_a_term (y ∷ rest) n) (and_right (goes_on x.term && not (is_fall x.term)) (y.name == n) apart)

pub head_apart : (y : Block) (rest : List Block) (n : ℕ) → value_of (named (y ∷ rest)) n ≡ None → (y.name == n) ≡ false
head_apart y rest n none =
    elim (cases_Bool (y.name == n)) [ inl here ↦ absurd (cc (rw here at none)) | inr apart ↦ apart ]

pub rest_apart : (y : Block) (rest : List Block) (n : ℕ) → value_of (named (y ∷ rest)) n ≡ None → value_of (named rest) n ≡ None
rest_apart y rest n none =
    elim (cases_Bool (y.name == n)) [ inl here ↦ absurd (cc (rw here at none)) | inr apart ↦ rw apart at none ]

follows_absent : (x : Block) (rest : List Block) (n : ℕ) → value_of (named rest) n ≡ None → follows_a_term (x ∷ rest) n ≡ false
follows_absent x [] n none = refl
follows_absent x (y ∷ rest) n none = follows_skip x y rest n (head_apart y rest n none) ∙ follows_absent y rest n (rest_apart y rest n none)

follows_no_term : (front : List Block) (b next : Block) (rest : List Block) → value_of (named front) next.name ≡ None → (b.name == next.name) ≡ false → value_of (named rest) next.name ≡ None → is_fall b.term ≡ true → follows_a_term (front ++ b ∷ next ∷ rest) next.name ≡ false
follows_no_term [] b next rest ahead apart none falls =
    ap (λ t. t || follows_a_term (next ∷ rest) next.name) (and_left (goes_on b.term && not (is_fall b.term)) (next.name == next.name) (fall_goes_no_other b.term falls))
    ∙ follows_absent next rest next.name none
follows_no_term (x ∷ []) b next rest ahead apart none falls =
    follows_skip x b (next ∷ rest) next.name apart ∙ follows_no_term [] b next rest refl apart none falls
follows_no_term (x ∷ y ∷ front) b next rest ahead apart none falls =
    let ahead' = rest_apart x (y ∷ front) next.name ahead in
    follows_skip x y (front ++ b ∷ next ∷ rest) next.name (head_apart y front next.name ahead') ∙ follows_no_term (y ∷ front) b next rest ahead' apart none falls

-- the first of these blocks has the name
abbrev pub IsHead : List Block → ℕ → Type 0
IsHead [] n = ⊥
IsHead (b ∷ bs) n = b.name ≡ n

pub head_joined : (leads : ℕ → Bool) (b : Block) (rest : List Block) → IsHead (joined_onto leads b rest) b.name
head_joined leads b [] = refl
head_joined leads b (next ∷ rest) =
    elim (cases_Bool (is_fall b.term && not (leads next.name))) [ inl joins ↦ rw joins refl | inr stays ↦ rw stays refl ]

pub onto_same : (p q : ℕ → Bool) (b : Block) (n : ℕ) (rest : List Block) → IsHead rest n → (is_fall b.term ≡ true → p n ≡ q n) → joined_onto p b rest ≡ joined_onto q b rest
onto_same p q b n [] head same = absurd head
onto_same p q b n (next ∷ rest) head same =
    let both : (is_fall b.term && not (p next.name)) ≡ (is_fall b.term && not (q next.name)) =
    elim (cases_Bool (is_fall b.term)) [
      | inl falls ↦ ap (λ x. is_fall b.term && not x) (ap p head ∙ same falls ∙ sym (ap q head))
      | inr other ↦ rw other refl
    ] in
    ap (λ t. if t then record b { items = b.items ++ next.items; term = next.term } ∷ rest else b ∷ next ∷ rest) both

-- a block that is fallen into leads only where its name is used
leads_used : (us : List ℕ) (all front : List Block) (b next : Block) (rest : List Block) → all ≡ front ++ b ∷ next ∷ rest → HasDistinctKeys (named all) → is_fall b.term ≡ true → is_among us next.name ≡ (is_among us next.name || follows_a_term all next.name)
leads_used us all front b next rest whole distinct falls =
    let split : all ≡ (front ++ b ∷ []) ++ next ∷ rest = whole ∙ sym (append_assoc front (b ∷ []) (next ∷ rest)) in
    let keyed : HasDistinctKeys (named (front ++ b ∷ []) ++ (next.name, next) ∷ named rest) =
    subst (λ (es : List (ℕ × Block)). HasDistinctKeys es) (ap named split ∙ named-append (front ++ b ∷ []) (next ∷ rest)) distinct in
    let ahead : value_of (named (front ++ b ∷ [])) next.name ≡ None = absent_ahead (named (front ++ b ∷ [])) (named rest) next.name next keyed in
    let none : value_of (named rest) next.name ≡ None = absent_behind (next.name, next) (named rest) (distinct_back (named (front ++ b ∷ [])) ((next.name, next) ∷ named rest) keyed) in
    let no : follows_a_term all next.name ≡ false =
    ap (λ bs. follows_a_term bs next.name) whole
    ∙ follows_no_term front b next rest (ahead_left front b next.name ahead) (ahead_right front b next.name ahead) none falls in
    sym (ap (λ t. is_among us next.name || t) no ∙ or_false (is_among us next.name))
  where
    or_false : (a : Bool) → (a || false) ≡ a
    or_false true = refl
    or_false false = refl

    ahead_left : (front : List Block) (b : Block) (n : ℕ) → value_of (named (front ++ b ∷ [])) n ≡ None → value_of (named front) n ≡ None
    ahead_left [] b n none = refl
    ahead_left (x ∷ front) b n none =
        let apart : (x.name == n) ≡ false = head_apart x (front ++ b ∷ []) n none in
        rw apart (ahead_left front b n (rest_apart x (front ++ b ∷ []) n none))

    ahead_right : (front : List Block) (b : Block) (n : ℕ) → value_of (named (front ++ b ∷ [])) n ≡ None → (b.name == n) ≡ false
    ahead_right [] b n none = head_apart b [] n none
    ahead_right (x ∷ front) b n none = ahead_right front b n (rest_apart x (front ++ b ∷ []) n none)

-- whether a name is used tells where blocks are joined
pub used_joins : (us : List ℕ) (all front bs : List Block) → all ≡ front ++ bs → HasDistinctKeys (named all) → joined_blocks (is_among us) bs ≡ joined_blocks (λ n. is_among us n || follows_a_term all n) bs
used_joins us all front [] whole distinct = refl
used_joins us all front (b ∷ []) whole distinct = refl
used_joins us all front (b ∷ next ∷ rest) whole distinct =
    let leads = λ (n : ℕ). is_among us n || follows_a_term all n in
    let later = used_joins us all (front ++ b ∷ []) (next ∷ rest) (whole ∙ sym (append_assoc front (b ∷ []) (next ∷ rest))) distinct in
    onto_same (is_among us) leads b next.name (joined_blocks (is_among us) (next ∷ rest)) (head_joined (is_among us) next (joined_blocks (is_among us) rest)) (leads_used us all front b next rest whole distinct)
    ∙ ap (joined_onto leads b) later

-- and whether blocks fall into leaders
pub falls_used : (us : List ℕ) (all front bs : List Block) → all ≡ front ++ bs → HasDistinctKeys (named all) → FallsIntoLeaders (λ n. is_among us n || follows_a_term all n) bs → FallsIntoLeaders (is_among us) bs
falls_used us all front [] whole distinct falls = tt
falls_used us all front (b ∷ []) whole distinct falls = tt
falls_used us all front (b ∷ next ∷ rest) whole distinct falls = (
  λ fall. leads_used us all front b next rest whole distinct fall ∙ falls.0 fall,
  falls_used us all (front ++ b ∷ []) (next ∷ rest) (whole ∙ sym (append_assoc front (b ∷ []) (next ∷ rest))) distinct falls.1,
)
