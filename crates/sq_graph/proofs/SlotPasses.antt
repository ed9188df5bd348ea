-- The passes of `canonical` over the slots, a step at a time.
use Rattle.std.proofs.Common.{◌≡◌, ℕ, ◌+◌, ◌<◌, ◌≤◌, ◌==◌, ◌&&◌, true, false, if◌then◌else◌, List, [], ◌∷◌, ◌++◌, length, Option, None, Some, is_some, refl, sym, ap, ◌∙◌, subst, inl, inr, arith, append_assoc, length-append}
use mathlib.Core.Path.{fun_ext}
use Rattle.std.specs.List.{All}
use Rattle.std.proofs.lemmas.Bool.{cases_Bool, and_right, and_from}
use Rattle.std.proofs.lemmas.List.Concat.{flat_map-append}
use Rattle.std.proofs.lemmas.List.Elements.{All-weaker}
use Rattle.sq_arena.specs.Entries.{HasDistinctKeys, value_of, ContainsKey, before, behind, with_value, without, first_key, next_key, previous_key}
use Rattle.sq_arena.proofs.EntriesLemmas.{split_at as split_at_key}
use Rattle.sq_graph.specs.declared.slot.Slot.{Slot}
use Rattle.sq_graph.specs.Uses.{term_uses}
use Rattle.sq_graph.specs.Renames.{retargeted_term}
use Rattle.sq_graph.specs.Leaders.{is_fall}
use Rattle.sq_graph.specs.Cursor.{slot_uses, retargeted_slots, length_of_slots}
use Rattle.sq_graph.specs.CanonicalSlots.{is_bare_slot, aim, aimed, start_of, full_slots, both, joined_slot_onto, joined_slots}
use Rattle.sq_graph.proofs.Eachs.{All-left, All-right}
use Rattle.sq_graph.proofs.CursorLaws.{distinct-with_value, with_value-split}
use Rattle.sq_graph.proofs.BackWalks.{IsIn, is_in, IsDoneBehind, IsNext, next_done, next_value, next_written, one_done, one_less, up_to}

-- the slots behind the place are aimed, and `to` is where the uses of the first of them go
pub record IsAimedBehind (old now : List (ℕ × Slot)) (place : Option ℕ) (to : ℕ) : Type 0 where
  pub walk : IsDoneBehind aimed old now place
  pub to_is : to ≡ aim walk.back

module _ (old now new : List (ℕ × Slot)) (name : ℕ) (place : Option ℕ) (to : ℕ) (slot : Slot) (done : IsAimedBehind old now (Some name) to) (found : value_of now name ≡ Some slot) (to' : ℕ) (goes : to' ≡ (if is_bare_slot slot then to else name)) (new_is : new ≡ with_value now name (record slot { start = to' })) (place_is : place ≡ previous_key now name) where
  pub aim_goes : to' ≡ aim ((name, (next_done aimed old now name done.walk).value) ∷ done.walk.back)
  aim_goes =
      let next = next_done aimed old now name done.walk in
      goes ∙ ap (λ s. if is_bare_slot s then to else name) (sym (next_value aimed old now name slot next found)) ∙ ap (λ n. if is_bare_slot next.value then n else name) done.to_is

  aim_is : new ≡ (next_done aimed old now name done.walk).lead ++ aimed ((name, (next_done aimed old now name done.walk).value) ∷ done.walk.back)
  aim_is =
      let next = next_done aimed old now name done.walk in
      new_is
      ∙ next_written aimed old now name slot (record slot { start = to' }) next found
      ∙ ap (λ s. next.lead ++ (name, record s { start = to' }) ∷ aimed done.walk.back) (sym (next_value aimed old now name slot next found))
      ∙ ap (λ n. next.lead ++ (name, record next.value { start = n }) ∷ aimed done.walk.back) aim_goes

  aim_distinct : HasDistinctKeys new
  aim_distinct = rw new_is (distinct-with_value now name (record slot { start = to' }) done.walk.distinct)

  pub aim_done : IsAimedBehind old new place to'
  aim_done =
      record {
        walk = one_done aimed old now new name place (next_done aimed old now name done.walk) aim_is aim_distinct place_is;
        to_is = aim_goes;
      }

  pub aim_less : length (up_to new place) < length (up_to now (Some name))
  aim_less = one_less aimed old now new name place (next_done aimed old now name done.walk) aim_is aim_distinct place_is

-- other terms keep the starts
pub start_of-retargeted : (h : ℕ → ℕ) (front back : List (ℕ × Slot)) (name : ℕ) → start_of (front ++ retargeted_slots h back) name ≡ start_of (front ++ back) name
start_of-retargeted h [] [] name = refl
start_of-retargeted h [] (e ∷ back) name =
    elim (cases_Bool (e.0 == name)) [ inl here ↦ rw here refl | inr apart ↦ rw apart (start_of-retargeted h [] back name) ]
start_of-retargeted h (e ∷ front) back name =
    elim (cases_Bool (e.0 == name)) [ inl here ↦ rw here refl | inr apart ↦ rw apart (start_of-retargeted h front back name) ]

pub contains-retargeted : (h : ℕ → ℕ) (front back : List (ℕ × Slot)) (name : ℕ) → ContainsKey (front ++ back) name → ContainsKey (front ++ retargeted_slots h back) name
contains-retargeted h [] [] name there = there
contains-retargeted h [] (e ∷ back) name there =
    elim (cases_Bool (e.0 == name)) [ inl here ↦ rw here refl | inr apart ↦ rw apart (contains-retargeted h [] back name (rw apart at there)) ]
contains-retargeted h (e ∷ front) back name there =
    elim (cases_Bool (e.0 == name)) [ inl here ↦ rw here refl | inr apart ↦ rw apart (contains-retargeted h front back name (rw apart at there)) ]

abbrev pub with_starts : List (ℕ × Slot) → List (ℕ × Slot) → List (ℕ × Slot)
with_starts old entries = retargeted_slots (start_of old) entries

pub uses_there : (old now : List (ℕ × Slot)) (name : ℕ) (slot : Slot) → IsDoneBehind (with_starts old) old now (Some name) → All (ContainsKey old) (slot_uses old) → value_of now name ≡ Some slot → All (ContainsKey now) (term_uses slot.term)
uses_there old now name slot done known found =
    let next = next_done (with_starts old) old now name done in
    let value : next.value ≡ slot = next_value (with_starts old) old now name slot next found in
    let apart : slot_uses old ≡ slot_uses next.lead ++ (term_uses next.value.term ++ slot_uses next.back) =
    ap slot_uses next.was ∙ flat_map-append (λ (e : ℕ × Slot). term_uses e.1.term) next.lead ((name, next.value) ∷ next.back) in
    let mine : All (ContainsKey old) (term_uses next.value.term) =
    All-left (ContainsKey old) (term_uses next.value.term) (slot_uses next.back) (All-right (ContainsKey old) (slot_uses next.lead) (term_uses next.value.term ++ slot_uses next.back) (subst (λ us. All (ContainsKey old) us) apart known)) in
    let still : (k : ℕ) → ContainsKey old k → ContainsKey now k =
    λ k there. subst (λ (es : List (ℕ × Slot)). ContainsKey es k) (sym done.is) (contains-retargeted (start_of old) done.front done.back k (subst (λ (es : List (ℕ × Slot)). ContainsKey es k) done.was there)) in
    subst (λ (s : Slot). All (ContainsKey now) (term_uses s.term)) value (All-weaker (ContainsKey old) (ContainsKey now) still (term_uses next.value.term) mine)

module _ (old now new : List (ℕ × Slot)) (name : ℕ) (place : Option ℕ) (slot : Slot) (done : IsDoneBehind (with_starts old) old now (Some name)) (found : value_of now name ≡ Some slot) (new_is : new ≡ with_value now name (record slot { term = retargeted_term (start_of now) slot.term })) (place_is : place ≡ previous_key now name) where
  same_starts : start_of now ≡ start_of old
  same_starts =
      ap start_of done.is ∙ fun_ext (start_of-retargeted (start_of old) done.front done.back) ∙ sym (ap start_of done.was)

  terms_is : new ≡ (next_done (with_starts old) old now name done).lead ++ with_starts old ((name, (next_done (with_starts old) old now name done).value) ∷ done.back)
  terms_is =
      let next = next_done (with_starts old) old now name done in
      new_is
      ∙ next_written (with_starts old) old now name slot (record slot { term = retargeted_term (start_of now) slot.term }) next found
      ∙ ap (λ s. next.lead ++ (name, record s { term = retargeted_term (start_of now) s.term }) ∷ with_starts old done.back) (sym (next_value (with_starts old) old now name slot next found))
      ∙ ap (λ h. next.lead ++ (name, record next.value { term = retargeted_term h next.value.term }) ∷ with_starts old done.back) same_starts

  terms_distinct : HasDistinctKeys new
  terms_distinct = rw new_is (distinct-with_value now name (record slot { term = retargeted_term (start_of now) slot.term }) done.distinct)

  pub terms_done : IsDoneBehind (with_starts old) old new place
  terms_done = one_done (with_starts old) old now new name place (next_done (with_starts old) old now name done) terms_is terms_distinct place_is

  pub terms_less : length (up_to new place) < length (up_to now (Some name))
  terms_less = one_less (with_starts old) old now new name place (next_done (with_starts old) old now name done) terms_is terms_distinct place_is

-- a bare slot goes, and another one loses its mark
pub bare_is : (old now new : List (ℕ × Slot)) (name : ℕ) (slot : Slot) (next : IsNext full_slots old now name) → value_of now name ≡ Some slot → is_bare_slot slot ≡ true → new ≡ without now name → new ≡ next.lead ++ full_slots ((name, next.value) ∷ next.back)
bare_is old now new name slot next found bare new_is =
    let here : is_bare_slot next.value ≡ true = ap is_bare_slot (next_value full_slots old now name slot next found) ∙ bare in
    new_is
    ∙ ap (λ es. es ++ behind now name) next.at.ahead_is
    ∙ ap (λ es. next.lead ++ es) next.at.behind_is
    ∙ ap (λ b. next.lead ++ (if b then full_slots next.back else (name, record next.value { start = 0 }) ∷ full_slots next.back)) (sym here)

pub full_is : (old now new : List (ℕ × Slot)) (name : ℕ) (slot : Slot) (next : IsNext full_slots old now name) → value_of now name ≡ Some slot → is_bare_slot slot ≡ false → new ≡ with_value now name (record slot { start = 0 }) → new ≡ next.lead ++ full_slots ((name, next.value) ∷ next.back)
full_is old now new name slot next found full new_is =
    let value = next_value full_slots old now name slot next found in
    let here : is_bare_slot next.value ≡ false = ap is_bare_slot value ∙ full in
    new_is
    ∙ next_written full_slots old now name slot (record slot { start = 0 }) next found
    ∙ ap (λ s. next.lead ++ (name, record s { start = 0 }) ∷ full_slots next.back) (sym value)
    ∙ ap (λ b. next.lead ++ (if b then full_slots next.back else (name, record next.value { start = 0 }) ∷ full_slots next.back)) (sym here)

-- the slots without one, and with it
pub length-without : (now : List (ℕ × Slot)) (name : ℕ) (slot : Slot) → value_of now name ≡ Some slot → length (without now name) + 1 ≡ length now
length-without now name slot found =
    omega (arith, ap (λ es. length es) (split_at_key now name slot found), length-append (before now name) ((name, slot) ∷ behind now name), length-append (before now name) (behind now name))

pub length_of_slots-append : (xs ys : List (ℕ × Slot)) → length_of_slots (xs ++ ys) ≡ length_of_slots xs + length_of_slots ys
length_of_slots-append [] ys = omega arith
length_of_slots-append (x ∷ xs) ys = omega (arith, length_of_slots-append xs ys)

length_of_slots-onto : (e : ℕ × Slot) (rest : List (ℕ × Slot)) → length_of_slots (joined_slot_onto e rest) ≡ e.1.length + length_of_slots rest
length_of_slots-onto e [] = refl
length_of_slots-onto e (next ∷ rest) =
    elim (cases_Bool (is_fall e.1.term && next.1.start == 0)) [
      | inl joins ↦ rw joins (omega arith)
      | inr stays ↦ rw stays refl
    ]

pub length_of_slots-joined : (es : List (ℕ × Slot)) → length_of_slots (joined_slots es) ≡ length_of_slots es
length_of_slots-joined [] = refl
length_of_slots-joined (e ∷ es) = length_of_slots-onto e (joined_slots es) ∙ ap (λ n. e.1.length + n) (length_of_slots-joined es)

pub join_fits : (old now : List (ℕ × Slot)) (place : Option ℕ) → IsDoneBehind joined_slots old now place → length_of_slots now ≡ length_of_slots old
join_fits old now place done =
    omega (arith, ap length_of_slots done.is, ap length_of_slots done.was, length_of_slots-append done.front (joined_slots done.back), length_of_slots-append done.front done.back, length_of_slots-joined done.back)

pub join_is : (old now new : List (ℕ × Slot)) (name : ℕ) (next : IsNext joined_slots old now name) → ((slot : Slot) → value_of now name ≡ Some slot → new ≡ before now name ++ joined_slot_onto (name, slot) (behind now name)) → new ≡ next.lead ++ joined_slots ((name, next.value) ∷ next.back)
join_is old now new name next new_is =
    new_is next.value next.at.found
    ∙ ap (λ es. es ++ joined_slot_onto (name, next.value) (behind now name)) next.at.ahead_is
    ∙ ap (λ es. next.lead ++ joined_slot_onto (name, next.value) es) next.at.behind_is

-- one join
pub some_same : (a b : Slot) → Some a ≡ Some b → a ≡ b
some_same a b same = cc

pub unjoined : (es : List (ℕ × Slot)) (name : ℕ) (slot : Slot) → value_of es name ≡ Some slot → joined_slot_onto (name, slot) (behind es name) ≡ (name, slot) ∷ behind es name → (other : Slot) → value_of es name ≡ Some other → es ≡ before es name ++ joined_slot_onto (name, other) (behind es name)
unjoined es name slot found stays other found' =
    split_at_key es name slot found
    ∙ ap (λ back. before es name ++ back) (sym stays)
    ∙ ap (λ s. before es name ++ joined_slot_onto (name, s) (behind es name)) (some_same slot other (sym found ∙ found'))

pub no_fall_stays : (e : ℕ × Slot) (rest : List (ℕ × Slot)) → is_fall e.1.term ≡ false → joined_slot_onto e rest ≡ e ∷ rest
no_fall_stays e [] other = refl
no_fall_stays e (next ∷ rest) other = rw other refl

pub last_stays : (e : ℕ × Slot) (rest : List (ℕ × Slot)) → first_key rest ≡ None → joined_slot_onto e rest ≡ e ∷ rest
last_stays e [] none = refl
last_stays e (next ∷ rest) none = absurd (cc)

-- the pair right behind another
pub record IsPair (es : List (ℕ × Slot)) (name : ℕ) (slot : Slot) (next : ℕ) : Type 0 where
  pub value : Slot
  pub rest : List (ℕ × Slot)
  pub behind_is : behind es name ≡ (next, value) ∷ rest
  pub at : IsIn es (before es name ++ (name, slot) ∷ []) next value rest

head_of : (es : List (ℕ × Slot)) (key : ℕ) → first_key es ≡ Some key → (value : Slot) × ((rest : List (ℕ × Slot)) × (es ≡ (key, value) ∷ rest))
head_of [] key first = absurd (cc)
head_of (e ∷ es) key first =
    let same : e.0 ≡ key = cc in
    (e.1, (es, ap (λ k. (k, e.1) ∷ es) same))

pub pair_of : (es : List (ℕ × Slot)) (name : ℕ) (slot : Slot) (next : ℕ) → HasDistinctKeys es → value_of es name ≡ Some slot → next_key es name ≡ Some next → IsPair es name slot next
pair_of es name slot next distinct found next_is =
    let head = head_of (behind es name) next next_is in
    let whole : es ≡ (before es name ++ (name, slot) ∷ []) ++ (next, head.0) ∷ head.1.0 =
    split_at_key es name slot found ∙ ap (λ back. before es name ++ (name, slot) ∷ back) head.1.1 ∙ sym (append_assoc (before es name) ((name, slot) ∷ []) ((next, head.0) ∷ head.1.0)) in
    let apart = is_in (before es name ++ (name, slot) ∷ []) head.1.0 next head.0 (subst (λ (xs : List (ℕ × Slot)). HasDistinctKeys xs) whole distinct) in
    record {
      value = head.0;
      rest = head.1.0;
      behind_is = head.1.1;
      at = subst (λ (xs : List (ℕ × Slot)). IsIn xs (before es name ++ (name, slot) ∷ []) next head.0 head.1.0) (sym whole) apart;
    }

pub marked_stays : (e next : ℕ × Slot) (rest : List (ℕ × Slot)) → (next.1.start == 0) ≡ false → joined_slot_onto e (next ∷ rest) ≡ e ∷ next ∷ rest
marked_stays e next rest other = rw (and_right (is_fall e.1.term) (next.1.start == 0) other) refl

module _ (es left new : List (ℕ × Slot)) (name : ℕ) (slot : Slot) (next : ℕ) (second : Slot) (distinct : HasDistinctKeys es) (found : value_of es name ≡ Some slot) (pair : IsPair es name slot next) (found_next : value_of es next ≡ Some second) (left_is : left ≡ without es next) (still : HasDistinctKeys left) where
  second_is : pair.value ≡ second
  second_is = some_same pair.value second (sym pair.at.found ∙ found_next)

  left_parts : left ≡ before es name ++ (name, slot) ∷ pair.rest
  left_parts =
      left_is
      ∙ ap (λ xs. xs ++ behind es next) pair.at.ahead_is
      ∙ ap (λ xs. (before es name ++ (name, slot) ∷ []) ++ xs) pair.at.behind_is
      ∙ append_assoc (before es name) ((name, slot) ∷ []) pair.rest

  left_at : IsIn left (before es name) name slot pair.rest
  left_at =
      subst (λ (xs : List (ℕ × Slot)). IsIn xs (before es name) name slot pair.rest) (sym left_parts)
      (is_in (before es name) pair.rest name slot (subst (λ (xs : List (ℕ × Slot)). HasDistinctKeys xs) left_parts still))

  pub left_there : ContainsKey left name
  left_there = ap is_some left_at.found

  pub pair_fits : slot.length + second.length ≤ length_of_slots es
  pair_fits =
      omega (arith, ap length_of_slots (split_at_key es name slot found), length_of_slots-append (before es name) ((name, slot) ∷ behind es name), ap length_of_slots pair.behind_is, ap (λ s. s.length) second_is)

  -- the first of the pairs takes over the second
  pub pair_joined : new ≡ with_value left name (both slot second) → new ≡ before es name ++ (name, both slot second) ∷ behind es next
  pair_joined new_is =
      new_is
      ∙ with_value-split left name slot (both slot second) left_at.found
      ∙ ap (λ xs. xs ++ (name, both slot second) ∷ behind left name) left_at.ahead_is
      ∙ ap (λ xs. before es name ++ (name, both slot second) ∷ xs) (left_at.behind_is ∙ sym pair.at.behind_is)

module _ (es new : List (ℕ × Slot)) (name : ℕ) (slot : Slot) (next : ℕ) (second : Slot) (found : value_of es name ≡ Some slot) (pair : IsPair es name slot next) (new_is : new ≡ before es name ++ (name, both slot second) ∷ behind es next) where
  -- there is one pair less
  pub pair_less : length new + 1 ≡ length es
  pair_less =
      omega (
        arith,
        ap (λ xs. length xs) new_is,
        length-append (before es name) ((name, both slot second) ∷ behind es next),
        ap (λ xs. length xs) pair.at.behind_is,
        ap (λ xs. length xs) (split_at_key es name slot found),
        length-append (before es name) ((name, slot) ∷ behind es name),
        ap (λ xs. length xs) pair.behind_is,
      )

  -- so it is joined where the first one falls into the second, which has no mark
  pub pair_onto : value_of es next ≡ Some second → is_fall slot.term ≡ true → (second.start == 0) ≡ true → (other : Slot) → value_of es name ≡ Some other → new ≡ before es name ++ joined_slot_onto (name, other) (behind es name)
  pair_onto found_next falls unmarked other found' =
      let second_is = some_same pair.value second (sym pair.at.found ∙ found_next) in
      let onto : joined_slot_onto (name, slot) (behind es name) ≡ (name, both slot second) ∷ behind es next =
      ap (joined_slot_onto (name, slot)) (pair.behind_is ∙ ap (λ s. (next, s) ∷ pair.rest) second_is)
      ∙ ap (λ b. if b then (name, both slot second) ∷ pair.rest else (name, slot) ∷ (next, second) ∷ pair.rest) (and_from (is_fall slot.term) (second.start == 0) falls unmarked)
      ∙ ap (λ xs. (name, both slot second) ∷ xs) (sym pair.at.behind_is) in
      new_is
      ∙ ap (λ xs. before es name ++ xs) (sym onto)
      ∙ ap (λ s. before es name ++ joined_slot_onto (name, s) (behind es name)) (some_same slot other (sym found ∙ found'))
