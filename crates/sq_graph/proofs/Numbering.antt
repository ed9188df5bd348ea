-- Slots that have their starts, and those that get them again.
use Rattle.std.proofs.Common.{◌≡◌, ◌≢◌, ℕ, ◌+◌, ◌≤◌, ◌==◌, List, [], ◌∷◌, ◌++◌, Option, Some, refl, sym, ap, ◌∙◌, subst, inl, inr, arith}
use Rattle.std.proofs.lemmas.Bool.{cases_Bool, cases_eq}
use Rattle.sq_arena.specs.Entries.{keys, HasDistinctKeys, value_of, before, through, behind, starting_at, with_value, first_key, next_key}
use Rattle.sq_arena.proofs.EntriesLemmas.{split_at as split_at_key, starting_at-behind, through-behind}
use Rattle.sq_graph.specs.declared.slot.Slot.{Slot}
use Rattle.sq_graph.specs.Cursor.{ahead_of, rest_from, renumbered, length_of_slots}
use Rattle.sq_graph.specs.Numbered.{IsNumbered, Settles}
use Rattle.sq_graph.proofs.CursorLaws.{steps, from_first}
use Rattle.sq_graph.proofs.SlotPasses.{length_of_slots-append}
use Rattle.sq_graph.proofs.SlotWalks.{Renumbers, started}

same_head : (x y : ℕ × Slot) (xs ys : List (ℕ × Slot)) → x ∷ xs ≡ y ∷ ys → x ≡ y
same_head x y xs ys same = cc

same_tail : (x y : ℕ × Slot) (xs ys : List (ℕ × Slot)) → x ∷ xs ≡ y ∷ ys → xs ≡ ys
same_tail x y xs ys same = cc

none_more : (n : ℕ) → n ≡ n + 0
none_more n = omega arith

sums : (a b c : ℕ) → (a + b) + c ≡ a + (b + c)
sums a b c = omega arith

pub renumbered-append : (n : ℕ) (xs ys : List (ℕ × Slot)) → renumbered n (xs ++ ys) ≡ renumbered n xs ++ renumbered (n + length_of_slots xs) ys
renumbered-append n [] ys = ap (λ k. renumbered k ys) (none_more n)
renumbered-append n (x ∷ xs) ys =
    ap (λ es. (x.0, record x.1 { start = n }) ∷ es)
    (renumbered-append (n + x.1.length) xs ys ∙ ap (λ k. renumbered (n + x.1.length) xs ++ renumbered k ys) (sums n x.1.length (length_of_slots xs)))

pub renumbered-again : (n k : ℕ) (xs : List (ℕ × Slot)) → renumbered n (renumbered k xs) ≡ renumbered n xs
renumbered-again n k [] = refl
renumbered-again n k (x ∷ xs) =
    ap (λ es. (x.0, record x.1 { start = n }) ∷ es) (renumbered-again (n + x.1.length) (k + x.1.length) xs)

pub length_of_slots-renumbered : (n : ℕ) (xs : List (ℕ × Slot)) → length_of_slots (renumbered n xs) ≡ length_of_slots xs
length_of_slots-renumbered n [] = refl
length_of_slots-renumbered n (x ∷ xs) = ap (λ k. x.1.length + k) (length_of_slots-renumbered (n + x.1.length) xs)

pub first_key-renumbered : (n : ℕ) (xs ys : List (ℕ × Slot)) → first_key (xs ++ renumbered n ys) ≡ first_key (xs ++ ys)
first_key-renumbered n [] [] = refl
first_key-renumbered n [] (y ∷ ys) = refl
first_key-renumbered n (x ∷ xs) ys = refl

keys-renumbered : (n : ℕ) (xs ys : List (ℕ × Slot)) → keys (xs ++ renumbered n ys) ≡ keys (xs ++ ys)
keys-renumbered n [] [] = refl
keys-renumbered n [] (y ∷ ys) = ap (λ ks. y.0 ∷ ks) (keys-renumbered (n + y.1.length) [] ys)
keys-renumbered n (x ∷ xs) ys = ap (λ ks. x.0 ∷ ks) (keys-renumbered n xs ys)

pub distinct-renumbered : (n : ℕ) (xs ys : List (ℕ × Slot)) → HasDistinctKeys (xs ++ ys) → HasDistinctKeys (xs ++ renumbered n ys)
distinct-renumbered n xs ys distinct = rw (keys-renumbered n xs ys) distinct

-- the parts of numbered slots
pub numbered_parts : (n : ℕ) (xs ys : List (ℕ × Slot)) → IsNumbered n (xs ++ ys) → IsNumbered n xs × IsNumbered (n + length_of_slots xs) ys
numbered_parts n [] ys is = (refl, ap (λ k. renumbered k ys) (sym (none_more n)) ∙ is)
numbered_parts n (x ∷ xs) ys is =
    let l = x.1.length in
    let head : (x.0, record x.1 { start = n }) ≡ x = same_head _ _ _ _ is in
    let parts = numbered_parts (n + x.1.length) xs ys (same_tail _ _ _ _ is) in
    (ap (λ e. e ∷ renumbered (n + l) xs) head ∙ ap (λ es. x ∷ es) parts.0, ap (λ k. renumbered k ys) (sym (sums n l (length_of_slots xs))) ∙ parts.1)

pub numbered_whole : (n : ℕ) (xs ys : List (ℕ × Slot)) → IsNumbered n xs → IsNumbered (n + length_of_slots xs) ys → IsNumbered n (xs ++ ys)
numbered_whole n xs ys first rest =
    renumbered-append n xs ys ∙ ap (λ es. es ++ renumbered (n + length_of_slots xs) ys) first ∙ ap (λ es. xs ++ es) rest

-- numbered slots elsewhere, by an equal number
pub numbered_at : (n k : ℕ) (xs : List (ℕ × Slot)) → n ≡ k → IsNumbered n xs → IsNumbered k xs
numbered_at n k xs same is = ap (λ m. renumbered m xs) (sym same) ∙ is

-- where a block starts and ends
pub slot_start : (n : ℕ) (es : List (ℕ × Slot)) (name : ℕ) (slot : Slot) → IsNumbered n es → value_of es name ≡ Some slot → slot.start ≡ n + length_of_slots (before es name)
slot_start n [] name slot is found = absurd (cc)
slot_start n (e ∷ es) name slot is found =
    elim (cases_Bool (e.0 == name)) [
      | inl here ↦
          let same : e.1 ≡ slot = some_same e.1 slot (rw here at found) in
          rw here (ap (λ s. s.start) (sym same) ∙ sym (ap (λ p. p.1.start) (same_head _ _ _ _ is)) ∙ none_more n)
      | inr apart ↦ rw apart
          (slot_start (n + e.1.length) es name slot (same_tail _ _ _ _ is) (rw apart at found) ∙ sums n e.1.length (length_of_slots (before es name)))
    ]
  where
    some_same : (a b : Slot) → Some a ≡ Some b → a ≡ b
    some_same a b same = cc

length-through : (es : List (ℕ × Slot)) (name : ℕ) (slot : Slot) → value_of es name ≡ Some slot → length_of_slots (through es name) ≡ length_of_slots (before es name) + slot.length
length-through [] name slot found = absurd (cc)
length-through (e ∷ es) name slot found =
    elim (cases_Bool (e.0 == name)) [
      | inl here ↦ rw here (let same : e.1 ≡ slot = some_same e.1 slot (rw here at found) in omega (arith, ap (λ s. s.length) same))
      | inr apart ↦ rw apart (omega (arith, length-through es name slot (rw apart at found)))
    ]
  where
    some_same : (a b : Slot) → Some a ≡ Some b → a ≡ b
    some_same a b same = cc

pub slot_end : (n : ℕ) (es : List (ℕ × Slot)) (name : ℕ) (slot : Slot) → IsNumbered n es → value_of es name ≡ Some slot → slot.start + slot.length ≡ n + length_of_slots (through es name)
slot_end n es name slot is found = omega (arith, slot_start n es name slot is found, length-through es name slot found)

pub through_within : (es : List (ℕ × Slot)) (name : ℕ) → length_of_slots (through es name) ≤ length_of_slots es
through_within es name =
    omega (arith, ap length_of_slots (through-behind es name), length_of_slots-append (through es name) (behind es name))

-- slots that settle: those that have their starts, and ahead of them those that all miss theirs by as much
pub settles_numbered : (n : ℕ) (es : List (ℕ × Slot)) → IsNumbered n es → Settles n es
settles_numbered n [] is = tt
settles_numbered n (e ∷ es) is =
    let tail : IsNumbered (n + e.1.length) es = same_tail _ _ _ _ is in
    ((λ here. tail), settles_numbered (n + e.1.length) es tail)

settles_shifted : (k n : ℕ) (xs ys : List (ℕ × Slot)) → k ≢ n → IsNumbered k xs → IsNumbered (n + length_of_slots xs) ys → Settles n (xs ++ ys)
settles_shifted k n [] ys apart was is = settles_numbered n ys (numbered_at (n + 0) n ys (sym (none_more n)) is)
settles_shifted k n (x ∷ xs) ys apart was is =
    let l = x.1.length in
    let start : k ≡ x.1.start = ap (λ e. e.1.start) (same_head _ _ _ _ was) in
    let still : k + l ≢ n + l = λ same. apart (omega (arith, same)) in (
      (λ here. absurd (apart (start ∙ here))),
      settles_shifted (k + l) (n + l) xs ys still (same_tail _ _ _ _ was) (numbered_at (n + (l + length_of_slots xs)) (n + l + length_of_slots xs) ys (sym (sums n l (length_of_slots xs))) is),
    )

pub settles : (k n : ℕ) (xs ys : List (ℕ × Slot)) → IsNumbered k xs → IsNumbered (n + length_of_slots xs) ys → Settles n (xs ++ ys)
settles k n xs ys was is =
    elim (cases_eq k n) [
      | inl same ↦ settles_numbered n (xs ++ ys) (numbered_whole n xs ys (numbered_at k n xs same was) is)
      | inr apart ↦ settles_shifted k n xs ys apart was is
    ]

-- from the first key on, all slots get their starts
pub renumbered_from_first : (es : List (ℕ × Slot)) (head : Option ℕ) → head ≡ first_key es → ahead_of es head ++ renumbered 0 (rest_from es head) ≡ renumbered 0 es
renumbered_from_first es head is =
    ap (λ k. ahead_of es k ++ renumbered 0 (rest_from es k)) is
    ∙ ap (λ xs. xs ++ renumbered 0 (rest_from es (first_key es))) (from_first es).1.0
    ∙ ap (renumbered 0) (from_first es).1.1

-- a step of the loop over slots that settle
pub settles_step : (now : List (ℕ × Slot)) (key : ℕ) (v : Slot) (start : ℕ) → HasDistinctKeys now → value_of now key ≡ Some v → Settles start (starting_at now key) → Settles (start + v.length) (rest_from (with_value now key (started start v)) (next_key (with_value now key (started start v)) key))
settles_step now key v start distinct found settles =
    let here : Settles start ((key, v) ∷ behind now key) = subst (λ (es : List (ℕ × Slot)). Settles start es) (starting_at-behind now key v found) settles in
    rw (steps now key v (started start v) distinct found).rest here.1

-- its end at a slot that has its start
pub settled : (now goal : List (ℕ × Slot)) (key : ℕ) (v : Slot) (start : ℕ) → Renumbers now (Some key) start goal → Settles start (starting_at now key) → value_of now key ≡ Some v → v.start ≡ start → now ≡ goal
settled now goal key v start walk settles found right =
    let from = starting_at-behind now key v found in
    let here : Settles start ((key, v) ∷ behind now key) = subst (λ (es : List (ℕ × Slot)). Settles start es) from settles in
    split_at_key now key v found
    ∙ ap (λ n. before now key ++ (key, started n v) ∷ behind now key) right
    ∙ ap (λ es. before now key ++ (key, started start v) ∷ es) (sym (here.0 right))
    ∙ ap (λ es. before now key ++ renumbered start es) (sym from)
    ∙ walk.is
