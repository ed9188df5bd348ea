-- Two blocks with a common end have one number, and the search finds two such blocks where there are any.
use Rattle.std.proofs.Common.{◌≡◌, ◌≢◌, ℕ, zero, suc, ◌+◌, ◌<◌, ◌≤◌, ◌⊎◌, ◌==◌, List, [], ◌∷◌, map, length, get_or, Option, Some, None, slice_get, inl, inr, refl, sym, ap, ◌∙◌, subst, arith}
use Rattle.std.specs.Option.{option_flatten}
use Rattle.std.proofs.lemmas.Bool.{cases_Bool, cases_lt, eqb-true, eqb-false}
use Rattle.std.proofs.lemmas.List.{length-map}
use Rattle.std.proofs.lemmas.Option.{slice_get-get_or, slice_get_within}
use Rattle.sq_graph.specs.declared.item.Item.{Item}
use Rattle.sq_graph.specs.Graph.{Graph}
use Rattle.sq_graph.specs.Blocks.{HasBlock, items_of}
use Rattle.sq_graph.specs.Parts.{names_of}
use Rattle.sq_graph.specs.Resolve.{resolved_term_of}
use Rattle.sq_graph.specs.Rules.{IsGraph}
use Rattle.sq_graph.specs.Slotted.{position_in}
use Rattle.sq_graph.proofs.Slotting.{AreNumbered, positions_numbered}
use Rattle.sq_finger.specs.Numbers.{member_at, NoDouble}
use Rattle.sq_lookup.proofs.Targets.{name_listed}
use Rattle.sq_rename.specs.Reservations.{HasNoReservations}
use Rattle.sq_tail.specs.Tails.{end_words}
use Rattle.sq_tail.specs.Ends.{last_items, HaveEnd, IsTailPair, end_of}
use Rattle.sq_tail.specs.Numbers.{AreEndNumbers, AreWords, IsMeeting}
use Rattle.sq_tail.proofs.Applying.{has_items}
use Rattle.sq_tail.proofs.Ending.{common_less, end_plain, end_is}
use Rattle.sq_tail.proofs.Numbering.{by_name, at_map}

some_same : {X : Type 0} {x y : X} → Some x ≡ Some y → x ≡ y
some_same e = cc

-- NAMES STAND ONCE

numbered_at : (f : ℕ → ℕ) (k : ℕ) (names : List ℕ) (i : ℕ) → AreNumbered f k names → i < length names → f (get_or names i 0) ≡ k + i
numbered_at f k [] i h l = absurd (omega (arith, l))
numbered_at f k (n ∷ names) zero h l = h.0 ∙ omega arith
numbered_at f k (n ∷ names) (suc i) h l = numbered_at f (k + 1) names i h.1 (omega (arith, l)) ∙ omega arith

pub one_place : (g : Graph) (names : List ℕ) (i j : ℕ) → IsGraph g → names ≡ names_of g → i < length names → j < length names → get_or names i 0 ≡ get_or names j 0 → i ≡ j
one_place g names i j rules is l m same =
    let numbered = subst (AreNumbered (position_in (names_of g)) 0) (sym is) (positions_numbered g rules) in
    let first = numbered_at (position_in (names_of g)) 0 names i numbered l in
    let second = numbered_at (position_in (names_of g)) 0 names j numbered m in
    omega (arith, first, second, ap (position_in (names_of g)) same)

pub placed : (g : Graph) (names : List ℕ) (block : ℕ) → names ≡ names_of g → HasBlock g block → (i : ℕ) × (i < length names) × (get_or names i 0 ≡ block)
placed g names block is has = subst (λ (ns : List ℕ). (i : ℕ) × (i < length ns) × (get_or ns i 0 ≡ block)) (sym is) (name_listed g.blocks block has)

-- ENDS AND NUMBERS

numbered : (numbers : List (Option ℕ)) (i m : ℕ) → member_at numbers i ≡ Some m → slice_get numbers i ≡ Some (Some m)
numbered numbers i m e = flat (slice_get numbers i) e
  where
    flat : (o : Option (Option ℕ)) → option_flatten o ≡ Some m → o ≡ Some (Some m)
    flat None e = absurd (cc)
    flat (Some o) e = ap Some e

some_or_none : {X : Type 0} (o : Option X) → (o ≡ None) ⊎ ((x : X) × (o ≡ Some x))
some_or_none None = inl refl
some_or_none (Some x) = inr (x, refl)

module _ (g : Graph) (names : List ℕ) (rules : IsGraph g) (is : names ≡ names_of g) where
  end_at : (n i : ℕ) → i < length names → member_at (map (end_of g n) names) i ≡ end_of g n (get_or names i 0)
  end_at n i l = at_map (end_of g n) names i ∙ ap (by_name (end_of g n)) (slice_get-get_or names i 0 l)

  within : (n : ℕ) (numbers : List (Option ℕ)) → AreEndNumbers g n names numbers → (i m : ℕ) → slice_get numbers i ≡ Some (Some m) → i < length names
  within n numbers are i m e = omega (arith, slice_get_within numbers i (Some m) e, are.many, length-map names (end_of g n))

  -- blocks of one number have a common end
  pub met : (n : ℕ) (numbers : List (Option ℕ)) → AreEndNumbers g n names numbers → 1 ≤ n → (i j m : ℕ) → i ≢ j → slice_get numbers i ≡ Some (Some m) → slice_get numbers j ≡ Some (Some m) → HaveEnd g (get_or names i 0) (get_or names j 0) n
  met n numbers are some i j m apart first second =
      let l = within n numbers are i m first in
      let k = within n numbers are j m second in
      let one : member_at numbers i ≡ Some m = ap option_flatten first in
      let two : member_at numbers j ≡ Some m = ap option_flatten second in
      let same : end_of g n (get_or names i 0) ≡ end_of g n (get_or names j 0) = sym (end_at n i l) ∙ (are.same i j).0 (one ∙ sym two) ∙ end_at n j k in
      elim (some_or_none (end_of g n (get_or names i 0))) [
        | inl none ↦ absurd (let gone : member_at numbers i ≡ None = (are.none i).1 (end_at n i l ∙ none) in cc)
        | inr end ↦
            let a = end_is g n (get_or names i 0) end.0 end.1 in
            let b = end_is g n (get_or names j 0) end.0 (sym same ∙ end.1) in
            let pair = sym a.is ∙ b.is in
            record {
              other = λ e. apart (one_place g names i j rules is l k (sym e));
              some = some;
              items = record { first = a.within; second = b.within; same = ap (λ p. p.1) pair; plain = b.plain };
              terms = ap (λ p. p.0) pair;
            }
      ]

  -- and blocks with a common end have one number
  pub record HaveNumber (numbers : List (Option ℕ)) (i j : ℕ) : Type 0 where
    pub number : ℕ
    pub first : slice_get numbers i ≡ Some (Some number)
    pub second : slice_get numbers j ≡ Some (Some number)

  pub meets : (n : ℕ) (numbers : List (Option ℕ)) → AreEndNumbers g n names numbers → (i j : ℕ) → i < length names → j < length names → HaveEnd g (get_or names i 0) (get_or names j 0) n → HaveNumber numbers i j
  meets n numbers are i j l k end =
      let a : end_of g n (get_or names i 0) ≡ Some (resolved_term_of g (get_or names i 0), last_items n (items_of g (get_or names i 0))) =
      end_plain g n (get_or names i 0) end.items.first (subst HasNoReservations (sym end.items.same) end.items.plain) in
      let b : end_of g n (get_or names j 0) ≡ Some (resolved_term_of g (get_or names j 0), last_items n (items_of g (get_or names j 0))) = end_plain g n (get_or names j 0) end.items.second end.items.plain in
      let pair : Some (resolved_term_of g (get_or names i 0), last_items n (items_of g (get_or names i 0))) ≡ Some (resolved_term_of g (get_or names j 0), last_items n (items_of g (get_or names j 0))) =
      λ t. Some (end.terms t, end.items.same t) in
      let same : member_at numbers i ≡ member_at numbers j = (are.same i j).1 (end_at n i l ∙ a ∙ pair ∙ sym b ∙ sym (end_at n j k)) in
      elim (some_or_none (member_at numbers i)) [
        | inl none ↦ absurd (let gone : Some (resolved_term_of g (get_or names i 0), last_items n (items_of g (get_or names i 0))) ≡ None = sym a ∙ sym (end_at n i l) ∙ (are.none i).0 none in cc)
        | inr m ↦ record { number = m.0; first = numbered numbers i m.0 m.1; second = numbered numbers j m.0 (sym same ∙ m.1) }
      ]

  -- A PAIR IS FOUND

  pub double_is : (twos : List (Option ℕ)) → AreEndNumbers g 2 names twos → (i j m : ℕ) → i ≢ j → slice_get twos i ≡ Some (Some m) → slice_get twos j ≡ Some (Some m) → IsTailPair g (get_or names i 0) (get_or names j 0)
  double_is twos are i j m apart first second = record { n = 2; end = met 2 twos are (omega arith) i j m apart first second; saves = omega arith }

  pub meeting_is : (ones : List (Option ℕ)) (at : ℕ → Option ℕ) (count : ℕ) → AreEndNumbers g 1 names ones → AreWords g names ones count at → (i j : ℕ) → IsMeeting ones at i j → IsTailPair g (get_or names i 0) (get_or names j 0)
  meeting_is ones at count are words i j meeting =
      let known = words.known meeting.number i meeting.meets in
      record { n = 1; end = met 1 ones are (omega arith) i j meeting.number meeting.apart known.0 meeting.stands; saves = omega (arith, known.1) }

  pub meeting_places : (ones : List (Option ℕ)) (at : ℕ → Option ℕ) (count : ℕ) → AreEndNumbers g 1 names ones → AreWords g names ones count at → (i j : ℕ) → IsMeeting ones at i j → (i < length names) × (j < length names)
  meeting_places ones at count are words i j meeting =
      let known = words.known meeting.number i meeting.meets in
      (within 1 ones are i meeting.number known.0, within 1 ones are j meeting.number meeting.stands)

  -- OR THERE IS NONE

  shorter : (dropped kept n m : ℕ) → 1 ≤ m → m ≤ n → HaveEnd g dropped kept n → HaveEnd g dropped kept m
  shorter dropped kept n m some l end = record { other = end.other; some = some; items = common_less (items_of g dropped) (items_of g kept) m n l end.items; terms = end.terms }

  blocks_there : (dropped kept n : ℕ) → HaveEnd g dropped kept n → HasBlock g dropped × HasBlock g kept
  blocks_there dropped kept n end = (
    has_items g dropped (λ none. absurd (omega (arith, end.some, end.items.first, ap (λ (items : List Item). length items) none))),
    has_items g kept (λ none. absurd (omega (arith, end.some, end.items.second, ap (λ (items : List Item). length items) none))),
  )

  pub none_left : (ones twos : List (Option ℕ)) (at : ℕ → Option ℕ) → AreEndNumbers g 1 names ones → AreEndNumbers g 2 names twos → AreWords g names ones (length names) at → NoDouble twos → ((i j : ℕ) → ¬ IsMeeting ones at i j)
      → (dropped kept : ℕ) → ¬ IsTailPair g dropped kept
  none_left ones twos at are_ones are_twos words no_double no_meeting dropped kept pair =
      let has = blocks_there dropped kept pair.n pair.end in
      let d = placed g names dropped is has.0 in
      let k = placed g names kept is has.1 in
      let i = d.0 in
      let j = k.0 in
      let apart : d.0 ≢ k.0 = λ e. pair.end.other (sym k.2 ∙ ap (λ x. get_or names x 0) (sym e) ∙ d.2) in
      let end : HaveEnd g (get_or names d.0 0) (get_or names k.0 0) pair.n = subst (λ x. HaveEnd g x (get_or names k.0 0) pair.n) (sym d.2) (subst (λ x. HaveEnd g dropped x pair.n) (sym k.2) pair.end) in
      let one = meets 1 ones are_ones d.0 k.0 d.1 k.1 (shorter (get_or names d.0 0) (get_or names k.0 0) pair.n 1 (omega arith) end.some end) in
      elim (cases_lt 1 pair.n) [
        | inl more ↦
            let two = meets 2 twos are_twos d.0 k.0 d.1 k.1 (shorter (get_or names d.0 0) (get_or names k.0 0) pair.n 2 (omega arith) (omega (arith, more)) end) in
            elim (cases_lt d.0 k.0) [
              | inl l ↦ no_double d.0 k.0 (l, (two.number, (two.first, two.second)))
              | inr l ↦ elim (cases_lt k.0 d.0) [ inl m ↦ no_double k.0 d.0 (m, (two.number, (two.second, two.first))) | inr m ↦ apart (omega (arith, l, m)) ]
            ]
        | inr single ↦
            let word : 1 ≤ end_words g (get_or names d.0 0) = subst (λ x. 1 ≤ end_words g x) (sym d.2) (omega (arith, pair.saves, single)) in
            elim (some_or_none (at one.number)) [
              | inl nothing ↦ absurd (omega (arith, word, words.all one.number d.0 nothing d.1 one.first))
              | inr x ↦
                  elim (cases_Bool (x.0 == k.0)) [
                    | inl same ↦ no_meeting k.0 d.0 (record { apart = λ e. apart (sym e); number = one.number; stands = one.first; meets = x.1 ∙ ap Some (eqb-true x.0 k.0 same) })
                    | inr other ↦ no_meeting x.0 k.0 (record { apart = eqb-false x.0 k.0 other; number = one.number; stands = one.second; meets = x.1 })
                  ]
            ]
      ]
