-- Branches that don't reach once a chain has moved and a few are widened: those around the seams and the widened ones show that
-- there are no others.
use Rattle.std.proofs.Common.{◌≡◌, ◌⊎◌, ℕ, ◌+◌, ◌*◌, ◌≤◌, ◌<◌, Bool, true, false, not, nat_le, nat_lt, ◌&&◌, if◌then◌else◌, length, Option, None, Some, inl, inr, refl, sym, ap, ◌∙◌, arith}
use Rattle.std.proofs.lemmas.Bool.{cases_Bool, and_parts, leb-true, lt-ltb, le-ltb, ltb-true, ltb-false}
use Rattle.sq_graph.specs.declared.item.Term.{Term}
use Rattle.sq_graph.specs.declared.item.Term.TheVariants.{Fall, Jump, Branch, Call, PartJump, Indirect, Stop}
use Rattle.sq_graph.specs.Graph.{Graph}
use Rattle.sq_graph.specs.Blocks.{items_of, term_of}
use Rattle.sq_graph.specs.Places.{IsInReach}
use Rattle.sq_graph.specs.Rules.{IsGraph}
use Rattle.sq_graph.specs.Words.{block_words}
use Rattle.sq_layout.proofs.Shrinking.{branch_reaches}
use Rattle.sq_lookup.proofs.Targets.{has_term, branch_there}
use Rattle.sq_chain.specs.Around.{IsFar, IsSeenAround, IsSeenAt, NoneMissed}
use Rattle.sq_chain.specs.Least.{is_near, stands_at, is_short}
use Rattle.sq_chain.specs.Seams.{IsShifted}
use Rattle.sq_chain.specs.Settled.{settled_to, IsSettledTo, is_wide, word_ahead, swollen_to, is_short_by, is_missed, IsSettled}
use Rattle.sq_chain.specs.Shifts.{exchanged_to}
use Rattle.sq_chain.specs.Widening.{EndsInBranch}
use Rattle.sq_chain.specs.declared.seams.Seams.{Seams}
use Rattle.sq_chain.specs.declared.shift.Shift.{Shift}
use Rattle.sq_chain.specs.declared.shift.Wide.{Wide}
use Rattle.sq_chain.proofs.Replaced.{shifted_is}
use Rattle.sq_chain.proofs.Seen.{near_on, near_is, less_or}

-- WHERE A SHIFT PUTS AN ADDRESS

pub settled_is : (shift : Shift) (at to : ℕ) → shift.seams.first ≤ shift.seams.second → shift.seams.second ≤ shift.seams.end → IsSettledTo shift at to → settled_to shift at ≡ to
settled_is shift at to first second is =
    elim (cases_Bool (nat_lt at shift.seams.first)) [
      | inl one ↦ rw one (sym (is.before (ltb-true at shift.seams.first one)))
      | inr past ↦
          let past_first = ltb-false at shift.seams.first past in
          elim (cases_Bool (nat_lt at shift.seams.second)) [
            | inl two ↦ let moves = is.first past_first (ltb-true at shift.seams.second two) in rw past (rw two (omega (arith, moves, second)))
            | inr later ↦
                let past_second = ltb-false at shift.seams.second later in
                elim (cases_Bool (nat_lt at shift.seams.end)) [
                  | inl three ↦ let moves = is.second past_second (ltb-true at shift.seams.end three) in rw past (rw later (rw three (omega (arith, moves, first, past_second))))
                  | inr behind ↦ let moves = is.behind (ltb-false at shift.seams.end behind) in rw past (rw later (rw behind (omega (arith, moves))))
                ]
          ]
    ]

-- A BRANCH FAR FROM EACH PLACE

-- an address is in one of four pieces
by_piece : (P : Type 0) (seams : Seams) (at to : ℕ) → IsShifted seams at to
    → (at < seams.first → to ≡ at → P) → (seams.first ≤ at → at < seams.second → to + seams.second ≡ at + seams.end → P)
    → (seams.second ≤ at → at < seams.end → to + seams.second ≡ at + seams.first → P) → (seams.end ≤ at → to ≡ at → P) → P
by_piece P seams at to is one two three four =
    elim (less_or at seams.first) [
      | inl less ↦ one less (is.before less)
      | inr more ↦ elim (less_or at seams.second) [
        | inl less ↦ two more less (is.first more less)
        | inr more' ↦ elim (less_or at seams.end) [ inl less ↦ three more' less (is.second more' less) | inr past ↦ four past (is.behind past) ]
      ]
    ]

-- an address is as far ahead of both
test_same : (x y z : ℕ) → (x < y → x < z) → (y ≤ x → z ≤ x) → nat_lt x y ≡ nat_lt x z
test_same x y z less more =
    elim (less_or x y) [
      | inl l ↦ lt-ltb x y l ∙ sym (lt-ltb x z (less l))
      | inr m ↦ le-ltb x y m ∙ sym (le-ltb x z (more m))
    ]

module _ (seams : Seams) (first : seams.first ≤ seams.second) (second : seams.second ≤ seams.end) (from to items : ℕ) (ahead : from + items ≤ to + 4096) (back : to ≤ from + items + 4094) where
  abbrev Far : ℕ → Type 0
  Far seam = (from + items + 4096 < seam) ⊎ (seam + 4096 < from)

  module _ (one : (from + items + 4096 < seams.first) ⊎ (seams.first + 4096 < from)) (two : (from + items + 4096 < seams.second) ⊎ (seams.second + 4096 < from)) (three : (from + items + 4096 < seams.end) ⊎ (seams.end + 4096 < from)) where
    pub settled_apart : (shift : Shift) → shift.seams ≡ seams → (x y : ℕ) → IsSettledTo shift from x → IsSettledTo shift to y → x + to ≡ y + from
    settled_apart shift same x y f t =
        let a : shift.seams.first ≡ seams.first = ap (λ (s : Seams). s.first) same in
        let b : shift.seams.second ≡ seams.second = ap (λ (s : Seams). s.second) same in
        let c : shift.seams.end ≡ seams.end = ap (λ (s : Seams). s.end) same in
        elim one [
          | inl l ↦ omega (arith, f.before (omega (arith, l, a)), t.before (omega (arith, l, back, a)))
          | inr m ↦
              elim two [
                | inl l ↦ omega (arith, f.first (omega (arith, m, a)) (omega (arith, l, b)), t.first (omega (arith, m, ahead, a)) (omega (arith, l, back, b)))
                | inr m' ↦
                    elim three [
                      | inl l ↦ omega (arith, f.second (omega (arith, m', b)) (omega (arith, l, c)), t.second (omega (arith, m', ahead, b)) (omega (arith, l, back, c)))
                      | inr m'' ↦ omega (arith, f.behind (omega (arith, m'', c)), t.behind (omega (arith, m'', ahead, c)))
                    ]
              ]
        ]

    module _ (place : ℕ) (far : (from + items + 4096 < place) ⊎ (place + 4096 < from)) (p x y : ℕ) (is : IsShifted seams place p) (f : IsShifted seams from x) (t : IsShifted seams to y) where
      abbrev Both : Type 0
      Both = (p < x → p < y) × (x ≤ p → y ≤ p)

      -- the three are in pieces, the last two in the same one
      in_pieces : ((p < x → p < y) × (x ≤ p → y ≤ p))
      in_pieces =
          elim one [
            | inl l ↦
                let u = f.before (omega (arith, l)) in
                let v = t.before (omega (arith, l, back)) in
                by_piece ((p < x → p < y) × (x ≤ p → y ≤ p)) seams place p is
                (λ i e. elim far [ inl g ↦ (λ h. absurd (omega (arith, h, u, e, g)), λ h. omega (arith, v, e, g, back)) | inr g ↦ (λ h. omega (arith, v, e, g, ahead), λ h. absurd (omega (arith, h, u, e, g))) ])
                (λ i j e. (λ h. absurd (omega (arith, h, u, e, i, l, second)), λ h. omega (arith, v, e, i, l, back, second)))
                (λ i j e. (λ h. absurd (omega (arith, h, u, e, i, l)), λ h. omega (arith, v, e, i, l, back)))
                (λ i e. (λ h. absurd (omega (arith, h, u, e, i, l, first, second)), λ h. omega (arith, v, e, i, l, back, first, second)))
            | inr m ↦
                elim two [
                  | inl l ↦
                      let u = f.first (omega (arith, m)) (omega (arith, l)) in
                      let v = t.first (omega (arith, m, ahead)) (omega (arith, l, back)) in
                      by_piece ((p < x → p < y) × (x ≤ p → y ≤ p)) seams place p is
                      (λ i e. (λ h. omega (arith, v, e, i, m, ahead, second), λ h. absurd (omega (arith, h, u, e, i, m, second))))
                      (λ i j e. elim far [ inl g ↦ (λ h. absurd (omega (arith, h, u, e, g)), λ h. omega (arith, v, e, g, back)) | inr g ↦ (λ h. omega (arith, v, e, g, ahead), λ h. absurd (omega (arith, h, u, e, g))) ])
                      (λ i j e. (λ h. omega (arith, v, e, j, m, ahead), λ h. absurd (omega (arith, h, u, e, j, m))))
                      (λ i e. (λ h. absurd (omega (arith, h, u, e, i, l)), λ h. omega (arith, v, e, i, l, back)))
                  | inr m' ↦
                      elim three [
                        | inl l ↦
                            let u = f.second (omega (arith, m')) (omega (arith, l)) in
                            let v = t.second (omega (arith, m', ahead)) (omega (arith, l, back)) in
                            by_piece ((p < x → p < y) × (x ≤ p → y ≤ p)) seams place p is
                            (λ i e. (λ h. omega (arith, v, e, i, m', ahead), λ h. absurd (omega (arith, h, u, e, i, m'))))
                            (λ i j e. (λ h. absurd (omega (arith, h, u, e, i, l)), λ h. omega (arith, v, e, i, l, back)))
                            (λ i j e. elim far [ inl g ↦ (λ h. absurd (omega (arith, h, u, e, g)), λ h. omega (arith, v, e, g, back)) | inr g ↦ (λ h. omega (arith, v, e, g, ahead), λ h. absurd (omega (arith, h, u, e, g))) ])
                            (λ i e. (λ h. absurd (omega (arith, h, u, e, i, l, first)), λ h. omega (arith, v, e, i, l, back, first)))
                        | inr m'' ↦
                            let u = f.behind (omega (arith, m'')) in
                            let v = t.behind (omega (arith, m'', ahead)) in
                            by_piece ((p < x → p < y) × (x ≤ p → y ≤ p)) seams place p is
                            (λ i e. (λ h. omega (arith, v, e, i, m'', ahead, first, second), λ h. absurd (omega (arith, h, u, e, i, m'', first, second))))
                            (λ i j e. (λ h. omega (arith, v, e, j, m'', ahead, second), λ h. absurd (omega (arith, h, u, e, j, m'', second))))
                            (λ i j e. (λ h. omega (arith, v, e, j, m'', ahead, first), λ h. absurd (omega (arith, h, u, e, j, m'', first))))
                            (λ i e. elim far [ inl g ↦ (λ h. absurd (omega (arith, h, u, e, g)), λ h. omega (arith, v, e, g, back)) | inr g ↦ (λ h. omega (arith, v, e, g, ahead), λ h. absurd (omega (arith, h, u, e, g))) ])
                      ]
                ]
          ]

      pub as_far_ahead : nat_lt p x ≡ nat_lt p y
      as_far_ahead = test_same p x y in_pieces.0 in_pieces.1

-- ALL BRANCHES

-- far from where a block stands, if there is one
abbrev pub IsFarFrom : Graph → Option ℕ → ℕ → Type 0
IsFarFrom g None n = Unit {0}
IsFarFrom g (Some m) n = IsFar g (stands_at block_words g m) n

module _ (g h : Graph) (shift : Shift) (rules : IsGraph g) (s : IsSettled g h shift) (reach : IsInReach g) (n : ℕ) (e : EndsInBranch g n) (one : IsFar g shift.seams.first n) (two : IsFar g shift.seams.second n) (three : IsFar g shift.seams.end n) where
  abbrev stands : ℕ → ℕ
  stands = stands_at block_words g

  near : is_near (stands_at block_words g n + 4 * length (items_of g n)) (stands_at block_words g e.to) ≡ true
  near =
      near_is g n e.to (has_term g n (Branch e.cond e.a e.b e.to) e.is) (branch_there g n e.cond e.a e.b e.to rules e.is) (branch_reaches g reach n e.cond e.a e.b e.to e.is)

  ahead : stands_at block_words g n + 4 * length (items_of g n) ≤ stands_at block_words g e.to + 4096
  ahead =
      leb-true (stands_at block_words g n + 4 * length (items_of g n)) (stands_at block_words g e.to + 4096)
      (and_parts (nat_le (stands_at block_words g n + 4 * length (items_of g n)) (stands_at block_words g e.to + 4096)) (nat_le (stands_at block_words g e.to) (stands_at block_words g n + 4 * length (items_of g n) + 4094)) near).0

  back : stands_at block_words g e.to ≤ stands_at block_words g n + 4 * length (items_of g n) + 4094
  back =
      leb-true (stands_at block_words g e.to) (stands_at block_words g n + 4 * length (items_of g n) + 4094)
      (and_parts (nat_le (stands_at block_words g n + 4 * length (items_of g n)) (stands_at block_words g e.to + 4096)) (nat_le (stands_at block_words g e.to) (stands_at block_words g n + 4 * length (items_of g n) + 4094)) near).1

  same_word : (o : Option ℕ) → IsFarFrom g o n → word_ahead (stands_at block_words g) shift.seams o n ≡ word_ahead (stands_at block_words g) shift.seams o e.to
  same_word None far = refl
  same_word (Some m) far =
      let put : (at : ℕ) → IsShifted shift.seams at (exchanged_to shift.seams at) = λ at. shifted_is shift.seams at s.first s.second in
      let at : ℕ = stands_at block_words g m in
      ap (λ (t : Bool). if t then 1 else 0)
      (as_far_ahead shift.seams s.first s.second (stands_at block_words g n) (stands_at block_words g e.to) (4 * length (items_of g n)) ahead back one two three at far
      (exchanged_to shift.seams at) (exchanged_to shift.seams (stands_at block_words g n)) (exchanged_to shift.seams (stands_at block_words g e.to))
      (put at) (put (stands_at block_words g n)) (put (stands_at block_words g e.to)))

  pub far_reaches : (wide : Wide) → IsFarFrom g wide.one n → IsFarFrom g wide.other n → is_short_by g shift wide n ≡ false
  far_reaches wide far_one far_other =
      let from_has = has_term g n (Branch e.cond e.a e.b e.to) e.is in
      let to_has = branch_there g n e.cond e.a e.b e.to rules e.is in
      let f = s.stands n from_has in
      let t = s.stands e.to to_has in
      let x : ℕ = stands_at block_words h n in
      let y : ℕ = stands_at block_words h e.to in
      let f_is = settled_is shift (stands_at block_words g n) (stands_at block_words h n) s.first s.second f in
      let t_is = settled_is shift (stands_at block_words g e.to) (stands_at block_words h e.to) s.first s.second t in
      let apart = settled_apart shift.seams s.first s.second (stands_at block_words g n) (stands_at block_words g e.to) (4 * length (items_of g n)) ahead back one two three shift refl x y f t in
      let a = same_word wide.one far_one in
      let b = same_word wide.other far_other in
      let still = near_on (stands_at block_words g n) (stands_at block_words g e.to) (swollen_to (stands_at block_words g) shift wide n) (swollen_to (stands_at block_words g) shift wide e.to) (4 * length (items_of g n))
      (omega (arith, f_is, t_is, apart, a, b)) near in
      ap (is_short (swollen_to (stands_at block_words g) shift wide) g n) e.is ∙ ap not still

-- WHAT IS SEEN

module _ (g h : Graph) (shift : Shift) (rules : IsGraph g) (s : IsSettled g h shift) (reach : IsInReach g) (wide : Wide) where
  missed_not : (n : ℕ) → is_short_by g shift wide n ≡ false → is_missed g shift wide n ≡ false
  missed_not n out = by_test (is_wide wide n) (is_short_by g shift wide n) out
    where
      by_test : (t u : Bool) → u ≡ false → (not t && u) ≡ false
      by_test true u e = refl
      by_test false u e = e

  seen_at : (n : ℕ) → EndsInBranch g n → (o : Option ℕ) → IsSeenAt g shift wide o → (is_missed g shift wide n ≡ false) ⊎ IsFarFrom g o n
  seen_at n e None seen = inr tt
  seen_at n e (Some m) seen = seen n e

  branch_seen : IsSeenAround g shift wide shift.seams.first → IsSeenAround g shift wide shift.seams.second → IsSeenAround g shift wide shift.seams.end → IsSeenAt g shift wide wide.one → IsSeenAt g shift wide wide.other → (n : ℕ) → EndsInBranch g n → is_missed g shift wide n ≡ false
  branch_seen first second third at_one at_other n e =
      elim (first n e) [
        | inl near ↦ near
        | inr one ↦ elim (second n e) [
          | inl near ↦ near
          | inr two ↦ elim (third n e) [
            | inl near ↦ near
            | inr three ↦ elim (seen_at n e wide.one at_one) [
              | inl near ↦ near
              | inr four ↦ elim (seen_at n e wide.other at_other) [
                | inl near ↦ near
                | inr five ↦ missed_not n (far_reaches g h shift rules s reach n e one two three wide four five)
              ]
            ]
          ]
        ]
      ]

  pub none_missed : IsSeenAround g shift wide shift.seams.first → IsSeenAround g shift wide shift.seams.second → IsSeenAround g shift wide shift.seams.end → IsSeenAt g shift wide wide.one → IsSeenAt g shift wide wide.other → NoneMissed g shift wide
  none_missed first second third at_one at_other n = by_term (term_of g n) refl
    where
      no_branch : (o : Option Term) → term_of g n ≡ o → is_short (swollen_to (stands_at block_words g) shift wide) g n o ≡ false → is_missed g shift wide n ≡ false
      no_branch o is out = missed_not n (ap (is_short (swollen_to (stands_at block_words g) shift wide) g n) is ∙ out)

      by_term : (o : Option Term) → term_of g n ≡ o → is_missed g shift wide n ≡ false
      by_term None is = no_branch None is refl
      by_term (Some Fall) is = no_branch (Some Fall) is refl
      by_term (Some (Jump to)) is = no_branch (Some (Jump to)) is refl
      by_term (Some (Branch cond a b to)) is = branch_seen first second third at_one at_other n (record { cond = cond; a = a; b = b; to = to; is = is })
      by_term (Some (Call link to)) is = no_branch (Some (Call link to)) is refl
      by_term (Some (PartJump link part to)) is = no_branch (Some (PartJump link part to)) is refl
      by_term (Some (Indirect link x offset)) is = no_branch (Some (Indirect link x offset)) is refl
      by_term (Some (Stop word)) is = no_branch (Some (Stop word)) is refl
