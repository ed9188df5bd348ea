-- A block that takes a word more: those behind it stand a word further on.
use Rattle.std.proofs.Common.{◌≡◌, ℕ, ◌+◌, ◌*◌, ◌≤◌, ◌==◌, nat_lt, Bool, true, false, ◌||◌, if◌then◌else◌, List, [], ◌∷◌, Option, None, Some, inl, inr, refl, sym, ap, ◌∙◌, subst, arith}
use Rattle.std.specs.Prelude.{unwrap_or}
use Rattle.std.proofs.lemmas.Bool.{cases_Bool, eqb-true, eq-eqb, lt-ltb, le-ltb, both_ways}
use Rattle.sq_arena.specs.Entries.{HasDistinctKeys, value_of}
use Rattle.sq_arena.proofs.EntriesLaws.{distinct_back}
use Rattle.sq_graph.specs.Graph.{Block, Graph}
use Rattle.sq_graph.specs.Blocks.{named, HasBlock}
use Rattle.sq_graph.specs.Words.{block_words}
use Rattle.sq_graph.proofs.Kept.{absent_behind}
use Rattle.sq_layout.specs.Weights.{address_by}
use Rattle.sq_layout.proofs.Shrinking.{some_is}
use Rattle.sq_chain.specs.Bare.{is_it}
use Rattle.sq_chain.specs.Least.{stands_at}
use Rattle.sq_chain.specs.Moves.{fallen_blocks}
use Rattle.sq_chain.specs.Settled.{is_wide}
use Rattle.sq_chain.specs.Widening.{swollen}
use Rattle.sq_chain.specs.declared.shift.Wide.{Wide}
use Rattle.sq_chain.proofs.Shortness.{stands_there}

-- whether the block of the one name is before that of the other
abbrev pub is_ahead : List Block → ℕ → ℕ → Bool
is_ahead [] m n = false
is_ahead (b ∷ bs) m n = if b.name == n then false else if b.name == m then true else is_ahead bs m n

abbrev pub one_ahead : List Block → Option ℕ → ℕ → ℕ
one_ahead bs None n = 0
one_ahead bs (Some m) n = if is_ahead bs m n then 1 else 0

-- it is with the same names
pub ahead_fallen : (bs : List Block) (m n : ℕ) → is_ahead (fallen_blocks bs) m n ≡ is_ahead bs m n
ahead_fallen [] m n = refl
ahead_fallen (b ∷ []) m n = refl
ahead_fallen (b ∷ next ∷ rest) m n = ap (λ t. if b.name == n then false else if b.name == m then true else t) (ahead_fallen (next ∷ rest) m n)

pub from_at : (weight : Block → ℕ) (bs : List Block) (at n x : ℕ) → address_by weight bs at n ≡ Some x → at ≤ x
from_at weight [] at n x found = absurd (cc)
from_at weight (b ∷ bs) at n x found =
    elim (cases_Bool (b.name == n)) [
      | inl here ↦ let is = some_is at x (rw here at found) in omega (arith, is)
      | inr apart ↦ let later = from_at weight bs (at + 4 * weight b) n x (rw apart at found) in omega (arith, later)
    ]

-- as where they stand tells, where the one has a word
pub ahead_is : (weight : Block → ℕ) (bs : List Block) (at m n x y : ℕ) → ((b : Block) → value_of (named bs) m ≡ Some b → 1 ≤ weight b) → address_by weight bs at m ≡ Some x → address_by weight bs at n ≡ Some y → is_ahead bs m n ≡ nat_lt x y
ahead_is weight [] at m n x y some found there = absurd (cc)
ahead_is weight (b ∷ bs) at m n x y some found there =
    elim (cases_Bool (b.name == n)) [
      | inl last ↦
          let y_is = some_is at y (rw last at there) in
          let low = from_at weight (b ∷ bs) at m x found in
          rw last (sym (le-ltb x y (omega (arith, y_is, low))))
      | inr other ↦
          elim (cases_Bool (b.name == m)) [
            | inl here ↦
                let x_is = some_is at x (rw here at found) in
                let one = some b (rw here refl) in
                let low = from_at weight bs (at + 4 * weight b) n y (rw other at there) in
                rw (other, here) (sym (lt-ltb x y (omega (arith, x_is, one, low))))
            | inr apart ↦ rw (other, apart) (ahead_is weight bs (at + 4 * weight b) m n x y (λ c found'. some c (rw apart found')) (rw apart at found) (rw other at there))
          ]
    ]

-- A WORD MORE

-- the weight with a word more for one block, if there is one
abbrev pub with_word : (Block → ℕ) → Option ℕ → Block → ℕ
with_word weight o b = weight b + (if is_it o b.name then 1 else 0)

no_more : (weight : Block → ℕ) (m : ℕ) (bs : List Block) (at to n x : ℕ) → value_of (named bs) m ≡ None → address_by weight bs at n ≡ Some x → (y : ℕ) → y + at ≡ x + to → address_by (with_word weight (Some m)) bs to n ≡ Some y
no_more weight m [] at to n x none found y e = absurd (cc)
no_more weight m (b ∷ bs) at to n x none found y e =
    elim (cases_Bool (b.name == n)) [
      | inl here ↦ let is = some_is at x (rw here at found) in rw here (ap Some (omega (arith, is, e)))
      | inr other ↦
          elim (cases_Bool (b.name == m)) [
            | inl same ↦ absurd (cc (rw same at none))
            | inr apart ↦
                let turned : (m == b.name) ≡ false = elim (cases_Bool (m == b.name)) [ inl s ↦ absurd (both_ways (b.name == m) apart (eq-eqb b.name m (sym (eqb-true m b.name s)))) | inr a ↦ a ] in
                let e' : y + (at + 4 * weight b) ≡ x + (to + 4 * (weight b + 0)) = omega (arith, e) in
                rw (other, turned) (no_more weight m bs (at + 4 * weight b) (to + 4 * (weight b + 0)) n x (rw apart at none) (rw other at found) y e')
          ]
    ]

pub swell_one : (weight : Block → ℕ) (o : Option ℕ) (bs : List Block) (at n x : ℕ) → HasDistinctKeys (named bs) → address_by weight bs at n ≡ Some x → address_by (with_word weight o) bs at n ≡ Some (x + 4 * one_ahead bs o n)
swell_one weight None bs at n x distinct found = none_more bs at found
  where
    none_more : (cs : List Block) (at : ℕ) → address_by weight cs at n ≡ Some x → address_by (with_word weight None) cs at n ≡ Some (x + 4 * 0)
    none_more [] at found = absurd (cc)
    none_more (b ∷ cs) at found =
        elim (cases_Bool (b.name == n)) [
          | inl here ↦ let is = some_is at x (rw here at found) in rw here (ap Some (omega (arith, is)))
          | inr other ↦
              let e : at + 4 * weight b ≡ at + 4 * (weight b + 0) = omega arith in
              let later : address_by weight cs (at + 4 * weight b) n ≡ Some x = rw other at found in
              rw other (none_more cs (at + 4 * (weight b + 0)) (subst (λ k. address_by weight cs k n ≡ Some x) e later))
        ]
swell_one weight (Some m) [] at n x distinct found = absurd (cc)
swell_one weight (Some m) (b ∷ bs) at n x distinct found =
    elim (cases_Bool (b.name == n)) [
      | inl here ↦ let is = some_is at x (rw here at found) in rw here (ap Some (omega (arith, is)))
      | inr other ↦
          let later : address_by weight bs (at + 4 * weight b) n ≡ Some x = rw other at found in
          elim (cases_Bool (b.name == m)) [
            | inl same ↦
                let turned = eq-eqb m b.name (sym (eqb-true b.name m same)) in
                let none : value_of (named bs) m ≡ None = subst (λ k. value_of (named bs) k ≡ None) (eqb-true b.name m same) (absent_behind (b.name, b) (named bs) distinct) in
                rw (other, same, turned) (no_more weight m bs (at + 4 * weight b) (at + 4 * (weight b + 1)) n x none later (x + 4 * 1) (omega arith))
            | inr apart ↦
                let turned : (m == b.name) ≡ false = elim (cases_Bool (m == b.name)) [ inl s ↦ absurd (both_ways (b.name == m) apart (eq-eqb b.name m (sym (eqb-true m b.name s)))) | inr a ↦ a ] in
                let e : at + 4 * weight b ≡ at + 4 * (weight b + 0) = omega arith in
                rw (other, apart, turned)
                (swell_one weight (Some m) bs (at + 4 * (weight b + 0)) n x (distinct_back ((b.name, b) ∷ []) (named bs) distinct) (subst (λ k. address_by weight bs k n ≡ Some x) e later))
          ]
    ]

-- two of them
pub both_words : (wide : Wide) → ((n : ℕ) → is_it wide.one n ≡ true → is_it wide.other n ≡ false) → with_word (with_word block_words wide.one) wide.other ≡ swollen (is_wide wide)
both_words wide apart = λ i b. each b i
  where
    by_tests : (k : ℕ) (s t : Bool) → (s ≡ true → t ≡ false) → k + (if s then 1 else 0) + (if t then 1 else 0) ≡ k + (if s || t then 1 else 0)
    by_tests k true true out = absurd (let f = out refl in cc)
    by_tests k true false out = omega arith
    by_tests k false true out = omega arith
    by_tests k false false out = omega arith

    each : (b : Block) → with_word (with_word block_words wide.one) wide.other b ≡ swollen (is_wide wide) b
    each b = by_tests (block_words b) (is_it wide.one b.name) (is_it wide.other b.name) (apart b.name)

pub swell_both : (h : Graph) (wide : Wide) (n : ℕ) → HasDistinctKeys (named h.blocks) → ((k : ℕ) → is_it wide.one k ≡ true → is_it wide.other k ≡ false) → HasBlock h n → stands_at (swollen (is_wide wide)) h n ≡ stands_at block_words h n + 4 * (one_ahead h.blocks wide.one n + one_ahead h.blocks wide.other n)
swell_both h wide n distinct apart has =
    let x : ℕ = stands_at block_words h n in
    let first = swell_one block_words wide.one h.blocks 0 n x distinct (stands_there block_words h n has) in
    let second = swell_one (with_word block_words wide.one) wide.other h.blocks 0 n (x + 4 * one_ahead h.blocks wide.one n) distinct first in
    let same = ap (λ (w : Block → ℕ). address_by w h.blocks 0 n) (both_words wide apart) in
    let is : stands_at (swollen (is_wide wide)) h n ≡ x + 4 * one_ahead h.blocks wide.one n + 4 * one_ahead h.blocks wide.other n = ap (λ (o : Option ℕ). unwrap_or o 0) (sym same ∙ second) in
    omega (arith, is)
