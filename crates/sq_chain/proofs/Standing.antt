-- Where blocks stand when two pieces of them that follow each other are exchanged.
use Rattle.std.proofs.Common.{◌≡◌, ℕ, ◌+◌, ◌*◌, ◌≤◌, ◌<◌, ◌==◌, if◌then◌else◌, false, List, [], ◌∷◌, ◌++◌, sum_by, Option, None, Some, IsSome, inl, inr, refl, sym, ap, ◌∙◌, arith}
use Rattle.std.proofs.lemmas.Bool.{cases_Bool}
use Rattle.std.proofs.lemmas.List.Sums.{sum_by-cons, sum_by-append}
use Rattle.sq_arena.specs.Entries.{HasDistinctKeys, value_of}
use Rattle.sq_arena.proofs.EntriesLaws.{value_of-append, or_value, distinct_back}
use Rattle.sq_graph.specs.declared.item.Term.{Term}
use Rattle.sq_graph.specs.declared.item.Term.TheVariants.{Fall, Jump, Branch, Call, PartJump, Indirect, Stop}
use Rattle.sq_graph.specs.Graph.{Block}
use Rattle.sq_graph.specs.Blocks.{named}
use Rattle.sq_graph.specs.Terms.{goes_on}
use Rattle.sq_graph.specs.Words.{term_words, block_words}
use Rattle.sq_layout.specs.Weights.{address_by}
use Rattle.sq_layout.proofs.Shrinking.{some_is}
use Rattle.sq_chain.specs.Seams.{size, IsShifted}
use Rattle.sq_chain.specs.declared.seams.Seams.{Seams}
use Rattle.sq_chain.proofs.Reordered.{Stops, apart_from, some_or_none}

-- the address of the block of a name, where these stand from `at` on
abbrev pub stands : List (ℕ × Block) → ℕ → ℕ → Option ℕ
stands [] at n = None
stands (e ∷ es) at n = if e.0 == n then Some at else stands es (at + 4 * block_words e.1) n

pub stands_named : (bs : List Block) (at n : ℕ) → address_by block_words bs at n ≡ stands (named bs) at n
stands_named [] at n = refl
stands_named (b ∷ bs) at n = ap (λ (o : Option ℕ). if b.name == n then Some at else o) (stands_named bs (at + 4 * block_words b) n)

pub size_one : (e : ℕ × Block) (es : List (ℕ × Block)) → size (e ∷ es) ≡ block_words e.1 + size es
size_one e es = sum_by-cons (λ (f : ℕ × Block). block_words f.1) e es

pub size_named : (bs : List Block) → size (named bs) ≡ sum_by block_words bs
size_named [] = refl
size_named (b ∷ bs) = omega (arith, size_named bs, size_one (b.name, b) (named bs), sum_by-cons block_words b bs)

pub size_append : (xs ys : List (ℕ × Block)) → size (xs ++ ys) ≡ size xs + size ys
size_append xs ys = sum_by-append (λ (e : ℕ × Block). block_words e.1) xs ys

-- A PIECE

pub past : (xs ys : List (ℕ × Block)) (at n : ℕ) → value_of xs n ≡ None → stands (xs ++ ys) at n ≡ stands ys (at + 4 * size xs) n
past [] ys at n none = ap (λ k. stands ys k n) (omega arith)
past (e ∷ xs) ys at n none =
    elim (cases_Bool (e.0 == n)) [
      | inl here ↦ absurd (cc (rw here at none))
      | inr apart ↦ rw apart (past xs ys (at + 4 * block_words e.1) n (rw apart at none) ∙ ap (λ k. stands ys k n) (omega (arith, size_one e xs)))
    ]

pub inside : (xs ys : List (ℕ × Block)) (at n : ℕ) → IsSome (value_of xs n) → stands (xs ++ ys) at n ≡ stands xs at n
inside [] ys at n some = absurd (cc)
inside (e ∷ xs) ys at n some =
    elim (cases_Bool (e.0 == n)) [
      | inl here ↦ rw here refl
      | inr apart ↦ rw apart (inside xs ys (at + 4 * block_words e.1) n (rw apart at some))
    ]

-- which starts elsewhere
elsewhere : (xs : List (ℕ × Block)) (at to n x y : ℕ) → stands xs at n ≡ Some x → y + at ≡ x + to → stands xs to n ≡ Some y
elsewhere [] at to n x y found same = absurd (cc)
elsewhere (e ∷ xs) at to n x y found same =
    elim (cases_Bool (e.0 == n)) [
      | inl here ↦ let is = some_is at x (rw here at found) in rw here (ap Some (omega (arith, is, same)))
      | inr apart ↦ rw apart (elsewhere xs (at + 4 * block_words e.1) (to + 4 * block_words e.1) n x y (rw apart at found) (omega (arith, same)))
    ]

pub from_start : (xs : List (ℕ × Block)) (at n x : ℕ) → stands xs at n ≡ Some x → at ≤ x
from_start [] at n x found = absurd (cc)
from_start (e ∷ xs) at n x found =
    elim (cases_Bool (e.0 == n)) [
      | inl here ↦ let is = some_is at x (rw here at found) in omega (arith, is)
      | inr apart ↦ let later = from_start xs (at + 4 * block_words e.1) n x (rw apart at found) in omega (arith, later)
    ]

stop_words : (t : Term) → goes_on t ≡ false → 1 ≤ term_words t
stop_words Fall off = absurd (cc)
stop_words (Jump to) off = omega arith
stop_words (Branch cond a b to) off = omega arith
stop_words (Call link to) off = omega arith
stop_words (PartJump link part to) off = omega arith
stop_words (Indirect link x offset) off = omega arith
stop_words (Stop word) off = omega arith

-- a piece that stops has a word
stop_size : (e : ℕ × Block) (es : List (ℕ × Block)) → Stops (e ∷ es) → 1 ≤ size (e ∷ es)
stop_size e [] stops = omega (arith, stop_words e.1.term stops, size_one e [])
stop_size e (f ∷ es) stops = omega (arith, stop_size f es stops, size_one e (f ∷ es))

pub to_end : (xs : List (ℕ × Block)) (at n x : ℕ) → Stops xs → stands xs at n ≡ Some x → x < at + 4 * size xs
to_end [] at n x stops found = absurd (cc)
to_end (e ∷ []) at n x stops found =
    elim (cases_Bool (e.0 == n)) [
      | inl here ↦ let is = some_is at x (rw here at found) in omega (arith, is, stop_size e [] stops)
      | inr apart ↦ absurd (cc (rw apart at found))
    ]
to_end (e ∷ f ∷ xs) at n x stops found =
    elim (cases_Bool (e.0 == n)) [
      | inl here ↦ let is = some_is at x (rw here at found) in omega (arith, is, stop_size e (f ∷ xs) stops)
      | inr apart ↦ let later = to_end (f ∷ xs) (at + 4 * block_words e.1) n x stops (rw apart at found) in omega (arith, later, size_one e (f ∷ xs))
    ]

none_first : (xs ys : List (ℕ × Block)) (n : ℕ) → value_of (xs ++ ys) n ≡ None → value_of xs n ≡ None
none_first xs ys n none = by_value (value_of xs n) (value_of ys n) (sym (value_of-append xs ys n) ∙ none)
  where
    by_value : (a b : Option Block) → or_value a b ≡ None → a ≡ None
    by_value None b e = refl
    by_value (Some y) b e = absurd (cc)

-- THE EXCHANGE

module _ (X Y Z W : List (ℕ × Block)) (x_stops : Stops X) (y_stops : Stops Y) (z_stops : Stops Z) (distinct : HasDistinctKeys (X ++ (Y ++ (Z ++ W)))) where
  module _ (seams : Seams) (first : seams.first ≡ 4 * size X) (second : seams.second ≡ 4 * (size X + size Y)) (end : seams.end ≡ 4 * (size X + size Y + size Z)) where
    pub exchanged_stands : (n at to : ℕ) → stands (X ++ (Y ++ (Z ++ W))) 0 n ≡ Some at → IsShifted seams at to → stands (X ++ (Z ++ (Y ++ W))) 0 n ≡ Some to
    exchanged_stands n at to found shifted =
        elim (some_or_none (value_of X n)) [
          | inl in_x ↦
              let there : stands X 0 n ≡ Some at = sym (inside X (Y ++ (Z ++ W)) 0 n in_x) ∙ found in
              let same = shifted.before (omega (arith, first, to_end X 0 n at x_stops there)) in
              inside X (Z ++ (Y ++ W)) 0 n in_x ∙ elsewhere X 0 0 n at to there (omega (arith, same))
          | inr out_x ↦ past X (Z ++ (Y ++ W)) 0 n out_x ∙ behind_x (sym (past X (Y ++ (Z ++ W)) 0 n out_x) ∙ found)
        ]
      where
        behind_x : stands (Y ++ (Z ++ W)) (0 + 4 * size X) n ≡ Some at → stands (Z ++ (Y ++ W)) (0 + 4 * size X) n ≡ Some to
        behind_x found =
            elim (some_or_none (value_of Y n)) [
              | inl in_y ↦
                  let there : stands Y (0 + 4 * size X) n ≡ Some at = sym (inside Y (Z ++ W) (0 + 4 * size X) n in_y) ∙ found in
                  let low = from_start Y (0 + 4 * size X) n at there in
                  let high = to_end Y (0 + 4 * size X) n at y_stops there in
                  let moved = shifted.first (omega (arith, first, low)) (omega (arith, second, high)) in
                  let out_z = none_first Z W n (apart_from Y (Z ++ W) n (distinct_back X (Y ++ (Z ++ W)) distinct) in_y) in
                  past Z (Y ++ W) (0 + 4 * size X) n out_z ∙ inside Y W (0 + 4 * size X + 4 * size Z) n in_y
                  ∙ elsewhere Y (0 + 4 * size X) (0 + 4 * size X + 4 * size Z) n at to there (omega (arith, moved, second, end))
              | inr out_y ↦ behind_y out_y (sym (past Y (Z ++ W) (0 + 4 * size X) n out_y) ∙ found)
            ]
          where
            behind_y : value_of Y n ≡ None → stands (Z ++ W) (0 + 4 * size X + 4 * size Y) n ≡ Some at → stands (Z ++ (Y ++ W)) (0 + 4 * size X) n ≡ Some to
            behind_y out_y found =
                elim (some_or_none (value_of Z n)) [
                  | inl in_z ↦
                      let there : stands Z (0 + 4 * size X + 4 * size Y) n ≡ Some at = sym (inside Z W (0 + 4 * size X + 4 * size Y) n in_z) ∙ found in
                      let low = from_start Z (0 + 4 * size X + 4 * size Y) n at there in
                      let high = to_end Z (0 + 4 * size X + 4 * size Y) n at z_stops there in
                      let moved = shifted.second (omega (arith, second, low)) (omega (arith, end, high)) in
                      inside Z (Y ++ W) (0 + 4 * size X) n in_z ∙ elsewhere Z (0 + 4 * size X + 4 * size Y) (0 + 4 * size X) n at to there (omega (arith, moved, second, first))
                  | inr out_z ↦
                      let there : stands W (0 + 4 * size X + 4 * size Y + 4 * size Z) n ≡ Some at = sym (past Z W (0 + 4 * size X + 4 * size Y) n out_z) ∙ found in
                      let same = shifted.behind (omega (arith, end, from_start W (0 + 4 * size X + 4 * size Y + 4 * size Z) n at there)) in
                      past Z (Y ++ W) (0 + 4 * size X) n out_z ∙ past Y W (0 + 4 * size X + 4 * size Z) n out_y
                      ∙ elsewhere W (0 + 4 * size X + 4 * size Y + 4 * size Z) (0 + 4 * size X + 4 * size Z + 4 * size Y) n at to there (omega (arith, same))
                ]
