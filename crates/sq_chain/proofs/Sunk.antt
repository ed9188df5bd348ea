-- Where blocks stand once two pieces of them are exchanged and each Jump to the next slot is Fall: only the last ones of pieces
-- fall.
use Rattle.std.proofs.Common.{◌≡◌, ℕ, ◌+◌, ◌-◌, ◌*◌, ◌≤◌, ◌==◌, if◌then◌else◌, List, [], ◌∷◌, ◌++◌, Option, None, Some, IsSome, inl, inr, refl, sym, ap, ◌∙◌, arith}
use Rattle.std.proofs.lemmas.Bool.{cases_Bool}
use Rattle.sq_arena.specs.Entries.{HasDistinctKeys, value_of}
use Rattle.sq_arena.proofs.EntriesLaws.{value_of-append, or_value, distinct_back}
use Rattle.sq_graph.specs.declared.item.Term.{Term}
use Rattle.sq_graph.specs.declared.item.Term.TheVariants.{Fall, Jump, Branch, Call, PartJump, Indirect, Stop}
use Rattle.sq_graph.specs.Graph.{Block, Graph}
use Rattle.sq_graph.specs.Blocks.{named}
use Rattle.sq_graph.specs.Words.{term_words, block_words, words_of}
use Rattle.sq_layout.specs.Weights.{address_by}
use Rattle.sq_layout.proofs.Shrinking.{some_is}
use Rattle.sq_chain.specs.Seams.{size}
use Rattle.sq_chain.specs.Moves.{fallen_term, fallen_blocks, fallen}
use Rattle.sq_chain.specs.Settled.{IsSettledTo}
use Rattle.sq_chain.specs.Tests.{drop_of}
use Rattle.sq_chain.specs.declared.shift.Shift.{Shift}
use Rattle.sq_chain.proofs.Drops.{drop_words, next_or, drops, drops_append, last_drop}
use Rattle.sq_chain.proofs.Reordered.{Stops, apart_from, some_or_none}
use Rattle.sq_chain.proofs.Standing.{stands, size_one, past, inside, from_start, to_end}

-- the address of the block of a name, where these stand from `at` on, less a word for each that jumps to its next slot
abbrev pub sunk_stands : List (ℕ × Block) → Option ℕ → ℕ → ℕ → Option ℕ
sunk_stands [] o at n = None
sunk_stands (e ∷ es) o at n = if e.0 == n then Some at else sunk_stands es o (at + 4 * (block_words e.1 - drop_of e.1.term (next_or es o))) n

pub fallen_stands : (bs : List Block) (at n : ℕ) → address_by block_words (fallen_blocks bs) at n ≡ sunk_stands (named bs) None at n
fallen_stands [] at n = refl
fallen_stands (b ∷ []) at n = refl
fallen_stands (b ∷ next ∷ rest) at n =
    let words : at + 4 * block_words (record b { term = fallen_term next.name b.term }) ≡ at + 4 * (block_words b - drop_of b.term (Some next.name)) = omega (arith, drop_words b.term next.name) in
    ap (λ k. if b.name == n then Some at else address_by block_words (fallen_blocks (next ∷ rest)) k n) words
    ∙ ap (λ (o : Option ℕ). if b.name == n then Some at else o) (fallen_stands (next ∷ rest) (at + 4 * (block_words b - drop_of b.term (Some next.name))) n)

-- the other graph has the blocks where the shift puts them, once each Jump to the next slot is Fall
pub record IsMovedBy (g k : Graph) (shift : Shift) : Type 0 where
  pub stands : (n at to : ℕ) → address_by block_words g.blocks 0 n ≡ Some at → address_by block_words (fallen_blocks k.blocks) 0 n ≡ Some to → IsSettledTo shift at to
  pub words : words_of (fallen k) + shift.falls ≡ words_of k

-- HOW MANY FALL

drop_light : (t : Term) (o : Option ℕ) → drop_of t o ≤ term_words t
drop_light Fall None = omega arith
drop_light (Jump to) None = omega arith
drop_light (Branch cond a b to) None = omega arith
drop_light (Call link to) None = omega arith
drop_light (PartJump link part to) None = omega arith
drop_light (Indirect link x offset) None = omega arith
drop_light (Stop word) None = omega arith
drop_light t (Some n) = omega (arith, drop_words t n)

next_append : (xs ys : List (ℕ × Block)) (o : Option ℕ) → next_or (xs ++ ys) o ≡ next_or xs (next_or ys o)
next_append [] ys o = refl
next_append (x ∷ xs) ys o = refl

drops_light : (xs : List (ℕ × Block)) (o : Option ℕ) → drops xs o ≤ size xs
drops_light [] o = omega arith
drops_light (e ∷ xs) o = omega (arith, drops_light xs o, drop_light e.1.term (next_or xs o), size_one e xs)

-- those of a piece but the last
abbrev pub inner : List (ℕ × Block) → ℕ
inner [] = 0
inner (e ∷ []) = 0
inner (e ∷ f ∷ es) = drop_of e.1.term (Some f.0) + inner (f ∷ es)

pub drops_inner : (xs : List (ℕ × Block)) (o : Option ℕ) → drops xs o ≡ inner xs + last_drop xs o
drops_inner [] o = refl
drops_inner (e ∷ []) o = omega arith
drops_inner (e ∷ f ∷ xs) o = omega (arith, drops_inner (f ∷ xs) o)

-- A PIECE

sunk_past : (xs ys : List (ℕ × Block)) (o : Option ℕ) (at to n : ℕ) → value_of xs n ≡ None → to + 4 * drops xs (next_or ys o) ≡ at + 4 * size xs → sunk_stands (xs ++ ys) o at n ≡ sunk_stands ys o to n
sunk_past [] ys o at to n none e = ap (λ k. sunk_stands ys o k n) (omega (arith, e))
sunk_past (x ∷ xs) ys o at to n none e =
    elim (cases_Bool (x.0 == n)) [
      | inl here ↦ absurd (cc (rw here at none))
      | inr apart ↦
          let light = drop_light x.1.term (next_or xs (next_or ys o)) in
          rw apart
          (ap (λ p. sunk_stands (xs ++ ys) o (at + 4 * (block_words x.1 - drop_of x.1.term p)) n) (next_append xs ys o)
          ∙ sunk_past xs ys o (at + 4 * (block_words x.1 - drop_of x.1.term (next_or xs (next_or ys o)))) to n (rw apart at none) (omega (arith, e, light, size_one x xs)))
    ]

sunk_inside : (xs ys : List (ℕ × Block)) (o : Option ℕ) (at n : ℕ) → IsSome (value_of xs n) → sunk_stands (xs ++ ys) o at n ≡ sunk_stands xs (next_or ys o) at n
sunk_inside [] ys o at n some = absurd (cc)
sunk_inside (x ∷ xs) ys o at n some =
    elim (cases_Bool (x.0 == n)) [
      | inl here ↦ rw here refl
      | inr apart ↦
          rw apart
          (ap (λ p. sunk_stands (xs ++ ys) o (at + 4 * (block_words x.1 - drop_of x.1.term p)) n) (next_append xs ys o)
          ∙ sunk_inside xs ys o (at + 4 * (block_words x.1 - drop_of x.1.term (next_or xs (next_or ys o)))) n (rw apart at some))
    ]

-- where only its last one falls it stands as it did
sunk_piece : (xs : List (ℕ × Block)) (o : Option ℕ) (at n : ℕ) → inner xs ≡ 0 → sunk_stands xs o at n ≡ stands xs at n
sunk_piece [] o at n none = refl
sunk_piece (e ∷ []) o at n none = refl
sunk_piece (e ∷ f ∷ xs) o at n none =
    let zero : drop_of e.1.term (Some f.0) ≡ 0 = omega (arith, none) in
    let words : at + 4 * (block_words e.1 - drop_of e.1.term (Some f.0)) ≡ at + 4 * block_words e.1 = omega (arith, zero) in
    ap (λ k. if e.0 == n then Some at else sunk_stands (f ∷ xs) o k n) words
    ∙ ap (λ (r : Option ℕ). if e.0 == n then Some at else r) (sunk_piece (f ∷ xs) o (at + 4 * block_words e.1) n (omega (arith, none)))

-- from two addresses on
both_stand : (xs : List (ℕ × Block)) (at to n x y : ℕ) → stands xs at n ≡ Some x → stands xs to n ≡ Some y → y + at ≡ x + to
both_stand [] at to n x y found there = absurd (cc)
both_stand (e ∷ xs) at to n x y found there =
    elim (cases_Bool (e.0 == n)) [
      | inl here ↦ omega (arith, some_is at x (rw here at found), some_is to y (rw here at there))
      | inr apart ↦ omega (arith, both_stand xs (at + 4 * block_words e.1) (to + 4 * block_words e.1) n x y (rw apart at found) (rw apart at there))
    ]

none_first : (xs ys : List (ℕ × Block)) (n : ℕ) → value_of (xs ++ ys) n ≡ None → value_of xs n ≡ None
none_first xs ys n none = by_value (value_of xs n) (value_of ys n) (sym (value_of-append xs ys n) ∙ none)
  where
    by_value : (a b : Option Block) → or_value a b ≡ None → a ≡ None
    by_value None b e = refl
    by_value (Some y) b e = absurd (cc)

-- THE EXCHANGE

module _ (X Y Z W : List (ℕ × Block)) (x_stops : Stops X) (y_stops : Stops Y) (z_stops : Stops Z) (distinct : HasDistinctKeys (X ++ (Y ++ (Z ++ W)))) (none : drops (X ++ (Y ++ (Z ++ W))) None ≡ 0) where
  abbrev one : ℕ
  one = last_drop X (next_or (Z ++ (Y ++ W)) None)

  abbrev two : ℕ
  two = last_drop Z (next_or (Y ++ W) None)

  abbrev three : ℕ
  three = last_drop Y (next_or W None)

  -- no block but the last of a piece falls
  all_inner : inner X + inner Y + inner Z + drops W None ≡ 0
  all_inner =
      omega (
        arith,
        none,
        drops_append X (Y ++ (Z ++ W)) None,
        drops_append Y (Z ++ W) None,
        drops_append Z W None,
        drops_inner X (next_or (Y ++ (Z ++ W)) None),
        drops_inner Y (next_or (Z ++ W) None),
        drops_inner Z (next_or W None),
      )

  pub exchanged_falls : drops (X ++ (Z ++ (Y ++ W))) None ≡ last_drop X (next_or (Z ++ (Y ++ W)) None) + last_drop Z (next_or (Y ++ W) None) + last_drop Y (next_or W None)
  exchanged_falls =
      omega (
        arith,
        all_inner,
        drops_append X (Z ++ (Y ++ W)) None,
        drops_append Z (Y ++ W) None,
        drops_append Y W None,
        drops_inner X (next_or (Z ++ (Y ++ W)) None),
        drops_inner Z (next_or (Y ++ W) None),
        drops_inner Y (next_or W None),
      )

  none_in_w : (xs : List (ℕ × Block)) (o : Option ℕ) (at n : ℕ) → drops xs o ≡ 0 → sunk_stands xs o at n ≡ stands xs at n
  none_in_w xs o at n zero = sunk_piece xs o at n (omega (arith, zero, drops_inner xs o))

  module _ (shift : Shift) (first : shift.seams.first ≡ 4 * size X) (second : shift.seams.second ≡ 4 * (size X + size Y)) (end : shift.seams.end ≡ 4 * (size X + size Y + size Z)) (first_lost : shift.first_lost ≡ 4 * one) (second_lost : shift.second_lost ≡ 4 * (one + two)) (lost : shift.lost ≡ 4 * (one + two + three)) where
    abbrev z : ℕ
    z = 4 * size X - 4 * one

    z_is : z + 4 * drops X (next_or (Z ++ (Y ++ W)) None) ≡ 0 + 4 * size X
    z_is = omega (arith, all_inner, drops_inner X (next_or (Z ++ (Y ++ W)) None), drops_light X (next_or (Z ++ (Y ++ W)) None))

    abbrev y : ℕ
    y = z + 4 * size Z - 4 * two

    y_is : y + 4 * drops Z (next_or (Y ++ W) None) ≡ z + 4 * size Z
    y_is = omega (arith, all_inner, drops_inner Z (next_or (Y ++ W) None), drops_light Z (next_or (Y ++ W) None))

    abbrev w : ℕ
    w = y + 4 * size Y - 4 * three

    w_is : w + 4 * drops Y (next_or W None) ≡ y + 4 * size Y
    w_is = omega (arith, all_inner, drops_inner Y (next_or W None), drops_light Y (next_or W None))

    one_is : drops X (next_or (Z ++ (Y ++ W)) None) ≡ one
    one_is = omega (arith, all_inner, drops_inner X (next_or (Z ++ (Y ++ W)) None))

    two_is : drops Z (next_or (Y ++ W) None) ≡ two
    two_is = omega (arith, all_inner, drops_inner Z (next_or (Y ++ W) None))

    three_is : drops Y (next_or W None) ≡ three
    three_is = omega (arith, all_inner, drops_inner Y (next_or W None))

    pub settled_stands : (n at to : ℕ) → stands (X ++ (Y ++ (Z ++ W))) 0 n ≡ Some at → sunk_stands (X ++ (Z ++ (Y ++ W))) None 0 n ≡ Some to → IsSettledTo shift at to
    settled_stands n at to found there =
        elim (some_or_none (value_of X n)) [
          | inl in_x ↦
              let was : stands X 0 n ≡ Some at = sym (inside X (Y ++ (Z ++ W)) 0 n in_x) ∙ found in
              let is : stands X 0 n ≡ Some to = sym (sunk_piece X (next_or (Z ++ (Y ++ W)) None) 0 n (omega (arith, all_inner))) ∙ sym (sunk_inside X (Z ++ (Y ++ W)) None 0 n in_x) ∙ there in
              let same = both_stand X 0 0 n at to was is in
              let less = to_end X 0 n at x_stops was in
              record {
                before = λ l. omega (arith, same);
                first = λ l m. absurd (omega (arith, l, less, first));
                second = λ l m. absurd (omega (arith, l, less, second));
                behind = λ l. absurd (omega (arith, l, less, end));
              }
          | inr out_x ↦ behind_x out_x (sym (past X (Y ++ (Z ++ W)) 0 n out_x) ∙ found) (sym (sunk_past X (Z ++ (Y ++ W)) None 0 z n out_x z_is) ∙ there)
        ]
      where
        behind_x : value_of X n ≡ None → stands (Y ++ (Z ++ W)) (0 + 4 * size X) n ≡ Some at → sunk_stands (Z ++ (Y ++ W)) None z n ≡ Some to → IsSettledTo shift at to
        behind_x out_x found there =
            elim (some_or_none (value_of Y n)) [
              | inl in_y ↦
                  let was : stands Y (0 + 4 * size X) n ≡ Some at = sym (inside Y (Z ++ W) (0 + 4 * size X) n in_y) ∙ found in
                  let out_z = none_first Z W n (apart_from Y (Z ++ W) n (distinct_back X (Y ++ (Z ++ W)) distinct) in_y) in
                  let is : stands Y y n ≡ Some to =
                  sym (sunk_piece Y (next_or W None) y n (omega (arith, all_inner))) ∙ sym (sunk_inside Y W None y n in_y) ∙ sym (sunk_past Z (Y ++ W) None z y n out_z y_is) ∙ there in
                  let same = both_stand Y (0 + 4 * size X) y n at to was is in
                  let low = from_start Y (0 + 4 * size X) n at was in
                  let high = to_end Y (0 + 4 * size X) n at y_stops was in
                  record {
                    before = λ l. absurd (omega (arith, l, low, first));
                    first = λ l m. omega (arith, same, second, end, second_lost, z_is, y_is, one_is, two_is);
                    second = λ l m. absurd (omega (arith, l, high, second));
                    behind = λ l. absurd (omega (arith, l, high, end));
                  }
              | inr out_y ↦ behind_y out_y (sym (past Y (Z ++ W) (0 + 4 * size X) n out_y) ∙ found)
            ]
          where
            behind_y : value_of Y n ≡ None → stands (Z ++ W) (0 + 4 * size X + 4 * size Y) n ≡ Some at → IsSettledTo shift at to
            behind_y out_y found =
                elim (some_or_none (value_of Z n)) [
                  | inl in_z ↦
                      let was : stands Z (0 + 4 * size X + 4 * size Y) n ≡ Some at = sym (inside Z W (0 + 4 * size X + 4 * size Y) n in_z) ∙ found in
                      let is : stands Z z n ≡ Some to = sym (sunk_piece Z (next_or (Y ++ W) None) z n (omega (arith, all_inner))) ∙ sym (sunk_inside Z (Y ++ W) None z n in_z) ∙ there in
                      let same = both_stand Z (0 + 4 * size X + 4 * size Y) z n at to was is in
                      let low = from_start Z (0 + 4 * size X + 4 * size Y) n at was in
                      let high = to_end Z (0 + 4 * size X + 4 * size Y) n at z_stops was in
                      record {
                        before = λ l. absurd (omega (arith, l, low, first));
                        first = λ l m. absurd (omega (arith, m, low, second));
                        second = λ l m. omega (arith, same, first, second, first_lost, z_is, one_is);
                        behind = λ l. absurd (omega (arith, l, high, end));
                      }
                  | inr out_z ↦
                      let was : stands W (0 + 4 * size X + 4 * size Y + 4 * size Z) n ≡ Some at = sym (past Z W (0 + 4 * size X + 4 * size Y) n out_z) ∙ found in
                      let is : stands W w n ≡ Some to =
                      sym (none_in_w W None w n (omega (arith, all_inner))) ∙ sym (sunk_past Y W None y w n out_y w_is) ∙ sym (sunk_past Z (Y ++ W) None z y n out_z y_is) ∙ there in
                      let same = both_stand W (0 + 4 * size X + 4 * size Y + 4 * size Z) w n at to was is in
                      let low = from_start W (0 + 4 * size X + 4 * size Y + 4 * size Z) n at was in
                      record {
                        before = λ l. absurd (omega (arith, l, low, first));
                        first = λ l m. absurd (omega (arith, m, low, second));
                        second = λ l m. absurd (omega (arith, m, low, end));
                        behind = λ l. omega (arith, same, lost, z_is, y_is, w_is, one_is, two_is, three_is);
                      }
                ]
