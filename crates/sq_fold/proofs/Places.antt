-- The places of a line, and those of a block in it.
use Rattle.std.proofs.Common.{◌≡◌, ℕ, zero, suc, ◌+◌, ◌-◌, ◌≤◌, inl, inr, List, [], ◌∷◌, ◌++◌, length, Some, slice_get, Contains, refl, sym, ap, ◌∙◌, subst, arith}
use Rattle.std.proofs.lemmas.Bool.{cases_lt}
use Rattle.sq_graph.specs.Blocks.{HasBlock, items_of}
use Rattle.sq_graph.specs.Graph.{Graph}
use Rattle.sq_graph.specs.Parts.{names_of}
use Rattle.sq_finger.specs.declared.places.WindowAt.{WindowAt}
use Rattle.sq_finger.specs.Lines.{block_line, line_in, line_of}
use Rattle.sq_finger.proofs.Grouping.{contains_at, at_contains}
use Rattle.sq_finger.proofs.Layouts.{names_are}
use Rattle.sq_finger.proofs.Telling.{get_front}

some_same : {X : Type 0} {x y : X} → Some x ≡ Some y → x ≡ y
some_same e = cc

abbrev pub place : ℕ → ℕ → WindowAt
place block at = record { block = block; at = at }

get_behind : {X : Type 0} (xs ys : List X) (k : ℕ) → slice_get (xs ++ ys) (length xs + k) ≡ slice_get ys k
get_behind [] ys k = ap (slice_get ys) (let e : 0 + k ≡ k = omega arith in e)
get_behind (x ∷ xs) ys k = ap (slice_get (x ∷ (xs ++ ys))) (let e : suc (length xs) + k ≡ suc (length xs + k) = omega arith in e) ∙ get_behind xs ys k

-- the place after so many places of a block
in_block : (block at ahead k : ℕ) → k ≤ ahead → slice_get (block_line block at ahead) k ≡ Some (place block (at + k))
in_block block at zero zero l = ap (λ a. Some (place block a)) (omega arith)
in_block block at zero (suc k) l = absurd (omega arith)
in_block block at (suc ahead) zero l = ap (λ a. Some (place block a)) (omega arith)
in_block block at (suc ahead) (suc k) l = in_block block (at + 1) ahead k (omega arith) ∙ ap (λ a. Some (place block a)) (omega arith)

length_block : (block at ahead : ℕ) → length (block_line block at ahead) ≡ suc ahead
length_block block at zero = refl
length_block block at (suc ahead) = ap suc (length_block block (at + 1) ahead)

from_block : (block at ahead k : ℕ) (p : WindowAt) → slice_get (block_line block at ahead) k ≡ Some p → (p.block ≡ block) × (p.at ≤ at + ahead)
from_block block at zero zero p e = let s = some_same e in (ap (λ q. q.block) (sym s), let f = ap (λ q. q.at) s in omega arith)
from_block block at zero (suc k) p e = absurd (cc)
from_block block at (suc ahead) zero p e = let s = some_same e in (ap (λ q. q.block) (sym s), let f = ap (λ q. q.at) s in omega arith)
from_block block at (suc ahead) (suc k) p e = let h = from_block block (at + 1) ahead k p e in (h.0, let l = h.1 in omega arith)

module _ (g : Graph) where
  abbrev lined : ℕ → List WindowAt
  lined name = block_line name 0 (length (items_of g name))

  abbrev Listed : List ℕ → WindowAt → Type 0
  Listed names p = (i : ℕ) × (slice_get (line_in g names) i ≡ Some p)

  in_line : (names : List ℕ) (k block at : ℕ) → slice_get names k ≡ Some block → at ≤ length (items_of g block) → Listed names (place block at)
  in_line [] k block at e l = absurd (cc)
  in_line (name ∷ names) zero block at e l =
      let same : name ≡ block = some_same e in
      let m : at ≤ length (items_of g name) = subst (λ b. at ≤ length (items_of g b)) (sym same) l in
      let long = length_block name 0 (length (items_of g name)) in
      let here = in_block name 0 (length (items_of g name)) at m in
      (at, get_front (lined name) (line_in g names) at (omega arith) ∙ here ∙ ap (λ a. Some (place name a)) (let z : 0 + at ≡ at = omega arith in z) ∙ ap (λ b. Some (place b at)) same)
  in_line (name ∷ names) (suc k) block at e l =
      let h = in_line names k block at e l in
      (length (lined name) + h.0, get_behind (lined name) (line_in g names) h.0 ∙ h.1)

  -- each place of a block is in the line
  pub listed : (line : List WindowAt) (block at : ℕ) → line ≡ line_of g → HasBlock g block → at ≤ length (items_of g block) → (i : ℕ) × (slice_get line i ≡ Some (place block at))
  listed line block at whole there l =
      let c = contains_at (names_of g) block ((names_are g block).1 there) in
      let h = in_line (names_of g) c.0 block at c.1 l in
      (h.0, ap (λ ps. slice_get ps h.0) whole ∙ h.1)

  from_line : (names : List ℕ) (i : ℕ) (p : WindowAt) → slice_get (line_in g names) i ≡ Some p → Contains names p.block × (p.at ≤ length (items_of g p.block))
  from_line [] i p e = absurd (cc)
  from_line (name ∷ names) i p e = elim (cases_lt i (length (lined name))) [
    | inl within ↦
        let found = from_block name 0 (length (items_of g name)) i p (sym (get_front (lined name) (line_in g names) i within) ∙ e) in (
          at_contains (name ∷ names) 0 p.block (ap Some (sym found.0)),
          subst (λ b. p.at ≤ length (items_of g b)) (sym found.0) (let l = found.1 in omega arith),
        )
    | inr past ↦
        let k = i - length (lined name) in
        let split : i ≡ length (lined name) + k = omega arith in
        let h = from_line names k p (sym (get_behind (lined name) (line_in g names) k) ∙ ap (slice_get (lined name ++ line_in g names)) (sym split) ∙ e) in
        let c = contains_at names p.block h.0 in
        (at_contains (name ∷ names) (suc c.0) p.block c.1, h.1)
  ]

  -- and no other place is
  pub among : (line : List WindowAt) (i : ℕ) (p : WindowAt) → line ≡ line_of g → slice_get line i ≡ Some p → HasBlock g p.block × (p.at ≤ length (items_of g p.block))
  among line i p whole e =
      let h = from_line (names_of g) i p (ap (λ ps. slice_get ps i) (sym whole) ∙ e) in
      ((names_are g p.block).0 h.0, h.1)
