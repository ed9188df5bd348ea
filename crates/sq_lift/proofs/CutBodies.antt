-- The bodies of noted procedures, item by item.
use Rattle.std.proofs.Common.{◌≡◌, ℕ, zero, suc, ◌+◌, ◌-◌, ◌<◌, ◌≤◌, List, [], ◌∷◌, ◌++◌, length, take, get_or, Option, Some, None, refl, sym, ap, ◌∙◌, arith, append_assoc}
use Rattle.std.specs.List.{flat_map}
use Rattle.std.specs.Option.{option_and_then}
use Rattle.std.proofs.lemmas.List.{map-append, length-append, take_more, append-nil}
use Rattle.std.proofs.lemmas.List.Concat.{flat_map-append}
use Rattle.sq_graph.specs.declared.item.Item.{Item}
use Rattle.sq_graph.specs.Renames.{retargeted_item, retargeted_items}
use Rattle.law_program.specs.Programs.{Text, Note, end_of}
use Rattle.law_program.specs.Readings.{Reading, IsItem, IsTerm, Links, reading_of, reading_at}
use Rattle.law_program.specs.Lifted.{with_item, body_from}
use Rattle.sq_lift.proofs.Placed.{no_word_past}
use Rattle.sq_lift.specs.Cuts.{body_of}

with_items : (o : Option Reading) (items : List Item) → with_item o items ≡ with_item o [] ++ items
with_items None items = refl
with_items (Some (IsItem item)) items = refl
with_items (Some (IsTerm term)) items = refl
with_items (Some (Links link to)) items = refl

pub body_next : (t : Text) (at left : ℕ) → 0 < left → body_from t at left ≡ with_item (reading_at t at) [] ++ body_from t (at + 4) (left - 1)
body_next t at zero some = absurd (omega (arith, some))
body_next t at (suc left) some =
    let e : suc left - 1 ≡ left = omega arith in rw e (with_items (reading_at t at) (body_from t (at + 4) left))

pub body_past : (t : Text) (at left : ℕ) → end_of t ≤ at → body_from t at left ≡ []
body_past t at zero far = refl
body_past t at (suc left) far =
    ap (λ o. with_item (option_and_then (reading_of t at) o) (body_from t (at + 4) left)) (no_word_past t at far) ∙ body_past t (at + 4) left (omega (arith, far))

module _ (f : ℕ → ℕ) (t : Text) (at left : ℕ) (some : 0 < left) where
  -- what is pushed is the first of what is left
  pub items_next : (items pushed all : List Item) → pushed ≡ items ++ retargeted_items f (with_item (reading_at t at) []) → items ++ retargeted_items f (body_from t at left) ≡ all → pushed ++ retargeted_items f (body_from t (at + 4) (left - 1)) ≡ all
  items_next items pushed all push before =
      ap (λ xs. xs ++ retargeted_items f (body_from t (at + 4) (left - 1))) push
      ∙ append_assoc items (retargeted_items f (with_item (reading_at t at) [])) (retargeted_items f (body_from t (at + 4) (left - 1)))
      ∙ ap (λ xs. items ++ xs) (sym (map-append (retargeted_item f) (with_item (reading_at t at) []) (body_from t (at + 4) (left - 1))) ∙ ap (retargeted_items f) (sym (body_next t at left some)))
      ∙ before

  pub count_next : (count more all : ℕ) → more ≡ length (with_item (reading_at t at) []) → count + length (body_from t at left) ≡ all → count + more + length (body_from t (at + 4) (left - 1)) ≡ all
  count_next count more all is before =
      let parted = ap length (body_next t at left some) ∙ length-append (with_item (reading_at t at) []) (body_from t (at + 4) (left - 1)) in
      omega (arith, is, before, parted)

pub one_at_most : (o : Option Reading) → length (with_item o []) ≤ 1
one_at_most None = omega arith
one_at_most (Some (IsItem item)) = omega arith
one_at_most (Some (IsTerm term)) = omega arith
one_at_most (Some (Links link to)) = omega arith

-- one more body
pub bodies_more : (f : ℕ → ℕ) (t : Text) (ns : List Note) (i : ℕ) (n : Note) (first items pushed : List Item) → i < length ns → n ≡ get_or ns i n → items ≡ first ++ retargeted_items f (flat_map (body_of t) (take i ns)) → pushed ≡ items ++ retargeted_items f (body_of t n) → pushed ≡ first ++ retargeted_items f (flat_map (body_of t) (take (i + 1) ns))
bodies_more f t ns i n first items pushed h there before push =
    let longer : take (i + 1) ns ≡ take i ns ++ n ∷ [] = take_more ns i n h ∙ ap (λ (m : Note). take i ns ++ m ∷ []) (sym there) in
    let all : flat_map (body_of t) (take (i + 1) ns) ≡ flat_map (body_of t) (take i ns) ++ body_of t n =
    ap (flat_map (body_of t)) longer ∙ flat_map-append (body_of t) (take i ns) (n ∷ []) ∙ ap (λ xs. flat_map (body_of t) (take i ns) ++ xs) (append-nil (body_of t n))
    in
    push
    ∙ ap (λ xs. xs ++ retargeted_items f (body_of t n)) before
    ∙ append_assoc first (retargeted_items f (flat_map (body_of t) (take i ns))) (retargeted_items f (body_of t n))
    ∙ ap (λ xs. first ++ xs) (sym (map-append (retargeted_item f) (flat_map (body_of t) (take i ns)) (body_of t n)) ∙ ap (retargeted_items f) (sym all))
