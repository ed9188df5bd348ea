-- Items that equal a procedure's body are read as that is.
use Rattle.std.proofs.Common.{◌≡◌, ℕ, zero, suc, ◌+◌, ◌-◌, ◌≤◌, ◌<◌, List, [], ◌∷◌, ◌++◌, map, reverse, take, drop, length, get_or, Bool, true, false, Option, None, Some, slice_get, is_some, refl, sym, ap, ◌∙◌, subst, arith}
use Rattle.std.specs.List.{All, list_any, position}
use Rattle.std.specs.Prelude.{Contains}
use Rattle.std.proofs.lemmas.List.{map-append, reverse-append, append_assoc, take_more, get_or-drop, length-drop}
use Rattle.std.proofs.lemmas.List.Folds.{list_any_at}
use Rattle.std.proofs.lemmas.List.Quantifiers.{position-Some}
use Rattle.std.proofs.lemmas.Option.{slice_get-get_or, slice_get_within, get_or_from_slice_get}
use Rattle.sq_graph.specs.declared.item.Item.{Item}
use Rattle.sq_graph.specs.Graph.{Graph}
use Rattle.sq_graph.specs.Blocks.{HasBlock, HasProcedure, items_of, body_of}
use Rattle.sq_graph.specs.Rules.{IsGraph, ItemFits}
use Rattle.law_patch.proofs.Calls.{range_is}
use Rattle.sq_finger.specs.declared.keys.ItemKey.{ItemKey}
use Rattle.sq_finger.specs.ItemKeys.{key_of}
use Rattle.sq_finger.specs.Exact.{IsExact}
use Rattle.sq_finger.proofs.Layouts.{items_fit}
use Rattle.sq_outline.specs.WindowsInside.{MayCallInside}
use Rattle.sq_outline.specs.RecalledNumbers.{IsNumber, IsNumberOf, StandOnce}
use Rattle.sq_outline.specs.WindowsBodies.{HasBodies}
use Rattle.sq_outline.specs.Spans.{IsIn}
use Rattle.sq_outline.specs.declared.spans.Span.{Span}
use Rattle.sq_outline.proofs.RecallNumbers.{one_number}

-- SETS OF PAIRS

module _ {X : Type 0} (eq : X → X → Bool) (exact : IsExact eq) (x : X) (xs : List X) where
  pub stands_at : (i : ℕ) → position (eq x) xs ≡ Some i → slice_get xs i ≡ Some x
  stands_at i e =
      let found = position-Some (eq x) xs i x e in
      slice_get-get_or xs i x found.0 ∙ ap Some (sym ((exact x (get_or xs i x)).0 found.1))

  pub stands_nowhere : (result : Option ℕ) → is_some result ≡ list_any (eq x) xs → result ≡ None → (i : ℕ) → ¬ (slice_get xs i ≡ Some x)
  stands_nowhere result tells none i is =
      let same : get_or xs i x ≡ x = get_or_from_slice_get xs i x x is in
      let itself : eq x (get_or xs i x) ≡ true = (exact x (get_or xs i x)).1 (sym same) in
      let there = list_any_at (eq x) xs i x (slice_get_within xs i x is) itself in
      let both : false ≡ true = sym (ap is_some none) ∙ tells ∙ there in
      cc

-- what was read before an item
before_key : (pairs : List (ℕ × ItemKey)) (n link : ℕ) (behind : List ItemKey) (key : ItemKey) (before : List ItemKey) → IsNumber pairs n link (behind ++ key ∷ before) → (m : ℕ) × (at : ℕ) × (slice_get pairs at ≡ Some (m, key)) × IsNumber pairs m link before
before_key pairs n link [] key before is = (is.0, is.1, is.3, is.4)
before_key pairs n link (k ∷ behind) key before is = before_key pairs is.0 link behind key before is.4

reversed : (xs ys : List Item) (x : Item) → reverse (map key_of (xs ++ x ∷ ys)) ≡ reverse (map key_of ys) ++ key_of x ∷ reverse (map key_of xs)
reversed xs ys x =
    ap reverse (map-append key_of xs (x ∷ ys))
    ∙ reverse-append (map key_of xs) (key_of x ∷ map key_of ys)
    ∙ ap (λ zs. zs ++ reverse (map key_of xs)) (reverse-append (key_of x ∷ []) (map key_of ys))
    ∙ append_assoc (reverse (map key_of ys)) (key_of x ∷ []) (reverse (map key_of xs))

-- where a body begins with what was read, the next item of it is read too
pub reads_on : (pairs : List (ℕ × ItemKey)) → StandOnce pairs → (m n : ℕ) (xs ys : List Item) (x : Item) → IsNumberOf pairs m 0 xs → IsNumberOf pairs n 0 (xs ++ x ∷ ys) → (at : ℕ) × (slice_get pairs at ≡ Some (m, key_of x))
reads_on pairs once m n xs ys x here whole =
    let parts = before_key pairs n 0 (reverse (map key_of ys)) (key_of x) (reverse (map key_of xs)) (subst (λ keys. IsNumber pairs n 0 keys) (reversed xs ys x) whole) in
    let same = one_number pairs parts.0 m 0 (reverse (map key_of xs)) once parts.3 here in
    (parts.1, parts.2 ∙ ap (λ k. Some (k, key_of x)) same)

-- AT A PLACE

split_at : (k : ℕ) (ds w : List Item) → take (length w) ds ≡ w → k < length w → (x : Item) × (ys : List Item) × (slice_get ds k ≡ Some x) × (w ≡ take k ds ++ x ∷ ys)
split_at k ds [] is l = absurd (omega (arith, l))
split_at k [] (y ∷ w) is l = absurd (cc)
split_at zero (d ∷ ds) (y ∷ w) is l = let same : d ≡ y = cc in (d, w, refl, ap (λ e. e ∷ w) (sym same))
split_at (suc k) (d ∷ ds) (y ∷ w) is l =
    let same : d ≡ y = cc in
    let rest : take (length w) ds ≡ w = cc in
    let parts = split_at k ds w rest (omega (arith, l)) in
    (parts.0, parts.1, parts.2, ap (λ e. e ∷ w) (sym same) ∙ ap (λ v. d ∷ v) parts.3)

module _ (g : Graph) (block at : ℕ) where
  -- the first of the items from the place on
  abbrev pub read : ℕ → List Item
  read k = take k (drop at (items_of g block))

  stands : (procedure : ℕ) → MayCallInside g block at procedure → take (length (body_of g procedure)) (drop at (items_of g block)) ≡ body_of g procedure
  stands procedure can = sym (range_is (items_of g block) at (length (body_of g procedure))) ∙ can.callable.items

  pub fits : (procedure : ℕ) → MayCallInside g block at procedure → at + length (body_of g procedure) ≤ length (items_of g block)
  fits procedure can = can.callable.within

  module _ (pairs : List (ℕ × ItemKey)) (ends : ℕ → Option Span) (has : HasBodies g pairs ends) where
    -- a body that stands there and is longer goes on as was read
    pub goes_on : (k m : ℕ) → IsNumberOf pairs m 0 (read k) → (procedure : ℕ) → HasProcedure g procedure → MayCallInside g block at procedure → k < length (body_of g procedure) → (x : Item) × (i : ℕ) × (slice_get (drop at (items_of g block)) k ≡ Some x) × (slice_get pairs i ≡ Some (m, key_of x))
    goes_on k m here procedure there can longer =
        let parts = split_at k (drop at (items_of g block)) (body_of g procedure) (stands procedure can) longer in
        let own = has.each procedure there in
        let next = reads_on pairs has.once m own.0 (read k) parts.1 parts.0 here (subst (λ items. IsNumberOf pairs own.0 0 items) parts.3 own.1) in
        (parts.0, next.0, parts.2, next.1)

    -- a body of as many items has the number of what was read
    pub ends_here : (k m : ℕ) → IsNumberOf pairs m 0 (read k) → (procedure : ℕ) → HasProcedure g procedure → MayCallInside g block at procedure → length (body_of g procedure) ≡ k → IsIn (ends m) procedure
    ends_here k m here procedure there can long =
        let own = has.each procedure there in
        let is : read k ≡ body_of g procedure = ap read (sym long) ∙ stands procedure can in
        let same : own.0 ≡ m = one_number pairs own.0 m 0 (reverse (map key_of (body_of g procedure))) has.once own.1 (subst (λ items. IsNumberOf pairs m 0 items) is here) in
        subst (λ n. IsIn (ends n) procedure) same own.2

each_in : (P : Item → Type 0) (xs : List Item) → ((x : Item) → Contains xs x → P x) → All P xs
each_in P xs h k d there = h (get_or xs k d) (k, there, in_place xs k d (get_or xs k d) there)
  where
    in_place : (ys : List Item) (j : ℕ) (d e : Item) → j < length ys → get_or ys j e ≡ get_or ys j d
    in_place [] j d e l = absurd (omega (arith, l))
    in_place (y ∷ ys) zero d e l = refl
    in_place (y ∷ ys) (suc j) d e l = in_place ys j d e (omega (arith, l))

pub all_fit : (g : Graph) (block : ℕ) → IsGraph g → HasBlock g block → All ItemFits (items_of g block)
all_fit g block rules there = each_in ItemFits (items_of g block) (items_fit g block rules there)

-- the item behind what was read
pub item_there : (items : List Item) (at j : ℕ) (x y : Item) → at ≤ j → y ≡ get_or items j y → slice_get (drop at items) (j - at) ≡ Some x → x ≡ y
item_there items at j x y l here is =
    let place : at + (j - at) ≡ j = omega (arith, l) in
    sym (get_or_from_slice_get (drop at items) (j - at) x y is) ∙ get_or-drop at items (j - at) y ∙ ap (λ n. get_or items n y) place ∙ sym here

pub read_more : (g : Graph) (block at j : ℕ) (y : Item) → at ≤ j → j < length (items_of g block) → y ≡ get_or (items_of g block) j y → read g block at (j + 1 - at) ≡ read g block at (j - at) ++ y ∷ []
read_more g block at j y l inside here =
    let ds = drop at (items_of g block) in
    let place : at + (j - at) ≡ j = omega (arith, l) in
    let more : j + 1 - at ≡ j - at + 1 = omega (arith, l) in
    let within : j - at < length (drop at (items_of g block)) = omega (arith, l, inside, length-drop at (items_of g block)) in
    let item : get_or (drop at (items_of g block)) (j - at) y ≡ y = get_or-drop at (items_of g block) (j - at) y ∙ ap (λ n. get_or (items_of g block) n y) place ∙ sym here in
    ap (λ n. take n (drop at (items_of g block))) more ∙ take_more (drop at (items_of g block)) (j - at) y within ∙ ap (λ x. take (j - at) (drop at (items_of g block)) ++ x ∷ []) item
