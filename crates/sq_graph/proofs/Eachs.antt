-- What holds of each element of lists that are joined.
use Rattle.std.proofs.Common.{◌+◌, ◌<◌, List, [], ◌∷◌, ◌++◌, length, subst, arith, length-append}
use Rattle.std.specs.List.{All, flat_map}
use Rattle.std.proofs.lemmas.List.{get_or_append_left, get_or-append-add}
use Rattle.std.proofs.lemmas.List.Elements.{All-nil, All-cons, All-head, All-tail, All-append}

module _ {X : Type 0} (P : X → Type 0) where
  pub All-left : (xs ys : List X) → All P (xs ++ ys) → All P xs
  All-left xs ys all k d h =
      let h' : k < length (xs ++ ys) = omega (arith, length-append xs ys) in
      subst P (get_or_append_left xs ys d k h) (all k d h')

  pub All-right : (xs ys : List X) → All P (xs ++ ys) → All P ys
  All-right xs ys all k d h =
      let h' : length xs + k < length (xs ++ ys) = omega (arith, length-append xs ys) in
      subst P (get_or-append-add xs ys k d) (all (length xs + k) d h')

  pub All-each : {Y : Type 0} (f : Y → List X) (ys : List Y) → All P (flat_map f ys) → All (λ y. All P (f y)) ys
  All-each {Y} f [] all = All-nil {X = Y} (λ y. All P (f y))
  All-each {Y} f (y ∷ ys) all = All-cons {X = Y} (λ y. All P (f y)) y ys (All-left (f y) (flat_map f ys) all) (All-each f ys (All-right (f y) (flat_map f ys) all))

  pub All-flat_map : {Y : Type 0} (f : Y → List X) (ys : List Y) → All (λ y. All P (f y)) ys → All P (flat_map f ys)
  All-flat_map f [] all = All-nil P
  All-flat_map {Y} f (y ∷ ys) all = All-append P (f y) (flat_map f ys) (All-head {X = Y} (λ y. All P (f y)) y ys all) (All-flat_map f ys (All-tail {X = Y} (λ y. All P (f y)) y ys all))
