-- A list that is mapped in place, from the front on.
use Rattle.std.proofs.Common.{◌≡◌, ℕ, ◌+◌, ◌<◌, List, ◌++◌, map, length, take, drop, get_or, set, sym, ap, ◌∙◌, arith}
use Rattle.std.proofs.lemmas.List.{get_or-append-add, get_or-drop, length-take-le, length-map, get_or_default}
use Rattle.std.proofs.lemmas.List.Edits.{map_over_more}

module _ {X : Type 0} where
  -- what stands at the index is still the old element
  pub mapped_reads : (f : X → X) (xs ys : List X) (i : ℕ) (d : X) → i < length xs → ys ≡ map f (take i xs) ++ drop i xs → get_or ys i d ≡ get_or xs i d
  mapped_reads f xs ys i d h mapped =
      let done : length (map f (take i xs)) + 0 ≡ i = omega (arith, length-map (take i xs) f, length-take-le i xs (omega arith)) in
      let last : i + 0 ≡ i = omega arith in
      ap (λ zs. get_or zs i d) mapped
      ∙ ap (λ n. get_or (map f (take i xs) ++ drop i xs) n d) (sym done)
      ∙ get_or-append-add (map f (take i xs)) (drop i xs) 0 d
      ∙ get_or-drop i xs 0 d
      ∙ ap (λ n. get_or xs n d) last

  pub mapped_step : (f : X → X) (xs ys : List X) (i : ℕ) (d y : X) → i < length xs → i < length ys → ys ≡ map f (take i xs) ++ drop i xs → y ≡ f (get_or ys i d) → set ys i y ≡ map f (take (i + 1) xs) ++ drop (i + 1) xs
  mapped_step f xs ys i d y h h' mapped is =
      ap (set ys i) is ∙ map_over_more f xs ys i (get_or ys i d) h mapped (get_or_default ys i d (get_or ys i d) h')
