-- Pieces of lists that are cut, raised and replaced.
use Rattle.std.proofs.Common.{◌≡◌, ℕ, ◌+◌, ◌-◌, ◌≤◌, List, ◌++◌, length, take, drop, refl, sym, ap, ◌∙◌, arith, length-append, length-drop, append_assoc}
use Rattle.std.proofs.lemmas.List.{take_at, drop_at, drop-drop, take-append-le, drop-append-le, length-take-le}

module _ {T : Type 0} where
  -- the last items at another place
  pub raised : (xs last : List T) (at n : ℕ) → at ≤ length xs → length last ≡ n → take at (xs ++ last) ++ (drop (length (xs ++ last) - n) (xs ++ last) ++ take (length (xs ++ last) - n - at) (drop at (xs ++ last))) ≡ take at xs ++ (last ++ drop at xs)
  raised xs last at n fits counted =
      let back : length (xs ++ last) - n ≡ length xs = omega (arith, length-append xs last) in
      let rest : length (xs ++ last) - n - at ≡ length (drop at xs) = omega (arith, length-append xs last, length-drop at xs) in
      ap (λ ys. ys ++ (drop (length (xs ++ last) - n) (xs ++ last) ++ take (length (xs ++ last) - n - at) (drop at (xs ++ last)))) (take-append-le at xs last fits)
      ∙ ap (λ m. take at xs ++ (drop m (xs ++ last) ++ take (length (xs ++ last) - n - at) (drop at (xs ++ last)))) back
      ∙ ap (λ ys. take at xs ++ (ys ++ take (length (xs ++ last) - n - at) (drop at (xs ++ last)))) (drop_at xs last (length xs) refl)
      ∙ ap (λ m. take at xs ++ (last ++ take m (drop at (xs ++ last)))) rest
      ∙ ap (λ ys. take at xs ++ (last ++ take (length (drop at xs)) ys)) (drop-append-le at xs last fits)
      ∙ ap (λ ys. take at xs ++ (last ++ ys)) (take_at (drop at xs) last (length (drop at xs)) refl)

  -- one item behind a piece taken out
  pub cut_behind : (xs new : List T) (at n : ℕ) → at ≤ length xs → length new ≡ n → take (at + n) (take at xs ++ (new ++ drop at xs)) ++ drop (at + n + 1) (take at xs ++ (new ++ drop at xs)) ≡ take at xs ++ (new ++ drop (at + 1) xs)
  cut_behind xs new at n fits counted =
      let whole : take at xs ++ (new ++ drop at xs) ≡ (take at xs ++ new) ++ drop at xs = sym (append_assoc (take at xs) new (drop at xs)) in
      let size : length (take at xs ++ new) ≡ at + n = omega (arith, length-append (take at xs) new, length-take-le at xs fits) in
      ap (λ ys. take (at + n) ys ++ drop (at + n + 1) ys) whole
      ∙ ap (λ ys. ys ++ drop (at + n + 1) ((take at xs ++ new) ++ drop at xs)) (take_at (take at xs ++ new) (drop at xs) (at + n) size)
      ∙ ap (λ ys. (take at xs ++ new) ++ ys) (sym (drop-drop 1 (at + n) ((take at xs ++ new) ++ drop at xs)) ∙ ap (drop 1) (drop_at (take at xs ++ new) (drop at xs) (at + n) size) ∙ drop-drop 1 at xs)
      ∙ append_assoc (take at xs) new (drop (at + 1) xs)
