-- Names reached one after another.
use Rattle.std.proofs.Common.{◌≡◌, ℕ, ◌+◌, ◌<◌, Bool, true, false, ◌&&◌, ◌||◌, not, List, [], ◌∷◌, ◌++◌, length, take, get_or, nat_eq, refl, sym, ap, ◌∙◌, subst, arith}
use Rattle.std.proofs.lemmas.List.{append-nil, take_more}
use Rattle.std.proofs.lemmas.List.Concat.{flat_map-append}
use Rattle.std.proofs.lemmas.List.Folds.{list_any-append}
use Rattle.std.specs.List.{flat_map}
use Rattle.std.proofs.lemmas.Bool.{or_left, or_right}
use Rattle.std.proofs.Math.Bool.{or_assoc}
use Rattle.sq_reach.specs.Marks.{is_marked}
use Rattle.sq_reach.specs.Search.{Found, Reaches}

is_marked-append : (xs ys : List ℕ) (n : ℕ) → is_marked (xs ++ ys) n ≡ (is_marked xs n || is_marked ys n)
is_marked-append xs ys n = list_any-append (nat_eq n) xs ys

or_false : (a : Bool) → a ≡ (a || false)
or_false true = refl
or_false false = refl

-- what waits after two steps: r is reached at first, w waits at first, and the steps reach a and b
both_steps : (r w a b : Bool) → ((w || (a && not r)) || (b && not (r || a))) ≡ (w || ((a || b) && not r))
both_steps r true a b = refl
both_steps true false true b = both_steps-reached b
  where
    both_steps-reached : (b : Bool) → (b && false) ≡ false
    both_steps-reached true = refl
    both_steps-reached false = refl
both_steps true false false b = refl
both_steps false false true b = refl
both_steps false false false b = refl

-- names and then more
pub reaches_then : {names more : List ℕ} {s t u : Found} → Reaches names s t → Reaches more t u → Reaches (names ++ more) s u
reaches_then {names} {more} {s} {t} {u} first second = record {
  reached = λ n.
      second.reached n ∙ ap (λ b. b || is_marked more n) (first.reached n) ∙ or_assoc (is_marked s.reached n) (is_marked names n) (is_marked more n)
      ∙ ap (λ b. is_marked s.reached n || b) (sym (is_marked-append names more n));
  waiting = λ n.
      second.waiting n
      ∙ (λ i. first.waiting n i || (is_marked more n && not (first.reached n i)))
      ∙ both_steps (is_marked s.reached n) (is_marked s.waiting n) (is_marked names n) (is_marked more n)
      ∙ ap (λ b. is_marked s.waiting n || (b && not (is_marked s.reached n))) (sym (is_marked-append names more n));
  looked_at = omega (arith, first.looked_at, second.looked_at);
  distinct = λ d. second.distinct (first.distinct d);
}

-- names of one more element
pub reaches_more : {X : Type 0} (f : X → List ℕ) (xs : List X) (i : ℕ) (x : X) {s t u : Found} → i < length xs → x ≡ get_or xs i x → Reaches (flat_map f (take i xs)) s t → Reaches (f x) t u → Reaches (flat_map f (take (i + 1) xs)) s u
reaches_more {X} f xs i x {s} {t} {u} h is first second =
    let more : take (i + 1) xs ≡ take i xs ++ x ∷ [] = take_more xs i x h ∙ ap (λ (y : X). take i xs ++ y ∷ []) (sym is) in
    let names : flat_map f (take (i + 1) xs) ≡ flat_map f (take i xs) ++ f x = ap (flat_map f) more ∙ (flat_map-append f (take i xs) (x ∷ []) ∙ ap (λ ns. flat_map f (take i xs) ++ ns) (append-nil (f x))) in
    subst (λ ns. Reaches ns s u) (sym names) (reaches_then first second)
