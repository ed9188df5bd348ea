-- Words reached one after another.
use Rattle.std.proofs.Common.{◌≡◌, ℕ, ◌+◌, ◌<◌, Bool, true, false, ◌==◌, ◌&&◌, ◌||◌, not, List, [], ◌∷◌, ◌++◌, length, map, take, get_or, nat_eq, Option, Some, None, inl, inr, refl, sym, ap, ◌∙◌, subst, arith}
use Rattle.std.specs.Option.{unwrap_or, is_some}
use Rattle.std.proofs.lemmas.Bool.{cases_Bool, eqb-true}
use Rattle.std.proofs.lemmas.List.{take_more, length-append, map-append}
use Rattle.std.proofs.lemmas.List.Folds.{list_any-append}
use Rattle.sq_lift.specs.Flags.{Flags, flag_at, has_word, is_flagged, is_unflagged, with_flag}
use Rattle.sq_lift.specs.Search.{Found, Reaches, is_among}
use Rattle.sq_lift.proofs.Flagged.{IsOneMore, one_more}

pub among-append : (xs ys : List ℕ) (x : ℕ) → is_among (xs ++ ys) x ≡ (is_among xs x || is_among ys x)
among-append xs ys x = list_any-append (nat_eq x) xs ys

-- of tests: r is flagged, w waits, h is a word, and the steps reach a and b
reached_both : (r h a b : Bool) → ((r || (h && a)) || (h && b)) ≡ (r || (h && (a || b)))
reached_both true h a b = refl
reached_both false true a b = refl
reached_both false false a b = refl

waits_both : (r w h a b : Bool) → ((w || ((h && a) && not r)) || ((h && b) && not (r || (h && a)))) ≡ (w || ((h && (a || b)) && not r))
waits_both r true h a b = refl
waits_both r false false a b = refl
waits_both true false true true true = refl
waits_both true false true true false = refl
waits_both true false true false true = refl
waits_both true false true false false = refl
waits_both false false true true true = refl
waits_both false false true true false = refl
waits_both false false true false true = refl
waits_both false false true false false = refl

none_reached : (r h : Bool) → r ≡ (r || (h && false))
none_reached true h = refl
none_reached false true = refl
none_reached false false = refl

none_waits : (r w h : Bool) → w ≡ (w || ((h && false) && not r))
none_waits r true h = refl
none_waits r false true = refl
none_waits r false false = refl

-- nothing
pub reaches_none : (s : Found) → Reaches [] s s
reaches_none s = record {
  words = λ x. refl;
  reached = λ x. none_reached (is_flagged s.reached x) (has_word s.reached x);
  waiting = λ x. none_waits (is_flagged s.reached x) (is_among s.waiting x) (has_word s.reached x);
  left = refl;
}

-- addresses and then more
pub reaches_then : {xs ys : List ℕ} {s t u : Found} → Reaches xs s t → Reaches ys t u → Reaches (xs ++ ys) s u
reaches_then {xs} {ys} {s} {t} {u} first second = record {
  words = λ x. second.words x ∙ first.words x;
  reached = λ x.
      second.reached x
      ∙ (λ i. first.reached x i || (first.words x i && is_among ys x))
      ∙ reached_both (is_flagged s.reached x) (has_word s.reached x) (is_among xs x) (is_among ys x)
      ∙ ap (λ b. is_flagged s.reached x || (has_word s.reached x && b)) (sym (among-append xs ys x));
  waiting = λ x.
      second.waiting x
      ∙ (λ i. first.waiting x i || ((first.words x i && is_among ys x) && not (first.reached x i)))
      ∙ waits_both (is_flagged s.reached x) (is_among s.waiting x) (has_word s.reached x) (is_among xs x) (is_among ys x)
      ∙ ap (λ b. is_among s.waiting x || ((has_word s.reached x && b) && not (is_flagged s.reached x))) (sym (among-append xs ys x));
  left = omega (arith, first.left, second.left);
}

-- of a word that is there and has no flag
new_here : (o p : Option Bool) → o ≡ Some false → p ≡ Some true → unwrap_or p false ≡ (unwrap_or o false || (is_some o && (true || false)))
new_here o p e f = rw (e, f) refl

new_waits : (o : Option Bool) (w : Bool) → o ≡ Some false → (w || (true || false)) ≡ (w || ((is_some o && (true || false)) && not (unwrap_or o false)))
new_waits o w e = rw e refl

-- a new word
pub reaches_new : (f : Flags) (waiting : List ℕ) (a : ℕ) → is_unflagged f a ≡ true → Reaches (a ∷ []) (record { reached = f; waiting = waiting }) (record { reached = with_flag f a; waiting = waiting ++ a ∷ [] })
reaches_new f waiting a new = record {
  words = λ x. elim (cases_Bool (x == a)) [
    | inl here ↦ subst (λ y. has_word (with_flag f a) y ≡ has_word f y) (sym (eqb-true x a here)) (rw (more.here, more.now) refl)
    | inr apart ↦ ap is_some (more.others x apart)
  ];
  reached = λ x. elim (cases_Bool (x == a)) [
    | inl here ↦ rw (here, eqb-true x a here) (new_here (flag_at f a) (flag_at (with_flag f a) a) more.here more.now)
    | inr apart ↦ rw (apart, more.others x apart) (none_reached (is_flagged f x) (has_word f x))
  ];
  waiting = λ x. among-append waiting (a ∷ []) x ∙ elim (cases_Bool (x == a)) [
    | inl here ↦ rw (here, eqb-true x a here) (new_waits (flag_at f a) (is_among waiting a) more.here)
    | inr apart ↦ rw apart (or_false (is_among waiting x) ∙ none_waits (is_flagged f x) (is_among waiting x) (has_word f x))
  ];
  left = omega (arith, more.count, length-push);
}
  where
    more : IsOneMore f (with_flag f a) a
    more = one_more f a new

    length-push : length (waiting ++ a ∷ []) ≡ length waiting + 1
    length-push = grind (arith, length-append {A = ℕ})

    or_false : (b : Bool) → (b || false) ≡ b
    or_false true = refl
    or_false false = refl

pub reaches_pushed : (s : Found) (f : Flags) (waiting : List ℕ) (a : ℕ) → is_unflagged s.reached a ≡ true → f ≡ with_flag s.reached a → waiting ≡ s.waiting ++ a ∷ [] → Reaches (a ∷ []) s (record { reached = f; waiting = waiting })
reaches_pushed s f waiting a new e h =
    let ByFlags : Flags → Type 0 = λ g. Reaches (a ∷ []) s (record { reached = g; waiting = waiting }) in
    let ByWaiting : List ℕ → Type 0 = λ xs. Reaches (a ∷ []) s (record { reached = with_flag s.reached a; waiting = xs }) in
    subst ByFlags (sym e) (subst ByWaiting (sym h) (reaches_new s.reached s.waiting a new))

-- of a word that is not there, or has a flag
old_reached : (o : Option Bool) → not (unwrap_or o true) ≡ false → unwrap_or o false ≡ (unwrap_or o false || (is_some o && (true || false)))
old_reached None n = refl
old_reached (Some true) n = refl
old_reached (Some false) n = absurd (cc)

old_waits : (o : Option Bool) (w : Bool) → not (unwrap_or o true) ≡ false → w ≡ (w || ((is_some o && (true || false)) && not (unwrap_or o false)))
old_waits o true n = refl
old_waits None false n = refl
old_waits (Some true) false n = refl
old_waits (Some false) false n = absurd (cc)

-- no new word
pub reaches_old : (s : Found) (a : ℕ) → is_unflagged s.reached a ≡ false → Reaches (a ∷ []) s s
reaches_old s a old = record {
  words = λ x. refl;
  reached = λ x. elim (cases_Bool (x == a)) [
    | inl here ↦ rw (here, eqb-true x a here) (old_reached (flag_at s.reached a) old)
    | inr apart ↦ rw apart (none_reached (is_flagged s.reached x) (has_word s.reached x))
  ];
  waiting = λ x. elim (cases_Bool (x == a)) [
    | inl here ↦ rw (here, eqb-true x a here) (old_waits (flag_at s.reached a) (is_among s.waiting a) old)
    | inr apart ↦ rw apart (none_waits (is_flagged s.reached x) (is_among s.waiting x) (has_word s.reached x))
  ];
  left = refl;
}

-- an address of no word
pub reaches_nowhere : (s : Found) (a : ℕ) → has_word s.reached a ≡ false → Reaches (a ∷ []) s s
reaches_nowhere s a none = reaches_old s a (no_flag (flag_at s.reached a) none)
  where
    no_flag : (o : Option Bool) → is_some o ≡ false → not (unwrap_or o true) ≡ false
    no_flag None n = refl
    no_flag (Some b) n = absurd (cc)

-- the addresses of one more element
pub reaches_more : {X : Type 0} (f : X → ℕ) (xs : List X) (i : ℕ) (x : X) {s t u : Found} → i < length xs → x ≡ get_or xs i x → Reaches (map f (take i xs)) s t → Reaches (f x ∷ []) t u → Reaches (map f (take (i + 1) xs)) s u
reaches_more {X} f xs i x {s} {t} {u} h is first second =
    let more : take (i + 1) xs ≡ take i xs ++ x ∷ [] = take_more xs i x h ∙ ap (λ (y : X). take i xs ++ y ∷ []) (sym is) in
    let all : map f (take (i + 1) xs) ≡ map f (take i xs) ++ f x ∷ [] = ap (map f) more ∙ map-append f (take i xs) (x ∷ []) in
    subst (λ ns. Reaches ns s u) (sym all) (reaches_then first second)
