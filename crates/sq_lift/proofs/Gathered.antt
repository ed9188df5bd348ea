-- What leads to each word, gathered step by step.
use Rattle.std.proofs.Common.{◌≡◌, ℕ, zero, suc, ◌+◌, ◌*◌, ◌<◌, ◌≤◌, Bool, true, false, ◌==◌, ◌||◌, List, [], ◌∷◌, ◌++◌, length, map, take, get_or, nat_eq, Option, Some, None, inl, inr, refl, sym, ap, ◌∙◌, subst, arith, if◌then◌else◌}
use Rattle.std.specs.Prelude.{slice_get, slice_set, replicate, option_to_list}
use Rattle.std.specs.Option.{option_and_then, option_map}
use Rattle.std.proofs.lemmas.Bool.{cases_Bool, eqb-true, eqb-false, eq-eqb}
use Rattle.std.proofs.lemmas.List.{take_more, map-append, length-take}
use Rattle.law_program.specs.Programs.{Word, Text, Program, word_at, insn_in, target_of}
use Rattle.sq_lift.specs.declared.entrances.Entrance.{Entrance}
use Rattle.sq_lift.specs.declared.entrances.Entrance.TheVariants.{Closed, Calls, Open}
use Rattle.sq_lift.specs.Places.{place_of}
use Rattle.sq_lift.specs.Search.{is_among}
use Rattle.sq_lift.specs.Entrances.{merged, entrance_if, marked_entrance, words_entrance, entrance_of, Entrances, entrance_at, merged_at, merged_if, with_entrance, Adds, AreEntrances}
use Rattle.sq_lift.proofs.Placed.{place_is, word_by_place}
use Rattle.sq_lift.proofs.Reaching.{among-append}

-- LAWS

pub merged_closed : (e : Entrance) → merged e Closed ≡ e
merged_closed Closed = refl
merged_closed (Calls r) = refl
merged_closed Open = refl

-- of links: whether r is s, s is u, and r is u
merged_calls : (r s u : ℕ) (a b c : Bool) → (r == s) ≡ a → (s == u) ≡ b → (r == u) ≡ c → merged (if a then Calls r else Open) (Calls u) ≡ merged (Calls r) (if b then Calls s else Open)
merged_calls r s u true true true e f h = rw (e, h) refl
merged_calls r s u true true false e f h = absurd (eqb-false r u h (eqb-true r s e ∙ eqb-true s u f))
merged_calls r s u true false true e f h = absurd (eqb-false s u f (sym (eqb-true r s e) ∙ eqb-true r u h))
merged_calls r s u true false false e f h = rw h refl
merged_calls r s u false true c e f h = rw e refl
merged_calls r s u false false c e f h = refl

closed_last : (r s : ℕ) (a : Bool) → merged (if a then Calls r else Open) Closed ≡ (if a then Calls r else Open)
closed_last r s true = refl
closed_last r s false = refl

open_last : (r s : ℕ) (a : Bool) → merged (if a then Calls r else Open) Open ≡ Open
open_last r s true = refl
open_last r s false = refl

pub merged_assoc : (a b c : Entrance) → merged (merged a b) c ≡ merged a (merged b c)
merged_assoc Closed b c = refl
merged_assoc Open b c = refl
merged_assoc (Calls r) Closed c = refl
merged_assoc (Calls r) Open c = refl
merged_assoc (Calls r) (Calls s) Closed = closed_last r s (r == s)
merged_assoc (Calls r) (Calls s) Open = open_last r s (r == s)
merged_assoc (Calls r) (Calls s) (Calls u) = merged_calls r s u (r == s) (s == u) (r == u) refl refl refl

-- a write at a place
pub merged_write : (es : List Entrance) (k : ℕ) (e d : Entrance) → slice_set es k (merged (get_or es k d) e) ≡ merged_at es k e
merged_write [] k e d = refl
merged_write (f ∷ es) zero e d = refl
merged_write (f ∷ es) (suc k) e d = ap (λ rest. f ∷ rest) (merged_write es k e d)

merged_here : (es : List Entrance) (k : ℕ) (e : Entrance) → slice_get (merged_at es k e) k ≡ option_map (λ before. merged before e) (slice_get es k)
merged_here [] k e = refl
merged_here (f ∷ es) zero e = refl
merged_here (f ∷ es) (suc k) e = merged_here es k e

same_at : (es : List Entrance) (j : ℕ) → slice_get es j ≡ option_map (λ before. merged before Closed) (slice_get es j)
same_at [] j = refl
same_at (f ∷ es) zero = ap Some (sym (merged_closed f))
same_at (f ∷ es) (suc j) = same_at es j

merged_elsewhere : (es : List Entrance) (k j : ℕ) (e : Entrance) → (j ≡ k → ⊥) → slice_get (merged_at es k e) j ≡ option_map (λ before. merged before Closed) (slice_get es j)
merged_elsewhere [] k j e apart = refl
merged_elsewhere (f ∷ es) zero zero e apart = absurd (apart refl)
merged_elsewhere (f ∷ es) zero (suc j) e apart = same_at es j
merged_elsewhere (f ∷ es) (suc k) zero e apart = ap Some (sym (merged_closed f))
merged_elsewhere (f ∷ es) (suc k) (suc j) e apart = merged_elsewhere es k j e (λ h. apart (ap suc h))

-- STEPS

same_option : (o : Option Entrance) → o ≡ option_map (λ before. merged before Closed) o
same_option None = refl
same_option (Some e) = ap Some (sym (merged_closed e))

-- nothing
pub adds_none : (e : Entrances) → Adds (λ x. Closed) e e
adds_none e = record { at = λ x. same_option (entrance_at e x) }

-- one way and then another
pub adds_then : {f g : ℕ → Entrance} {a b c : Entrances} → Adds f a b → Adds g b c → Adds (λ x. merged (f x) (g x)) a c
adds_then {f} {g} {a} {b} {c} first second = record {
  at = λ x. second.at x ∙ ap (option_map (λ before. merged before (g x))) (first.at x) ∙ both (f x) (g x) (entrance_at a x);
}
  where
    both : (e d : Entrance) (o : Option Entrance) → option_map (λ before. merged before d) (option_map (λ before. merged before e) o) ≡ option_map (λ before. merged before (merged e d)) o
    both e d None = refl
    both e d (Some before) = ap Some (merged_assoc before e d)

pub adds_same : {f g : ℕ → Entrance} {a b : Entrances} → Adds f a b → ((x : ℕ) → f x ≡ g x) → Adds g a b
adds_same {f} {g} {a} {b} adds same = record {
  at = λ x. adds.at x ∙ ap (λ e. option_map (λ before. merged before e) (entrance_at a x)) (same x);
}

-- to one word
pub adds_one : (old : Entrances) (a : ℕ) (e : Entrance) → Adds (λ x. entrance_if (is_among (a ∷ []) x) e) old (with_entrance old a e)
unfolding entrance_at
adds_one old a e = record {
  at = λ x. elim (cases_Bool (nat_eq x a)) [
    | inl here ↦ rw (here, eqb-true x a here) (here_by (place_of old.lo a))
    | inr apart ↦ rw apart (there_by x apart (place_of old.lo a) (place_of old.lo x) refl refl)
  ];
}
  where
    here_by : (p : Option ℕ) → option_and_then (slice_get (merged_if old.entrances p e)) p ≡ option_map (λ before. merged before e) (option_and_then (slice_get old.entrances) p)
    here_by None = refl
    here_by (Some k) = merged_here old.entrances k e

    there_by : (x : ℕ) → nat_eq x a ≡ false → (p q : Option ℕ) → place_of old.lo a ≡ p → place_of old.lo x ≡ q → option_and_then (slice_get (merged_if old.entrances p e)) q ≡ option_map (λ before. merged before Closed) (option_and_then (slice_get old.entrances) q)
    there_by x apart None q at there = same_option (option_and_then (slice_get old.entrances) q)
    there_by x apart (Some k) None at there = refl
    there_by x apart (Some k) (Some j) at there =
        merged_elsewhere old.entrances k j e (λ same. eqb-false x a apart (let h = place_is old.lo a k at in let i = place_is old.lo x j there in omega (arith, h, i, same)))

-- to one more word
pub adds_merged : (old new : Entrances) (o : Option ℕ) (a : ℕ) (e : Entrance) → o ≡ Some a → new ≡ with_entrance old a e → Adds (λ x. entrance_if (is_among (option_to_list o) x) e) old new
adds_merged old new o a e there is =
    subst (λ o. Adds (λ x. entrance_if (is_among (option_to_list o) x) e) old new) (sym there)
    (subst (λ n. Adds (λ x. entrance_if (is_among (a ∷ []) x) e) old n) (sym is) (adds_one old a e))

-- the write of the code
pub merge_is : (old : Entrances) (a k : ℕ) (e d : Entrance) → Some k ≡ place_of old.lo a → record { lo = old.lo; entrances = slice_set old.entrances k (merged (get_or old.entrances k d) e) } ≡ with_entrance old a e
merge_is old a k e d there =
    let all : slice_set old.entrances k (merged (get_or old.entrances k d) e) ≡ merged_if old.entrances (place_of old.lo a) e = merged_write old.entrances k e d ∙ ap (λ p. merged_if old.entrances p e) there in
    λ i. record { lo = old.lo; entrances = all i }

none_there : (es : List Entrance) (k : ℕ) (e : Entrance) → length es ≤ k → merged_at es k e ≡ es
none_there [] k e far = refl
none_there (f ∷ es) zero e far = absurd (omega arith)
none_there (f ∷ es) (suc k) e far = ap (λ rest. f ∷ rest) (none_there es k e (omega arith))

pub merge_far : (old : Entrances) (a k : ℕ) (e : Entrance) → Some k ≡ place_of old.lo a → length old.entrances ≤ k → old ≡ with_entrance old a e
merge_far old a k e there far =
    let all : old.entrances ≡ merged_if old.entrances (place_of old.lo a) e = sym (none_there old.entrances k e far) ∙ ap (λ p. merged_if old.entrances p e) there in
    λ i. record { lo = old.lo; entrances = all i }

pub adds_more : {X : Type 0} (f : X → ℕ) (xs : List X) (i : ℕ) (x : X) (e : Entrance) {a b c : Entrances} → i < length xs → x ≡ get_or xs i x → Adds (λ y. entrance_if (is_among (map f (take i xs)) y) e) a b → Adds (λ y. entrance_if (is_among (f x ∷ []) y) e) b c → Adds (λ y. entrance_if (is_among (map f (take (i + 1) xs)) y) e) a c
adds_more {X} f xs i x e {a} {b} {c} h is first second =
    let more : take (i + 1) xs ≡ take i xs ++ x ∷ [] = take_more xs i x h ∙ ap (λ (y : X). take i xs ++ y ∷ []) (sym is) in
    let all : map f (take (i + 1) xs) ≡ map f (take i xs) ++ f x ∷ [] = ap (map f) more ∙ map-append f (take i xs) (x ∷ []) in
    adds_same (adds_then first second) (λ y. both y (is_among (map f (take i xs)) y) (is_among (f x ∷ []) y) refl refl ∙ ap (λ ns. entrance_if (is_among ns y) e) (sym all))
  where
    once : (e : Entrance) → merged e e ≡ e
    once Closed = refl
    once (Calls r) = rw (eq-eqb r r refl) refl
    once Open = refl

    either : (p q : Bool) → merged (entrance_if p e) (entrance_if q e) ≡ entrance_if (p || q) e
    either true true = once e
    either true false = merged_closed e
    either false q = refl

    both : (y : ℕ) (p q : Bool) → is_among (map f (take i xs)) y ≡ p → is_among (f x ∷ []) y ≡ q → merged (entrance_if p e) (entrance_if q e) ≡ entrance_if (is_among (map f (take i xs) ++ f x ∷ []) y) e
    both y p q k l = either p q ∙ ap (λ b. entrance_if b e) (sym (among-append (map f (take i xs)) (f x ∷ []) y ∙ (λ j. k j || l j)))

-- WORDS

module _ (is : ℕ → Bool) where
  -- how one of them leads to x
  abbrev pub word_entrance : ℕ → ℕ → Word → Entrance
  word_entrance x at w = entrance_if (is at) (marked_entrance x at w.mark (insn_in w))

  words_append : (x at : ℕ) (ws : List Word) (w : Word) → words_entrance is x at (ws ++ w ∷ []) ≡ merged (words_entrance is x at ws) (word_entrance x (at + 4 * length ws) w)
  words_append x at [] w = let e : at + 4 * 0 ≡ at = omega arith in rw e (merged_closed (word_entrance x at w))
  words_append x at (v ∷ ws) w =
      let e : at + 4 + 4 * length ws ≡ at + 4 * suc (length ws) = omega arith in
      ap (merged (word_entrance x at v)) (words_append x (at + 4) ws w ∙ ap (λ n. merged (words_entrance is x (at + 4) ws) (word_entrance x n w)) e)
      ∙ sym (merged_assoc (word_entrance x at v) (words_entrance is x (at + 4) ws) (word_entrance x (at + 4 * suc (length ws)) w))

  more : (lo : ℕ) (ws : List Word) (i : ℕ) (w : Word) {old mid new : Entrances} → i < length ws → w ≡ get_or ws i w → Adds (λ x. words_entrance is x lo (take i ws)) old mid → Adds (λ x. word_entrance x (lo + 4 * i) w) mid new → Adds (λ x. words_entrance is x lo (take (i + 1) ws)) old new
  more lo ws i w {old} {mid} {new} h there first second =
      let longer : take (i + 1) ws ≡ take i ws ++ w ∷ [] = take_more ws i w h ∙ ap (λ (v : Word). take i ws ++ v ∷ []) (sym there) in
      let count : length (take i ws) ≡ i = omega (arith, length-take i ws) in
      adds_same (adds_then first second)
      (λ x.
      ap (λ n. merged (words_entrance is x lo (take i ws)) (word_entrance x (lo + 4 * n) w)) (sym count)
      ∙ sym (words_append x lo (take i ws) w)
      ∙ ap (words_entrance is x lo) (sym longer))

  -- the words as the code names them
  pub words_more : (lo start : ℕ) (ws vs : List Word) (i : ℕ) (w : Word) {old mid new : Entrances} → start ≡ lo → vs ≡ ws → i < length vs → w ≡ get_or vs i w → Adds (λ x. words_entrance is x lo (take i ws)) old mid → Adds (λ x. word_entrance x (start + 4 * i) w) mid new → Adds (λ x. words_entrance is x lo (take (i + 1) ws)) old new
  words_more lo start ws vs i w {old} {mid} {new} at same h there first second =
      more lo ws i w (subst (λ us. i < length us) same h) (subst (λ us. w ≡ get_or us i w) same there) first
      (subst (λ n. Adds (λ x. word_entrance x (n + 4 * i) w) mid new) at second)

-- FROM NOTHING

all_closed : (ws : List Word) (k : ℕ) → slice_get (replicate (length ws) Closed) k ≡ option_map (λ w. Closed) (slice_get ws k)
all_closed [] k = refl
all_closed (w ∷ ws) zero = refl
all_closed (w ∷ ws) (suc k) = all_closed ws k

abbrev pub none_yet : Text → Entrances
none_yet t = record { lo = t.lo; entrances = replicate (length t.words) Closed }

closed_at : (t : Text) (x : ℕ) → entrance_at (none_yet t) x ≡ option_map (λ w. Closed) (word_at t x)
unfolding entrance_at
closed_at t x = by_place (place_of t.lo x) ∙ ap (option_map (λ (w : Word). Closed)) (sym (word_by_place t x))
  where
    by_place : (p : Option ℕ) → option_and_then (slice_get (replicate (length t.words) Closed)) p ≡ option_map (λ w. Closed) (option_and_then (slice_get t.words) p)
    by_place None = refl
    by_place (Some k) = all_closed t.words k

pub gathered : (is : ℕ → Bool) (p : Program) (e a b c : Entrances) → e ≡ none_yet p.text → Adds (λ x. entrance_if (is_among (p.entry ∷ []) x) Open) e a → Adds (λ x. entrance_if (is_among (map target_of p.code_words) x) Open) a b → Adds (λ x. words_entrance is x p.text.lo p.text.words) b c → AreEntrances is p c
gathered is p e a b c none first second third x =
    (adds_then first (adds_then second third)).at x
    ∙ ap (λ (d : Entrances). option_map (λ before. merged before (entrance_of is p x)) (entrance_at d x)) none
    ∙ ap (option_map (λ before. merged before (entrance_of is p x))) (closed_at p.text x)
    ∙ from_closed (word_at p.text x)
  where
    from_closed : (o : Option Word) → option_map (λ before. merged before (entrance_of is p x)) (option_map (λ w. Closed) o) ≡ option_map (λ w. entrance_of is p x) o
    from_closed None = refl
    from_closed (Some w) = refl
