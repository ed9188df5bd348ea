-- A search over the words of text, from its start to its end.
use Rattle.std.proofs.Common.{◌≡◌, ℕ, zero, suc, ◌+◌, ◌<◌, Bool, true, false, ◌&&◌, ◌||◌, not, List, [], ◌∷◌, ◌++◌, length, map, inl, inr, nat_eq, refl, sym, ap, ◌∙◌, subst, arith}
use Rattle.std.proofs.lemmas.Bool.{cases_Bool, eqb-true, eq-eqb, and_from, or_left, or_right}
use Rattle.std.proofs.lemmas.Cmp.{nat_eq_equiv}
use Rattle.std.proofs.lemmas.List.{length-append}
use Rattle.std.proofs.lemmas.Map.Views.{list_any-from_Contains}
use Rattle.std.specs.List.{Contains}
use Rattle.law_program.specs.Programs.{Program, Note, is_word, target_of}
use Rattle.law_program.specs.Reached.{leads_from, IsReached, entry, code_word, walk, Decides}
use Rattle.sq_lift.specs.Flags.{has_word, is_flagged}
use Rattle.sq_lift.specs.Search.{Found, Reaches, is_among, unflagged_count}
use Rattle.sq_lift.proofs.Flagged.{no_flags, same_words, none_flagged}
use Rattle.sq_lift.proofs.Reaching.{among-append, reaches_then}

among_from_contains : (xs : List ℕ) (x : ℕ) → Contains xs x → is_among xs x ≡ true
among_from_contains xs x h = list_any-from_Contains nat_eq_equiv x xs h

contains_from_among : (xs : List ℕ) (x : ℕ) → is_among xs x ≡ true → Contains xs x
contains_from_among [] x e = absurd (cc)
contains_from_among (y ∷ xs) x e =
    elim (cases_Bool (nat_eq x y)) [
      | inl here ↦ (zero, omega arith, sym (eqb-true x y here))
      | inr apart ↦ let rest = contains_from_among xs x (rw apart at e) in (suc rest.0, omega (arith, rest.1), rest.2)
    ]

-- a search over the text of p: what was flagged is reached, and each word that was looked at leads to what was flagged
pub record IsSearch (p : Program) (s : Found) : Type 0 where
  pub words : (x : ℕ) → has_word s.reached x ≡ is_word p.text x
  pub sound : (x : ℕ) → is_flagged s.reached x ≡ true → IsReached p x
  pub entry : is_word p.text p.entry ≡ true → is_flagged s.reached p.entry ≡ true
  pub targets : (x : ℕ) → is_word p.text x ≡ true → is_among (map target_of p.code_words) x ≡ true → is_flagged s.reached x ≡ true
  pub waits : (x : ℕ) → is_among s.waiting x ≡ true → is_flagged s.reached x ≡ true
  pub closed : (x y : ℕ) → is_flagged s.reached x ≡ true → is_among s.waiting x ≡ false → is_word p.text y ≡ true → is_among (leads_from p.text x) y ≡ true → is_flagged s.reached y ≡ true

first_of_both : (a b : Bool) → (a && b) ≡ true → a ≡ true
first_of_both true b e = refl
first_of_both false b e = absurd (cc)

second_of_both : (a b : Bool) → (a && b) ≡ true → b ≡ true
second_of_both true b e = e
second_of_both false b e = absurd (cc)

abbrev pub begun : Program → Found
begun p = record { reached = no_flags p.text; waiting = [] }

pub started : (p : Program) (s t : Found) → Reaches (p.entry ∷ []) (begun p) s → Reaches (map target_of p.code_words) s t → IsSearch p t
started p s t first second = record {
  words = λ x. all.words x ∙ same_words p.text x;
  sound = λ x flagged. sound x (is_flagged (no_flags p.text) x) refl (sym (all.reached x) ∙ flagged);
  entry = λ word. flags p.entry word (or_left (nat_eq p.entry p.entry) _ (eq-eqb p.entry p.entry refl));
  targets = λ x word among. flags x word (or_right (nat_eq x p.entry) _ among);
  waits = λ x waits. all.reached x ∙ or_right (is_flagged (no_flags p.text) x) _ (first_of_both _ (not (is_flagged (no_flags p.text) x)) (sym (all.waiting x) ∙ waits));
  closed = λ x y flagged waiting word next. absurd (all_wait (is_flagged (no_flags p.text) x) (has_word (no_flags p.text) x && is_among (p.entry ∷ map target_of p.code_words) x) (none_flagged p.text x) (sym (all.reached x) ∙ flagged) (sym (all.waiting x) ∙ waiting));
}
  where
    all : Reaches (p.entry ∷ map target_of p.code_words) (begun p) t
    all = reaches_then first second

    flags : (x : ℕ) → is_word p.text x ≡ true → is_among (p.entry ∷ map target_of p.code_words) x ≡ true → is_flagged t.reached x ≡ true
    flags x word among =
        all.reached x ∙ or_right (is_flagged (no_flags p.text) x) _ (and_from (has_word (no_flags p.text) x) _ (same_words p.text x ∙ word) among)

    start : (x : ℕ) → is_word p.text x ≡ true → is_among (p.entry ∷ map target_of p.code_words) x ≡ true → IsReached p x
    start x word among =
        elim (cases_Bool (nat_eq x p.entry)) [
          | inl here ↦
              let same : x ≡ p.entry = eqb-true x p.entry here in
              subst (IsReached p) (sym same) (entry (ap (is_word p.text) (sym same) ∙ word))
          | inr apart ↦ code_word (contains_from_among (map target_of p.code_words) x (rw apart at among)) word
        ]

    sound : (x : ℕ) (r : Bool) → is_flagged (no_flags p.text) x ≡ r → (r || (has_word (no_flags p.text) x && is_among (p.entry ∷ map target_of p.code_words) x)) ≡ true → IsReached p x
    sound x true e f = let none = none_flagged p.text x in absurd (cc)
    sound x false e f =
        start x (sym (same_words p.text x) ∙ first_of_both (has_word (no_flags p.text) x) _ f) (second_of_both (has_word (no_flags p.text) x) _ f)

    all_wait : (r a : Bool) → r ≡ false → (r || a) ≡ true → (a && not r) ≡ false → ⊥
    all_wait true a none e f = (cc)
    all_wait false true none e f = (cc)
    all_wait false false none e f = (cc)

-- the word at a is looked at, which waited last
pub looked_at : (p : Program) (s rest t : Found) (a : ℕ) → s ≡ record rest { waiting = rest.waiting ++ a ∷ [] } → IsSearch p s → Reaches (leads_from p.text a) rest t → IsSearch p t
looked_at p s rest t a is search more = record {
  words = λ x. more.words x ∙ before.words x;
  sound = λ x flagged. sound x (is_flagged rest.reached x) refl (sym (more.reached x) ∙ flagged);
  entry = λ word. keeps p.entry (before.entry word);
  targets = λ x word among. keeps x (before.targets x word among);
  waits = λ x waits. more.reached x ∙ waited x (is_flagged rest.reached x) (reaches x) (is_among rest.waiting x) refl refl refl (sym (more.waiting x) ∙ waits);
  closed = λ x y flagged waiting word next. closed x y (is_flagged rest.reached x) (reaches x) (is_among rest.waiting x) refl refl refl (sym (more.reached x) ∙ flagged) (sym (more.waiting x) ∙ waiting) word next;
}
  where
    before : IsSearch p (record rest { waiting = rest.waiting ++ a ∷ [] })
    before = subst (IsSearch p) is search

    reaches : ℕ → Bool
    reaches x = has_word rest.reached x && is_among (leads_from p.text a) x

    pushed : (x : ℕ) → is_among (rest.waiting ++ a ∷ []) x ≡ (is_among rest.waiting x || (nat_eq x a || false))
    pushed x = among-append rest.waiting (a ∷ []) x

    keeps : (x : ℕ) → is_flagged rest.reached x ≡ true → is_flagged t.reached x ≡ true
    keeps x flagged = more.reached x ∙ or_left (is_flagged rest.reached x) _ flagged

    a_reached : IsReached p a
    a_reached = before.sound a (before.waits a (pushed a ∙ or_right (is_among rest.waiting a) _ (or_left (nat_eq a a) false (eq-eqb a a refl))))

    sound : (x : ℕ) (r : Bool) → is_flagged rest.reached x ≡ r → (r || (has_word rest.reached x && is_among (leads_from p.text a) x)) ≡ true → IsReached p x
    sound x true e f = before.sound x e
    sound x false e f =
        walk a_reached (contains_from_among (leads_from p.text a) x (second_of_both (has_word rest.reached x) _ f)) (sym (before.words x) ∙ first_of_both (has_word rest.reached x) _ f)

    waited : (x : ℕ) (r b w : Bool) → is_flagged rest.reached x ≡ r → reaches x ≡ b → is_among rest.waiting x ≡ w → (w || (b && not r)) ≡ true → (r || b) ≡ true
    waited x true b w e f h k = refl
    waited x false true w e f h k = refl
    waited x false false true e f h k = sym e ∙ before.waits x (pushed x ∙ or_left (is_among rest.waiting x) _ h)
    waited x false false false e f h k = k

    closed : (x y : ℕ) (r b w : Bool) → is_flagged rest.reached x ≡ r → reaches x ≡ b → is_among rest.waiting x ≡ w → (r || b) ≡ true → (w || (b && not r)) ≡ false → is_word p.text y ≡ true → is_among (leads_from p.text x) y ≡ true → is_flagged t.reached y ≡ true
    closed x y r b true e f h k l word next = absurd (cc)
    closed x y false true false e f h k l word next = absurd (cc)
    closed x y false false false e f h k l word next = absurd (cc)
    closed x y true b false e f h k l word next =
        elim (cases_Bool (nat_eq x a)) [
          | inl here ↦
              more.reached y
              ∙ or_right (is_flagged rest.reached y) _ (and_from (has_word rest.reached y) _ (before.words y ∙ word) (subst (λ z. is_among (leads_from p.text z) y ≡ true) (eqb-true x a here) next))
          | inr apart ↦ keeps y (before.closed x y e (pushed x ∙ rw (h, apart) refl) word next)
        ]

-- where no word waits, just the reached words are flagged
pub finished : (p : Program) (s : Found) → IsSearch p s → s.waiting ≡ [] → Decides p (is_flagged s.reached)
finished p s search none = record { only = search.sound; all = complete }
  where
    complete : (x : ℕ) → IsReached p x → is_flagged s.reached x ≡ true
    complete x (entry word) = search.entry word
    complete x (code_word h word) = search.targets x word (among_from_contains (map target_of p.code_words) x h)
    complete x (walk {x = z} before h word) =
        search.closed z x (complete z before) (ap (λ xs. is_among xs z) none) word (among_from_contains (leads_from p.text z) x h)

-- notes lead nowhere
same_reached : (p : Program) (notes : List Note) (x : ℕ) → IsReached p x → IsReached (record p { notes = notes }) x
same_reached p notes x (entry word) = entry word
same_reached p notes x (code_word h word) = code_word h word
same_reached p notes x (walk {x = z} before h word) = walk (same_reached p notes z before) h word

pub decides_with : (p : Program) (notes : List Note) (is : ℕ → Bool) → Decides p is → Decides (record p { notes = notes }) is
decides_with p notes is decides = record {
  only = λ x flagged. same_reached p notes x (decides.only x flagged);
  all = λ x reached. decides.all x (same_reached (record p { notes = notes }) p.notes x reached);
}

-- each word that is looked at leaves fewer
pub fewer_left : (s rest t : Found) (a : ℕ) (xs : List ℕ) → s ≡ record rest { waiting = rest.waiting ++ a ∷ [] } → Reaches xs rest t → unflagged_count t.reached + length t.waiting < unflagged_count s.reached + length s.waiting
fewer_left s rest t a xs is more =
    let flags : unflagged_count s.reached ≡ unflagged_count rest.reached = ap (λ f. unflagged_count f.reached) is in
    let waiting : length s.waiting ≡ length rest.waiting + 1 = ap (λ f. length f.waiting) is ∙ simp length-append in
    omega (arith, flags, waiting, more.left)
