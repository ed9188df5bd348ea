-- Words added to a set one after another.
use Rattle.std.proofs.Common.{◌≡◌, ℕ, zero, suc, ◌+◌, ◌-◌, ◌*◌, ◌<◌, ◌≤◌, Bool, true, false, ◌==◌, ◌&&◌, ◌||◌, nat_eq, List, [], ◌∷◌, ◌++◌, length, map, take, get_or, Option, Some, None, inl, inr, refl, sym, ap, ◌∙◌, subst, arith, if◌then◌else◌}
use Rattle.std.specs.Prelude.{option_to_list}
use Rattle.std.proofs.lemmas.Bool.{cases_Bool, eqb-true, eqb-false, eq-eqb, ne_eqb}
use Rattle.std.proofs.lemmas.List.{take_more, map-append, length-take}
use Rattle.std.proofs.lemmas.List.Folds.{list_any-append}
use Rattle.std.proofs.Math.Bool.{or-false}
use Rattle.sq_isa.specs.Registers.{is_among}
use Rattle.law_program.specs.Programs.{Word, Text, Note, Program, is_word, target_of}
use Rattle.law_program.specs.Readings.{reading_of}
use Rattle.law_program.specs.Notes.{is_within, is_in_procedure, is_in_procedures}
use Rattle.law_program.specs.Lifted.{reading_leads, words_lead, is_leader}
use Rattle.sq_lift.specs.Flags.{Flags, has_word, is_flagged, is_unflagged, with_flag}
use Rattle.sq_lift.proofs.Flagged.{no_flags, same_words, none_flagged, none_past}
use Rattle.sq_lift.proofs.Reaching.{reaches_new, reaches_old}
use Rattle.sq_lift.specs.Raised.{Raises}

-- TESTS

same_test : (a b : ℕ) → nat_eq a b ≡ nat_eq b a
same_test a b =
    elim (cases_Bool (nat_eq b a)) [
      | inl here ↦ eq-eqb a b (sym (eqb-true b a here)) ∙ sym here
      | inr apart ↦ ne_eqb a b (λ e. eqb-false b a apart (sym e)) ∙ sym apart
    ]

-- of tests: r is in the set, h is a word
both_raised : (r h a b : Bool) → ((r || (h && a)) || (h && b)) ≡ (r || (h && (a || b)))
both_raised true h a b = refl
both_raised false true a b = refl
both_raised false false a b = refl

none_raised : (r h : Bool) → r ≡ (r || (h && false))
none_raised true h = refl
none_raised false true = refl
none_raised false false = refl

-- STEPS

pub raises_none : (s : Flags) → Raises (λ x. false) s s
raises_none s = record { words = λ x. refl; flags = λ x. none_raised (is_flagged s x) (has_word s x) }

pub raises_then : {f g : ℕ → Bool} {old mid new : Flags} → Raises f old mid → Raises g mid new → Raises (λ x. f x || g x) old new
raises_then {f} {g} {old} {mid} {new} first second = record {
  words = λ x. second.words x ∙ first.words x;
  flags = λ x.
      second.flags x
      ∙ (λ i. first.flags x i || (first.words x i && g x))
      ∙ both_raised (is_flagged old x) (has_word old x) (f x) (g x);
}

pub raises_same : {f g : ℕ → Bool} {old new : Flags} → Raises f old new → ((x : ℕ) → f x ≡ g x) → Raises g old new
raises_same {f} {g} {old} {new} raises same = record {
  words = raises.words;
  flags = λ x. raises.flags x ∙ ap (λ b. is_flagged old x || (has_word old x && b)) (same x);
}

-- one word
pub raises_one : (old new : Flags) (a : ℕ) (b : Bool) → b ≡ is_unflagged old a → new ≡ (if b then with_flag old a else old) → Raises (λ x. a == x) old new
raises_one old new a true added is =
    let r = reaches_new old [] a (sym added) in
    let all : Raises (λ x. a == x) old (with_flag old a) = record {
      words = r.words;
      flags = λ x. r.reached x ∙ ap (λ b. is_flagged old x || (has_word old x && b)) (or-false (nat_eq x a) ∙ same_test x a);
    } in
    subst (Raises (λ x. a == x) old) (sym is) all
raises_one old new a false added is =
    let r = reaches_old (record { reached = old; waiting = [] }) a (sym added) in
    let all : Raises (λ x. a == x) old old = record {
      words = r.words;
      flags = λ x. r.reached x ∙ ap (λ b. is_flagged old x || (has_word old x && b)) (or-false (nat_eq x a) ∙ same_test x a);
    } in
    subst (Raises (λ x. a == x) old) (sym is) all

pub raises_listed : {old new : Flags} (a : ℕ) → Raises (λ x. a == x) old new → Raises (is_among (a ∷ [])) old new
raises_listed a one = raises_same one (λ x. sym (or-false (nat_eq a x)))

pub raises_some : (old new : Flags) (o : Option ℕ) (a : ℕ) → o ≡ Some a → Raises (λ x. a == x) old new → Raises (is_among (option_to_list o)) old new
raises_some old new o a is one = subst (λ o. Raises (is_among (option_to_list o)) old new) (sym is) (raises_listed a one)

pub raises_no : (s : Flags) (o : Option ℕ) → o ≡ None → Raises (is_among (option_to_list o)) s s
raises_no s o is = subst (λ o. Raises (is_among (option_to_list o)) s s) (sym is) (raises_none s)

pub raises_next : (old new : Flags) (a b : ℕ) → b ≡ a → Raises (λ x. b == x) old new → Raises (is_among (a ∷ [])) old new
raises_next old new a b is one = raises_listed a (subst (λ c. Raises (λ x. c == x) old new) is one)

-- where no word is
pub raises_nowhere : (s : Flags) (a : ℕ) → has_word s a ≡ false → Raises (is_among (a ∷ [])) s s
raises_nowhere s a none = record {
  words = λ x. refl;
  flags = λ x.
      elim (cases_Bool (nat_eq a x)) [
        | inl here ↦ rw here (no_word (is_flagged s x) (has_word s x) (subst (λ y. has_word s y ≡ false) (eqb-true a x here) none))
        | inr apart ↦ rw apart (none_raised (is_flagged s x) (has_word s x))
      ];
}
  where
    no_word : (r h : Bool) → h ≡ false → r ≡ (r || (h && (true || false)))
    no_word true h e = refl
    no_word false h e = rw e refl

among-append : (xs ys : List ℕ) (x : ℕ) → is_among (xs ++ ys) x ≡ (is_among xs x || is_among ys x)
among-append [] ys x = refl
among-append (y ∷ xs) ys x = ap (λ b. y == x || b) (among-append xs ys x) ∙ assoc (y == x) (is_among xs x) (is_among ys x)
  where
    assoc : (a b c : Bool) → (a || (b || c)) ≡ ((a || b) || c)
    assoc true b c = refl
    assoc false b c = refl

pub raises_both : {old mid new : Flags} (xs ys zs : List ℕ) → xs ++ ys ≡ zs → Raises (is_among xs) old mid → Raises (is_among ys) mid new → Raises (is_among zs) old new
raises_both xs ys zs is first second =
    raises_same (raises_then first second) (λ x. sym (among-append xs ys x) ∙ ap (λ ws. is_among ws x) is)

-- one more of some
pub raises_more : {X : Type 0} (f : X → ℕ) (xs : List X) (i : ℕ) (x d : X) {old mid new : Flags} → i < length xs → x ≡ get_or xs i d → Raises (is_among (map f (take i xs))) old mid → Raises (λ y. f x == y) mid new → Raises (is_among (map f (take (i + 1) xs))) old new
raises_more {X} f xs i x d {old} {mid} {new} h is first second =
    let more : take (i + 1) xs ≡ take i xs ++ x ∷ [] = take_more xs i d h ∙ ap (λ (y : X). take i xs ++ y ∷ []) (sym is) in
    let all : map f (take (i + 1) xs) ≡ map f (take i xs) ++ f x ∷ [] = ap (map f) more ∙ map-append f (take i xs) (x ∷ []) in
    raises_both (map f (take i xs)) (f x ∷ []) (map f (take (i + 1) xs)) (sym all) first (raises_listed (f x) second)

-- WORDS

module _ (is : ℕ → Bool) (ns : List Note) (t : Text) where
  abbrev pub word_leads : ℕ → Word → ℕ → Bool
  word_leads at w x = is at && is_among (reading_leads ns at (reading_of t at w)) x

  lead_append : (x at : ℕ) (ws : List Word) (w : Word) → words_lead is ns t at (ws ++ w ∷ []) x ≡ (words_lead is ns t at ws x || word_leads (at + 4 * length ws) w x)
  lead_append x at [] w = let e : at + 4 * 0 ≡ at = omega arith in rw e (or-false (word_leads at w x))
  lead_append x at (v ∷ ws) w =
      let e : at + 4 + 4 * length ws ≡ at + 4 * suc (length ws) = omega arith in
      ap (λ b. word_leads at v x || b) (lead_append x (at + 4) ws w ∙ ap (λ n. words_lead is ns t (at + 4) ws x || word_leads n w x) e)
      ∙ assoc (word_leads at v x) (words_lead is ns t (at + 4) ws x) (word_leads (at + 4 * suc (length ws)) w x)
    where
      assoc : (a b c : Bool) → (a || (b || c)) ≡ ((a || b) || c)
      assoc true b c = refl
      assoc false b c = refl

  -- the words as the code names them
  pub raises_word : (lo start : ℕ) (ws vs : List Word) (i : ℕ) (w : Word) {old mid new : Flags} → start ≡ lo → vs ≡ ws → i < length vs → w ≡ get_or vs i w → Raises (words_lead is ns t lo (take i ws)) old mid → Raises (word_leads (start + 4 * i) w) mid new → Raises (words_lead is ns t lo (take (i + 1) ws)) old new
  raises_word lo start ws vs i w {old} {mid} {new} at same h there first second =
      let near : i < length ws = subst (λ us. i < length us) same h in
      let here : w ≡ get_or ws i w = subst (λ us. w ≡ get_or us i w) same there in
      let longer : take (i + 1) ws ≡ take i ws ++ w ∷ [] = take_more ws i w near ∙ ap (λ (v : Word). take i ws ++ v ∷ []) (sym here) in
      let count : length (take i ws) ≡ i = omega (arith, length-take i ws) in
      raises_same (raises_then first (subst (λ n. Raises (word_leads (n + 4 * i) w) mid new) at second))
      (λ x.
      ap (λ n. words_lead is ns t lo (take i ws) x || word_leads (lo + 4 * n) w x) (sym count)
      ∙ sym (lead_append x lo (take i ws) w)
      ∙ ap (λ us. words_lead is ns t lo us x) (sym longer))

-- FROM NO WORDS

pub raised_set : (t : Text) (f : ℕ → Bool) (none new : Flags) → none ≡ no_flags t → Raises f none new → (x : ℕ) → is_flagged new x ≡ (is_word t x && f x)
raised_set t f none new is raises x =
    raises.flags x
    ∙ ap (λ s. is_flagged s x || (has_word s x && f x)) is
    ∙ (λ i. none_flagged t x i || (same_words t x i && f x))

pub leaders_are : (is : ℕ → Bool) (ns : List Note) (p : Program) (none a b c : Flags) → none ≡ no_flags p.text → Raises (λ x. p.entry == x) none a → Raises (is_among (map target_of p.code_words)) a b → Raises (words_lead is ns p.text p.text.lo p.text.words) b c → (x : ℕ) → is_flagged c x ≡ (is_word p.text x && is_leader is ns p x)
leaders_are is ns p none a b c start first second third x =
    raised_set p.text (is_leader is ns p) none c start (raises_then (raises_then first second) third) x

-- PROCEDURES

-- past the last word nothing is added
nothing_past : (s : Flags) (at n : ℕ) → s.lo + 4 * length s.flags ≤ at → Raises (is_within at n) s s
nothing_past s at n far = record { words = λ x. refl; flags = λ x. by x (is_within at n x) refl }
  where
    within_from : (at n x : ℕ) → is_within at n x ≡ true → at ≤ x
    within_from at zero x e = absurd (cc)
    within_from at (suc n) x e =
        elim (cases_Bool (nat_eq at x)) [
          | inl here ↦ omega (arith, eqb-true at x here)
          | inr apart ↦ let h = within_from (at + 4) n x (rw apart at e) in omega (arith, h)
        ]

    by : (x : ℕ) (b : Bool) → is_within at n x ≡ b → is_flagged s x ≡ (is_flagged s x || (has_word s x && is_within at n x))
    by x true e = let none = none_past s x (let h = within_from at n x e in omega (arith, far, h)) in sym ((λ i. is_flagged s x || (none i && is_within at n x)) ∙ or-false (is_flagged s x))
    by x false e = rw e (none_raised (is_flagged s x) (has_word s x))

-- what is left of a procedure's words, from a set in which the one at `at` is
abbrev pub Completes : Flags → Flags → Note → ℕ → ℕ → Type 0
Completes entry set note at left = (new : Flags) → Raises (is_within (at + 4) left) set new → Raises (is_in_procedure note) entry new

pub procedure_begins : (entry set : Flags) (note : Note) (at left : ℕ) → at ≡ note.address → left ≡ note.length → Raises (λ x. at == x) entry set → Completes entry set note at left
procedure_begins entry set note at left same all first new rest =
    let e : note.length + 1 ≡ suc note.length = omega arith in
    raises_same (raises_then first rest) (λ x. (λ i. is_within (same i) (suc (all i)) x) ∙ ap (λ n. is_within note.address n x) (sym e))

pub procedure_goes_on : (entry mid set : Flags) (note : Note) (at next left : ℕ) → Completes entry mid note at left → 0 < left → next ≡ at + 4 → Raises (λ x. next == x) mid set → Completes entry set note next (left - 1)
procedure_goes_on entry mid set note at next zero before some same one new rest = absurd (omega (arith, some))
procedure_goes_on entry mid set note at next (suc left) before some same one new rest =
    let e : suc left - 1 ≡ left = omega arith in
    before new (raises_same (raises_then one rest) (λ x. λ i. is_within (same i) (suc (e i)) x))

pub procedure_ends : (entry set : Flags) (note : Note) (at left : ℕ) → Completes entry set note at left → left ≡ 0 → Raises (is_in_procedure note) entry set
procedure_ends entry set note at left before none =
    before set (subst (λ n. Raises (is_within (at + 4) n) set set) (sym none) (raises_none set))

pub procedure_leaves : (entry set : Flags) (note : Note) (at left : ℕ) → Completes entry set note at left → set.lo + 4 * length set.flags ≤ at + 4 → Raises (is_in_procedure note) entry set
procedure_leaves entry set note at left before far = before set (nothing_past set (at + 4) left far)

pub raises_procedure : (ns : List Note) (i : ℕ) (n : Note) {old mid new : Flags} → i < length ns → n ≡ get_or ns i n → Raises (is_in_procedures (take i ns)) old mid → Raises (is_in_procedure n) mid new → Raises (is_in_procedures (take (i + 1) ns)) old new
raises_procedure ns i n {old} {mid} {new} h is first second =
    let more : take (i + 1) ns ≡ take i ns ++ n ∷ [] = take_more ns i n h ∙ ap (λ (m : Note). take i ns ++ m ∷ []) (sym is) in
    raises_same (raises_then first second)
    (λ x.
    ap (λ b. is_in_procedures (take i ns) x || b) (sym (or-false (is_in_procedure n x)))
    ∙ sym (list_any-append (λ note. is_in_procedure note x) (take i ns) (n ∷ []))
    ∙ ap (λ ms. is_in_procedures ms x) (sym more))
