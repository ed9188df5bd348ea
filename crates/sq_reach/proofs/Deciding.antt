-- Which blocks are reached can be told: the search as a function.
use Rattle.std.proofs.Common.{◌≡◌, ◌⊎◌, ℕ, zero, suc, ◌-◌, ◌<◌, Bool, true, false, ◌&&◌, ◌||◌, not, List, [], ◌∷◌, ◌++◌, length, map, inl, inr, nat_eq, if◌then◌else◌, refl, sym, ap, ◌∙◌, subst, arith}
use Rattle.std.proofs.lemmas.Bool.{cases_Bool, eqb-true}
use Rattle.std.proofs.lemmas.List.{length-append}
use Rattle.std.proofs.lemmas.List.Folds.{list_any-append}
use Rattle.std.specs.List.{AllByRecursion, IsDistinct}
use Rattle.sq_graph.specs.Graph.{Procedure, Graph}
use Rattle.sq_graph.specs.Rules.{IsGraph}
use Rattle.sq_graph.specs.Walks.{successors, word_name}
use Rattle.sq_reach.specs.Marks.{is_marked, AreReached}
use Rattle.sq_reach.specs.Search.{Found, Reaches, KnowsBodies}
use Rattle.sq_reach.proofs.Reaching.{reaches_then}
use Rattle.sq_reach.proofs.Searches.{IsSearch, nothing, started, looked_at, finished, fewer_left}

-- a name is reached, and waits where it is new
abbrev with_name : ℕ → Found → Found
with_name n s = if is_marked s.reached n then s else record s { reached = n ∷ s.reached; waiting = s.waiting ++ n ∷ [] }

known_name : (n : ℕ) (s : Found) → is_marked s.reached n ≡ true → Reaches (n ∷ []) s s
known_name n s known = record {
  reached = λ m. seen m (nat_eq m n) refl;
  waiting = λ m. waits m (nat_eq m n) refl;
  looked_at = omega arith;
  distinct = λ d. d;
}
  where
    here : (m : ℕ) → nat_eq m n ≡ true → is_marked s.reached m ≡ true
    here m e = subst (λ k. is_marked s.reached k ≡ true) (sym (eqb-true m n e)) known

    seen : (m : ℕ) (b : Bool) → nat_eq m n ≡ b → is_marked s.reached m ≡ (is_marked s.reached m || (b || false))
    seen m true e = rw (here m e) refl
    seen m false e = or_nothing (is_marked s.reached m)
      where
        or_nothing : (b : Bool) → b ≡ (b || false)
        or_nothing true = refl
        or_nothing false = refl

    waits : (m : ℕ) (b : Bool) → nat_eq m n ≡ b → is_marked s.waiting m ≡ (is_marked s.waiting m || ((b || false) && not (is_marked s.reached m)))
    waits m true e = rw (here m e) (or_nothing (is_marked s.waiting m))
      where
        or_nothing : (b : Bool) → b ≡ (b || false)
        or_nothing true = refl
        or_nothing false = refl
    waits m false e = or_nothing (is_marked s.waiting m)
      where
        or_nothing : (b : Bool) → b ≡ (b || false)
        or_nothing true = refl
        or_nothing false = refl

new_name : (n : ℕ) (s : Found) → is_marked s.reached n ≡ false → Reaches (n ∷ []) s (record s { reached = n ∷ s.reached; waiting = s.waiting ++ n ∷ [] })
unfolding IsDistinct
new_name n s new = record {
  reached = λ m. swapped (is_marked s.reached m) (nat_eq m n);
  waiting = λ m. list_any-append (nat_eq m) s.waiting (n ∷ []) ∙ waits m (nat_eq m n) refl;
  looked_at = omega (arith, length-append s.waiting (n ∷ []));
  distinct = λ d. (apart s.reached new, d);
}
  where
    apart : (names : List ℕ) → is_marked names n ≡ false → AllByRecursion (λ m. nat_eq n m ≡ false) names
    apart [] e = tt
    apart (m ∷ names) e = by (nat_eq n m) (is_marked names n) refl e (apart names)
      where
        by : (a b : Bool) → nat_eq n m ≡ a → (a || b) ≡ false → (b ≡ false → AllByRecursion (λ k. nat_eq n k ≡ false) names) → (nat_eq n m ≡ false) × AllByRecursion (λ k. nat_eq n k ≡ false) names
        by true b h e rest = absurd (cc)
        by false b h e rest = (h, rest e)

    swapped : (a b : Bool) → (b || a) ≡ (a || (b || false))
    swapped true true = refl
    swapped true false = refl
    swapped false true = refl
    swapped false false = refl

    waits : (m : ℕ) (b : Bool) → nat_eq m n ≡ b → (is_marked s.waiting m || (b || false)) ≡ (is_marked s.waiting m || ((b || false) && not (is_marked s.reached m)))
    waits m true e =
        let apart : is_marked s.reached m ≡ false = subst (λ k. is_marked s.reached k ≡ false) (sym (eqb-true m n e)) new in
        rw apart refl
    waits m false e = refl

name_reaches : (n : ℕ) (s : Found) → Reaches (n ∷ []) s (with_name n s)
name_reaches n s =
    elim (cases_Bool (is_marked s.reached n)) [
      | inl known ↦ rw known (known_name n s known)
      | inr new ↦ rw new (new_name n s new)
    ]

-- names, one after another
abbrev with_names : List ℕ → Found → Found
with_names [] s = s
with_names (n ∷ names) s = with_names names (with_name n s)

reaches_nothing : (s : Found) → Reaches [] s s
reaches_nothing s = record {
  reached = λ m. or_nothing (is_marked s.reached m);
  waiting = λ m. or_nothing (is_marked s.waiting m);
  looked_at = omega arith;
  distinct = λ d. d;
}
  where
    or_nothing : (b : Bool) → b ≡ (b || false)
    or_nothing true = refl
    or_nothing false = refl

names_reach : (names : List ℕ) (s : Found) → Reaches names s (with_names names s)
names_reach [] s = reaches_nothing s
names_reach (n ∷ names) s = reaches_then {names = n ∷ []} {more = names} {s = s} {t = with_name n s} {u = with_names names (with_name n s)} (name_reaches n s) (names_reach names (with_name n s))

name_calls : (n : ℕ) (s : Found) → (with_name n s).called ≡ s.called
name_calls n s =
    elim (cases_Bool (is_marked s.reached n)) [
      | inl known ↦ rw known refl
      | inr new ↦ rw new refl
    ]

names_call : (names : List ℕ) (s : Found) → (with_names names s).called ≡ s.called
names_call [] s = refl
names_call (n ∷ names) s = names_call names (with_name n s) ∙ name_calls n s

no_bodies : (ps : List Procedure) (s : Found) → s.called ≡ [] → KnowsBodies ps s
no_bodies ps s none = record { knows = λ p n called. let e : is_marked [] p ≡ true = ap (λ names. is_marked names p) (sym none) ∙ called in absurd (cc) }

from_behind : (names : List ℕ) → (names ≡ []) ⊎ ((front : List ℕ) × (last : ℕ) × (names ≡ front ++ last ∷ []))
from_behind [] = inl refl
from_behind (n ∷ names) =
    elim (from_behind names) [
      | inl none ↦ inr ([], n, ap (λ ns. n ∷ ns) none)
      | inr parts ↦ inr (n ∷ parts.0, parts.1, ap (λ ns. n ∷ ns) parts.2)
    ]

module _ (g : Graph) (rules : IsGraph g) where
  abbrev Marked : Type 0
  Marked = (marks : List ℕ) × AreReached g marks

  search_on : (fuel : ℕ) (s : Found) → IsSearch g s → s.called ≡ [] → length g.blocks - (length s.reached - length s.waiting) < fuel → Marked
  search_on zero s search none less = absurd (omega (arith, less))
  search_on (suc fuel) s search none less =
      elim (from_behind s.waiting) [
        | inl done ↦ (s.reached, finished g s search done)
        | inr parts ↦
            let rest : Found = record s { waiting = parts.0 } in
            let t = with_names (successors g parts.1) rest in
            let is : s ≡ record rest { waiting = rest.waiting ++ parts.1 ∷ [] } = ap (λ ns. record s { waiting = ns }) parts.2 in
            let more = names_reach (successors g parts.1) rest in
            let still : t.called ≡ [] = names_call (successors g parts.1) rest ∙ none in
            let fewer = fewer_left g s rest t parts.1 is rules search more in
            search_on fuel t (looked_at g s rest t parts.1 is search more (no_bodies g.procedures t still)) still (omega (arith, fewer, less))
      ]

  -- the names of the reached blocks
  pub reached_marks : Marked
  reached_marks =
      let first = with_name g.entry nothing in
      let s = with_names (map word_name g.code_words) first in
      let none : first.called ≡ [] = name_calls g.entry nothing in
      let more : s.called ≡ first.called = names_call (map word_name g.code_words) first in
      search_on (suc (length g.blocks - (length s.reached - length s.waiting))) s
      (started g first s (name_reaches g.entry nothing) none (names_reach (map word_name g.code_words) first) more)
      (more ∙ none) (omega arith)
