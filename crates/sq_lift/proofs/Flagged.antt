-- One flag more.
use Rattle.std.proofs.Common.{cond, get_or, ◌≡◌, ℕ, zero, suc, ◌+◌, ◌*◌, ◌<◌, ◌≤◌, Bool, true, false, not, ◌==◌, List, [], ◌∷◌, length, Option, Some, None, refl, sym, ap, ◌∙◌, arith}
use Rattle.std.specs.Prelude.{slice_get, slice_set, count_by, replicate}
use Rattle.std.specs.Option.{option_and_then, unwrap_or, is_some}
use Rattle.std.proofs.lemmas.Bool.{eqb-false}
use Rattle.std.proofs.lemmas.List.Sums.{sum_by-set}
use Rattle.std.proofs.lemmas.Option.{get_or_from_slice_get, slice_get_within}
use Rattle.law_program.specs.Programs.{Text, is_word}
use Rattle.sq_lift.specs.Places.{place_of}
use Rattle.sq_lift.specs.Flags.{Flags, flag_at, has_word, is_flagged, is_unflagged, with_flag}
use Rattle.sq_lift.specs.Search.{unflagged_count}
use Rattle.sq_lift.proofs.Placed.{place_is, word_by_place, past, behind}

-- a flag that is set, where it was not
set_same : (flags : List Bool) (k : ℕ) → slice_get flags k ≡ Some false → slice_get (slice_set flags k true) k ≡ Some true
set_same [] k e = absurd (cc)
set_same (b ∷ flags) zero e = refl
set_same (b ∷ flags) (suc k) e = set_same flags k e

set_other : (flags : List Bool) (k j : ℕ) → (j ≡ k → ⊥) → slice_get (slice_set flags k true) j ≡ slice_get flags j
set_other [] k j apart = refl
set_other (b ∷ flags) zero zero apart = absurd (apart refl)
set_other (b ∷ flags) zero (suc j) apart = refl
set_other (b ∷ flags) (suc k) zero apart = refl
set_other (b ∷ flags) (suc k) (suc j) apart = set_other flags k j (λ e. apart (ap suc e))

one_less : (flags : List Bool) (k : ℕ) → slice_get flags k ≡ Some false → count_by not (slice_set flags k true) + 1 ≡ count_by not flags
one_less flags k e =
    let was : get_or flags k true ≡ false = get_or_from_slice_get flags k false true e in
    let moved = sum_by-set (λ b. cond (not b) 1 0) flags k true true (slice_get_within flags k false e) in
    let counted = rw was at moved in
    omega (arith, counted)

-- where the word at `a` stands, whose flag is not set
place_found : (f : Flags) (a : ℕ) (p : Option ℕ) → place_of f.lo a ≡ p → not (unwrap_or (option_and_then (slice_get f.flags) p) true) ≡ true → (k : ℕ) × (place_of f.lo a ≡ Some k) × (slice_get f.flags k ≡ Some false)
place_found f a None is new = absurd (cc)
place_found f a (Some k) is new = (k, is, false_there (slice_get f.flags k) new)
  where
    false_there : (o : Option Bool) → not (unwrap_or o true) ≡ true → o ≡ Some false
    false_there None n = absurd (cc)
    false_there (Some true) n = absurd (cc)
    false_there (Some false) n = refl

-- one word has a flag that had none
pub record IsOneMore (f g : Flags) (a : ℕ) : Type 0 where
  pub here : flag_at f a ≡ Some false
  pub now : flag_at g a ≡ Some true
  pub others : (x : ℕ) → (x == a) ≡ false → flag_at g x ≡ flag_at f x
  pub count : unflagged_count g + 1 ≡ unflagged_count f

pub one_more : (f : Flags) (a : ℕ) → is_unflagged f a ≡ true → IsOneMore f (with_flag f a) a
unfolding flag_at
one_more f a new = record {
  here = rw found.1 found.2;
  now = rw found.1 (set_same f.flags found.0 found.2);
  others = λ x apart. rw found.1 (other x apart (place_of f.lo x) refl);
  count = rw found.1 (one_less f.flags found.0 found.2);
}
  where
    found : (k : ℕ) × (place_of f.lo a ≡ Some k) × (slice_get f.flags k ≡ Some false)
    found = place_found f a (place_of f.lo a) refl new

    other : (x : ℕ) → (x == a) ≡ false → (p : Option ℕ) → place_of f.lo x ≡ p → option_and_then (slice_get (slice_set f.flags found.0 true)) p ≡ option_and_then (slice_get f.flags) p
    other x apart None is = refl
    other x apart (Some j) is =
        set_other f.flags found.0 j (λ e. let same : x ≡ a = omega (arith, place_is f.lo x j is, place_is f.lo a found.0 found.1, e) in eqb-false x a apart same)

-- flags of all words of text, none of which is set
get_none : {A : Type 0} (words : List A) (k : ℕ) → is_some (slice_get (replicate (length words) false) k) ≡ is_some (slice_get words k)
get_none [] k = refl
get_none (w ∷ words) zero = refl
get_none (w ∷ words) (suc k) = get_none words k

unset : {A : Type 0} (words : List A) (k : ℕ) → unwrap_or (slice_get (replicate (length words) false) k) false ≡ false
unset [] k = refl
unset (w ∷ words) zero = refl
unset (w ∷ words) (suc k) = unset words k

abbrev pub no_flags : Text → Flags
no_flags t = record { lo = t.lo; flags = replicate (length t.words) false }

has_by_place : (t : Text) (p : Option ℕ) → is_some (option_and_then (slice_get (replicate (length t.words) false)) p) ≡ is_some (option_and_then (slice_get t.words) p)
has_by_place t None = refl
has_by_place t (Some k) = get_none t.words k

pub same_words : (t : Text) (x : ℕ) → has_word (no_flags t) x ≡ is_word t x
unfolding flag_at
same_words t x = has_by_place t (place_of t.lo x) ∙ ap is_some (sym (word_by_place t x))

unset_by_place : (t : Text) (p : Option ℕ) → unwrap_or (option_and_then (slice_get (replicate (length t.words) false)) p) false ≡ false
unset_by_place t None = refl
unset_by_place t (Some k) = unset t.words k

pub none_flagged : (t : Text) (x : ℕ) → is_flagged (no_flags t) x ≡ false
unfolding flag_at
none_flagged t x = unset_by_place t (place_of t.lo x)

-- behind a word that isn't the last there is one
pub flag_behind : (f : Flags) (x : ℕ) → has_word f x ≡ true → x + 4 < f.lo + 4 * length f.flags → has_word f (x + 4) ≡ true
unfolding flag_at
flag_behind f x here more = behind f.flags f.lo x (place_of f.lo x) refl here more

-- past the last word there is none
pub none_past : (f : Flags) (x : ℕ) → f.lo + 4 * length f.flags ≤ x → has_word f x ≡ false
unfolding flag_at
none_past f x far = by_place (place_of f.lo x) refl
  where
    by_place : (p : Option ℕ) → place_of f.lo x ≡ p → is_some (option_and_then (slice_get f.flags) p) ≡ false
    by_place None is = refl
    by_place (Some k) is = rw (past f.flags k (omega (arith, place_is f.lo x k is, far))) refl
