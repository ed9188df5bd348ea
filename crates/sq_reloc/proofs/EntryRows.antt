-- A row whose places are entries.
use Rattle.std.proofs.Common.{◌≡◌, ℕ, zero, suc, ◌+◌, Bool, true, false, if◌then◌else◌, List, [], ◌∷◌, length, Option, Some, None, refl, sym, ap, ◌∙◌, arith}
use Rattle.std.specs.Option.{option_map}
use Rattle.std.specs.List.{find}
use Rattle.sq_num.specs.declared.refusal.Refusal.{Refusal}
use Rattle.sq_num.specs.Refusals.{Row, first_from, refused_at, first_refusal}
use Rattle.sq_reloc.specs.declared.entry.Entry.{Entry}
use Rattle.sq_reloc.specs.Refusing.{nth_entry, first_entry, entry_row}

-- the refusal of an entry, or else the later one
abbrev refused_by : (Entry → Refusal) → Option Entry → Option Refusal → Option Refusal
refused_by refusal None later = later
refused_by refusal (Some e) later = Some (refusal e)

by_place : (entries : List Entry) (refusal : Entry → Refusal) (place : Option ℕ) (later : Option Refusal) → refused_at (λ k. refusal (nth_entry entries k)) place later ≡ refused_by refusal (option_map (nth_entry entries) place) later
by_place entries refusal None later = refl
by_place entries refusal (Some k) later = refl

module _ (entries : List Entry) (fails : Entry → Bool) (refusal : Entry → Refusal) (rows : List Row) where
  by_entry : (found : Option Entry) → found ≡ first_entry entries fails → first_refusal (entry_row entries fails refusal ∷ rows) ≡ refused_by refusal found (first_refusal rows)
  by_entry found is =
      by_place entries refusal (first_from (λ k. fails (nth_entry entries k)) 0 (length entries)) (first_refusal rows)
      ∙ ap (λ e. refused_by refusal e (first_refusal rows)) (sym is)

  -- the first entry that fails gives the refusal
  pub entry_here : (e : Entry) → Some e ≡ first_entry entries fails → Some (refusal e) ≡ first_refusal (entry_row entries fails refusal ∷ rows)
  entry_here e is = sym (by_entry (Some e) is)

  -- where none fails, the rows behind do
  pub entry_later : None ≡ first_entry entries fails → first_refusal rows ≡ first_refusal (entry_row entries fails refusal ∷ rows)
  entry_later is = sym (by_entry None is)

-- the first entry that fails is the first that the test finds
behind_one : (fails : ℕ → Bool) (at next n : ℕ) → next ≡ suc at → first_from fails next n ≡ option_map suc (first_from (λ k. fails (suc k)) at n)
unfolding first_from
behind_one fails at next zero is = refl
behind_one fails at next (suc n) is = by_test (fails next) (fails (suc at)) (ap fails is) (behind_one fails (at + 1) (next + 1) n (omega (arith, is)))
  where
    by_test : (there here : Bool) → there ≡ here → first_from fails (next + 1) n ≡ option_map suc (first_from (λ k. fails (suc k)) (at + 1) n) → (if there then Some next else first_from fails (next + 1) n) ≡ option_map suc (if here then Some at else first_from (λ k. fails (suc k)) (at + 1) n)
    by_test true true same rest = ap Some is
    by_test true false same rest = absurd (cc same)
    by_test false true same rest = absurd (cc same)
    by_test false false same rest = rest

one_behind : (x : Entry) (xs : List Entry) (place : Option ℕ) → option_map (nth_entry (x ∷ xs)) (option_map suc place) ≡ option_map (nth_entry xs) place
one_behind x xs None = refl
one_behind x xs (Some place) = refl

pub found_first : (fails : Entry → Bool) (entries : List Entry) → find fails entries ≡ first_entry entries fails
unfolding first_from
found_first fails [] = refl
found_first fails (x ∷ xs) = by_test (fails x) (found_first fails xs)
  where
    by_test : (here : Bool) → find fails xs ≡ first_entry xs fails → (if here then Some x else find fails xs) ≡ option_map (nth_entry (x ∷ xs)) (if here then Some 0 else first_from (λ place. fails (nth_entry (x ∷ xs) place)) 1 (length xs))
    by_test true rest = refl
    by_test false rest =
        rest ∙ sym (one_behind x xs (first_from (λ place. fails (nth_entry xs place)) 0 (length xs)))
        ∙ ap (option_map (nth_entry (x ∷ xs))) (sym (behind_one (λ place. fails (nth_entry (x ∷ xs) place)) 0 1 (length xs) refl))
