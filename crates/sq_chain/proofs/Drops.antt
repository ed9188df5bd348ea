-- How many blocks jump to their next slots, when two pieces of them that follow each other are exchanged.
use Rattle.std.proofs.Common.{◌≡◌, ◌≢◌, ◌⊎◌, ℕ, ◌+◌, ◌≤◌, ◌==◌, List, [], ◌∷◌, ◌++◌, sum_by, Option, None, Some, inl, inr, refl, sym, ap, ◌∙◌, arith}
use Rattle.std.proofs.lemmas.Bool.{cases_Bool, eqb-true, eq-eqb}
use Rattle.std.proofs.lemmas.List.Sums.{sum_by-cons}
use Rattle.sq_arena.specs.Entries.{first_key, last_key}
use Rattle.sq_graph.specs.declared.item.Term.{Term}
use Rattle.sq_graph.specs.declared.item.Term.TheVariants.{Fall, Jump, Branch, Call, PartJump, Indirect, Stop}
use Rattle.sq_graph.specs.Graph.{Block}
use Rattle.sq_graph.specs.Blocks.{named}
use Rattle.sq_graph.specs.Words.{term_words, block_words}
use Rattle.sq_chain.specs.Moves.{JumpsTo, fallen_term, fallen_blocks}
use Rattle.sq_chain.specs.Tests.{drop_of}

drop_none : (t : Term) → drop_of t None ≡ 0
drop_none Fall = refl
drop_none (Jump to) = refl
drop_none (Branch cond a b to) = refl
drop_none (Call link to) = refl
drop_none (PartJump link part to) = refl
drop_none (Indirect link x offset) = refl
drop_none (Stop word) = refl

pub drop_one : (to : ℕ) → drop_of (Jump to) (Some to) ≡ 1
drop_one to = rw (eq-eqb to to refl) refl

pub drop_zero : (t : Term) (o : Option ℕ) → ¬ JumpsTo t o → drop_of t o ≡ 0
drop_zero t None other = drop_none t
drop_zero Fall (Some n) other = refl
drop_zero (Jump to) (Some n) other =
    elim (cases_Bool (to == n)) [
      | inl same ↦ absurd (other (record { to = to; jump = refl; slot = ap Some (sym (eqb-true to n same)) }))
      | inr apart ↦ rw apart refl
    ]
drop_zero (Branch cond a b to) (Some n) other = refl
drop_zero (Call link to) (Some n) other = refl
drop_zero (PartJump link part to) (Some n) other = refl
drop_zero (Indirect link x offset) (Some n) other = refl
drop_zero (Stop word) (Some n) other = refl

pub drop_yes : (t : Term) (o : Option ℕ) → JumpsTo t o → drop_of t o ≡ 1
drop_yes t o j = ap (λ u. drop_of u o) j.jump ∙ ap (drop_of (Jump j.to)) j.slot ∙ drop_one j.to

pub drop_most : (t : Term) (o : Option ℕ) → drop_of t o ≤ 1
drop_most t None = omega (arith, drop_none t)
drop_most Fall (Some n) = omega arith
drop_most (Jump to) (Some n) = elim (cases_Bool (to == n)) [ inl same ↦ rw same (omega arith) | inr apart ↦ rw apart (omega arith) ]
drop_most (Branch cond a b to) (Some n) = omega arith
drop_most (Call link to) (Some n) = omega arith
drop_most (PartJump link part to) (Some n) = omega arith
drop_most (Indirect link x offset) (Some n) = omega arith
drop_most (Stop word) (Some n) = omega arith

pub drop_words : (t : Term) (n : ℕ) → term_words t ≡ term_words (fallen_term n t) + drop_of t (Some n)
drop_words Fall n = refl
drop_words (Jump to) n = elim (cases_Bool (to == n)) [ inl same ↦ rw same refl | inr apart ↦ rw apart refl ]
drop_words (Branch cond a b to) n = refl
drop_words (Call link to) n = refl
drop_words (PartJump link part to) n = refl
drop_words (Indirect link x offset) n = refl
drop_words (Stop word) n = refl

-- the name in the slot behind, where this one is behind these
abbrev pub next_or : List (ℕ × Block) → Option ℕ → Option ℕ
next_or [] o = o
next_or (e ∷ es) o = Some e.0

pub next_first : (es : List (ℕ × Block)) → next_or es None ≡ first_key es
next_first [] = refl
next_first (e ∷ es) = refl

-- whatever is further behind
pub next_either : (es xs ys : List (ℕ × Block)) → (es ≡ []) ⊎ (next_or (es ++ xs) None ≡ first_key (es ++ ys))
next_either [] xs ys = inl refl
next_either (e ∷ es) xs ys = inr refl

-- how many of these blocks jump to their next slots
abbrev pub drops : List (ℕ × Block) → Option ℕ → ℕ
drops [] o = 0
drops (e ∷ es) o = drop_of e.1.term (next_or es o) + drops es o

pub drops_words : (bs : List Block) → sum_by block_words bs ≡ sum_by block_words (fallen_blocks bs) + drops (named bs) None
drops_words [] = omega arith
drops_words (b ∷ []) = omega (arith, drop_none b.term)
drops_words (b ∷ next ∷ rest) =
    omega (
      arith,
      drops_words (next ∷ rest),
      drop_words b.term next.name,
      sum_by-cons block_words b (next ∷ rest),
      sum_by-cons block_words (record b { term = fallen_term next.name b.term }) (fallen_blocks (next ∷ rest)),
    )

pub drops_append : (xs ys : List (ℕ × Block)) (o : Option ℕ) → drops (xs ++ ys) o ≡ drops xs (next_or ys o) + drops ys o
drops_append [] ys o = omega arith
drops_append (e ∷ []) ys o = omega arith
drops_append (e ∷ f ∷ xs) ys o = omega (arith, drops_append (f ∷ xs) ys o)

-- whether the last of them does
abbrev pub last_drop : List (ℕ × Block) → Option ℕ → ℕ
last_drop [] o = 0
last_drop (e ∷ []) o = drop_of e.1.term o
last_drop (e ∷ f ∷ es) o = last_drop (f ∷ es) o

drops_last : (xs : List (ℕ × Block)) (o p : Option ℕ) → drops xs o ≤ drops xs p + last_drop xs o
drops_last [] o p = omega arith
drops_last (e ∷ []) o p = omega arith
drops_last (e ∷ f ∷ xs) o p = omega (arith, drops_last (f ∷ xs) o p)

last_least : (xs : List (ℕ × Block)) (o : Option ℕ) → last_drop xs o ≤ drops xs o
last_least [] o = omega arith
last_least (e ∷ []) o = omega arith
last_least (e ∷ f ∷ xs) o = omega (arith, last_least (f ∷ xs) o)

pub last_at : (xs : List (ℕ × Block)) (e : ℕ × Block) (o : Option ℕ) → last_drop (xs ++ e ∷ []) o ≡ drop_of e.1.term o
last_at [] e o = refl
last_at (x ∷ []) e o = refl
last_at (x ∷ y ∷ xs) e o = last_at (y ∷ xs) e o

pub last_behind : (xs ys : List (ℕ × Block)) (o : Option ℕ) → ys ≢ [] → last_drop ys o ≡ last_drop (xs ++ ys) o
last_behind [] ys o some = refl
last_behind (e ∷ []) [] o some = absurd (some refl)
last_behind (e ∷ []) (y ∷ ys) o some = refl
last_behind (e ∷ f ∷ xs) ys o some = last_behind (f ∷ xs) ys o some

-- the last of them
pub record IsLast (xs : List (ℕ × Block)) (n : ℕ) : Type 0 where
  pub lead : List (ℕ × Block)
  pub block : Block
  pub is : xs ≡ lead ++ (n, block) ∷ []

pub last_is : (xs : List (ℕ × Block)) (n : ℕ) → last_key xs ≡ Some n → IsLast xs n
last_is [] n e = absurd (cc)
last_is (x ∷ []) n e =
    let same : x.0 ≡ n = cc in
    record { lead = []; block = x.1; is = ap (λ (k : ℕ). (k, x.1) ∷ []) same }
last_is (x ∷ y ∷ xs) n e =
    let later = last_is (y ∷ xs) n e in
    record { lead = x ∷ later.lead; block = later.block; is = ap (λ (es : List (ℕ × Block)). x ∷ es) later.is }

pub last_none : (xs : List (ℕ × Block)) (o : Option ℕ) → last_key xs ≡ None → last_drop xs o ≡ 0
last_none [] o e = refl
last_none (x ∷ []) o e = absurd (cc)
last_none (x ∷ y ∷ xs) o e = last_none (y ∷ xs) o e

-- THE EXCHANGE

module _ (X Y Z W : List (ℕ × Block)) (none : drops (X ++ (Y ++ (Z ++ W))) None ≡ 0) where
  -- the last of the first piece doesn't jump to the next slot before
  pub first_drop : last_drop X (next_or (Y ++ (Z ++ W)) None) ≡ 0
  first_drop = omega (arith, none, drops_append X (Y ++ (Z ++ W)) None, last_least X (next_or (Y ++ (Z ++ W)) None))
