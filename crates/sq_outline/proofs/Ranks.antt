-- The numbers of procedures among those that stay, when one more goes.
use Rattle.std.proofs.Common.{◌≡◌, ◌≢◌, ◌≤◌, ◌<◌, ℕ, zero, suc, ◌+◌, nat_lt, true, false, if◌then◌else◌, List, [], ◌∷◌, length, take, get_or, slice_set, Some, inl, inr, refl, sym, ap, ◌∙◌, arith}
use Rattle.std.specs.Prelude.{replicate}
use Rattle.std.specs.List.{slice_get, remove}
use Rattle.std.proofs.lemmas.Bool.{cases_Bool, ltb-true, ltb-false, lt-ltb, le-ltb}
use Rattle.std.proofs.lemmas.List.Sums.{sum_by-cons}
use Rattle.sq_graph.specs.declared.fates.Fate.{Fate}
use Rattle.sq_graph.specs.declared.fates.Fate.TheVariants.{Stays, Joins}
use Rattle.sq_graph.specs.Fates.{stays, number_among, staying}
use Rattle.sq_graph.specs.Graph.{Procedure}
use Rattle.sq_graph.specs.Renames.{lowered}

abbrev pub one_if_stays : Fate → ℕ
one_if_stays f = if stays f then 1 else 0

number_cons : (f : Fate) (fs : List Fate) (q : ℕ) → number_among (f ∷ fs) (suc q) ≡ one_if_stays f + number_among fs q
number_cons f fs q = sum_by-cons one_if_stays f (take q fs)

stays_one : (f g : Fate) → Some f ≡ Some g → stays g ≡ true → one_if_stays f ≡ 1
stays_one f g same stay = let e : f ≡ g = cc in rw e (rw stay refl)

goes_none : (f : Fate) → stays f ≡ false → one_if_stays f ≡ 0
goes_none f go = rw go refl

-- READS AND WRITES OF FATES

pub fate_got : (fates : List Fate) (q : ℕ) → q < length fates → slice_get fates q ≡ Some (get_or fates q Stays)
fate_got [] q inside = absurd (omega (arith, inside))
fate_got (f ∷ fates) zero inside = refl
fate_got (f ∷ fates) (suc q) inside = fate_got fates q (omega (arith, inside))

pub got_fate : (fates : List Fate) (q : ℕ) (f : Fate) → slice_get fates q ≡ Some f → get_or fates q Stays ≡ f
got_fate [] q f is = absurd (cc)
got_fate (x ∷ fates) zero f is = cc
got_fate (x ∷ fates) (suc q) f is = got_fate fates q f is

pub joins_inside : (fates : List Fate) (q o : ℕ) → get_or fates q Stays ≡ Joins o → slice_get fates q ≡ Some (Joins o)
joins_inside [] q o is = absurd (cc)
joins_inside (x ∷ fates) zero o is = ap (λ f. Some f) is
joins_inside (x ∷ fates) (suc q) o is = joins_inside fates q o is

pub set_here : (fates : List Fate) (p : ℕ) (f : Fate) → p < length fates → get_or (slice_set fates p f) p Stays ≡ f
set_here [] p f inside = absurd (omega (arith, inside))
set_here (x ∷ fates) zero f inside = refl
set_here (x ∷ fates) (suc p) f inside = set_here fates p f (omega (arith, inside))

pub set_apart : (fates : List Fate) (p q : ℕ) (f : Fate) → q ≢ p → slice_get (slice_set fates p f) q ≡ slice_get fates q
set_apart [] p q f apart = refl
set_apart (x ∷ fates) zero zero f apart = absurd (apart refl)
set_apart (x ∷ fates) zero (suc q) f apart = refl
set_apart (x ∷ fates) (suc p) zero f apart = refl
set_apart (x ∷ fates) (suc p) (suc q) f apart = set_apart fates p q f (λ same. apart (ap suc same))

pub got_apart : (fates : List Fate) (p q : ℕ) (f : Fate) → q ≢ p → get_or (slice_set fates p f) q Stays ≡ get_or fates q Stays
got_apart [] p q f apart = refl
got_apart (x ∷ fates) zero zero f apart = absurd (apart refl)
got_apart (x ∷ fates) zero (suc q) f apart = refl
got_apart (x ∷ fates) (suc p) zero f apart = refl
got_apart (x ∷ fates) (suc p) (suc q) f apart = got_apart fates p q f (λ same. apart (ap suc same))

pub length_set : (fates : List Fate) (p : ℕ) (f : Fate) → length (slice_set fates p f) ≡ length fates
length_set [] p f = refl
length_set (x ∷ fates) zero f = refl
length_set (x ∷ fates) (suc p) f = ap suc (length_set fates p f)

-- NUMBERS

ahead_same : (fates : List Fate) (p q : ℕ) (f : Fate) → q ≤ p → number_among (slice_set fates p f) q ≡ number_among fates q
ahead_same [] p q f before = refl
ahead_same (x ∷ fates) p zero f before = refl
ahead_same (x ∷ fates) zero (suc q) f before = absurd (omega (arith, before))
ahead_same (x ∷ fates) (suc p) (suc q) f before =
    omega (arith, number_cons x fates q, number_cons x (slice_set fates p f) q, ahead_same fates p q f (omega (arith, before)))

behind_fewer : (fates : List Fate) (p q : ℕ) (f : Fate) → slice_get fates p ≡ Some Stays → stays f ≡ false → p < q → number_among (slice_set fates p f) q + 1 ≡ number_among fates q
behind_fewer [] p q f here go later = absurd (cc)
behind_fewer (x ∷ fates) p zero f here go later = absurd (omega (arith, later))
behind_fewer (x ∷ fates) zero (suc q) f here go later =
    omega (arith, number_cons x fates q, number_cons f fates q, stays_one x Stays here refl, goes_none f go)
behind_fewer (x ∷ fates) (suc p) (suc q) f here go later =
    omega (arith, number_cons x fates q, number_cons x (slice_set fates p f) q, behind_fewer fates p q f here go (omega (arith, later)))

number_none : (q : ℕ) → number_among [] q ≡ 0
number_none zero = refl
number_none (suc q) = refl

number_grows : (fates : List Fate) (q p : ℕ) → q ≤ p → number_among fates q ≤ number_among fates p
number_grows [] q p before = omega (arith, number_none q)
number_grows (x ∷ fates) zero p before = omega arith
number_grows (x ∷ fates) (suc q) zero before = absurd (omega (arith, before))
number_grows (x ∷ fates) (suc q) (suc p) before = omega (arith, number_cons x fates q, number_cons x fates p, number_grows fates q p (omega (arith, before)))

number_above : (fates : List Fate) (p q : ℕ) → slice_get fates p ≡ Some Stays → p < q → number_among fates p + 1 ≤ number_among fates q
number_above [] p q here later = absurd (cc)
number_above (x ∷ fates) p zero here later = absurd (omega (arith, later))
number_above (x ∷ fates) zero (suc q) here later = omega (arith, number_cons x fates q, stays_one x Stays here refl)
number_above (x ∷ fates) (suc p) (suc q) here later =
    omega (arith, number_cons x fates q, number_cons x fates p, number_above fates p q here (omega (arith, later)))

-- one that goes lowers the numbers behind it
pub number_lowered : (fates : List Fate) (p q : ℕ) (f : Fate) → slice_get fates p ≡ Some Stays → stays f ≡ false → q ≢ p → lowered (number_among fates p) (number_among fates q) ≡ number_among (slice_set fates p f) q
number_lowered fates p q f here go apart =
    elim (cases_Bool (nat_lt p q)) [
      | inl later ↦
          let after = ltb-true p q later in
          rw (lt-ltb (number_among fates p) (number_among fates q) (omega (arith, number_above fates p q here after)))
          (omega (arith, behind_fewer fates p q f here go after))
      | inr other ↦
          let before = ltb-false p q other in
          rw (le-ltb (number_among fates p) (number_among fates q) (number_grows fates q p before))
          (sym (ahead_same fates p q f before))
    ]

-- two that stay have two numbers
pub numbers_apart : (fates : List Fate) (p q : ℕ) → slice_get fates p ≡ Some Stays → get_or fates q Stays ≡ Stays → p < length fates → q ≢ p → number_among fates q ≢ number_among fates p
numbers_apart fates p q here stay inside apart same =
    elim (cases_Bool (nat_lt p q)) [
      | inl later ↦ absurd (let after = ltb-true p q later in omega (arith, number_above fates p q here after, same))
      | inr other ↦
          absurd (
          let before = ltb-false p q other in
          let mine : slice_get fates q ≡ Some Stays = fate_got fates q (omega (arith, before, inside)) ∙ ap (λ f. Some f) stay in
          omega (arith, number_above fates q p mine (omega (arith, before, apart)), same)
          )
    ]

-- THOSE THAT STAY

pub staying_at : (fates : List Fate) (ps : List Procedure) (q : ℕ) → slice_get fates q ≡ Some Stays → length fates ≡ length ps → slice_get (staying fates ps) (number_among fates q) ≡ slice_get ps q
staying_at [] ps q here many = absurd (cc)
staying_at (x ∷ fates) [] q here many = absurd (omega (arith, many))
staying_at (x ∷ fates) (p ∷ ps) zero here many = let is : x ≡ Stays = cc in rw is refl
staying_at (x ∷ fates) (p ∷ ps) (suc q) here many =
    let rest = staying_at fates ps q here (omega (arith, many)) in
    elim (cases_Bool (stays x)) [
      | inl stay ↦
          let next : number_among (x ∷ fates) (suc q) ≡ suc (number_among fates q) = let one : one_if_stays x ≡ 1 = rw stay refl in omega (arith, number_cons x fates q, one) in
          rw stay (ap (λ n. slice_get (p ∷ staying fates ps) n) next ∙ rest)
      | inr go ↦
          let next : number_among (x ∷ fates) (suc q) ≡ number_among fates q = omega (arith, number_cons x fates q, goes_none x go) in
          rw go (ap (λ n. slice_get (staying fates ps) n) next ∙ rest)
    ]

pub staying_set : (fates : List Fate) (ps : List Procedure) (q : ℕ) (f : Fate) → slice_get fates q ≡ Some Stays → stays f ≡ false → length fates ≡ length ps → remove (staying fates ps) (number_among fates q) ≡ staying (slice_set fates q f) ps
staying_set [] ps q f here go many = absurd (cc)
staying_set (x ∷ fates) [] q f here go many = absurd (omega (arith, many))
staying_set (x ∷ fates) (p ∷ ps) zero f here go many = let is : x ≡ Stays = cc in rw (is, go) refl
staying_set (x ∷ fates) (p ∷ ps) (suc q) f here go many =
    let rest = staying_set fates ps q f here go (omega (arith, many)) in
    elim (cases_Bool (stays x)) [
      | inl stay ↦
          let next : number_among (x ∷ fates) (suc q) ≡ suc (number_among fates q) = let one : one_if_stays x ≡ 1 = rw stay refl in omega (arith, number_cons x fates q, one) in
          rw stay (ap (λ n. remove (p ∷ staying fates ps) n) next ∙ ap (λ qs. p ∷ qs) rest)
      | inr leave ↦
          let next : number_among (x ∷ fates) (suc q) ≡ number_among fates q = omega (arith, number_cons x fates q, goes_none x leave) in
          rw leave (ap (λ n. remove (staying fates ps) n) next ∙ rest)
    ]

-- WHERE ALL STAY

pub number_of_all : (n q : ℕ) → q ≤ n → number_among (replicate n Stays) q ≡ q
number_of_all n zero inside = refl
number_of_all zero (suc q) inside = absurd (omega (arith, inside))
number_of_all (suc n) (suc q) inside =
    omega (arith, number_cons Stays (replicate n Stays) q, number_of_all n q (omega (arith, inside)))

pub all_staying : (ps : List Procedure) → staying (replicate (length ps) Stays) ps ≡ ps
all_staying [] = refl
all_staying (p ∷ ps) = ap (λ qs. p ∷ qs) (all_staying ps)

pub all_stay : (n q : ℕ) → q < n → slice_get (replicate n Stays) q ≡ Some Stays
all_stay zero q below = absurd (omega (arith, below))
all_stay (suc n) zero below = refl
all_stay (suc n) (suc q) below = all_stay n q (omega (arith, below))

pub none_joins : (n q o : ℕ) → ¬ (slice_get (replicate n Stays) q ≡ Some (Joins o))
none_joins zero q o is = cc
none_joins (suc n) zero o is = cc
none_joins (suc n) (suc q) o is = none_joins n q o is
