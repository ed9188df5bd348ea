-- The Branches of the least set, found one after another: each that is missed is in it, and where none is missed they are all.
use Rattle.std.proofs.Common.{◌≡◌, ◌⊎◌, ℕ, ◌+◌, ◌≤◌, ◌<◌, ◌==◌, Bool, true, false, not, ◌&&◌, ◌||◌, List, [], ◌∷◌, Option, None, Some, IsSome, inl, inr, refl, sym, ap, ◌∙◌, subst, arith}
use Rattle.std.proofs.lemmas.Bool.{cases_Bool, eqb-true, eq-eqb, not-true, and_parts, or_cases, or_left, or_right, both_ways}
use Rattle.sq_arena.specs.Entries.{HasDistinctKeys, value_of}
use Rattle.sq_arena.proofs.EntriesLaws.{distinct_back}
use Rattle.sq_graph.specs.declared.item.Term.{Term}
use Rattle.sq_graph.specs.declared.item.Term.TheVariants.{Fall, Jump, Branch, Call, PartJump, Indirect, Stop}
use Rattle.sq_graph.specs.Graph.{Block, Graph}
use Rattle.sq_graph.specs.Blocks.{named, HasBlock, term_of}
use Rattle.sq_graph.specs.Places.{IsInReach}
use Rattle.sq_graph.specs.Rules.{IsGraph}
use Rattle.sq_graph.specs.Words.{block_words, words_of}
use Rattle.sq_graph.proofs.Kept.{absent_behind}
use Rattle.sq_lookup.proofs.Targets.{has_term}
use Rattle.sq_chain.specs.Around.{NoneMissed}
use Rattle.sq_chain.specs.Bare.{is_it}
use Rattle.sq_chain.specs.Least.{stands_at, is_short, falls_short, least, least_widened}
use Rattle.sq_chain.specs.Settled.{is_wide, with_one, wide_with, one_if, wide_size, AreWide, swollen_to, is_short_by, is_missed, IsSettled, IsLeastWide}
use Rattle.sq_chain.specs.Widening.{EndsInBranch, IsValid, IsWithin, fresh}
use Rattle.sq_chain.specs.declared.shift.Shift.{Shift}
use Rattle.sq_chain.specs.declared.shift.Wide.{Wide}
use Rattle.sq_chain.proofs.Lighter.{none_widened}
use Rattle.sq_chain.proofs.Near.{are_branches, widened_near}
use Rattle.sq_chain.proofs.Over.{widened_words}
use Rattle.sq_chain.proofs.Rounds.{IsClosed, closed_valid, count_of, count_yes, count_no, count_more, least_is_least}
use Rattle.sq_chain.proofs.Shortness.{grown_within}

-- HOW MANY

-- one name is counted once
count_it : (m : ℕ) (bs : List Block) → HasDistinctKeys (named bs) → IsSome (value_of (named bs) m) → count_of (is_it (Some m)) bs ≡ 1
count_it m [] distinct some = absurd (cc)
count_it m (b ∷ bs) distinct some =
    elim (cases_Bool (b.name == m)) [
      | inl here ↦
          let turned : (m == b.name) ≡ true = eq-eqb m b.name (sym (eqb-true b.name m here)) in
          let none : value_of (named bs) m ≡ None = subst (λ k. value_of (named bs) k ≡ None) (eqb-true b.name m here) (absent_behind (b.name, b) (named bs) distinct) in
          omega (arith, count_yes (is_it (Some m)) b bs turned, no_count bs none)
      | inr apart ↦
          let turned : (m == b.name) ≡ false = elim (cases_Bool (m == b.name)) [ inl s ↦ absurd (both_ways (b.name == m) apart (eq-eqb b.name m (sym (eqb-true m b.name s)))) | inr a ↦ a ] in
          omega (arith, count_no (is_it (Some m)) b bs turned, count_it m bs (distinct_back ((b.name, b) ∷ []) (named bs) distinct) (rw apart at some))
    ]
  where
    no_count : (cs : List Block) → value_of (named cs) m ≡ None → count_of (is_it (Some m)) cs ≡ 0
    no_count [] none = refl
    no_count (c ∷ cs) none =
        elim (cases_Bool (c.name == m)) [
          | inl here ↦ absurd (cc (rw here at none))
          | inr apart ↦
              let turned : (m == c.name) ≡ false = elim (cases_Bool (m == c.name)) [ inl s ↦ absurd (both_ways (c.name == m) apart (eq-eqb c.name m (sym (eqb-true m c.name s)))) | inr a ↦ a ] in
              omega (arith, count_no (is_it (Some m)) c cs turned, no_count cs (rw apart at none))
        ]

none_counted : (bs : List Block) → count_of (is_it None) bs ≡ 0
none_counted [] = refl
none_counted (b ∷ bs) = omega (arith, none_counted bs, count_no (is_it None) b bs refl)

count_if : (o : Option ℕ) (bs : List Block) → HasDistinctKeys (named bs) → ((m : ℕ) → is_it o m ≡ true → IsSome (value_of (named bs) m)) → count_of (is_it o) bs ≡ one_if o
count_if None bs distinct some = none_counted bs
count_if (Some m) bs distinct some = count_it m bs distinct (some m (eq-eqb m m refl))

-- of two sets that have none in common
count_both : (S T : ℕ → Bool) (bs : List Block) → ((n : ℕ) → S n ≡ true → T n ≡ false) → count_of (λ n. S n || T n) bs ≡ count_of S bs + count_of T bs
count_both S T [] apart = refl
count_both S T (b ∷ bs) apart =
    let later = count_both S T bs apart in
    elim (cases_Bool (S b.name)) [
      | inl one ↦ omega (arith, later, count_yes S b bs one, count_no T b bs (apart b.name one), count_yes (λ n. S n || T n) b bs (or_left (S b.name) (T b.name) one))
      | inr out ↦
          elim (cases_Bool (T b.name)) [
            | inl other ↦ omega (arith, later, count_no S b bs out, count_yes T b bs other, count_yes (λ n. S n || T n) b bs (or_right (S b.name) (T b.name) other))
            | inr none ↦ omega (arith, later, count_no S b bs out, count_no T b bs none, count_no (λ n. S n || T n) b bs (neither (S b.name) (T b.name) out none))
          ]
    ]
  where
    neither : (s t : Bool) → s ≡ false → t ≡ false → (s || t) ≡ false
    neither s t e f = rw (e, f) refl

pub wide_count : (h : Graph) (wide : Wide) → IsGraph h → AreWide h wide → count_of (is_wide wide) h.blocks ≡ wide_size wide
wide_count h wide rules are =
    omega (
      arith,
      count_both (is_it wide.one) (is_it wide.other) h.blocks are.apart,
      count_if wide.one h.blocks rules.distinct (λ m e. there m (or_left (is_it wide.one m) (is_it wide.other m) e)),
      count_if wide.other h.blocks rules.distinct (λ m e. there m (or_right (is_it wide.one m) (is_it wide.other m) e)),
    )
  where
    there : (m : ℕ) → is_wide wide m ≡ true → HasBlock h m
    there m e = let b = are.branches m e in has_term h m (Branch b.cond b.a b.b b.to) b.is

-- what widening the least set costs
least_words : (h : Graph) → IsGraph h → words_of (least_widened h) ≡ words_of h + count_of (least h) h.blocks
least_words h rules =
    let valid = (least_is_least h rules).valid in
    omega (arith, widened_words (λ n. fresh h + n) (least h) h.blocks (are_branches h (least h) rules valid.branches) rules.ends)

-- a Branch that doesn't reach is a Branch
short_branch : (address : ℕ → ℕ) (g : Graph) (n : ℕ) → is_short address g n (term_of g n) ≡ true → EndsInBranch g n
short_branch address g n short = by_term (term_of g n) refl short
  where
    by_term : (o : Option Term) → term_of g n ≡ o → is_short address g n o ≡ true → EndsInBranch g n
    by_term None is f = absurd (cc)
    by_term (Some Fall) is f = absurd (cc)
    by_term (Some (Jump to)) is f = absurd (cc)
    by_term (Some (Branch cond a b to)) is f = record { cond = cond; a = a; b = b; to = to; is = is }
    by_term (Some (Call link to)) is f = absurd (cc)
    by_term (Some (PartJump link part to)) is f = absurd (cc)
    by_term (Some (Indirect link x offset)) is f = absurd (cc)
    by_term (Some (Stop word)) is f = absurd (cc)

pub missed_branch : (g : Graph) (shift : Shift) (wide : Wide) (n : ℕ) → is_missed g shift wide n ≡ true → EndsInBranch g n
missed_branch g shift wide n missed = short_branch (swollen_to (stands_at block_words g) shift wide) g n (and_parts (not (is_wide wide n)) (is_short_by g shift wide n) missed).1

-- SO FAR

-- so many are found
pub record AreFound (g h : Graph) (wide : Wide) (size : ℕ) : Type 0 where
  pub are : AreWide g wide
  pub within : IsWithin (is_wide wide) (least h)
  pub filled : wide.one ≡ None → wide.other ≡ None
  pub few : size ≤ 2 → wide_size wide ≡ size
  pub many : size ≤ count_of (least h) h.blocks

module _ (g h : Graph) (shift : Shift) (s : IsSettled g h shift) where
  pub none_found : AreFound g h (record { one = None; other = None }) 0
  none_found = record {
    are = record { branches = λ n e. absurd (cc); apart = λ n e. absurd (cc) };
    within = λ n e. absurd (cc);
    filled = λ e. refl;
    few = λ e. refl;
    many = omega arith;
  }

  are_there : (wide : Wide) → AreWide g wide → AreWide h wide
  are_there wide are = record { branches = λ n e. s.branches n (are.branches n e); apart = are.apart }

  module _ (wide : Wide) (size : ℕ) (found : AreFound g h wide size) where
    -- ONE MORE

    module _ (n : ℕ) (missed : is_missed g shift wide n ≡ true) where
      new : is_wide wide n ≡ false
      new = not-true (is_wide wide n) (and_parts (not (is_wide wide n)) (is_short_by g shift wide n) missed).0

      short : falls_short h (is_wide wide) n ≡ true
      short = s.short wide found.are n ∙ (and_parts (not (is_wide wide n)) (is_short_by g shift wide n) missed).1

      in_least : least h n ≡ true
      in_least =
          grown_within h (is_wide wide) (least h) s.rules (least_is_least h s.rules).valid found.within n
          (or_right (is_wide wide n) (falls_short h (is_wide wide) n) short)

      more_is : (m : ℕ) → is_wide (wide_with wide n) m ≡ true → (is_wide wide m ≡ true) ⊎ (n ≡ m)
      more_is m e = by_one wide.one e (λ f. or_left (is_it wide.one m) (is_it wide.other m) f)
        where
          by_one : (o : Option ℕ) → is_wide (with_one o n) m ≡ true → (is_it o m ≡ true → is_wide wide m ≡ true) → (is_wide wide m ≡ true) ⊎ (n ≡ m)
          by_one None e old = elim (or_cases (n == m) false e) [ inl here ↦ inr (eqb-true n m here) | inr other ↦ absurd (cc) ]
          by_one (Some k) e old = elim (or_cases (k == m) (n == m) e) [ inl there ↦ inl (old there) | inr here ↦ inr (eqb-true n m here) ]

      more_apart : (m : ℕ) → is_it (wide_with wide n).one m ≡ true → is_it (wide_with wide n).other m ≡ false
      more_apart m = by_one wide.one (λ f. or_left (is_it wide.one m) (is_it wide.other m) f)
        where
          by_one : (o : Option ℕ) → (is_it o m ≡ true → is_wide wide m ≡ true) → is_it (with_one o n).one m ≡ true → is_it (with_one o n).other m ≡ false
          by_one None old e = refl
          by_one (Some k) old e =
              elim (cases_Bool (n == m)) [
                | inl here ↦ absurd (both_ways (is_wide wide m) (subst (λ j. is_wide wide j ≡ false) (eqb-true n m here) new) (old e))
                | inr apart ↦ apart
              ]

      more_size : size + 1 ≤ 2 → wide_size (wide_with wide n) ≡ size + 1
      more_size less = by_one wide.one refl wide.other refl
        where
          by_one : (o : Option ℕ) → wide.one ≡ o → (p : Option ℕ) → wide.other ≡ p → wide_size (with_one o n) ≡ size + 1
          by_one None is (Some q) other = absurd (let none = found.filled is in cc)
          by_one None is None other = omega (arith, found.few (omega (arith, less)), ap one_if is, ap one_if other)
          by_one (Some k) is None other = omega (arith, found.few (omega (arith, less)), ap one_if is, ap one_if other)
          by_one (Some k) is (Some q) other = absurd (omega (arith, less, found.few (omega (arith, less)), ap one_if is, ap one_if other))

      pub more_found : size ≤ 2 → AreFound g h (wide_with wide n) (size + 1)
      more_found little = record {
        are = record {
          branches = λ m e. elim (more_is m e) [ inl old ↦ found.are.branches m old | inr same ↦ subst (EndsInBranch g) same (missed_branch g shift wide n missed) ];
          apart = more_apart;
        };
        within = λ m e. elim (more_is m e) [ inl old ↦ found.within m old | inr same ↦ subst (λ j. least h j ≡ true) same in_least ];
        filled = filled_by wide.one;
        few = more_size;
        many =
            let e = missed_branch g shift wide n missed in
            let there = s.branches n e in
            let has = has_term h n (Branch there.cond there.a there.b there.to) there.is in
            omega (
              arith,
              found.few little,
              wide_count h wide s.rules (are_there wide found.are),
              count_both (is_wide wide) (is_it (Some n)) h.blocks apart_from_new,
              count_it n h.blocks s.rules.distinct has,
              count_more (λ m. is_wide wide m || is_it (Some n) m) (least h) h.blocks
                  (λ m e. elim (or_cases (is_wide wide m) (n == m) e) [ inl old ↦ found.within m old | inr same ↦ subst (λ j. least h j ≡ true) (eqb-true n m same) in_least ]),
            );
      }
        where
          filled_by : (o : Option ℕ) → (with_one o n).one ≡ None → (with_one o n).other ≡ None
          filled_by None e = refl
          filled_by (Some k) e = absurd (cc)

          apart_from_new : (m : ℕ) → is_wide wide m ≡ true → is_it (Some n) m ≡ false
          apart_from_new m e =
              elim (cases_Bool (n == m)) [
                | inl here ↦ absurd (both_ways (is_wide wide m) (subst (λ j. is_wide wide j ≡ false) (eqb-true n m here) new) e)
                | inr apart ↦ apart
              ]

    -- ENOUGH

    pub enough_found : shift.falls ≤ size → words_of g ≤ words_of (least_widened h)
    enough_found full = omega (arith, full, found.many, least_words h s.rules, s.falls)

    -- ALL

    module _ (none : NoneMissed g shift wide) where
      closed : IsClosed h (is_wide wide)
      closed n short = by_test (is_wide wide n) (is_short_by g shift wide n) (none n) (sym (s.short wide found.are n) ∙ short)
        where
          by_test : (t u : Bool) → (not t && u) ≡ false → u ≡ true → t ≡ true
          by_test true u e f = refl
          by_test false u e f = absurd (cc (e, f))

      valid_set : IsValid h (is_wide wide)
      valid_set = closed_valid h (is_wide wide) s.rules (are_there wide found.are).branches closed

      all_same : (n : ℕ) → is_wide wide n ≡ least h n
      all_same n =
          elim (cases_Bool (is_wide wide n)) [
            | inl listed ↦ listed ∙ sym (found.within n listed)
            | inr out ↦
                elim (cases_Bool (least h n)) [
                  | inl there ↦ absurd (both_ways (is_wide wide n) out ((least_is_least h s.rules).least (is_wide wide) valid_set n there))
                  | inr absent ↦ out ∙ sym absent
                ]
          ]

      pub all_found : size < shift.falls → IsLeastWide g h wide
      all_found fewer = record {
        same = all_same;
        are = are_there wide found.are;
        fewer = omega (arith, fewer, found.few (omega (arith, fewer, s.few_fall)), s.falls);
      }

      -- where none is found, each reaches
      pub none_short : wide.one ≡ None → wide.other ≡ None → IsInReach h
      none_short one other =
          let set : is_wide wide ≡ (λ n. false) = λ i n. (ap (λ o. is_it o n || is_it wide.other n) one ∙ ap (λ o. is_it o n) other) i in
          let valid = subst (λ (S : ℕ → Bool). IsValid h S) set valid_set in
          subst (λ (bs : List Block). IsInReach (record h { blocks = bs })) (none_widened (λ n. n) h.blocks) (widened_near h (λ k. false) s.rules (λ n. n) valid (λ n e. absurd (cc)))
