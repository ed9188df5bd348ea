-- The block in the slot before another one.
use Rattle.std.proofs.Common.{◌≡◌, ℕ, ◌==◌, false, if◌then◌else◌, List, [], ◌∷◌, Option, None, Some, IsSome, is_some, inl, inr, refl, sym, ap, ◌∙◌, subst}
use Rattle.std.proofs.lemmas.Bool.{cases_Bool, eqb-true, eq-eqb}
use Rattle.sq_arena.specs.Entries.{HasDistinctKeys, value_of, before, first_key, last_key, next_key, previous_key}
use Rattle.sq_arena.proofs.EntriesLaws.{distinct_back}
use Rattle.sq_graph.specs.Graph.{Block, Graph}
use Rattle.sq_graph.specs.Blocks.{named, HasBlock, next_of}
use Rattle.sq_graph.specs.Rules.{IsGraph}
use Rattle.sq_graph.proofs.Kept.{absent_behind}

-- the name before the block of this name, where this one is before the first
abbrev pub ahead_of : Option ℕ → List Block → ℕ → Option ℕ
ahead_of d [] k = d
ahead_of d (b ∷ bs) k = if b.name == k then d else ahead_of (Some b.name) bs k

ahead_in : (x : ℕ × Block) (bs : List Block) (k : ℕ) → last_key (x ∷ before (named bs) k) ≡ ahead_of (Some x.0) bs k
ahead_in x [] k = refl
ahead_in x (b ∷ bs) k =
    elim (cases_Bool (b.name == k)) [
      | inl here ↦ rw here refl
      | inr apart ↦ rw apart (ahead_in (b.name, b) bs k)
    ]

pub previous_is : (bs : List Block) (k : ℕ) → previous_key (named bs) k ≡ ahead_of None bs k
previous_is [] k = refl
previous_is (b ∷ bs) k =
    elim (cases_Bool (b.name == k)) [
      | inl here ↦ rw here refl
      | inr apart ↦ rw apart (ahead_in (b.name, b) bs k)
    ]

none_behind : (bs : List Block) (m : ℕ) → value_of (named bs) m ≡ None → next_key (named bs) m ≡ None
none_behind [] m none = refl
none_behind (b ∷ bs) m none =
    elim (cases_Bool (b.name == m)) [ inl here ↦ absurd (cc (rw here at none)) | inr apart ↦ rw apart (none_behind bs m (rw apart at none)) ]

pub next_has : (bs : List Block) (m k : ℕ) → next_key (named bs) m ≡ Some k → IsSome (value_of (named bs) m)
next_has bs m k e = by_block (value_of (named bs) m) refl
  where
    some_none : (p : Option ℕ) → p ≡ Some k → p ≡ None → ⊥
    some_none p f h = cc

    by_block : (o : Option Block) → value_of (named bs) m ≡ o → IsSome (value_of (named bs) m)
    by_block None none = absurd (some_none (next_key (named bs) m) e (none_behind bs m none))
    by_block (Some x) some = ap is_some some

rest_distinct : (b : Block) (bs : List Block) → HasDistinctKeys (named (b ∷ bs)) → HasDistinctKeys (named bs)
rest_distinct b bs distinct = distinct_back ((b.name, b) ∷ []) (named bs) distinct

-- what is before a block has it as its next
next_if : (x : Block) (bs : List Block) (k m : ℕ) → HasDistinctKeys (named (x ∷ bs)) → IsSome (value_of (named bs) k) → ahead_of (Some x.name) bs k ≡ Some m → next_key (named (x ∷ bs)) m ≡ Some k
next_if x [] k m distinct some e = absurd (cc)
next_if x (b ∷ bs) k m distinct some e =
    elim (cases_Bool (b.name == k)) [
      | inl here ↦
          let is : Some x.name ≡ Some m = rw here at e in
          let same : x.name ≡ m = cc in
          rw (eq-eqb x.name m same) (ap Some (eqb-true b.name k here))
      | inr apart ↦
          let later = next_if b bs k m (rest_distinct x (b ∷ bs) distinct) (rw apart at some) (rw apart at e) in
          elim (cases_Bool (x.name == m)) [
            | inl same ↦
                let none = none_behind (b ∷ bs) m (subst (λ j. value_of (named (b ∷ bs)) j ≡ None) (eqb-true x.name m same) (absent_behind (x.name, x) (named (b ∷ bs)) distinct)) in
                absurd (some_none (next_key (named (b ∷ bs)) m) k later none)
            | inr other ↦ rw other later
          ]
    ]
  where
    some_none : (o : Option ℕ) (j : ℕ) → o ≡ Some j → o ≡ None → ⊥
    some_none o j f g = cc

pub next_first : (bs : List Block) (k m : ℕ) → HasDistinctKeys (named bs) → IsSome (value_of (named bs) k) → ahead_of None bs k ≡ Some m → next_key (named bs) m ≡ Some k
next_first [] k m distinct some e = absurd (cc)
next_first (b ∷ bs) k m distinct some e =
    elim (cases_Bool (b.name == k)) [
      | inl here ↦ absurd (cc (rw here at e))
      | inr apart ↦ next_if b bs k m distinct (rw apart at some) (rw apart at e)
    ]

-- and the other way round
first_there : (bs : List Block) (k : ℕ) → first_key (named bs) ≡ Some k → IsSome (value_of (named bs) k)
first_there [] k e = absurd (cc)
first_there (b ∷ bs) k e = let same : b.name ≡ k = cc in rw (eq-eqb b.name k same) refl

pub next_there : (bs : List Block) (m k : ℕ) → next_key (named bs) m ≡ Some k → IsSome (value_of (named bs) k)
next_there [] m k e = absurd (cc)
next_there (b ∷ bs) m k e =
    elim (cases_Bool (b.name == m)) [
      | inl here ↦ later b bs k (first_there bs k (rw here at e))
      | inr apart ↦ later b bs k (next_there bs m k (rw apart at e))
    ]
  where
    later : (x : Block) (xs : List Block) (j : ℕ) → IsSome (value_of (named xs) j) → IsSome (value_of (named (x ∷ xs)) j)
    later x xs j some = elim (cases_Bool (x.name == j)) [ inl here ↦ rw here refl | inr apart ↦ rw apart some ]

not_first : (b : Block) (bs : List Block) (k : ℕ) → HasDistinctKeys (named (b ∷ bs)) → IsSome (value_of (named bs) k) → (b.name == k) ≡ false
not_first b bs k distinct some =
    elim (cases_Bool (b.name == k)) [
      | inl same ↦
          let none : value_of (named bs) k ≡ None = subst (λ j. value_of (named bs) j ≡ None) (eqb-true b.name k same) (absent_behind (b.name, b) (named bs) distinct) in
          absurd (cc (ap is_some none))
      | inr apart ↦ apart
    ]

pub ahead_if : (d : Option ℕ) (bs : List Block) (k m : ℕ) → HasDistinctKeys (named bs) → next_key (named bs) m ≡ Some k → ahead_of d bs k ≡ Some m
ahead_if d [] k m distinct e = absurd (cc)
ahead_if d (b ∷ []) k m distinct e = elim (cases_Bool (b.name == m)) [ inl here ↦ absurd (cc (rw here at e)) | inr apart ↦ absurd (cc (rw apart at e)) ]
ahead_if d (b ∷ c ∷ bs) k m distinct e =
    elim (cases_Bool (b.name == m)) [
      | inl here ↦
          let is : Some c.name ≡ Some k = rw here at e in
          let same : c.name ≡ k = cc in
          let apart = not_first b (c ∷ bs) k distinct (first_there (c ∷ bs) k is) in
          rw (apart, eq-eqb c.name k same) (ap Some (eqb-true b.name m here))
      | inr other ↦
          let later : next_key (named (c ∷ bs)) m ≡ Some k = rw other at e in
          let apart = not_first b (c ∷ bs) k distinct (next_there (c ∷ bs) m k later) in
          rw apart (ahead_if (Some b.name) (c ∷ bs) k m (rest_distinct b (c ∷ bs) distinct) later)
    ]

-- no block is before the first one
pub previous_none : (g : Graph) → IsGraph g → (k m : ℕ) → previous_key (named g.blocks) k ≡ None → next_of g m ≡ Some k → ⊥
previous_none g rules k m none next = some_none (ahead_of None g.blocks k) (ahead_if None g.blocks k m rules.distinct next) (sym (previous_is g.blocks k) ∙ none)
  where
    some_none : (o : Option ℕ) → o ≡ Some m → o ≡ None → ⊥
    some_none o f e = cc

module _ (g : Graph) (rules : IsGraph g) (block : ℕ) (has : HasBlock g block) (m : ℕ) (previous : previous_key (named g.blocks) block ≡ Some m) where
  pub before_next : next_of g m ≡ Some block
  before_next = next_first g.blocks block m rules.distinct has (sym (previous_is g.blocks block) ∙ previous)

  pub before_there : HasBlock g m
  before_there = next_has g.blocks m block before_next

-- only one block is before another
pub one_before : (g : Graph) (m k n : ℕ) → IsGraph g → next_of g m ≡ Some n → next_of g k ≡ Some n → m ≡ k
one_before g m k n rules first second =
    let same : Some m ≡ Some k = sym (ahead_if None g.blocks n m rules.distinct first) ∙ ahead_if None g.blocks n k rules.distinct second in
    cc
