-- A search over the blocks of a graph, from its start to its end.
use Rattle.std.proofs.Common.{◌≡◌, ℕ, zero, suc, ◌+◌, ◌-◌, ◌<◌, ◌≤◌, Bool, true, false, ◌==◌, ◌&&◌, ◌||◌, not, List, [], ◌∷◌, ◌++◌, length, map, inl, inr, IsSome, nat_eq, refl, sym, ap, ◌∙◌, subst, arith}
use Rattle.std.proofs.lemmas.Bool.{cases_Bool, eqb-true, eq-eqb, or_left, or_right}
use Rattle.std.proofs.lemmas.Cmp.{nat_eq_equiv}
use Rattle.std.proofs.lemmas.List.{length-map, length-append}
use Rattle.std.proofs.lemmas.List.Folds.{list_any-append}
use Rattle.std.proofs.lemmas.Map.Made.{length-le_from_is_member}
use Rattle.std.proofs.lemmas.Map.Views.{list_any-from_Contains}
use Rattle.std.specs.List.{Contains, IsDistinct}
use Rattle.sq_arena.specs.Entries.{value_of}
use Rattle.sq_graph.specs.Graph.{Block, Graph}
use Rattle.sq_graph.specs.Blocks.{named}
use Rattle.sq_graph.specs.Parts.{names_of}
use Rattle.sq_graph.specs.Rules.{IsGraph}
use Rattle.sq_graph.specs.Walks.{successors, word_name, IsReachedBlock, entry, code_word, walk}
use Rattle.sq_reach.specs.Marks.{is_marked, AreReached}
use Rattle.sq_reach.specs.Search.{Found, Reaches, KnowsBodies}
use Rattle.sq_reach.proofs.Blocks.{reached_has}
use Rattle.sq_reach.proofs.Reaching.{reaches_then}

marked_from_contains : (names : List ℕ) (n : ℕ) → Contains names n → is_marked names n ≡ true
marked_from_contains names n h = list_any-from_Contains nat_eq_equiv n names h

pub contains_from_marked : (names : List ℕ) (n : ℕ) → is_marked names n ≡ true → Contains names n
contains_from_marked [] n e = absurd (cc)
contains_from_marked (name ∷ names) n e =
    elim (cases_Bool (nat_eq n name)) [
      | inl here ↦ (zero, omega arith, sym (eqb-true n name here))
      | inr apart ↦
          let rest = contains_from_marked names n (rw apart at e) in (suc rest.0, omega (arith, rest.1), rest.2)
    ]

-- a search over g: what was reached is reached in g, and each block that was looked at leads to what was reached
pub record IsSearch (g : Graph) (s : Found) : Type 0 where
  pub sound : (n : ℕ) → is_marked s.reached n ≡ true → IsReachedBlock g n
  pub entry : is_marked s.reached g.entry ≡ true
  pub words : (n : ℕ) → is_marked (map word_name g.code_words) n ≡ true → is_marked s.reached n ≡ true
  pub waits : (n : ℕ) → is_marked s.waiting n ≡ true → is_marked s.reached n ≡ true
  pub closed : (n m : ℕ) → is_marked s.reached n ≡ true → is_marked s.waiting n ≡ false → is_marked (successors g n) m ≡ true → is_marked s.reached m ≡ true
  pub bodies : KnowsBodies g.procedures s
  pub distinct : IsDistinct nat_eq s.reached
  pub fewer : length s.waiting ≤ length s.reached

abbrev pub nothing : Found
nothing = record { reached = []; waiting = []; called = [] }

-- a name that is the entry or a code word's
start_reached : (g : Graph) (n : ℕ) → is_marked (g.entry ∷ map word_name g.code_words) n ≡ true → IsReachedBlock g n
start_reached g n e =
    elim (cases_Bool (nat_eq n g.entry)) [
      | inl here ↦ subst (IsReachedBlock g) (sym (eqb-true n g.entry here)) entry
      | inr apart ↦ code_word (contains_from_marked (map word_name g.code_words) n (rw apart at e))
    ]

pub started : (g : Graph) (s t : Found) → Reaches (g.entry ∷ []) nothing s → s.called ≡ [] → Reaches (map word_name g.code_words) s t → t.called ≡ s.called → IsSearch g t
unfolding IsDistinct
started g s t first e second f = record {
  sound = λ n marked. start_reached g n (sym (all.reached n) ∙ marked);
  entry = all.reached g.entry ∙ or_left (nat_eq g.entry g.entry) _ (eq-eqb g.entry g.entry refl);
  words = λ n marked. all.reached n ∙ or_right (nat_eq n g.entry) _ marked;
  waits = λ n marked. all.reached n ∙ waited (is_marked (g.entry ∷ map word_name g.code_words) n) (sym (all.waiting n) ∙ marked);
  closed = λ n m marked waiting next. absurd (all_wait (is_marked (g.entry ∷ map word_name g.code_words) n) (sym (all.reached n) ∙ marked) (sym (all.waiting n) ∙ waiting));
  bodies = record { knows = λ p n called named. absurd (not_called p called) };
  distinct = all.distinct tt;
  fewer = omega (arith, all.looked_at);
}
  where
    all : Reaches (g.entry ∷ map word_name g.code_words) nothing t
    all = reaches_then first second

    waited : (b : Bool) → (b && true) ≡ true → b ≡ true
    waited true e = refl
    waited false e = e

    all_wait : (b : Bool) → b ≡ true → (b && true) ≡ false → ⊥
    all_wait true e f = (cc)
    all_wait false e f = (cc)

    not_called : (p : ℕ) → is_marked t.called p ≡ true → ⊥
    not_called p called = let g : is_marked [] p ≡ true = ap (λ ps. is_marked ps p) (sym (f ∙ e)) ∙ called in (cc)

-- the block n is looked at, which waited last
pub looked_at : (g : Graph) (s rest t : Found) (n : ℕ) → s ≡ record rest { waiting = rest.waiting ++ n ∷ [] } → IsSearch g s → Reaches (successors g n) rest t → KnowsBodies g.procedures t → IsSearch g t
looked_at g s rest t n is search more bodies = record {
  sound = λ m marked. sound m (is_marked rest.reached m) refl (sym (more.reached m) ∙ marked);
  entry = keeps g.entry before.entry;
  words = λ m marked. keeps m (before.words m marked);
  waits = λ m marked. more.reached m ∙ waited m (is_marked rest.reached m) (is_marked (successors g n) m) (is_marked rest.waiting m) refl refl refl (sym (more.waiting m) ∙ marked);
  closed = λ a m marked waiting next. closed a m (is_marked rest.reached a) (is_marked (successors g n) a) (is_marked rest.waiting a) refl refl refl (sym (more.reached a) ∙ marked) (sym (more.waiting a) ∙ waiting) next;
  bodies = bodies;
  distinct = more.distinct before.distinct;
  fewer = omega (arith, more.looked_at, before.fewer, length-push);
}
  where
    whole : Found
    whole = record rest { waiting = rest.waiting ++ n ∷ [] }

    before : IsSearch g (record rest { waiting = rest.waiting ++ n ∷ [] })
    before = subst (IsSearch g) is search

    length-push : length (rest.waiting ++ n ∷ []) ≡ length rest.waiting + 1
    length-push = grind (arith, length-append {A = ℕ})

    pushed : (m : ℕ) → is_marked (rest.waiting ++ n ∷ []) m ≡ (is_marked rest.waiting m || (nat_eq m n || false))
    pushed m = list_any-append (nat_eq m) rest.waiting (n ∷ [])

    keeps : (m : ℕ) → is_marked rest.reached m ≡ true → is_marked t.reached m ≡ true
    keeps m marked = more.reached m ∙ or_left (is_marked rest.reached m) (is_marked (successors g n) m) marked

    n_reached : IsReachedBlock g n
    n_reached = before.sound n (before.waits n (pushed n ∙ or_right (is_marked rest.waiting n) _ (or_left (nat_eq n n) false (eq-eqb n n refl))))

    sound : (m : ℕ) (r : Bool) → is_marked rest.reached m ≡ r → (r || is_marked (successors g n) m) ≡ true → IsReachedBlock g m
    sound m true e f = before.sound m e
    sound m false e f = walk n_reached (contains_from_marked (successors g n) m f)

    waited : (m : ℕ) (r a w : Bool) → is_marked rest.reached m ≡ r → is_marked (successors g n) m ≡ a → is_marked rest.waiting m ≡ w → (w || (a && not r)) ≡ true → (r || a) ≡ true
    waited m true a w e f h k = refl
    waited m false true w e f h k = refl
    waited m false false true e f h k = sym e ∙ before.waits m (pushed m ∙ or_left (is_marked rest.waiting m) _ h)
    waited m false false false e f h k = k

    closed : (a m : ℕ) (r x w : Bool) → is_marked rest.reached a ≡ r → is_marked (successors g n) a ≡ x → is_marked rest.waiting a ≡ w → (r || x) ≡ true → (w || (x && not r)) ≡ false → is_marked (successors g a) m ≡ true → is_marked t.reached m ≡ true
    closed a m r x true e f h k l next = absurd (cc)
    closed a m false true false e f h k l next = absurd (cc)
    closed a m false false false e f h k l next = absurd (cc)
    closed a m true x false e f h k l next =
        elim (cases_Bool (nat_eq a n)) [
          | inl here ↦
              more.reached m ∙ or_right (is_marked rest.reached m) _ (subst (λ b. is_marked (successors g b) m ≡ true) (eqb-true a n here) next)
          | inr apart ↦ keeps m (before.closed a m e (pushed a ∙ rw (h, apart) refl) next)
        ]

-- where no block waits, just the reached blocks are marked
pub finished : (g : Graph) (s : Found) → IsSearch g s → s.waiting ≡ [] → AreReached g s.reached
finished g s search none n = (λ marked. search.sound n marked, complete n)
  where
    complete : (n : ℕ) → IsReachedBlock g n → is_marked s.reached n ≡ true
    complete n entry = search.entry
    complete n (code_word h) = search.words n (marked_from_contains (map word_name g.code_words) n h)
    complete n (walk {n = m} before h) =
        search.closed m n (complete m before) (ap (λ names. is_marked names m) none) (marked_from_contains (successors g m) n h)

-- a block of a graph has a name among those of the blocks
name_is_there : (blocks : List Block) (n : ℕ) → IsSome (value_of (named blocks) n) → is_marked (map (λ b. b.name) blocks) n ≡ true
name_is_there [] n has = absurd (cc)
name_is_there (block ∷ blocks) n has =
    elim (cases_Bool (block.name == n)) [
      | inl here ↦ or_left (nat_eq n block.name) _ (eq-eqb n block.name (sym (eqb-true block.name n here)))
      | inr apart ↦ or_right (nat_eq n block.name) _ (name_is_there blocks n (rw apart at has))
    ]

-- at most as many blocks are reached as there are
pub reached_few : (g : Graph) (s : Found) → IsGraph g → IsSearch g s → length s.reached ≤ length g.blocks
reached_few g s rules search =
    let few : length s.reached ≤ length (names_of g) =
    length-le_from_is_member nat_eq_equiv s.reached (names_of g) search.distinct (λ n marked. name_is_there g.blocks n (reached_has g n rules (search.sound n marked))) in
    rw length-map at few

-- the block that waited last is reached
pub waiting_reached : (g : Graph) (s rest : Found) (n : ℕ) → s ≡ record rest { waiting = rest.waiting ++ n ∷ [] } → IsSearch g s → IsReachedBlock g n
waiting_reached g s rest n is search =
    let before = subst (IsSearch g) is search in
    before.sound n (before.waits n (list_any-append (nat_eq n) rest.waiting (n ∷ []) ∙ or_right (is_marked rest.waiting n) _ (or_left (nat_eq n n) false (eq-eqb n n refl))))

-- each block that is looked at leaves fewer
pub fewer_left : (g : Graph) (s rest t : Found) (n : ℕ) → s ≡ record rest { waiting = rest.waiting ++ n ∷ [] } → IsGraph g → IsSearch g s → Reaches (successors g n) rest t →
    length g.blocks - (length t.reached - length t.waiting) < length g.blocks - (length s.reached - length s.waiting)
fewer_left g s rest t n is rules search more =
    let few : length s.reached ≤ length g.blocks = reached_few g s rules search in
    let reached : length s.reached ≡ length rest.reached = ap (λ f. length f.reached) is in
    let waiting : length s.waiting ≡ length rest.waiting + 1 = ap (λ f. length f.waiting) is ∙ simp length-append in
    omega (arith, few, reached, waiting, more.looked_at, search.fewer)
