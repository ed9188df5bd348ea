-- The blocks that aren't reached may go, once they are cleared and the procedures that are left uncalled are gone; and
-- what is left is the graph with the others alone.
use Rattle.std.proofs.Common.{◌≡◌, ℕ, zero, suc, ◌<◌, ◌==◌, nat_lt, Bool, true, false, ◌||◌, not, if◌then◌else◌, nat_eq, List, [], ◌∷◌, ◌++◌, map, length, get_or, slice_get, None, Some, IsSome, is_some, refl, sym, ap, ◌∙◌, subst, inl, inr, ◌⊎◌, append_assoc, arith}
use Rattle.std.specs.List.{All, Contains, filter, flat_map}
use Rattle.std.proofs.lemmas.Bool.{cases_Bool, eqb-true, eqb-false, eq-eqb, ne_eqb}
use Rattle.std.proofs.lemmas.Bool.Decides.{nat_tests}
use Rattle.std.proofs.lemmas.List.Elements.{All-nil, All-cons, All-append, All-map, Contains-get_or, Contains-append_left, Contains-append_right}
use Rattle.std.proofs.lemmas.List.Concat.{flat_map-append}
use Rattle.sq_arena.specs.Entries.{HasDistinctKeys, value_of}
use Rattle.sq_arena.proofs.EntriesLaws.{distinct_back}
use Rattle.sq_graph.specs.declared.item.Item.{Item}
use Rattle.sq_graph.specs.declared.item.Item.TheVariants.{Op, Hi, Lo, Out}
use Rattle.sq_graph.specs.Graph.{Block, Procedure, Graph}
use Rattle.sq_graph.specs.Blocks.{named, HasBlock, items_of_blocks, items_of_bodies, all_items}
use Rattle.sq_graph.specs.Parts.{names_of}
use Rattle.sq_graph.specs.Renames.{recalled_items, recalled_block, recalled_procedure}
use Rattle.sq_graph.specs.Rules.{IsGraph}
use Rattle.sq_graph.specs.Terms.{goes_on}
use Rattle.sq_graph.specs.Uses.{item_uses, items_uses, term_uses, terms_uses, code_word_uses, item_calls, uses}
use Rattle.sq_graph.specs.Walks.{called_names, procedure_names, first_name, block_successors, successors, successors_in, IsReachedBlock, entry, code_word, walk}
use Rattle.sq_graph.proofs.Eachs.{All-flat_map}
use Rattle.sq_graph.proofs.Kept.{absent_behind}
use Rattle.law_patch.specs.Restrictions.{procedures_held, number_held}
use Rattle.law_patch.proofs.Restricting.{successors_at}
use Rattle.sq_reach.proofs.Blocks.{reached_has}
use Rattle.sq_lookup.specs.Names.{is_listed}
use Rattle.sq_jumps.specs.Unreached.{is_called_in, AreUnreached}
use Rattle.sq_jumps.specs.UnreachedClear.{cleared_each, is_called, without_uncalled, first_listed, AreApart, AreOnce, MayGo}
use Rattle.sq_lookup.proofs.Adding.{uses_of_blocks, uses_of_bodies}
use Rattle.sq_jumps.proofs.Ruled.{here}
use Rattle.sq_jumps.proofs.UnreachedCleared.{emptied, cleared_if, all_cleared, each_cleared}
use Rattle.sq_jumps.proofs.UnreachedUncalled.{only_held, held_from, uncalled_is}

-- LISTS

pub listed_in : (xs : List ℕ) (n : ℕ) → Contains xs n → is_listed xs n ≡ true
listed_in [] n c = absurd (omega (arith, c.1))
listed_in (x ∷ xs) n (zero, l, e) = let same : nat_eq n x ≡ true = eq-eqb n x (sym e) in rw same refl
listed_in (x ∷ xs) n (suc k, l, e) = or_right (nat_eq n x) (is_listed xs n) (listed_in xs n (k, omega (arith, l), e))
  where
    or_right : (a b : Bool) → b ≡ true → (a || b) ≡ true
    or_right true b e = refl
    or_right false b e = e

pub contains_listed : (xs : List ℕ) (n : ℕ) → is_listed xs n ≡ true → Contains xs n
contains_listed [] n e = absurd (cc)
contains_listed (x ∷ xs) n e =
    elim (cases_Bool (nat_eq n x)) [
      | inl same ↦ (0, omega arith, sym (eqb-true n x same))
      | inr apart ↦ let later = contains_listed xs n (rw apart at e) in (suc later.0, omega (arith, later.1), later.2)
    ]

all_from : (P : ℕ → Type 0) (xs : List ℕ) → ((n : ℕ) → Contains xs n → P n) → All P xs
all_from P xs h k d below = h (get_or xs k d) (Contains-get_or xs k d below)

-- names of blocks
listed_names : (bs : List Block) (n : ℕ) → is_listed (map (λ (b : Block). b.name) bs) n ≡ is_some (value_of (named bs) n)
listed_names [] n = refl
listed_names (b ∷ bs) n =
    elim (cases_Bool (b.name == n)) [
      | inl here ↦ let here' : nat_eq n b.name ≡ true = eq-eqb n b.name (sym (eqb-true b.name n here)) in rw (here, here') refl
      | inr apart ↦ let apart' : nat_eq n b.name ≡ false = ne_eqb n b.name (λ same. eqb-false b.name n apart (sym same)) in rw (apart, apart') (listed_names bs n)
    ]

listed_kept : (t : ℕ → Bool) (xs : List ℕ) (n : ℕ) → is_listed (filter t xs) n ≡ true → is_listed xs n ≡ true
listed_kept t [] n e = e
listed_kept t (x ∷ xs) n e =
    elim (cases_Bool (nat_eq n x)) [
      | inl same ↦ rw same refl
      | inr apart ↦ rw apart (listed_kept t xs n (by_test (cases_Bool (t x)) apart))
    ]
  where
    by_test : (t x ≡ true) ⊎ (t x ≡ false) → nat_eq n x ≡ false → is_listed (filter t xs) n ≡ true
    by_test (inl kept) apart = rw apart at (rw kept at e)
    by_test (inr gone) apart = rw gone at e

once_kept : (t : ℕ → Bool) (bs : List Block) → HasDistinctKeys (named bs) → AreOnce (filter t (map (λ (b : Block). b.name) bs))
once_kept t [] distinct = tt
once_kept t (b ∷ bs) distinct =
    let later = once_kept t bs (distinct_back ((b.name, b) ∷ []) (named bs) distinct) in
    elim (cases_Bool (t b.name)) [
      | inl kept ↦ rw kept (alone (cases_Bool (is_listed (filter t (map (λ (c : Block). c.name) bs)) b.name)), later)
      | inr gone ↦ rw gone later
    ]
  where
    alone : (is_listed (filter t (map (λ (c : Block). c.name) bs)) b.name ≡ true) ⊎ (is_listed (filter t (map (λ (c : Block). c.name) bs)) b.name ≡ false) → is_listed (filter t (map (λ (c : Block). c.name) bs)) b.name ≡ false
    alone (inr apart) = apart
    alone (inl twice) =
        let some : is_some (value_of (named bs) b.name) ≡ true = sym (listed_names bs b.name) ∙ listed_kept t (map (λ (c : Block). c.name) bs) b.name twice in
        let none : is_some (value_of (named bs) b.name) ≡ false = ap is_some (absent_behind (b.name, b) (named bs) distinct) in
        absurd (cc)

-- WHAT AN ITEM NAMES, WITH ANOTHER NUMBER

uses-recalled : (f : ℕ → ℕ) (items : List Item) → items_uses (recalled_items f items) ≡ items_uses items
uses-recalled f [] = refl
uses-recalled f (Op insn ∷ items) = uses-recalled f items
uses-recalled f (Hi rd to ∷ items) = ap (λ ns. to ∷ ns) (uses-recalled f items)
uses-recalled f (Lo rd rs to ∷ items) = ap (λ ns. to ∷ ns) (uses-recalled f items)
uses-recalled f (Out q ∷ items) = uses-recalled f items

-- what items name is among what they and the procedures that they call name
uses_among : (ps : List Procedure) (items : List Item) (n : ℕ) → Contains (items_uses items) n → Contains (flat_map (called_names ps) items) n
uses_among ps [] n c = c
uses_among ps (Op insn ∷ items) n c = uses_among ps items n c
uses_among ps (Hi rd to ∷ items) n (zero, l, e) = (zero, omega arith, e)
uses_among ps (Hi rd to ∷ items) n (suc k, l, e) = let later = uses_among ps items n (k, omega (arith, l), e) in (suc later.0, omega (arith, later.1), later.2)
uses_among ps (Lo rd rs to ∷ items) n (zero, l, e) = (zero, omega arith, e)
uses_among ps (Lo rd rs to ∷ items) n (suc k, l, e) = let later = uses_among ps items n (k, omega (arith, l), e) in (suc later.0, omega (arith, later.1), later.2)
uses_among ps (Out q ∷ items) n c = Contains-append_right (procedure_names (slice_get ps q)) (flat_map (called_names ps) items) n (uses_among ps items n c)

out_names : (ps : List Procedure) (items : List Item) (q n : ℕ) → Contains (flat_map item_calls items) q → Contains (procedure_names (slice_get ps q)) n → Contains (flat_map (called_names ps) items) n
out_names ps [] q n call c = absurd (omega (arith, call.1))
out_names ps (Op insn ∷ items) q n call c = out_names ps items q n call c
out_names ps (Hi rd to ∷ items) q n call c = Contains-append_right (to ∷ []) (flat_map (called_names ps) items) n (out_names ps items q n call c)
out_names ps (Lo rd rs to ∷ items) q n call c = Contains-append_right (to ∷ []) (flat_map (called_names ps) items) n (out_names ps items q n call c)
out_names ps (Out p ∷ items) q n (zero, l, e) c =
    Contains-append_left (procedure_names (slice_get ps p)) (flat_map (called_names ps) items) n (subst (λ k. Contains (procedure_names (slice_get ps k)) n) (sym e) c)
out_names ps (Out p ∷ items) q n (suc k, l, e) c =
    Contains-append_right (procedure_names (slice_get ps p)) (flat_map (called_names ps) items) n (out_names ps items q n (k, omega (arith, l), e) c)

-- what holds of each procedure that is held
pub held_each : (P : Procedure → Type 0) (h : ℕ → Bool) (ps : List Procedure) → ((q : ℕ) (p : Procedure) → h q ≡ true → slice_get ps q ≡ Some p → P p) → All P (procedures_held h ps)
held_each P h [] each = All-nil P
held_each P h (p ∷ ps) each =
    let later = held_each P (λ q. h (suc q)) ps (λ q r held is. each (suc q) r held is) in
    elim (cases_Bool (h 0)) [
      | inl held ↦ rw held (All-cons P p (procedures_held (λ q. h (suc q)) ps) (each 0 p held refl) later)
      | inr gone ↦ rw gone later
    ]

slice_within : (ps : List Procedure) (q : ℕ) (p : Procedure) → slice_get ps q ≡ Some p → q < length ps
slice_within [] q p e = absurd (cc)
slice_within (x ∷ ps) zero p e = omega arith
slice_within (x ∷ ps) (suc q) p e = omega (arith, slice_within ps q p e)

module _ (g : Graph) (gone : List ℕ) (rules : IsGraph g) (are : AreUnreached g gone) where
  abbrev N : ℕ → Type 0
  N n = is_listed gone n ≡ false

  abbrev h : ℕ → Bool
  h = held_from (all_cleared gone g) (length g.procedures)

  abbrev f : ℕ → ℕ
  f = number_held (held_from (all_cleared gone g) (length g.procedures))

  abbrev made : Block → Block
  made b = recalled_block (number_held (held_from (all_cleared gone g) (length g.procedures))) (cleared_if gone b)

  -- the graph once the blocks are cleared and the procedures gone
  pub middle_is : without_uncalled (length (cleared_each gone g).procedures) (cleared_each gone g) ≡ only_held (held_from (all_cleared gone g) (length g.procedures)) (all_cleared gone g)
  middle_is =
      ap (λ (k : Graph). without_uncalled (length k.procedures) k) (each_cleared gone g rules.distinct)
      ∙ uncalled_is (length g.procedures) (all_cleared gone g) (omega arith)

  pub there : (n : ℕ) → is_listed gone n ≡ true → HasBlock g n
  there n listed =
      sym (listed_names g.blocks n) ∙ listed_kept (λ m. is_listed gone m) (names_of g) n (subst (λ xs. is_listed xs n ≡ true) are.in_order listed)

  pub all_there : All (HasBlock g) gone
  all_there = all_from (HasBlock g) gone (λ n c. there n (listed_in gone n c))

  reached_stays : (n : ℕ) → IsReachedBlock g n → N n
  reached_stays n r = (are.exact n (reached_has g n rules r)).1 r

  leads : (front : List Block) (x : Block) (bs : List Block) → front ++ (x ∷ bs) ≡ g.blocks → N x.name → (m : ℕ) → Contains (block_successors g.procedures x bs) m → N m
  unfolding here
  leads front x bs e stay m c =
      let at = here g rules front x bs e in
      let has : HasBlock g x.name = subst (λ (cs : List Block). IsSome (value_of (named cs) x.name)) e (own front x bs) in
      let r = (are.exact x.name has).0 stay in
      let s : successors g x.name ≡ block_successors g.procedures x bs = subst (λ cs. successors_in g.procedures cs x.name ≡ block_successors g.procedures x bs) e (successors_at g.procedures front x bs (ahead_is front x bs e)) in
      reached_stays m (walk r (subst (λ ns. Contains ns m) (sym s) c))
    where
      own : (front : List Block) (x : Block) (bs : List Block) → IsSome (value_of (named (front ++ (x ∷ bs))) x.name)
      own [] x bs = let same : (x.name == x.name) ≡ true = eq-eqb x.name x.name refl in rw same refl
      own (y ∷ front) x bs = elim (cases_Bool (y.name == x.name)) [ inl same ↦ rw same refl | inr apart ↦ rw apart (own front x bs) ]

      ahead_is : (front : List Block) (x : Block) (bs : List Block) → front ++ (x ∷ bs) ≡ g.blocks → value_of (named front) x.name ≡ None
      ahead_is front x bs e = (here g rules front x bs e).ahead

  -- NAMES

  record NamesStay (b : Block) : Type 0 where
    terms : All N (term_uses b.term)
    items : All N (items_uses b.items)

  block_names : (front : List Block) (x : Block) (bs : List Block) → front ++ (x ∷ bs) ≡ g.blocks → NamesStay (made x)
  block_names front x bs e =
      elim (cases_Bool (is_listed gone x.name)) [
        | inl listed ↦ subst (λ b. NamesStay (recalled_block f b)) (sym (ap (λ t. if t then emptied x else x) listed)) (record { terms = All-nil N; items = All-nil N })
        | inr stay ↦
            subst (λ b. NamesStay (recalled_block f b)) (sym (ap (λ t. if t then emptied x else x) stay))
            (record {
              terms = all_from N (term_uses x.term) (λ m c. leads front x bs e stay m (Contains-append_left (term_uses x.term ++ (if goes_on x.term then first_name bs else [])) (flat_map (called_names g.procedures) x.items) m (Contains-append_left (term_uses x.term) (if goes_on x.term then first_name bs else []) m c)));
              items = subst (λ ns. All N ns) (sym (uses-recalled f x.items)) (all_from N (items_uses x.items) (λ m c. leads front x bs e stay m (Contains-append_right (term_uses x.term ++ (if goes_on x.term then first_name bs else [])) (flat_map (called_names g.procedures) x.items) m (uses_among g.procedures x.items m c))));
            })
      ]

  blocks_names : (front bs : List Block) → front ++ bs ≡ g.blocks → All NamesStay (map made bs)
  blocks_names front [] e = All-nil NamesStay
  blocks_names front (x ∷ bs) e = All-cons NamesStay (made x) (map made bs) (block_names front x bs e) (blocks_names (front ++ x ∷ []) bs (append_assoc front (x ∷ []) bs ∙ e))

  -- a block that stays calls the procedure
  record HasCaller (q : ℕ) : Type 0 where
    front : List Block
    block : Block
    back : List Block
    whole : front ++ (block ∷ back) ≡ g.blocks
    stay : N block.name
    call : Contains (flat_map item_calls block.items) q

  caller : (front bs : List Block) (q : ℕ) → front ++ bs ≡ g.blocks → is_called_in (λ n. true) (map (cleared_if gone) bs) q ≡ true → HasCaller q
  caller front [] q e called = absurd (cc)
  caller front (x ∷ bs) q e called =
      elim (cases_Bool (is_listed gone x.name)) [
        | inl listed ↦ caller (front ++ x ∷ []) bs q (append_assoc front (x ∷ []) bs ∙ e) (rw listed at called)
        | inr stay ↦
            let called' : (is_listed (flat_map item_calls x.items) q || is_called_in (λ n. true) (map (cleared_if gone) bs) q) ≡ true = rw stay at called in
            elim (cases_Bool (is_listed (flat_map item_calls x.items) q)) [
              | inl own ↦ record { front = front; block = x; back = bs; whole = e; stay = stay; call = contains_listed (flat_map item_calls x.items) q own }
              | inr none ↦ caller (front ++ x ∷ []) bs q (append_assoc front (x ∷ []) bs ∙ e) (rw none at called')
            ]
      ]

  abbrev BodyStays : Procedure → Type 0
  BodyStays p = All N (items_uses p.body)

  bodies_names : All BodyStays (map (recalled_procedure f) (procedures_held h g.procedures))
  bodies_names =
      All-map BodyStays (recalled_procedure f) (procedures_held h g.procedures)
      (held_each (λ p. BodyStays (recalled_procedure f p)) h g.procedures (λ q p held is.
      let within = slice_within g.procedures q p is in
      let below : nat_lt q (length g.procedures) ≡ true = grind (arith, nat_tests) in
      let called : is_called (all_cleared gone g) q ≡ true = or_false (is_called (all_cleared gone g) q) (sym (ap (λ t. is_called (all_cleared gone g) q || not t) below) ∙ held) in
      let by = caller [] g.blocks q refl called in
      subst (λ ns. All N ns) (sym (uses-recalled f p.body))
      (all_from N (items_uses p.body) (λ m c. leads by.front by.block by.back by.whole by.stay m
      (Contains-append_right (term_uses by.block.term ++ (if goes_on by.block.term then first_name by.back else [])) (flat_map (called_names g.procedures) by.block.items) m
      (out_names g.procedures by.block.items q m by.call (subst (λ o. Contains (procedure_names o) m) (sym is) c)))))))
    where
      or_false : (a : Bool) → (a || false) ≡ true → a ≡ true
      or_false true e = refl
      or_false false e = absurd (cc)

  names_stay : All N (uses (only_held h (all_cleared gone g)))
  names_stay =
      let bs : List Block = map (recalled_block f) (map (cleared_if gone) g.blocks) in
      let ps : List Procedure = map (recalled_procedure f) (procedures_held h g.procedures) in
      let blocks : All NamesStay (map (recalled_block f) (map (cleared_if gone) g.blocks)) = subst (λ (cs : List Block). All NamesStay cs) (sym (map_twice g.blocks)) (blocks_names [] g.blocks refl) in
      All-cons N g.entry (code_word_uses g.code_words ++ (terms_uses (map (recalled_block f) (map (cleared_if gone) g.blocks)) ++ items_uses (all_items (only_held h (all_cleared gone g))))) (reached_stays g.entry entry)
      (All-append N (code_word_uses g.code_words) (terms_uses (map (recalled_block f) (map (cleared_if gone) g.blocks)) ++ items_uses (all_items (only_held h (all_cleared gone g))))
      (all_from N (code_word_uses g.code_words) (λ m c. reached_stays m (code_word c)))
      (All-append N (terms_uses (map (recalled_block f) (map (cleared_if gone) g.blocks))) (items_uses (all_items (only_held h (all_cleared gone g))))
      (All-flat_map N (λ b. term_uses b.term) (map (recalled_block f) (map (cleared_if gone) g.blocks)) (λ k d below. let b = blocks k d below in b.terms))
      (subst (λ ns. All N ns) (sym (flat_map-append item_uses (items_of_blocks (map (recalled_block f) (map (cleared_if gone) g.blocks))) (items_of_bodies (map (recalled_procedure f) (procedures_held h g.procedures)))))
      (All-append N (items_uses (items_of_blocks (map (recalled_block f) (map (cleared_if gone) g.blocks)))) (items_uses (items_of_bodies (map (recalled_procedure f) (procedures_held h g.procedures))))
      (subst (λ ns. All N ns) (uses_of_blocks (map (recalled_block f) (map (cleared_if gone) g.blocks))) (All-flat_map N (λ b. items_uses b.items) (map (recalled_block f) (map (cleared_if gone) g.blocks)) (λ k d below. let b = blocks k d below in b.items)))
      (subst (λ ns. All N ns) (uses_of_bodies (map (recalled_procedure f) (procedures_held h g.procedures))) (All-flat_map N (λ p. items_uses p.body) (map (recalled_procedure f) (procedures_held h g.procedures)) bodies_names))))))
    where
      map_twice : (bs : List Block) → map (recalled_block f) (map (cleared_if gone) bs) ≡ map made bs
      map_twice [] = refl
      map_twice (b ∷ bs) = ap (λ cs. made b ∷ cs) (map_twice bs)

  -- WHERE BLOCKS GO ON

  made_name : (b : Block) → (made b).name ≡ b.name
  made_name b = named_as (is_listed gone b.name)
    where
      named_as : (t : Bool) → (if t then emptied b else b).name ≡ b.name
      named_as true = refl
      named_as false = refl

  first_made : (bs : List Block) → first_listed gone (map (recalled_block f) (map (cleared_if gone) bs)) ≡ first_listed gone bs
  first_made [] = refl
  first_made (b ∷ bs) = ap (λ n. is_listed gone n) (made_name b)

  apart_made : (front bs : List Block) → front ++ bs ≡ g.blocks → AreApart gone (map (recalled_block f) (map (cleared_if gone) bs))
  apart_made front [] e = tt
  apart_made front (x ∷ bs) e = (
    λ listed. goes (cases_Bool (is_listed gone x.name)) (sym (first_made bs) ∙ listed),
    apart_made (front ++ x ∷ []) bs (append_assoc front (x ∷ []) bs ∙ e),
  )
    where
      next_stays : (cs : List Block) → cs ≡ bs → N x.name → goes_on x.term ≡ true → first_listed gone cs ≡ true → ⊥
      next_stays [] same stay on listed = cc
      next_stays (y ∷ cs) same stay on listed =
          let first : Contains (if goes_on x.term then first_name bs else []) y.name = rw on (subst (λ (ds : List Block). Contains (first_name ds) y.name) same (0, omega arith, refl)) in
          let no = leads front x bs e stay y.name (Contains-append_left (term_uses x.term ++ (if goes_on x.term then first_name bs else [])) (flat_map (called_names g.procedures) x.items) y.name (Contains-append_right (term_uses x.term) (if goes_on x.term then first_name bs else []) y.name first)) in
          cc

      goes : (is_listed gone x.name ≡ true) ⊎ (is_listed gone x.name ≡ false) → first_listed gone bs ≡ true → goes_on (cleared_if gone x).term ≡ false
      goes (inl cleared) listed = rw cleared refl
      goes (inr stay) listed =
          rw stay (elim (cases_Bool (goes_on x.term)) [
            | inl on ↦ absurd (next_stays bs refl stay on listed)
            | inr off ↦ off
          ])

  still_named : (bs : List Block) (n : ℕ) → is_some (value_of (named (map (recalled_block f) (map (cleared_if gone) bs))) n) ≡ is_some (value_of (named bs) n)
  still_named [] n = refl
  still_named (b ∷ bs) n =
      let same : ((made b).name == n) ≡ (b.name == n) = ap (λ k. k == n) (made_name b) in
      elim (cases_Bool (b.name == n)) [
        | inl here ↦ let here' : ((made b).name == n) ≡ true = same ∙ here in rw (here, here') refl
        | inr apart ↦ let apart' : ((made b).name == n) ≡ false = same ∙ apart in rw (apart, apart') (still_named bs n)
      ]

  pub may_go : MayGo (only_held (held_from (all_cleared gone g) (length g.procedures)) (all_cleared gone g)) gone
  may_go = record {
    there = λ n listed. still_named g.blocks n ∙ there n listed;
    once = subst AreOnce (sym are.in_order) (once_kept (λ n. is_listed gone n) g.blocks rules.distinct);
    unused = names_stay;
    apart = apart_made [] g.blocks refl;
  }
