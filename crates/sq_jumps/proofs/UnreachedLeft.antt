-- What is left once the blocks that aren't reached are gone: it is the graph with the others alone, and what a pass
-- promises holds of it.
use Rattle.std.proofs.Common.{◌≡◌, ℕ, zero, suc, ◌+◌, ◌<◌, ◌==◌, nat_lt, Bool, true, false, ◌||◌, ◌&&◌, not, List, [], ◌∷◌, ◌++◌, map, length, sum_by, slice_get, None, Some, IsSome, is_some, refl, sym, ap, ◌∙◌, subst, inl, inr, ◌⊎◌, append_assoc, arith}
use Rattle.std.specs.List.{All, Contains, filter, flat_map}
use Rattle.std.proofs.lemmas.Bool.{cases_Bool, eqb-true, eq-eqb}
use Rattle.std.proofs.lemmas.Bool.Decides.{nat_tests}
use Rattle.std.proofs.lemmas.List.{length-map}
use Rattle.std.proofs.lemmas.List.Sums.{sum_by-cons}
use Rattle.std.proofs.lemmas.List.Elements.{All-head, All-tail}
use Rattle.sq_arena.specs.Entries.{HasDistinctKeys, value_of}
use Rattle.sq_arena.proofs.EntriesLaws.{distinct_back}
use Rattle.sq_graph.specs.declared.item.Item.{Item}
use Rattle.sq_graph.specs.declared.item.Item.TheVariants.{Op, Hi, Lo, Out}
use Rattle.sq_graph.specs.declared.item.Term.TheVariants.{Branch}
use Rattle.sq_graph.specs.Graph.{Block, Procedure, Graph}
use Rattle.sq_graph.specs.Blocks.{named, HasBlock, HasProcedure, block_of, block_items, block_term, items_of}
use Rattle.sq_graph.specs.Renames.{recalled_item, recalled_items, recalled_block, recalled_procedure}
use Rattle.sq_graph.specs.Rules.{IsGraph}
use Rattle.sq_graph.specs.Uses.{item_calls}
use Rattle.sq_graph.specs.Words.{block_words, procedure_words, words_of}
use Rattle.sq_graph.proofs.Kept.{absent_behind}
use Rattle.sq_graph.proofs.RulesByBlock.{BlockStands, BodyStands, by_block}
use Rattle.sq_graph.proofs.AlikeGraphs.{alike_itself}
use Rattle.law_patch.specs.Restrictions.{procedures_held, number_held, IsCalledIn, HoldsReached}
use Rattle.law_patch.proofs.Restricting.{restrict_follows, restrict_sound, reached_closed}
use Rattle.sq_reach.proofs.Blocks.{reached_has}
use Rattle.sq_pass.specs.Applied.{IsApplied}
use Rattle.sq_lookup.specs.Names.{is_listed}
use Rattle.sq_jumps.specs.Unreached.{stays, is_called_in, is_held, without_all, words_gone, AreUnreached}
use Rattle.sq_jumps.specs.UnreachedClear.{AreHeld, cleared_each, is_called, TellsCalled, without_each}
use Rattle.sq_layout.specs.Shrinks.{Shrinks}
use Rattle.sq_layout.specs.Reach.{LedThere}
use Rattle.sq_layout.proofs.Shrinking.{shrunk_in_reach, block_with}
use Rattle.sq_layout.proofs.Shrunk.{shrinks_twice, each_shrinks, filter_shrinks, recalled_shrunk}
use Rattle.sq_jumps.proofs.Ruled.{block_found}
use Rattle.sq_jumps.proofs.UnreachedCleared.{cleared_if, all_cleared, each_cleared}
use Rattle.sq_jumps.proofs.UnreachedUncalled.{number_same, held_same, only_held, held_from}
use Rattle.sq_jumps.proofs.UnreachedRemoved.{left_of, each_goes}
use Rattle.sq_jumps.proofs.UnreachedGo.{listed_in, contains_listed, held_each}

pub own_there : (front : List Block) (x : Block) (bs : List Block) → IsSome (value_of (named (front ++ (x ∷ bs))) x.name)
own_there [] x bs = let same : (x.name == x.name) ≡ true = eq-eqb x.name x.name refl in rw same refl
own_there (y ∷ front) x bs = elim (cases_Bool (y.name == x.name)) [ inl same ↦ rw same refl | inr apart ↦ rw apart (own_there front x bs) ]

-- items whose calls have the same numbers
items_same : (f f' : ℕ → ℕ) (P : ℕ → Type 0) → ((n : ℕ) → P n → f n ≡ f' n) → (items : List Item) → All (λ item. All P (item_calls item)) items → recalled_items f items ≡ recalled_items f' items
items_same f f' P same [] all = refl
items_same f f' P same (Op insn ∷ items) all = ap (λ is. Op insn ∷ is) (items_same f f' P same items (All-tail {X = Item} (λ item. All P (item_calls item)) (Op insn) items all))
items_same f f' P same (Hi rd to ∷ items) all = ap (λ is. Hi rd to ∷ is) (items_same f f' P same items (All-tail {X = Item} (λ item. All P (item_calls item)) (Hi rd to) items all))
items_same f f' P same (Lo rd rs to ∷ items) all = ap (λ is. Lo rd rs to ∷ is) (items_same f f' P same items (All-tail {X = Item} (λ item. All P (item_calls item)) (Lo rd rs to) items all))
items_same f f' P same (Out q ∷ items) all =
    let first = All-head P q [] (All-head {X = Item} (λ item. All P (item_calls item)) (Out q) items all) in
    ap (λ n. Out n ∷ recalled_items f items) (same q first) ∙ ap (λ is. Out (f' q) ∷ is) (items_same f f' P same items (All-tail {X = Item} (λ item. All P (item_calls item)) (Out q) items all))

module _ (g : Graph) (gone : List ℕ) (rules : IsGraph g) (are : AreUnreached g gone) where
  abbrev P : ℕ
  P = length g.procedures

  abbrev keep : ℕ → Bool
  keep = stays g gone

  abbrev held : ℕ → Bool
  held = is_held g gone

  abbrev h : ℕ → Bool
  h = held_from (all_cleared gone g) (length g.procedures)

  has_is : (front : List Block) (x : Block) (bs : List Block) → front ++ (x ∷ bs) ≡ g.blocks → is_some (block_of g x.name) ≡ true
  has_is front x bs e = subst (λ (cs : List Block). IsSome (value_of (named cs) x.name)) e (own_there front x bs)

  called_same : (front bs : List Block) → front ++ bs ≡ g.blocks → (q : ℕ) → is_called_in (λ n. true) (map (cleared_if gone) bs) q ≡ is_called_in (stays g gone) bs q
  called_same front [] e q = refl
  called_same front (x ∷ bs) e q =
      let later = called_same (front ++ x ∷ []) bs (append_assoc front (x ∷ []) bs ∙ e) q in
      let has = has_is front x bs e in
      elim (cases_Bool (is_listed gone x.name)) [
        | inl listed ↦ rw (has, listed) later
        | inr stay ↦ rw (has, stay) (ap (λ t. is_listed (flat_map item_calls x.items) q || t) later)
      ]

  -- once the blocks are cleared, those that stay are all that call
  pub tells_held : (bound : ℕ) (called : List ℕ) → AreHeld g gone called → TellsCalled (cleared_each gone g) bound called
  tells_held bound called held = λ q below. held q ∙ sym (called_same [] g.blocks refl q) ∙ ap (λ (k : Graph). is_called k q) (sym (each_cleared gone g rules.distinct))

  tests_same : (q : ℕ) → q < length g.procedures → h q ≡ held q
  tests_same q below =
      let t : nat_lt q (length g.procedures) ≡ true = grind (arith, nat_tests) in
      ap (λ u. is_called (all_cleared gone g) q || not u) t ∙ or_false (is_called (all_cleared gone g) q) ∙ called_same [] g.blocks refl q
    where
      or_false : (a : Bool) → (a || false) ≡ a
      or_false true = refl
      or_false false = refl

  numbers_same : (q : ℕ) → HasProcedure g q → number_held h q ≡ number_held held q
  numbers_same q below = number_same h held q (λ k b. tests_same k (omega (arith, b, below)))

  -- blocks that are left, under the numbers that their calls then have
  blocks_left : (front bs : List Block) → front ++ bs ≡ g.blocks → All (BlockStands (HasBlock g) (HasProcedure g)) bs
      → left_of gone (map (recalled_block (number_held h)) (map (cleared_if gone) bs)) ≡ map (recalled_block (number_held held)) (filter (λ b. stays g gone b.name) bs)
  blocks_left front [] e all = refl
  blocks_left front (x ∷ bs) e all =
      let B = BlockStands (HasBlock g) (HasProcedure g) in
      let later = blocks_left (front ++ x ∷ []) bs (append_assoc front (x ∷ []) bs ∙ e) (All-tail B x bs all) in
      let has = has_is front x bs e in
      let stand = All-head B x bs all in
      elim (cases_Bool (is_listed gone x.name)) [
        | inl listed ↦ rw (has, listed, listed) later
        | inr stay ↦
            let items = items_same (number_held h) (number_held held) (HasProcedure g) numbers_same x.items (λ k d below. let item = stand.items k d below in item.calls) in
            rw (has, stay, stay) (ap (λ is. record x { items = is } ∷ left_of gone (map (recalled_block (number_held h)) (map (cleared_if gone) bs))) items ∙ ap (λ cs. recalled_block (number_held held) x ∷ cs) later)
      ]

  procedures_same : (ps : List Procedure) → All (BodyStands (HasBlock g) (HasProcedure g)) ps → map (recalled_procedure (number_held h)) ps ≡ map (recalled_procedure (number_held held)) ps
  procedures_same [] all = refl
  procedures_same (p ∷ ps) all =
      let B = BodyStands (HasBlock g) (HasProcedure g) in
      let stand = All-head B p ps all in
      let items = items_same (number_held h) (number_held held) (HasProcedure g) numbers_same p.body (λ k d below. let item = stand.items k d below in item.calls) in
      ap (λ is. record p { body = is } ∷ map (recalled_procedure (number_held h)) ps) items ∙ ap (λ rs. recalled_procedure (number_held held) p ∷ rs) (procedures_same ps (All-tail B p ps all))

  slice_all : (Q : Procedure → Type 0) (ps : List Procedure) (q : ℕ) (p : Procedure) → All Q ps → slice_get ps q ≡ Some p → Q p
  slice_all Q [] q p all e = absurd (cc)
  slice_all Q (x ∷ ps) zero p all e = subst Q (same x p e) (All-head Q x ps all)
    where
      same : (x p : Procedure) → Some x ≡ Some p → x ≡ p
      same x p e = cc
  slice_all Q (x ∷ ps) (suc q) p all e = slice_all Q ps q p (All-tail Q x ps all) e

  pub all_gone : HasDistinctKeys (named (only_held (held_from (all_cleared gone g) (length g.procedures)) (all_cleared gone g)).blocks) → without_each gone (only_held (held_from (all_cleared gone g) (length g.procedures)) (all_cleared gone g)) ≡ without_all g gone
  all_gone distinct =
      let by = by_block (HasBlock g) (HasProcedure g) g rules rules.named_all rules.called_all in
      let B = BodyStands (HasBlock g) (HasProcedure g) in
      let ps : map (recalled_procedure (number_held h)) (procedures_held h g.procedures) ≡ map (recalled_procedure (number_held held)) (procedures_held held g.procedures) =
      ap (map (recalled_procedure (number_held h))) (held_same h held g.procedures tests_same)
      ∙ procedures_same (procedures_held held g.procedures) (held_each B held g.procedures (λ q p is found. slice_all B g.procedures q p by.bodies found)) in
      each_goes gone (only_held h (all_cleared gone g)) distinct
      ∙ ap (λ (bs : List Block). record g { blocks = bs; procedures = map (recalled_procedure (number_held h)) (procedures_held h g.procedures) }) (blocks_left [] g.blocks refl by.blocks)
      ∙ ap (λ (rs : List Procedure). record g { blocks = map (recalled_block (number_held held)) (filter (λ b. stays g gone b.name) g.blocks); procedures = rs }) ps

  -- WHAT A PASS PROMISES

  stays_there : (n : ℕ) → stays g gone n ≡ true → HasBlock g n × (is_listed gone n ≡ false)
  stays_there n e = both (is_some (block_of g n)) (is_listed gone n) e
    where
      both : (a b : Bool) → (a && not b) ≡ true → (a ≡ true) × (b ≡ false)
      both true false e = (refl, refl)
      both true true e = absurd (cc)
      both false b e = absurd (cc)

  called_if : (bs : List Block) (n q : ℕ) → stays g gone n ≡ true → Contains (flat_map item_calls (block_items (value_of (named bs) n))) q → is_called_in (stays g gone) bs q ≡ true
  called_if [] n q kept c = absurd (omega (arith, c.1))
  called_if (x ∷ bs) n q kept c =
      elim (cases_Bool (x.name == n)) [
        | inl same ↦
            let own : stays g gone x.name ≡ true = subst (λ m. stays g gone m ≡ true) (sym (eqb-true x.name n same)) kept in
            let call : is_listed (flat_map item_calls x.items) q ≡ true = listed_in (flat_map item_calls x.items) q (rw same at c) in
            rw (own, call) refl
        | inr apart ↦ or_right (stays g gone x.name && is_listed (flat_map item_calls x.items) q) (is_called_in (stays g gone) bs q) (called_if bs n q kept (rw apart at c))
      ]
    where
      or_right : (a b : Bool) → b ≡ true → (a || b) ≡ true
      or_right true b e = refl
      or_right false b e = e

  caller_of : (front bs : List Block) (q : ℕ) → front ++ bs ≡ g.blocks → is_called_in (stays g gone) bs q ≡ true → IsCalledIn g (stays g gone) q
  caller_of front [] q e called = absurd (cc)
  caller_of front (x ∷ bs) q e called =
      elim (cases_Bool (stays g gone x.name && is_listed (flat_map item_calls x.items) q)) [
        | inl own ↦
            let both = both_true (stays g gone x.name) (is_listed (flat_map item_calls x.items) q) own in
            let items : items_of g x.name ≡ x.items = found front x bs e in
            (x.name, both.0, subst (λ is. Contains (flat_map item_calls is) q) (sym items) (contains_listed (flat_map item_calls x.items) q both.1))
        | inr none ↦ caller_of (front ++ x ∷ []) bs q (append_assoc front (x ∷ []) bs ∙ e) (rw none at called)
      ]
    where
      both_true : (a b : Bool) → (a && b) ≡ true → (a ≡ true) × (b ≡ true)
      both_true true b e = (refl, e)
      both_true false b e = absurd (cc)

      found : (front : List Block) (x : Block) (bs : List Block) → front ++ (x ∷ bs) ≡ g.blocks → items_of g x.name ≡ x.items
      found front x bs e = ap block_items (block_found g rules front x bs e)

  holds : HoldsReached g (stays g gone) (is_held g gone)
  holds = record {
    reached = λ n kept. let o = stays_there n kept in (are.exact n o.0).0 o.1;
    kept = λ n r.
        let has = reached_has g n rules r in
        let stay : is_listed gone n ≡ false = (are.exact n has).1 r in
        both_so (is_some (block_of g n)) (is_listed gone n) has stay;
    calls = λ q c. called_if g.blocks c.0 q c.1 c.2;
    called = λ q is. caller_of [] g.blocks q refl is;
  }
    where
      both_so : (a b : Bool) → a ≡ true → b ≡ false → (a && not b) ≡ true
      both_so a b e f = rw (e, f) refl

  -- the block of a name among those that are left
  kept_found : (f : ℕ → ℕ) (t : Block → Bool) (bs : List Block) (n : ℕ) (c : Block) → HasDistinctKeys (named bs) → value_of (named (map (recalled_block f) (filter t bs))) n ≡ Some c → (b : Block) × ((value_of (named bs) n ≡ Some b) × (c.term ≡ b.term))
  kept_found f t [] n c distinct found = absurd (cc)
  kept_found f t (x ∷ bs) n c distinct found =
      by_test (cases_Bool (t x)) (cases_Bool (x.name == n)) (λ rest. kept_found f t bs n c (distinct_back ((x.name, x) ∷ []) (named bs) distinct) rest)
    where
      absent : (bs : List Block) → value_of (named bs) n ≡ None → value_of (named (map (recalled_block f) (filter t bs))) n ≡ None
      absent [] none = refl
      absent (y ∷ ys) none =
          elim (cases_Bool (y.name == n)) [
            | inl same ↦ absurd (cc (rw same at none))
            | inr apart ↦ elim (cases_Bool (t y)) [ inl kept ↦ rw (kept, apart) (absent ys (rw apart at none)) | inr goes ↦ rw goes (absent ys (rw apart at none)) ]
          ]

      by_test : (t x ≡ true) ⊎ (t x ≡ false) → (x.name == n) ≡ true ⊎ (x.name == n) ≡ false → (value_of (named (map (recalled_block f) (filter t bs))) n ≡ Some c → (b : Block) × ((value_of (named bs) n ≡ Some b) × (c.term ≡ b.term))) → (b : Block) × ((value_of (named (x ∷ bs)) n ≡ Some b) × (c.term ≡ b.term))
      by_test (inl kept) (inl same) later =
          let own : recalled_block f x ≡ c = same_block (recalled_block f x) c (rw same at (rw kept at found)) in
          (x, (rw same refl, ap (λ (b : Block). b.term) (sym own)))
        where
          same_block : (b c : Block) → Some b ≡ Some c → b ≡ c
          same_block b c e = cc
      by_test (inl kept) (inr apart) later = let o = later (rw apart at (rw kept at found)) in (o.0, (rw apart o.1.0, o.1.1))
      by_test (inr goes) (inl same) later =
          let none : value_of (named bs) n ≡ None = subst (λ k. value_of (named bs) k ≡ None) (eqb-true x.name n same) (absent_behind (x.name, x) (named bs) distinct) in
          let gone_too = absent bs none in
          let still = rw goes at found in
          absurd (cc)
      by_test (inr goes) (inr apart) later = let o = later (rw goes at found) in (o.0, (rw apart o.1.0, o.1.1))

  led : LedThere g (without_all g gone)
  led n cond a b to e =
      let o = block_with (block_of (without_all g gone) n) (Branch cond a b to) e in
      let source = kept_found (number_held held) (λ x. stays g gone x.name) g.blocks n o.0 rules.distinct o.1 in
      inl (cond, a, b, ap block_term source.1.0 ∙ ap Some (sym source.1.1 ∙ o.2))

  shrinks : Shrinks g.blocks (without_all g gone).blocks
  shrinks = shrinks_twice (filter_shrinks (λ x. stays g gone x.name) g.blocks) (each_shrinks (recalled_block (number_held held)) (recalled_shrunk (number_held held)) (filter (λ x. stays g gone x.name) g.blocks))

  -- WORDS

  block_sums : (front bs : List Block) → front ++ bs ≡ g.blocks
      → sum_by block_words (map (recalled_block (number_held held)) (filter (λ b. stays g gone b.name) bs)) + sum_by block_words (filter (λ b. is_listed gone b.name) bs) ≡ sum_by block_words bs
  block_sums front [] e = refl
  block_sums front (x ∷ bs) e =
      let later = block_sums (front ++ x ∷ []) bs (append_assoc front (x ∷ []) bs ∙ e) in
      let has = has_is front x bs e in
      let f = number_held held in
      elim (cases_Bool (is_listed gone x.name)) [
        | inl listed ↦
            rw (has, listed) (omega (arith, later, sum_by-cons block_words x bs, sum_by-cons block_words x (filter (λ b. is_listed gone b.name) bs)))
        | inr stay ↦
            rw (has, stay) (omega (
              arith,
              later,
              sum_by-cons block_words x bs,
              sum_by-cons block_words (recalled_block (number_held held) x) (map (recalled_block (number_held held)) (filter (λ b. stays g gone b.name) bs)),
              length-map x.items (recalled_item (number_held held)),
            ))
      ]

  procedure_sums : (f : ℕ → ℕ) (t : ℕ → Bool) (ps : List Procedure)
      → sum_by procedure_words (map (recalled_procedure f) (procedures_held t ps)) + sum_by procedure_words (procedures_held (λ q. not (t q)) ps) ≡ sum_by procedure_words ps
  procedure_sums f t [] = refl
  procedure_sums f t (p ∷ ps) =
      let later = procedure_sums f (λ q. t (suc q)) ps in
      elim (cases_Bool (t 0)) [
        | inl first ↦
            rw first (omega (
              arith,
              later,
              sum_by-cons procedure_words p ps,
              sum_by-cons procedure_words (recalled_procedure f p) (map (recalled_procedure f) (procedures_held (λ q. t (suc q)) ps)),
              length-map p.body (recalled_item f),
            ))
        | inr goes ↦ rw goes (omega (arith, later, sum_by-cons procedure_words p ps, sum_by-cons procedure_words p (procedures_held (λ q. not (t (suc q))) ps)))
      ]

  pub words_fall : words_of (without_all g gone) + words_gone g gone ≡ words_of g
  words_fall = omega (arith, block_sums [] g.blocks refl, procedure_sums (number_held held) held g.procedures)

  pub unreached_applied : IsGraph (without_all g gone) → IsApplied (words_gone g gone) (without_all g gone) g (without_all g gone)
  unreached_applied rules' = record {
    rules = rules';
    follows = restrict_follows g (stays g gone) (is_held g gone) rules (reached_closed g (stays g gone) (is_held g gone) holds);
    sound = λ sound. restrict_sound g (stays g gone) (is_held g gone) rules (reached_closed g (stays g gone) (is_held g gone) holds) sound;
    reach = λ reach. shrunk_in_reach g (without_all g gone) rules.distinct rules'.distinct shrinks led reach;
    words = words_fall;
    described = alike_itself (without_all g gone);
    kept = λ n has. refl;
  }
