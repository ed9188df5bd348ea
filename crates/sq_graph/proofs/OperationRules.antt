-- When the rules hold after a call, for callers: each asks no more than what is new about the graph.
use Rattle.std.proofs.Common.{◌≡◌, ◌≢◌, ℕ, zero, suc, ◌+◌, ◌-◌, ◌<◌, ◌==◌, nat_lt, true, false, List, [], ◌∷◌, ◌++◌, map, length, take, drop, Option, None, Some, IsSome, is_some, refl, sym, ap, ◌∙◌, subst, inl, inr, arith, length-append, append_assoc}
use Rattle.std.specs.List.{All, slice_get, slice_range, remove}
use Rattle.std.proofs.lemmas.Bool.{cases_Bool, eqb-false, eq-eqb, ne_eqb, ltb-true, ltb-false}
use Rattle.std.proofs.lemmas.List.{length-map, map-append}
use Rattle.std.proofs.lemmas.List.Edits.{length-remove}
use Rattle.std.proofs.lemmas.List.Elements.{All-nil, All-cons, All-head, All-tail, All-append, All-same, All-map, All-take, All-drop, All-push, All-weaker}
use Rattle.sq_arena.specs.Entries.{keys, HasDistinctKeys, value_of, ContainsKey, before, through, starting_at, behind, run, without_run, IsRun, move_run_after, first_key, next_key}
use Rattle.sq_arena.proofs.EntriesLaws.{HasDistinctKeys-insert, behind-append, starting_at-append, absent_ahead, IsRun-one, HasDistinctKeys-move_run_after, KeepsValues-move_run_after}
use Rattle.sq_graph.specs.declared.item.Item.{Item}
use Rattle.sq_graph.specs.declared.item.Item.TheVariants.{Op, Hi, Lo, Out}
use Rattle.sq_graph.specs.declared.item.Term.{Term}
use Rattle.sq_graph.specs.Graph.{Block, Procedure, Graph}
use Rattle.sq_graph.specs.Blocks.{named, HasBlock, HasProcedure, next_of, items_of, block_items, procedure_body, procedure_link, link_of}
use Rattle.sq_graph.specs.Terms.{goes_on}
use Rattle.sq_graph.specs.Uses.{term_uses, code_word_uses, item_calls, uses, calls}
use Rattle.sq_graph.specs.Rules.{IsGraph, TermFits, ProcedureFits, last_goes_on, mentions}
use Rattle.sq_graph.specs.Renames.{retargeted_block, retargeted, recalled, recalled_item, recalled_items, recalled_block, recalled_procedure, swapped, lowered}
use Rattle.sq_graph.specs.Operations.{IsNew, with_blocks, changed, with_term, redirected, replaced_items, replaced, procedures_with, with_body_item, called_at, called_body, inlined, outlined, inserted_after, without_block, redirected_calls, without_procedure, moved_after}
use Rattle.sq_graph.proofs.Located.{IsAt, located, named-append}
use Rattle.sq_graph.proofs.SlotReads.{block_at}
use Rattle.sq_graph.proofs.Eachs.{All-left, All-right}
use Rattle.sq_graph.proofs.Changes.{with_blocks-at}
use Rattle.sq_graph.proofs.RetargetRules.{uses-other, other_rules}
use Rattle.sq_graph.proofs.SplitRules.{keeps_names, last_goes_on-append, distinct_by_keys}
use Rattle.sq_graph.proofs.BackWalks.{is_in}
use Rattle.sq_graph.proofs.Bypassing.{distinct_without}
use Rattle.sq_graph.proofs.RulesByBlock.{ItemStands, BlockStands, BodyStands, IsByBlock, by_block, all_called, from_blocks, blocks_stay, bodies_stay, by_stays}

-- the slot behind a block
pub next_of-at : (blocks : List Block) (name : ℕ) (at : IsAt blocks name) → next_key (named blocks) name ≡ first_key (named at.back)
next_of-at blocks name at =
    ap (λ bs. next_key (named bs) name) at.whole
    ∙ ap (λ es. next_key es name) (named-append at.front (at.block ∷ at.back))
    ∙ ap (λ k. next_key (named at.front ++ (k, at.block) ∷ named at.back) name) at.has_name
    ∙ ap first_key (behind-append (named at.front) (named at.back) name at.block at.ahead)

-- a graph with one block made of others, of which one keeps its name
module _ (f : Block → List Block) (g : Graph) (name : ℕ) (rules : IsGraph g) (at : IsAt g.blocks name) (own : (b : Block) → IsSome (value_of (named (f b)) b.name)) where
  still_named : (k : ℕ) → HasBlock g k → HasBlock (changed f g name) k
  still_named k has = keeps_names f g.blocks name k own has

  pub block_there : BlockStands (HasBlock g) (HasProcedure g) at.block
  block_there =
      let by = by_block (HasBlock g) (HasProcedure g) g rules rules.named_all rules.called_all in
      let all = subst (λ (bs : List Block). All (BlockStands (HasBlock g) (HasProcedure g)) bs) at.whole by.blocks in
      All-head (BlockStands (HasBlock g) (HasProcedure g)) at.block at.back (All-right (BlockStands (HasBlock g) (HasProcedure g)) at.front (at.block ∷ at.back) all)

  pub changed_rules : HasDistinctKeys (named (with_blocks f g.blocks name)) → All (BlockStands (HasBlock g) (HasProcedure g)) (f at.block) → last_goes_on (f at.block ++ at.back) ≡ false → f at.block ≢ [] → IsGraph (changed f g name)
  changed_rules distinct stand ends some =
      let N = HasBlock g in
      let C = HasProcedure g in
      let N' = HasBlock (changed f g name) in
      let by = by_block N C g rules rules.named_all rules.called_all in
      let parts = with_blocks-at f g.blocks name at in
      let old = subst (λ (bs : List Block). All (BlockStands N C) bs) at.whole by.blocks in
      let back : All (BlockStands N C) at.back = λ k d h. All-right (BlockStands N C) (at.block ∷ []) at.back (All-right (BlockStands N C) at.front (at.block ∷ at.back) old) k d h in
      let all : All (BlockStands N C) (with_blocks f g.blocks name) =
      subst (λ (bs : List Block). All (BlockStands N C) bs) (sym parts)
      (All-append (BlockStands N C) at.front (f at.block ++ at.back) (All-left (BlockStands N C) at.front (at.block ∷ at.back) old) (All-append (BlockStands N C) (f at.block) at.back stand back)) in
      let same = λ (k : ℕ) (h : C k). h in
      from_blocks (changed f g name)
      (record {
        distinct = distinct;
        entry = still_named g.entry by.entry;
        words = All-weaker N N' still_named (code_word_uses g.code_words) by.words;
        ends = ap last_goes_on parts ∙ ends_behind at.front (f at.block) at.back some ∙ ends;
        ascending = rules.code_words;
        blocks = blocks_stay N N' C C still_named same (with_blocks f g.blocks name) all;
        bodies = bodies_stay N N' C C still_named same g.procedures by.bodies;
      })
    where
      ends_behind : (front bs back : List Block) → bs ≢ [] → last_goes_on (front ++ (bs ++ back)) ≡ last_goes_on (bs ++ back)
      ends_behind front [] back some = absurd (some refl)
      ends_behind front (b ∷ bs) back some = last_goes_on-append front b (bs ++ back)

keys-one : (h : Block → Block) → ((b : Block) → (h b).name ≡ b.name) → (blocks : List Block) (name : ℕ) → keys (named (with_blocks (λ b. h b ∷ []) blocks name)) ≡ keys (named blocks)
keys-one h same [] name = refl
keys-one h same (b ∷ rest) name =
    elim (cases_Bool (b.name == name)) [
      | inl here ↦ rw here (ap (λ k. k ∷ keys (named rest)) (same b))
      | inr apart ↦ rw apart (ap (λ ks. b.name ∷ ks) (keys-one h same rest name))
    ]

-- where the last block goes on neither before nor after
ends_one : (b c : Block) (back : List Block) → last_goes_on (b ∷ back) ≡ false → (goes_on c.term ≡ true → IsSome (first_key (named back))) → last_goes_on (c ∷ back) ≡ false
ends_one b c [] ends goes =
    elim (cases_Bool (goes_on c.term)) [ inl on ↦ absurd (let none : IsSome (first_key (named [])) = goes on in cc) | inr off ↦ off ]
ends_one b c (next ∷ back) ends goes = ends

ends_at : (blocks : List Block) (name : ℕ) (at : IsAt blocks name) → last_goes_on blocks ≡ false → last_goes_on (at.block ∷ at.back) ≡ false
ends_at blocks name at ends = sym (last_goes_on-append at.front at.block at.back) ∙ sym (ap last_goes_on at.whole) ∙ ends

-- one block has other items and another term
one_rules : (h : Block → Block) → ((b : Block) → (h b).name ≡ b.name) → (g : Graph) (name : ℕ) → IsGraph g → (at : IsAt g.blocks name) → BlockStands (HasBlock g) (HasProcedure g) (h at.block)
    → (goes_on (h at.block).term ≡ true → IsSome (first_key (named at.back))) → IsGraph (changed (λ b. h b ∷ []) g name)
one_rules h same g name rules at stands goes =
    let own : (b : Block) → IsSome (value_of (named (h b ∷ [])) b.name) = λ b. rw (eq-eqb (h b).name b.name (same b)) refl in
    changed_rules (λ b. h b ∷ []) g name rules at own
    (rw (keys-one h same g.blocks name) rules.distinct)
    (All-cons (BlockStands (HasBlock g) (HasProcedure g)) (h at.block) [] stands (All-nil (BlockStands (HasBlock g) (HasProcedure g))))
    (ends_one at.block (h at.block) at.back (ends_at g.blocks name at rules.ends) goes)
    (λ none. cc)

-- the term fits, uses blocks that are there, and goes on only where a slot follows
pub with_term_rules : (g : Graph) (name : ℕ) (t : Term) → IsGraph g → HasBlock g name → TermFits t → All (HasBlock g) (term_uses t) → (goes_on t ≡ true → IsSome (next_of g name)) → IsGraph (with_term g name t)
with_term_rules g name t rules has fits names goes =
    let at = located g.blocks name has in
    let own : (b : Block) → IsSome (value_of (named (b ∷ [])) b.name) = λ b. rw (eq-eqb b.name b.name refl) refl in
    let old = block_there (λ b. b ∷ []) g name rules at own in
    one_rules (λ b. record b { term = t }) (λ b. refl) g name rules at
    (record { items = old.items; names = names; fits = fits })
    (λ on. subst (λ o. IsSome o) (next_of-at g.blocks name at) (goes on))

-- the new items fit, and use blocks and procedures that are there
pub replaced_rules : (g : Graph) (name place count : ℕ) (by : List Item) → IsGraph g → HasBlock g name → All (ItemStands (HasBlock g) (HasProcedure g)) by → IsGraph (replaced g name place count by)
replaced_rules g name place count by rules has stand =
    let I = ItemStands (HasBlock g) (HasProcedure g) in
    let at = located g.blocks name has in
    let own : (b : Block) → IsSome (value_of (named (b ∷ [])) b.name) = λ b. rw (eq-eqb b.name b.name refl) refl in
    let old = block_there (λ b. b ∷ []) g name rules at own in
    one_rules (λ b. record b { items = replaced_items b.items place count by }) (λ b. refl) g name rules at
    (record {
      items =
          All-append I (take place at.block.items) (by ++ drop (place + count) at.block.items) (All-take I place at.block.items old.items)
          (All-append I by (drop (place + count) at.block.items) stand (All-drop I (place + count) at.block.items old.items));
      names = old.names;
      fits = old.fits;
    })
    (λ on. follows at.block at.back (ends_at g.blocks name at rules.ends) on)
  where
    follows : (b : Block) (back : List Block) → last_goes_on (b ∷ back) ≡ false → goes_on b.term ≡ true → IsSome (first_key (named back))
    follows b [] ends on = absurd (cc)
    follows b (next ∷ back) ends on = refl

-- the block's procedure has items that fit already
pub inlined_rules : (g : Graph) (name place : ℕ) → IsGraph g → HasBlock g name → IsGraph (inlined g name place)
inlined_rules g name place rules has =
    replaced_rules g name place 1 (called_body g (called_at g name place)) rules has (body_stands (called_at g name place))
  where
    I : Item → Type 0
    I = ItemStands (HasBlock g) (HasProcedure g)

    stands_at : (ps : List Procedure) → All (BodyStands (HasBlock g) (HasProcedure g)) ps → (number : ℕ) → All (ItemStands (HasBlock g) (HasProcedure g)) (procedure_body (slice_get ps number))
    stands_at [] all number = All-nil (ItemStands (HasBlock g) (HasProcedure g))
    stands_at (p ∷ ps) all zero = let first = All-head (BodyStands (HasBlock g) (HasProcedure g)) p ps all in first.items
    stands_at (p ∷ ps) all (suc number) = stands_at ps (All-tail (BodyStands (HasBlock g) (HasProcedure g)) p ps all) number

    body_stands : (called : Option ℕ) → All (ItemStands (HasBlock g) (HasProcedure g)) (called_body g called)
    body_stands None = All-nil (ItemStands (HasBlock g) (HasProcedure g))
    body_stands (Some number) = stands_at g.procedures (by_block (HasBlock g) (HasProcedure g) g rules rules.named_all rules.called_all).bodies number

-- the new item fits, names a block that is there, calls nothing, and doesn't mention the procedure's link
pub with_body_item_rules : (g : Graph) (number place : ℕ) (item : Item) → IsGraph g → ItemStands (HasBlock g) (HasProcedure g) item → item_calls item ≡ []
    → ((link : ℕ) → link_of g number ≡ Some link → mentions item link ≡ false) → IsGraph (with_body_item g number place item)
with_body_item_rules g number place item rules stands no_calls no_mention =
    let N = HasBlock g in
    let C = HasProcedure g in
    let C' = HasProcedure (with_body_item g number place item) in
    let by = by_block N C g rules rules.named_all rules.called_all in
    let same : (k : ℕ) → N k → N k = λ k there. there in
    let still : (k : ℕ) → C k → C' k = λ k there. omega (arith, there, length-procedures_with g.procedures number) in
    from_blocks (with_body_item g number place item)
    (record {
      distinct = by.distinct;
      entry = by.entry;
      words = by.words;
      ends = by.ends;
      ascending = by.ascending;
      blocks = blocks_stay N N C C' same still g.blocks by.blocks;
      bodies = bodies_stay N N C C' same still (procedures_with g.procedures number place item) (one_body g.procedures number by.bodies no_mention);
    })
  where
    length-procedures_with : (ps : List Procedure) (n : ℕ) → length (procedures_with ps n place item) ≡ length ps
    length-procedures_with [] n = refl
    length-procedures_with (p ∷ ps) zero = refl
    length-procedures_with (p ∷ ps) (suc n) = ap suc (length-procedures_with ps n)

    replaced_all : (P : Item → Type 0) (xs : List Item) → P item → All P xs → All P (replaced_items xs place 1 (item ∷ []))
    replaced_all P xs new all = All-append P (take place xs) (item ∷ drop (place + 1) xs) (All-take P place xs all) (All-cons P item (drop (place + 1) xs) new (All-drop P (place + 1) xs all))

    B : Procedure → Type 0
    B = BodyStands (HasBlock g) (HasProcedure g)

    one_body : (ps : List Procedure) (n : ℕ) → All (BodyStands (HasBlock g) (HasProcedure g)) ps → ((link : ℕ) → procedure_link (slice_get ps n) ≡ Some link → mentions item link ≡ false) → All (BodyStands (HasBlock g) (HasProcedure g)) (procedures_with ps n place item)
    one_body [] n all free = All-nil B
    one_body (p ∷ ps) zero all free =
        let old = All-head B p ps all in
        All-cons B (record p { body = replaced_items p.body place 1 (item ∷ []) }) ps
        (record {
          items = replaced_all (ItemStands (HasBlock g) (HasProcedure g)) p.body stands old.items;
          fits =
              record {
                register = old.fits.register;
                link = old.fits.link;
                no_calls = replaced_all (λ x. item_calls x ≡ []) p.body no_calls old.fits.no_calls;
                no_mention = replaced_all (λ x. mentions x p.link ≡ false) p.body (free p.link refl) old.fits.no_mention;
              };
        })
        (All-tail B p ps all)
    one_body (p ∷ ps) (suc n) all free = All-cons B p (procedures_with ps n place item) (All-head B p ps all) (one_body ps n (All-tail B p ps all) free)

-- the new block's term fits, uses blocks that are there, and goes on only where a slot follows
pub inserted_after_rules : (g : Graph) (new name : ℕ) (t : Term) → IsGraph g → IsNew g new → HasBlock g name → TermFits t → All (HasBlock g) (term_uses t) → (goes_on t ≡ true → IsSome (next_of g name)) → IsGraph (inserted_after g new name t)
inserted_after_rules g new name t rules fresh has fits names goes =
    let B = BlockStands (HasBlock g) (HasProcedure g) in
    let added : Block = record { name = new; items = []; term = t } in
    let at = located g.blocks name has in
    let f : Block → List Block = λ b. b ∷ record { name = new; items = []; term = t } ∷ [] in
    let own : (b : Block) → IsSome (value_of (named (b ∷ record { name = new; items = []; term = t } ∷ [])) b.name) = λ b. rw (eq-eqb b.name b.name refl) refl in
    changed_rules (λ b. b ∷ record { name = new; items = []; term = t } ∷ []) g name rules at own
    (rw (with_blocks-at f g.blocks name at) (insert_distinct at.front at.block at.back (rw at.whole at rules.distinct) (rw at.whole at fresh)))
    (All-cons B at.block (added ∷ []) (block_there f g name rules at own)
    (All-cons B added [] (record { items = All-nil (ItemStands (HasBlock g) (HasProcedure g)); names = names; fits = fits }) (All-nil B)))
    (ends_one at.block added at.back (ends_at g.blocks name at rules.ends) (λ on. subst (λ o. IsSome o) (next_of-at g.blocks name at) (goes on)))
    (λ none. cc)
  where
    insert_distinct : (front : List Block) (b : Block) (back : List Block) → HasDistinctKeys (named (front ++ b ∷ back)) → value_of (named (front ++ b ∷ back)) new ≡ None → HasDistinctKeys (named (front ++ (b ∷ record { name = new; items = []; term = t } ∷ back)))
    insert_distinct front b back distinct fresh' =
        let added : Block = record { name = new; items = []; term = t } in
        let parts : named (front ++ b ∷ back) ≡ (named front ++ (b.name, b) ∷ []) ++ named back =
        named-append front (b ∷ back) ∙ sym (append_assoc (named front) ((b.name, b) ∷ []) (named back)) in
        let inserted = HasDistinctKeys-insert (named front ++ (b.name, b) ∷ []) (named back) new added (rw parts at distinct) (rw parts at fresh') in
        let same : named (front ++ (b ∷ added ∷ back)) ≡ (named front ++ (b.name, b) ∷ []) ++ (new, added) ∷ named back =
        named-append front (b ∷ added ∷ back) ∙ sym (append_assoc (named front) ((b.name, b) ∷ []) ((new, added) ∷ named back)) in
        rw same inserted

-- each name that is a block's becomes one that is a block's
pub retargeted_rules : (f : ℕ → ℕ) (g : Graph) → IsGraph g → ((k : ℕ) → HasBlock g k → HasBlock g (f k)) → IsGraph (retargeted f g)
retargeted_rules f g rules goes =
    other_rules f (λ b. b.name) g rules
    (distinct_by_keys (map (retargeted_block f) g.blocks) g.blocks (keys-retargeted_blocks g.blocks) rules.distinct)
    (λ k there. has_other g.blocks (f k) (goes k there))
  where
    has_other : (bs : List Block) (k : ℕ) → IsSome (value_of (named bs) k) → IsSome (value_of (named (map (retargeted_block f) bs)) k)
    has_other [] k there = there
    has_other (b ∷ bs) k there =
        elim (cases_Bool (b.name == k)) [ inl here ↦ rw here refl | inr apart ↦ rw apart (has_other bs k (rw apart at there)) ]

    keys-retargeted_blocks : (bs : List Block) → keys (named (map (retargeted_block f) bs)) ≡ keys (named bs)
    keys-retargeted_blocks [] = refl
    keys-retargeted_blocks (b ∷ bs) = ap (λ ks. b.name ∷ ks) (keys-retargeted_blocks bs)

pub redirected_rules : (g : Graph) (from to : ℕ) → IsGraph g → HasBlock g to → IsGraph (redirected g from to)
redirected_rules g from to rules has = retargeted_rules (swapped from to) g rules goes
  where
    goes : (k : ℕ) → HasBlock g k → HasBlock g (swapped from to k)
    goes k there = elim (cases_Bool (k == from)) [ inl here ↦ rw here has | inr apart ↦ rw apart there ]

swapped_away : (from to k : ℕ) → to ≢ from → swapped from to k ≢ from
swapped_away from to k apart =
    elim (cases_Bool (k == from)) [ inl here ↦ rw here apart | inr other ↦ rw other (eqb-false k from other) ]

-- nothing uses the old name
pub redirected_unused : (g : Graph) (from to : ℕ) → to ≢ from → All (λ n. n ≢ from) (uses (redirected g from to))
redirected_unused g from to apart =
    All-same (λ n. n ≢ from) (uses (redirected g from to)) (map (swapped from to) (uses g)) (uses-other (swapped from to) (λ b. b.name) g)
    (All-map (λ n. n ≢ from) (swapped from to) (uses g) (λ k d h. swapped_away from to _ apart))

-- Numbers of procedures, each made another
module _ (Named Called Called' : ℕ → Type 0) (f : ℕ → ℕ) (goes : (k : ℕ) → Called k → Called' (f k)) where
  item_recalled : (item : Item) → ItemStands Named Called item → ItemStands Named Called' (recalled_item f item)
  item_recalled (Op insn) old = record { names = old.names; calls = All-nil Called'; fits = old.fits }
  item_recalled (Hi rd to) old = record { names = old.names; calls = All-nil Called'; fits = old.fits }
  item_recalled (Lo rd rs to) old = record { names = old.names; calls = All-nil Called'; fits = old.fits }
  item_recalled (Out p) old =
      record { names = old.names; calls = All-cons Called' (f p) [] (goes p (All-head Called p [] old.calls)) (All-nil Called'); fits = old.fits }

  items_recalled : (items : List Item) → All (ItemStands Named Called) items → All (ItemStands Named Called') (recalled_items f items)
  items_recalled items all =
      All-map (ItemStands Named Called') (recalled_item f) items
      (All-weaker (ItemStands Named Called) (λ item. ItemStands Named Called' (recalled_item f item)) item_recalled items all)

  calls_none : (item : Item) → item_calls item ≡ [] → item_calls (recalled_item f item) ≡ []
  calls_none (Op insn) none = refl
  calls_none (Hi rd to) none = refl
  calls_none (Lo rd rs to) none = refl
  calls_none (Out p) none = absurd (cc)

  mentions-recalled : (item : Item) (r : ℕ) → mentions (recalled_item f item) r ≡ mentions item r
  mentions-recalled (Op insn) r = refl
  mentions-recalled (Hi rd to) r = refl
  mentions-recalled (Lo rd rs to) r = refl
  mentions-recalled (Out p) r = refl

  body_recalled : (p : Procedure) → BodyStands Named Called p → BodyStands Named Called' (recalled_procedure f p)
  body_recalled p old =
      record {
        items = items_recalled p.body old.items;
        fits =
            record {
              register = old.fits.register;
              link = old.fits.link;
              no_calls = All-map {X = Item} (λ item. item_calls item ≡ []) (recalled_item f) p.body (All-weaker {X = Item} (λ item. item_calls item ≡ []) (λ item. item_calls (recalled_item f item) ≡ []) calls_none p.body old.fits.no_calls);
              no_mention = All-map {X = Item} (λ item. mentions item p.link ≡ false) (recalled_item f) p.body (All-weaker {X = Item} (λ item. mentions item p.link ≡ false) (λ item. mentions (recalled_item f item) p.link ≡ false) (λ item none. mentions-recalled item p.link ∙ none) p.body old.fits.no_mention);
            };
      }

  keys-recalled : (bs : List Block) → keys (named (map (recalled_block f) bs)) ≡ keys (named bs)
  keys-recalled [] = refl
  keys-recalled (b ∷ bs) = ap (λ ks. b.name ∷ ks) (keys-recalled bs)

  ends-recalled : (bs : List Block) → last_goes_on (map (recalled_block f) bs) ≡ last_goes_on bs
  ends-recalled [] = refl
  ends-recalled (b ∷ []) = refl
  ends-recalled (b ∷ next ∷ bs) = ends-recalled (next ∷ bs)

  pub recalled_by_block : (g : Graph) → IsByBlock Named Called g → IsByBlock Named Called' (recalled f g)
  recalled_by_block g by =
      record {
        distinct = rw (keys-recalled g.blocks) by.distinct;
        entry = by.entry;
        words = by.words;
        ends = ends-recalled g.blocks ∙ by.ends;
        ascending = by.ascending;
        blocks =
            All-map (BlockStands Named Called') (recalled_block f) g.blocks
            (All-weaker (BlockStands Named Called) (λ b. BlockStands Named Called' (recalled_block f b)) (λ b old. record { items = items_recalled b.items old.items; names = old.names; fits = old.fits }) g.blocks by.blocks);
        bodies =
            All-map (BodyStands Named Called') (recalled_procedure f) g.procedures
            (All-weaker (BodyStands Named Called) (λ p. BodyStands Named Called' (recalled_procedure f p)) body_recalled g.procedures by.bodies);
      }

  has_recalled : (bs : List Block) (k : ℕ) → IsSome (value_of (named bs) k) → IsSome (value_of (named (map (recalled_block f) bs)) k)
  has_recalled [] k there = there
  has_recalled (b ∷ bs) k there =
      elim (cases_Bool (b.name == k)) [ inl here ↦ rw here refl | inr apart ↦ rw apart (has_recalled bs k (rw apart at there)) ]

  pub recalled_rules : (g : Graph) → IsByBlock Named Called g → ((k : ℕ) → Named k → HasBlock g k) → ((k : ℕ) → Called' k → HasProcedure g k) → IsGraph (recalled f g)
  recalled_rules g by names calls =
      from_blocks (recalled f g)
      (by_stays Named (HasBlock (recalled f g)) Called' (HasProcedure (recalled f g)) (λ k named_k. has_recalled g.blocks k (names k named_k)) (λ k called. omega (arith, calls k called, length-map g.procedures (recalled_procedure f))) (recalled f g) (recalled_by_block g by))

-- the new number is a procedure's
pub redirected_calls_rules : (g : Graph) (from to : ℕ) → IsGraph g → HasProcedure g to → IsGraph (redirected_calls g from to)
redirected_calls_rules g from to rules has =
    recalled_rules (HasBlock g) (HasProcedure g) (HasProcedure g) (swapped from to)
    (λ k there. goes k there)
    g (by_block (HasBlock g) (HasProcedure g) g rules rules.named_all rules.called_all) (λ k there. there) (λ k there. there)
  where
    goes : (k : ℕ) → HasProcedure g k → HasProcedure g (swapped from to k)
    goes k there = elim (cases_Bool (k == from)) [ inl here ↦ rw here has | inr apart ↦ rw apart there ]

-- nothing calls by the old number
pub redirected_calls_unused : (g : Graph) (from to : ℕ) → to ≢ from → IsGraph g → All (λ n. n ≢ from) (calls (redirected_calls g from to))
redirected_calls_unused g from to apart rules =
    all_called (HasBlock g) (λ n. n ≢ from) (redirected_calls g from to)
    (recalled_by_block (HasBlock g) (HasProcedure g) (λ n. n ≢ from) (swapped from to) (λ k there. swapped_away from to k apart) g (by_block (HasBlock g) (HasProcedure g) g rules rules.named_all rules.called_all))

-- no Out uses the procedure
pub without_procedure_rules : (g : Graph) (number : ℕ) → IsGraph g → HasProcedure g number → All (λ n. n ≢ number) (calls g) → IsGraph (without_procedure g number)
without_procedure_rules g number rules has unused =
    let C : ℕ → Type 0 = λ k. HasProcedure g k × (k ≢ number) in
    let B = BodyStands (HasBlock g) C in
    let left : Graph = record g { procedures = remove g.procedures number } in
    let by = by_block (HasBlock g) C g rules rules.named_all (λ k d h. (rules.called_all k d h, unused k d h)) in
    recalled_rules (HasBlock g) C (HasProcedure left) (lowered number)
    (λ k there. goes k there)
    left
    (record {
      distinct = by.distinct;
      entry = by.entry;
      words = by.words;
      ends = by.ends;
      ascending = by.ascending;
      blocks = by.blocks;
      bodies = All-append B (take number g.procedures) (drop (suc number) g.procedures) (All-take B number g.procedures by.bodies) (All-drop B (suc number) g.procedures by.bodies);
    })
    (λ k there. there) (λ k there. there)
  where
    goes : (k : ℕ) → HasProcedure g k × (k ≢ number) → lowered number k < length (remove g.procedures number)
    goes k there =
        elim (cases_Bool (nat_lt number k)) [
          | inl above ↦ rw above (omega (arith, there.0, ltb-true number k above, length-remove g.procedures number has))
          | inr below ↦ rw below (omega (arith, there.0, there.1, ltb-false number k below, has, length-remove g.procedures number has))
        ]

-- nothing uses the block, and it isn't last
pub without_block_rules : (g : Graph) (name : ℕ) → IsGraph g → HasBlock g name → All (λ n. n ≢ name) (uses g) → IsSome (next_of g name) → IsGraph (without_block g name)
without_block_rules g name rules has unused next =
    let N : ℕ → Type 0 = λ k. HasBlock g k × (k ≢ name) in
    let C = HasProcedure g in
    let B = BlockStands N C in
    let at = located g.blocks name has in
    let by = by_block N C g rules (λ k d h. (rules.named_all k d h, unused k d h)) rules.called_all in
    let parts : with_blocks (λ _. []) g.blocks name ≡ at.front ++ at.back = with_blocks-at (λ _. []) g.blocks name at in
    let old = subst (λ (bs : List Block). All B bs) at.whole by.blocks in
    let keyed : HasDistinctKeys (named at.front ++ (at.block.name, at.block) ∷ named at.back) =
    subst (λ (es : List (ℕ × Block)). HasDistinctKeys es) (ap named at.whole ∙ named-append at.front (at.block ∷ at.back)) rules.distinct in
    let still : (k : ℕ) → N k → HasBlock (without_block g name) k =
    λ k there. subst (λ (bs : List Block). IsSome (value_of (named bs) k)) (sym parts)
    (others_there at.front at.block at.back k (λ same. there.1 (sym same ∙ at.has_name)) (subst (λ (bs : List Block). IsSome (value_of (named bs) k)) at.whole there.0)) in
    from_blocks (without_block g name)
    (by_stays N (HasBlock (without_block g name)) C C still (λ k there. there) (without_block g name)
    (record {
      distinct = rw parts (rw (named-append at.front at.back) (distinct_without (named at.front) (named at.back) (at.block.name, at.block) keyed));
      entry = by.entry;
      words = by.words;
      ends = ap last_goes_on parts ∙ ends_without at.front at.block at.back (subst (λ o. IsSome o) (next_of-at g.blocks name at) next) (sym (ap last_goes_on at.whole) ∙ rules.ends);
      ascending = by.ascending;
      blocks = subst (λ (bs : List Block). All B bs) (sym parts) (All-append B at.front at.back (All-left B at.front (at.block ∷ at.back) old) (All-tail B at.block at.back (All-right B at.front (at.block ∷ at.back) old)));
      bodies = by.bodies;
    }))
  where
    others_there : (front : List Block) (b : Block) (back : List Block) (k : ℕ) → (b.name ≡ k → ⊥) → IsSome (value_of (named (front ++ b ∷ back)) k) → IsSome (value_of (named (front ++ back)) k)
    others_there [] b back k apart some = rw (ne_eqb b.name k apart) at some
    others_there (x ∷ front) b back k apart some =
        elim (cases_Bool (x.name == k)) [ inl here ↦ rw here refl | inr other ↦ rw other (others_there front b back k apart (rw other at some)) ]

    ends_without : (front : List Block) (b : Block) (back : List Block) → IsSome (first_key (named back)) → last_goes_on (front ++ b ∷ back) ≡ false → last_goes_on (front ++ back) ≡ false
    ends_without front b [] some ends = absurd (cc)
    ends_without front b (c ∷ back) some ends = last_goes_on-append front c back ∙ sym (last_goes_on-append front b (c ∷ back)) ∙ ends

-- the link isn't x0, and the items have no Out and don't mention it
pub outlined_rules : (g : Graph) (name place count link : ℕ) → IsGraph g → HasBlock g name → ProcedureFits (record { link = link; body = slice_range (items_of g name) place (place + count) }) → IsGraph (outlined g name place count link)
outlined_rules g name place count link rules has fits =
    let N = HasBlock g in
    let C = HasProcedure g in
    let C' = HasProcedure (outlined g name place count link) in
    let added : Procedure = record { link = link; body = slice_range (items_of g name) place (place + count) } in
    let at = located g.blocks name has in
    let own : (b : Block) → IsSome (value_of (named (b ∷ [])) b.name) = λ b. rw (eq-eqb b.name b.name refl) refl in
    let old = block_there (λ b. b ∷ []) g name rules at own in
    let is : items_of g name ≡ at.block.items = ap block_items (block_at g.blocks name at) in
    let items : All (ItemStands N C) (items_of g name) = subst (λ (xs : List Item). All (ItemStands N C) xs) (sym is) old.items in
    let by = by_block N C g rules rules.named_all rules.called_all in
    let more : (k : ℕ) → C k → C' k = λ k there. omega (arith, there, length-append g.procedures (added ∷ [])) in
    let same : (k : ℕ) → N k → N k = λ k there. there in
    let new : BodyStands N C added = record { items = All-take (ItemStands N C) (place + count - place) (drop place (items_of g name)) (All-drop (ItemStands N C) place (items_of g name) items); fits = fits } in
    from_blocks (outlined g name place count link)
    (record {
      distinct = by.distinct;
      entry = by.entry;
      words = by.words;
      ends = by.ends;
      ascending = by.ascending;
      blocks = blocks_stay N N C C' same more g.blocks by.blocks;
      bodies = bodies_stay N N C C' same more (g.procedures ++ added ∷ []) (All-push (BodyStands N C) g.procedures added by.bodies new);
    })

-- What holds of each pair holds of those of a part.
module _ {T : Type 0} (P : ℕ × T → Type 0) where
  All-before : (es : List (ℕ × T)) (k : ℕ) → All P es → All P (before es k)
  All-before [] k all = all
  All-before (e ∷ es) k all =
      elim (cases_Bool (e.0 == k)) [ inl here ↦ rw here (All-nil P) | inr apart ↦ rw apart (All-cons P e (before es k) (All-head P e es all) (All-before es k (All-tail P e es all))) ]

  All-through : (es : List (ℕ × T)) (k : ℕ) → All P es → All P (through es k)
  All-through [] k all = all
  All-through (e ∷ es) k all =
      elim (cases_Bool (e.0 == k)) [
        | inl here ↦ rw here (All-cons P e [] (All-head P e es all) (All-nil P))
        | inr apart ↦ rw apart (All-cons P e (through es k) (All-head P e es all) (All-through es k (All-tail P e es all)))
      ]

  All-starting_at : (es : List (ℕ × T)) (k : ℕ) → All P es → All P (starting_at es k)
  All-starting_at [] k all = all
  All-starting_at (e ∷ es) k all =
      elim (cases_Bool (e.0 == k)) [ inl here ↦ rw here all | inr apart ↦ rw apart (All-starting_at es k (All-tail P e es all)) ]

  All-behind : (es : List (ℕ × T)) (k : ℕ) → All P es → All P (behind es k)
  All-behind [] k all = all
  All-behind (e ∷ es) k all =
      elim (cases_Bool (e.0 == k)) [ inl here ↦ rw here (All-tail P e es all) | inr apart ↦ rw apart (All-behind es k (All-tail P e es all)) ]

  All-moved : (es : List (ℕ × T)) (first last after : ℕ) → All P es → All P (move_run_after es first last after)
  All-moved es first last after all =
      let others : All P (without_run es first last) =
      All-append P (before es first) (behind (starting_at es first) last) (All-before es first all) (All-behind (starting_at es first) last (All-starting_at es first all)) in
      All-append P (through (without_run es first last) after) (run es first last ++ behind (without_run es first last) after) (All-through (without_run es first last) after others)
      (All-append P (run es first last) (behind (without_run es first last) after) (All-through (starting_at es first) last (All-starting_at es first all)) (All-behind (without_run es first last) after others))

named_again : (es : List (ℕ × Block)) → All (λ e. e.0 ≡ e.1.name) es → named (map (λ e. e.1) es) ≡ es
named_again [] all = refl
named_again (e ∷ es) all =
    ap (λ k. (k, e.1) ∷ named (map (λ f. f.1) es)) (sym (All-head {X = ℕ × Block} (λ e. e.0 ≡ e.1.name) e es all))
    ∙ ap (λ fs. e ∷ fs) (named_again es (All-tail {X = ℕ × Block} (λ e. e.0 ≡ e.1.name) e es all))

-- a block that isn't last stays before one that isn't
pub moved_after_rules : (g : Graph) (first last after : ℕ) → IsGraph g → IsRun (named g.blocks) first last → last_goes_on (moved_after g first last after).blocks ≡ false → IsGraph (moved_after g first last after)
moved_after_rules g first last after rules is_run ends =
    let N = HasBlock g in
    let N' = HasBlock (moved_after g first last after) in
    let C = HasProcedure g in
    let B = BlockStands N C in
    let by = by_block N C g rules rules.named_all rules.called_all in
    let moved = move_run_after (named g.blocks) first last after in
    let names : All (λ (e : ℕ × Block). e.0 ≡ e.1.name) (named g.blocks) = All-map {X = ℕ × Block} (λ e. e.0 ≡ e.1.name) (λ b. (b.name, b)) g.blocks (λ k d h. refl) in
    let again : named (moved_after g first last after).blocks ≡ moved = named_again moved (All-moved {T = Block} (λ e. e.0 ≡ e.1.name) (named g.blocks) first last after names) in
    let blocks : All (λ (e : ℕ × Block). BlockStands N C e.1) (named g.blocks) = All-map {X = ℕ × Block} (λ e. BlockStands N C e.1) (λ b. (b.name, b)) g.blocks by.blocks in
    let keep : (k : ℕ) → N k → N' k = λ k there. rw (again, KeepsValues-move_run_after (named g.blocks) first last after rules.distinct is_run k) there in
    from_blocks (moved_after g first last after)
    (by_stays N N' C C keep (λ k there. there) (moved_after g first last after)
    (record {
      distinct = rw again (HasDistinctKeys-move_run_after (named g.blocks) first last after rules.distinct is_run);
      entry = by.entry;
      words = by.words;
      ends = ends;
      ascending = by.ascending;
      blocks = All-map B (λ (e : ℕ × Block). e.1) moved (All-moved {T = Block} (λ e. BlockStands N C e.1) (named g.blocks) first last after blocks);
      bodies = by.bodies;
    }))

-- a block and the next one change places, where another one follows
pub record MovesOn (g : Graph) (name next : ℕ) : Type 0 where
  pub run : IsRun (named g.blocks) name name
  pub after : ContainsKey (without_run (named g.blocks) name name) next
  pub rules : IsGraph (moved_after g name name next)

blocks_again : (bs : List Block) → map (λ e. e.1) (named bs) ≡ bs
blocks_again [] = refl
blocks_again (b ∷ bs) = ap (λ cs. b ∷ cs) (blocks_again bs)

pub moves_on : (g : Graph) (name next : ℕ) → IsGraph g → HasBlock g name → next_of g name ≡ Some next → IsSome (next_of g next) → MovesOn g name next
moves_on g name next rules has follows more =
    let at = located g.blocks name has in
    moves_at at.front at.block at.back (at.whole) at.has_name (sym (next_of-at g.blocks name at) ∙ follows)
  where
    ends_moved : (front : List Block) (b c : Block) (back : List Block) → IsSome (first_key (named back)) → last_goes_on (front ++ b ∷ c ∷ back) ≡ false → last_goes_on (map (λ e. e.1) ((named front ++ (next, c) ∷ []) ++ ((name, b) ∷ [] ++ named back))) ≡ false
    ends_moved front b c [] some ends = absurd (cc)
    ends_moved front b c (d ∷ back) some ends =
        let X : List Block = map (λ (e : ℕ × Block). e.1) (named front ++ (next, c) ∷ []) in
        let old : last_goes_on (d ∷ back) ≡ false = sym (last_goes_on-append front b (c ∷ d ∷ back)) ∙ ends in
        ap last_goes_on (map-append (λ (e : ℕ × Block). e.1) (named front ++ (next, c) ∷ []) ((name, b) ∷ [] ++ named (d ∷ back)))
        ∙ last_goes_on-append X b (map (λ (e : ℕ × Block). e.1) (named (d ∷ back)))
        ∙ ap last_goes_on (blocks_again (d ∷ back))
        ∙ old

    moves_at : (front : List Block) (b : Block) (back : List Block) → g.blocks ≡ front ++ b ∷ back → b.name ≡ name → first_key (named back) ≡ Some next → MovesOn g name next
    moves_at front b [] whole is first = absurd (cc)
    moves_at front b (c ∷ back) whole is first =
        let is_next : c.name ≡ next = cc in
        let F = named front in
        let one : List (ℕ × Block) = (name, b) ∷ [] in
        let parts : named g.blocks ≡ named front ++ (name, b) ∷ (next, c) ∷ named back =
        ap named whole ∙ named-append front (b ∷ c ∷ back)
        ∙ ap (λ k. named front ++ (k, b) ∷ (c.name, c) ∷ named back) is
        ∙ ap (λ k. named front ++ (name, b) ∷ (k, c) ∷ named back) is_next in
        let distinct : HasDistinctKeys (named front ++ (name, b) ∷ (next, c) ∷ named back) = subst (λ (es : List (ℕ × Block)). HasDistinctKeys es) parts rules.distinct in
        let whole' : named front ++ (name, b) ∷ (next, c) ∷ named back ≡ (named front ++ (name, b) ∷ []) ++ (next, c) ∷ named back = sym (append_assoc (named front) ((name, b) ∷ []) ((next, c) ∷ named back)) in
        let distinct' : HasDistinctKeys ((named front ++ (name, b) ∷ []) ++ (next, c) ∷ named back) = subst (λ (es : List (ℕ × Block)). HasDistinctKeys es) whole' distinct in
        let first_at = is_in (named front) ((next, c) ∷ named back) name b distinct in
        let next_at = is_in (named front ++ (name, b) ∷ []) (named back) next c distinct' in
        let here : (name == name) ≡ true = eq-eqb name name refl in
        let started : starting_at (named g.blocks) name ≡ (name, b) ∷ (next, c) ∷ named back =
        ap (λ es. starting_at es name) parts ∙ starting_at-append (named front) ((next, c) ∷ named back) name b (absent_ahead (named front) ((next, c) ∷ named back) name b distinct) in
        let run_is : run (named g.blocks) name name ≡ (name, b) ∷ [] = ap (λ es. through es name) started ∙ rw here refl in
        let rest_is : behind (starting_at (named g.blocks) name) name ≡ (next, c) ∷ named back = ap (λ es. behind es name) started ∙ rw here refl in
        let left_is : without_run (named g.blocks) name name ≡ named front ++ (next, c) ∷ named back =
        ap (λ es. es ++ behind (starting_at (named g.blocks) name) name) (ap (λ es. before es name) parts ∙ first_at.ahead_is) ∙ ap (λ es. named front ++ es) rest_is in
        let left_distinct : HasDistinctKeys (named front ++ (next, c) ∷ named back) = distinct_without (named front) ((next, c) ∷ named back) (name, b) distinct in
        let left_at = is_in (named front) (named back) next c left_distinct in
        let is_run : IsRun (named g.blocks) name name = IsRun-one (named g.blocks) name has in
        let moved_is : move_run_after (named g.blocks) name name next ≡ (named front ++ (next, c) ∷ []) ++ ((name, b) ∷ [] ++ named back) =
        ap (λ es. through es next ++ (run (named g.blocks) name name ++ behind es next)) left_is
        ∙ ap (λ es. es ++ (run (named g.blocks) name name ++ behind (named front ++ (next, c) ∷ named back) next)) left_at.up_to_is
        ∙ ap (λ es. (named front ++ (next, c) ∷ []) ++ (es ++ behind (named front ++ (next, c) ∷ named back) next)) run_is
        ∙ ap (λ es. (named front ++ (next, c) ∷ []) ++ ((name, b) ∷ [] ++ es)) left_at.behind_is in
        let behind_next : next_of g next ≡ first_key (named back) =
        ap (λ es. first_key (behind es next)) (parts ∙ whole') ∙ ap first_key next_at.behind_is in
        record {
          run = is_run;
          after = rw left_is (ap is_some left_at.found);
          rules =
              moved_after_rules g name name next rules is_run
              (ap (λ es. last_goes_on (map (λ e. e.1) es)) moved_is
              ∙ ends_moved front b c back (subst (λ o. IsSome o) behind_next more) (sym (ap last_goes_on whole) ∙ rules.ends));
        }
