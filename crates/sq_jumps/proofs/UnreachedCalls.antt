-- Calls among items and blocks.
use Rattle.std.proofs.Common.{◌≡◌, ◌≢◌, ℕ, zero, suc, ◌+◌, ◌-◌, ◌<◌, if◌then◌else◌, true, false, nat_eq, List, [], ◌∷◌, ◌++◌, map, remove, length, get_or, slice_get, refl, sym, ap, ◌∙◌, subst, arith, length-append}
use Rattle.std.specs.List.{All, flat_map}
use Rattle.std.proofs.lemmas.Bool.{eqb-false, eq-eqb, or_right, or_parts}
use Rattle.std.proofs.lemmas.List.{length-map}
use Rattle.std.proofs.lemmas.List.Edits.{length-remove}
use Rattle.std.proofs.lemmas.List.Elements.{All-nil, All-cons, All-head, All-tail, All-append}
use Rattle.sq_graph.specs.declared.parts.Room.{Room}
use Rattle.sq_graph.specs.declared.item.Item.{Item}
use Rattle.sq_graph.specs.declared.item.Item.TheVariants.{Out}
use Rattle.sq_graph.specs.Graph.{Block, Procedure, Graph}
use Rattle.sq_graph.specs.Blocks.{HasProcedure, items_of_blocks, items_of_bodies, all_items, body_of, procedure_body}
use Rattle.sq_graph.specs.Operations.{without_procedure}
use Rattle.sq_graph.specs.Renames.{recalled_item, recalled_items, recalled_block, recalled_procedure, lowered}
use Rattle.sq_graph.specs.Room.{count_of, sum_of}
use Rattle.sq_graph.specs.Rules.{IsGraph, ProcedureFits}
use Rattle.sq_graph.specs.Uses.{item_calls, calls}
use Rattle.sq_graph.proofs.Eachs.{All-each, All-flat_map}
use Rattle.sq_graph.proofs.Sizes.{same_room}
use Rattle.sq_lookup.specs.Names.{is_listed}
use Rattle.sq_jumps.specs.Unreached.{is_called_in}
use Rattle.sq_jumps.specs.UnreachedClear.{is_called, without_uncalled}
use Rattle.sq_lookup.proofs.Adding.{is_listed-append}

-- the call that was found
pub call_found : (items : List Item) (k q : ℕ) (item : Item) → k < length items → item ≡ get_or items k item → item ≡ Out q → true ≡ is_listed (flat_map item_calls items) q
call_found [] k q item below is call = absurd (omega (arith, below))
call_found (x ∷ items) zero q item below is call =
    let e : x ≡ Out q = sym is ∙ call in
    sym (ap (λ y. is_listed (item_calls y ++ flat_map item_calls items) q) e ∙ here)
  where
    here : is_listed (q ∷ flat_map item_calls items) q ≡ true
    here = let same : nat_eq q q ≡ true = eq-eqb q q refl in rw same refl
call_found (x ∷ items) (suc k) q item below is call =
    sym (is_listed-append (item_calls x) (flat_map item_calls items) q ∙ or_right (is_listed (item_calls x) q) (is_listed (flat_map item_calls items) q) (sym (call_found items k q item (omega (arith, below)) is call)))

pub all_unlisted : (xs : List ℕ) (q : ℕ) → is_listed xs q ≡ false → All (λ n. n ≢ q) xs
all_unlisted [] q e = All-nil (λ n. n ≢ q)
all_unlisted (x ∷ xs) q e =
    let both = or_parts (nat_eq q x) (is_listed xs q) e in
    All-cons (λ n. n ≢ q) x xs (λ same. eqb-false q x both.0 (sym same)) (all_unlisted xs q both.1)

blocks_without : (bs : List Block) (q : ℕ) → is_called_in (λ n. true) bs q ≡ false → All (λ item. All (λ n. n ≢ q) (item_calls item)) (items_of_blocks bs)
blocks_without [] q e = All-nil {X = Item} (λ item. All (λ n. n ≢ q) (item_calls item))
blocks_without (b ∷ bs) q e =
    let both = or_parts (is_listed (flat_map item_calls b.items) q) (is_called_in (λ n. true) bs q) e in
    All-append {X = Item} (λ item. All (λ n. n ≢ q) (item_calls item)) b.items (items_of_blocks bs)
    (All-each (λ n. n ≢ q) item_calls b.items (all_unlisted (flat_map item_calls b.items) q both.0)) (blocks_without bs q both.1)

bodies_without : (ps : List Procedure) (q : ℕ) → All ProcedureFits ps → All (λ item. All (λ n. n ≢ q) (item_calls item)) (items_of_bodies ps)
bodies_without [] q fits = All-nil {X = Item} (λ item. All (λ n. n ≢ q) (item_calls item))
bodies_without (p ∷ ps) q fits =
    let own = All-head ProcedureFits p ps fits in
    All-append {X = Item} (λ item. All (λ n. n ≢ q) (item_calls item)) p.body (items_of_bodies ps)
    (λ k d below. subst (λ (ns : List ℕ). All (λ n. n ≢ q) ns) (sym (own.no_calls k d below)) (All-nil (λ n. n ≢ q))) (bodies_without ps q (All-tail ProcedureFits p ps fits))

-- a procedure that no block calls isn't called at all
pub uncalled_unused : (g : Graph) (q : ℕ) → IsGraph g → is_called g q ≡ false → All (λ n. n ≢ q) (calls g)
uncalled_unused g q rules none =
    All-flat_map (λ n. n ≢ q) item_calls (all_items g)
    (All-append {X = Item} (λ item. All (λ n. n ≢ q) (item_calls item)) (items_of_blocks g.blocks) (items_of_bodies g.procedures) (blocks_without g.blocks q none) (bodies_without g.procedures q rules.procedures))

-- what is there and what is spare, once a procedure is gone

blocks_recalled : (f : ℕ → ℕ) (bs : List Block) → length (items_of_blocks (map (recalled_block f) bs)) ≡ length (items_of_blocks bs)
blocks_recalled f [] = refl
blocks_recalled f (b ∷ bs) =
    omega (arith, blocks_recalled f bs, length-map b.items (recalled_item f), length-append b.items (items_of_blocks bs), length-append (recalled_items f b.items) (items_of_blocks (map (recalled_block f) bs)))

bodies_recalled : (f : ℕ → ℕ) (ps : List Procedure) → length (items_of_bodies (map (recalled_procedure f) ps)) ≡ length (items_of_bodies ps)
bodies_recalled f [] = refl
bodies_recalled f (p ∷ ps) =
    omega (arith, bodies_recalled f ps, length-map p.body (recalled_item f), length-append p.body (items_of_bodies ps), length-append (recalled_items f p.body) (items_of_bodies (map (recalled_procedure f) ps)))

bodies_removed : (ps : List Procedure) (q : ℕ) → q < length ps → length (items_of_bodies (remove ps q)) + length (procedure_body (slice_get ps q)) ≡ length (items_of_bodies ps)
bodies_removed [] q below = absurd (omega (arith, below))
bodies_removed (p ∷ ps) zero below = omega (arith, length-append p.body (items_of_bodies ps))
bodies_removed (p ∷ ps) (suc q) below = omega (arith, bodies_removed ps q (omega (arith, below)), length-append p.body (items_of_bodies ps), length-append p.body (items_of_bodies (remove ps q)))

pub uncalled_total : (g : Graph) (q : ℕ) (spare : Room) → HasProcedure g q
    → sum_of (count_of (without_procedure g q)) (record spare { items = spare.items + length (body_of g q); procedures = spare.procedures + 1 }) ≡ sum_of (count_of g) spare
uncalled_total g q spare has =
    same_room (sum_of (count_of (without_procedure g q)) (record spare { items = spare.items + length (body_of g q); procedures = spare.procedures + 1 })) (sum_of (count_of g) spare)
    (omega (arith, length-map g.blocks (recalled_block (lowered q))))
    (omega (
      arith,
      blocks_recalled (lowered q) g.blocks,
      bodies_recalled (lowered q) (remove g.procedures q),
      bodies_removed g.procedures q has,
      length-append (items_of_blocks (map (recalled_block (lowered q)) g.blocks)) (items_of_bodies (map (recalled_procedure (lowered q)) (remove g.procedures q))),
      length-append (items_of_blocks g.blocks) (items_of_bodies g.procedures),
    ))
    (omega (arith, length-map (remove g.procedures q) (recalled_procedure (lowered q)), length-remove g.procedures q has, has))

-- steps of the walk over numbers

pub left_count : (g : Graph) (q : ℕ) → q < length g.procedures → length (without_procedure g q).procedures + 1 ≡ length g.procedures
left_count g q within = omega (arith, within, length-map (remove g.procedures q) (recalled_procedure (lowered q)), length-remove g.procedures q within)

pub step_called : (n : ℕ) (g : Graph) → 0 < n → is_called g (n - 1) ≡ true → without_uncalled n g ≡ without_uncalled (n - 1) g
step_called zero g some called = absurd (omega (arith, some))
step_called (suc q) g some called =
    let e : suc q - 1 ≡ q = omega arith in
    let yes : is_called g q ≡ true = subst (λ m. is_called g m ≡ true) e called in
    ap (λ t. without_uncalled q (if t then g else without_procedure g q)) yes ∙ ap (λ m. without_uncalled m g) (sym e)

pub step_uncalled : (n : ℕ) (g : Graph) → 0 < n → is_called g (n - 1) ≡ false → without_uncalled n g ≡ without_uncalled (n - 1) (without_procedure g (n - 1))
step_uncalled zero g some none = absurd (omega (arith, some))
step_uncalled (suc q) g some none =
    let e : suc q - 1 ≡ q = omega arith in
    let no : is_called g q ≡ false = subst (λ m. is_called g m ≡ false) e none in
    ap (λ t. without_uncalled q (if t then g else without_procedure g q)) no ∙ ap (λ m. without_uncalled m (without_procedure g m)) (sym e)
