-- Bodies in place of calls, one after another.
use Rattle.std.proofs.Common.{◌≡◌, ◌<◌, ℕ, zero, suc, ◌+◌, ◌==◌, Bool, true, false, if◌then◌else◌, List, [], ◌∷◌, ◌++◌, map, take, drop, Option, None, Some, IsSome, slice_get, refl, sym, ap, ◌∙◌, subst, inl, inr, arith}
use Rattle.std.specs.List.{All, count_by, list_any}
use Rattle.std.proofs.lemmas.Bool.{cases_Bool, or_parts, eq-eqb, eqb-true}
use Rattle.std.proofs.lemmas.List.Concat.{flat_map-append}
use Rattle.std.proofs.lemmas.List.Elements.{All-head, All-tail}
use Rattle.std.proofs.lemmas.List.Sums.{sum_by-cons, sum_by-append}
use Rattle.sq_arena.specs.Entries.{HasDistinctKeys, value_of}
use Rattle.sq_arena.proofs.EntriesLaws.{distinct_back}
use Rattle.sq_graph.specs.declared.item.Item.{Item}
use Rattle.sq_graph.specs.declared.item.Item.TheVariants.{Op, Hi, Lo, Out}
use Rattle.sq_graph.specs.Graph.{Block, Procedure, Graph}
use Rattle.sq_graph.specs.Blocks.{named, HasBlock, block_of, block_items, items_of, items_of_blocks, items_of_bodies, procedure_body, body_of}
use Rattle.sq_graph.specs.Operations.{with_blocks, replaced_items, call_of, called_at, called_body, inlined}
use Rattle.sq_graph.specs.Rules.{IsGraph, ProcedureFits}
use Rattle.sq_graph.specs.Uses.{item_calls}
use Rattle.sq_graph.proofs.Kept.{absent_behind}
use Rattle.sq_outline.specs.Inlined.{is_call, call_count, spread, spread_block, spread_all}

-- ITEMS

-- how many of the items are calls
abbrev pub calls_in : ℕ → List Item → ℕ
calls_in p items = count_by (is_call p) items

abbrev pub one_if : Bool → ℕ
one_if t = if t then 1 else 0

abbrev pub is_one : ℕ → Item → ℕ
is_one p item = one_if (is_call p item)

pub calls_in-append : (p : ℕ) (xs ys : List Item) → calls_in p (xs ++ ys) ≡ calls_in p xs + calls_in p ys
calls_in-append p xs ys = sum_by-append (is_one p) xs ys

pub calls_in-cons : (p : ℕ) (x : Item) (xs : List Item) → calls_in p (x ∷ xs) ≡ is_one p x + calls_in p xs
calls_in-cons p x xs = sum_by-cons (is_one p) x xs

pub is_own_call : (p : ℕ) → is_call p (Out p) ≡ true
is_own_call p = eq-eqb p p refl

-- without calls nothing changes
pub spread_none : (p : ℕ) (body items : List Item) → calls_in p items ≡ 0 → spread p body items ≡ items
spread_none p body [] none = refl
spread_none p body (x ∷ items) none =
    elim (cases_Bool (is_call p x)) [
      | inl own ↦ absurd (let n : is_one p x ≡ 1 = rw own refl in omega (arith, calls_in-cons p x items, none, n))
      | inr other ↦ rw other (ap (λ is. x ∷ is) (spread_none p body items (omega (arith, calls_in-cons p x items, none))))
    ]

pub none_calls : (p : ℕ) (items : List Item) → list_any (is_call p) items ≡ false → calls_in p items ≡ 0
none_calls p [] none = refl
none_calls p (x ∷ items) none =
    let parts = or_parts (is_call p x) (list_any (is_call p) items) none in
    let n : is_one p x ≡ 0 = rw parts.0 refl in
    omega (arith, calls_in-cons p x items, n, none_calls p items parts.1)

module _ (p : ℕ) (body : List Item) (plain : calls_in p body ≡ 0) where
  -- what is spread has no calls
  pub none_left : (items : List Item) → calls_in p (spread p body items) ≡ 0
  none_left [] = refl
  none_left (x ∷ items) =
      elim (cases_Bool (is_call p x)) [
        | inl own ↦ rw own (omega (arith, calls_in-append p body (spread p body items), plain, none_left items))
        | inr other ↦
            rw other (
            let n : is_one p x ≡ 0 = rw other refl in
            omega (arith, calls_in-cons p x (spread p body items), n, none_left items))
      ]

  -- one body comes sooner
  pub spread_sooner : (items : List Item) (at : ℕ) → slice_get items at ≡ Some (Out p) → spread p body (replaced_items items at 1 body) ≡ spread p body items
  spread_sooner [] at there = absurd (cc)
  spread_sooner (x ∷ items) zero there =
      let is : x ≡ Out p = cc in
      flat_map-append (λ (item : Item). if is_call p item then body else item ∷ []) body items
      ∙ ap (λ bs. bs ++ spread p body items) (spread_none p body body plain)
      ∙ sym (ap (λ t. (if t then body else x ∷ []) ++ spread p body items) (ap (is_call p) is ∙ is_own_call p))
  spread_sooner (x ∷ items) (suc at) there =
      let next : suc at + 1 ≡ suc (at + 1) = omega arith in
      ap (λ n. spread p body (take (suc at) (x ∷ items) ++ (body ++ drop n (x ∷ items)))) next
      ∙ ap (λ is. (if is_call p x then body else x ∷ []) ++ is) (spread_sooner items at there)

  pub one_fewer : (items : List Item) (at : ℕ) → slice_get items at ≡ Some (Out p) → calls_in p (replaced_items items at 1 body) + 1 ≡ calls_in p items
  one_fewer [] at there = absurd (cc)
  one_fewer (x ∷ items) zero there =
      let is : x ≡ Out p = cc in
      let one : is_one p x ≡ 1 = ap one_if (ap (is_call p) is ∙ is_own_call p) in
      omega (arith, calls_in-append p body items, plain, calls_in-cons p x items, one)
  one_fewer (x ∷ items) (suc at) there =
      let next : suc at + 1 ≡ suc (at + 1) = omega arith in
      let same = ap (λ n. calls_in p (take (suc at) (x ∷ items) ++ (body ++ drop n (x ∷ items)))) next in
      omega (arith, same, one_fewer items at there, calls_in-cons p x items, calls_in-cons p x (replaced_items items at 1 body))

-- the first call among these items
pub first_call : (p : ℕ) (items : List Item) → 0 < calls_in p items → (at : ℕ) × (slice_get items at ≡ Some (Out p))
first_call p [] some = absurd (omega (arith, some))
first_call p (x ∷ items) some =
    elim (cases_Bool (is_call p x)) [
      | inl own ↦ (0, ap Some (out_of x own))
      | inr other ↦
          let n : is_one p x ≡ 0 = rw other refl in
          let later = first_call p items (omega (arith, calls_in-cons p x items, n, some)) in
          (suc later.0, later.1)
    ]
  where
    out_of : (x : Item) → is_call p x ≡ true → x ≡ Out p
    out_of (Op insn) own = absurd (cc)
    out_of (Hi rd to) own = absurd (cc)
    out_of (Lo rd rs to) own = absurd (cc)
    out_of (Out q) own = ap Out (eqb-true q p own)

-- BLOCKS

pub calls_in_blocks-cons : (p : ℕ) (b : Block) (bs : List Block) → calls_in p (items_of_blocks (b ∷ bs)) ≡ calls_in p b.items + calls_in p (items_of_blocks bs)
calls_in_blocks-cons p b bs = calls_in-append p b.items (items_of_blocks bs)

pub blocks_none : (p : ℕ) (body : List Item) (bs : List Block) → calls_in p (items_of_blocks bs) ≡ 0 → map (spread_block p body) bs ≡ bs
blocks_none p body [] none = refl
blocks_none p body (b ∷ bs) none =
    ap (λ is. record b { items = is } ∷ map (spread_block p body) bs) (spread_none p body b.items (omega (arith, calls_in_blocks-cons p b bs, none)))
    ∙ ap (λ cs. b ∷ cs) (blocks_none p body bs (omega (arith, calls_in_blocks-cons p b bs, none)))

-- a block of which one item is another list of items
abbrev with_items : List Block → ℕ → ℕ → List Item → List Block
with_items bs name at body = with_blocks (λ b. record b { items = replaced_items b.items at 1 body } ∷ []) bs name

module _ (p : ℕ) (body : List Item) (plain : calls_in p body ≡ 0) where
  pub none_left_in : (bs : List Block) → calls_in p (items_of_blocks (map (spread_block p body) bs)) ≡ 0
  none_left_in [] = refl
  none_left_in (b ∷ bs) =
      omega (arith, calls_in_blocks-cons p (spread_block p body b) (map (spread_block p body) bs), none_left p body plain b.items, none_left_in bs)

  pub blocks_sooner : (bs : List Block) (name at : ℕ) → slice_get (block_items (value_of (named bs) name)) at ≡ Some (Out p) → map (spread_block p body) (with_items bs name at body) ≡ map (spread_block p body) bs
  blocks_sooner [] name at there = absurd (cc)
  blocks_sooner (b ∷ bs) name at there =
      elim (cases_Bool (b.name == name)) [
        | inl here ↦ rw here (ap (λ is. record b { items = is } ∷ map (spread_block p body) bs) (spread_sooner p body plain b.items at (rw here at there)))
        | inr apart ↦ rw apart (ap (λ cs. spread_block p body b ∷ cs) (blocks_sooner bs name at (rw apart at there)))
      ]

  pub one_fewer_in : (bs : List Block) (name at : ℕ) → slice_get (block_items (value_of (named bs) name)) at ≡ Some (Out p) → calls_in p (items_of_blocks (with_items bs name at body)) + 1 ≡ calls_in p (items_of_blocks bs)
  one_fewer_in [] name at there = absurd (cc)
  one_fewer_in (b ∷ bs) name at there =
      elim (cases_Bool (b.name == name)) [
        | inl here ↦
            rw here (omega (arith, one_fewer p body plain b.items at (rw here at there), calls_in_blocks-cons p b bs, calls_in_blocks-cons p (record b { items = replaced_items b.items at 1 body }) bs))
        | inr apart ↦
            rw apart (omega (arith, one_fewer_in bs name at (rw apart at there), calls_in_blocks-cons p b bs, calls_in_blocks-cons p b (with_items bs name at body)))
      ]

-- GRAPHS

-- the body of a procedure has no calls
pub body_calls_none : (p : ℕ) (r : Procedure) → ProcedureFits r → calls_in p r.body ≡ 0
body_calls_none p r fits = in_body r.body fits.no_calls
  where
    not_call : (x : Item) → item_calls x ≡ [] → is_call p x ≡ false
    not_call (Op insn) none = refl
    not_call (Hi rd to) none = refl
    not_call (Lo rd rs to) none = refl
    not_call (Out q) none = absurd (cc)

    in_body : (items : List Item) → All (λ item. item_calls item ≡ []) items → calls_in p items ≡ 0
    in_body [] all = refl
    in_body (x ∷ items) all =
        let other = not_call x (All-head {X = Item} (λ item. item_calls item ≡ []) x items all) in
        let n : is_one p x ≡ 0 = rw other refl in
        omega (arith, calls_in-cons p x items, n, in_body items (All-tail {X = Item} (λ item. item_calls item ≡ []) x items all))

pub bodies_call_none : (g : Graph) (p q : ℕ) → IsGraph g → calls_in p (body_of g q) ≡ 0
bodies_call_none g p q rules = in_procedure g.procedures q rules.procedures
  where
    in_procedure : (ps : List Procedure) (q : ℕ) → All ProcedureFits ps → calls_in p (procedure_body (slice_get ps q)) ≡ 0
    in_procedure [] q all = refl
    in_procedure (r ∷ ps) zero all = body_calls_none p r (All-head ProcedureFits r ps all)
    in_procedure (r ∷ ps) (suc q) all = in_procedure ps q (All-tail ProcedureFits r ps all)

pub all_bodies_call_none : (p : ℕ) (ps : List Procedure) → All ProcedureFits ps → calls_in p (items_of_bodies ps) ≡ 0
all_bodies_call_none p [] all = refl
all_bodies_call_none p (r ∷ ps) all =
    omega (
      arith,
      calls_in-append p r.body (items_of_bodies ps),
      body_calls_none p r (All-head ProcedureFits r ps all),
      all_bodies_call_none p ps (All-tail ProcedureFits r ps all),
    )

-- an item of a block calls the procedure
abbrev pub IsCall : Graph → ℕ → ℕ → ℕ → Type 0
IsCall g p block at = slice_get (items_of g block) at ≡ Some (Out p)

pub call_there : (g : Graph) (p block at : ℕ) → IsCall g p block at → HasBlock g block
call_there g p block at there = in_block (block_of g block) there
  where
    in_block : (o : Option Block) → slice_get (block_items o) at ≡ Some (Out p) → IsSome o
    in_block None there = absurd (cc)
    in_block (Some b) there = refl

-- once the body stands there
pub inlined_body : (g : Graph) (p block at : ℕ) → IsCall g p block at → called_body g (called_at g block at) ≡ body_of g p
inlined_body g p block at there = ap (λ o. called_body g (call_of o)) there

pub inlined_sooner : (g : Graph) (p block at : ℕ) → IsGraph g → IsCall g p block at → spread_all (inlined g block at) p ≡ spread_all g p
inlined_sooner g p block at rules there =
    ap (λ (is : List Item). record g { blocks = map (spread_block p (body_of g p)) (with_items g.blocks block at is) }) (inlined_body g p block at there)
    ∙ ap (λ (bs : List Block). record g { blocks = bs }) (blocks_sooner p (body_of g p) (bodies_call_none g p p rules) g.blocks block at there)

pub inlined_fewer : (g : Graph) (p block at : ℕ) → IsGraph g → IsCall g p block at → call_count (inlined g block at) p + 1 ≡ call_count g p
inlined_fewer g p block at rules there =
    ap (λ (is : List Item). calls_in p (items_of_blocks (with_items g.blocks block at is)) + 1) (inlined_body g p block at there)
    ∙ one_fewer_in p (body_of g p) (bodies_call_none g p p rules) g.blocks block at there

pub spread_itself : (g : Graph) (p : ℕ) → call_count g p ≡ 0 → spread_all g p ≡ g
spread_itself g p none = ap (λ (bs : List Block). record g { blocks = bs }) (blocks_none p (body_of g p) g.blocks none)

-- a call of it stands in a block, where there is one
pub some_call : (g : Graph) (p : ℕ) → HasDistinctKeys (named g.blocks) → 0 < call_count g p → (block : ℕ) × (at : ℕ) × IsCall g p block at
some_call g p distinct some = in_blocks g.blocks distinct some
  where
    other_name : (b : Block) (bs : List Block) (n at : ℕ) → HasDistinctKeys (named (b ∷ bs)) → slice_get (block_items (value_of (named bs) n)) at ≡ Some (Out p) → (b.name == n) ≡ false
    other_name b bs n at distinct there =
        elim (cases_Bool (b.name == n)) [
          | inl here ↦
              let none : value_of (named bs) n ≡ None = subst (λ k. value_of (named bs) k ≡ None) (eqb-true b.name n here) (absent_behind (b.name, b) (named bs) distinct) in
              absurd (let nothing : slice_get (block_items None) at ≡ Some (Out p) = subst (λ (o : Option Block). slice_get (block_items o) at ≡ Some (Out p)) none there in cc)
          | inr apart ↦ apart
        ]

    here_or_later : (b : Block) (bs : List Block) (n : ℕ) → HasDistinctKeys (named (b ∷ bs)) → calls_in p b.items ≡ n → (calls_in p b.items ≡ 0 → (block : ℕ) × (at : ℕ) × (slice_get (block_items (value_of (named bs) block)) at ≡ Some (Out p)))
        → (block : ℕ) × (at : ℕ) × (slice_get (block_items (value_of (named (b ∷ bs)) block)) at ≡ Some (Out p))
    here_or_later b bs zero distinct none behind =
        let later = behind none in
        let apart = other_name b bs later.0 later.1 distinct later.2 in
        (later.0, later.1, rw apart later.2)
    here_or_later b bs (suc n) distinct more behind =
        let same : (b.name == b.name) ≡ true = eq-eqb b.name b.name refl in
        let first = first_call p b.items (omega (arith, more)) in
        (b.name, first.0, rw same first.1)

    in_blocks : (bs : List Block) → HasDistinctKeys (named bs) → 0 < calls_in p (items_of_blocks bs) → (block : ℕ) × (at : ℕ) × (slice_get (block_items (value_of (named bs) block)) at ≡ Some (Out p))
    in_blocks [] distinct some = absurd (omega (arith, some))
    in_blocks (b ∷ bs) distinct some =
        here_or_later b bs (calls_in p b.items) distinct refl
        (λ none. in_blocks bs (distinct_back ((b.name, b) ∷ []) (named bs) distinct) (omega (arith, calls_in_blocks-cons p b bs, some, none)))
