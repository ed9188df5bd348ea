-- The steps by which the body of a procedure takes the place of its calls.
use Rattle.std.proofs.Common.{◌≡◌, ◌<◌, ◌≤◌, ℕ, zero, suc, ◌+◌, ◌-◌, ◌*◌, ◌==◌, true, false, if◌then◌else◌, List, [], ◌∷◌, ◌++◌, map, take, drop, length, Option, None, Some, IsSome, slice_get, get_or, refl, sym, ap, ◌∙◌, subst, inl, inr, arith}
use Rattle.std.specs.Prelude.{option_map}
use Rattle.std.specs.List.{list_any}
use Rattle.std.proofs.Math.Nat.{mul-le-mul_left}
use Rattle.std.proofs.lemmas.Bool.{cases_Bool, eqb-true}
use Rattle.std.proofs.lemmas.Option.{slice_get-get_or}
use Rattle.sq_arena.specs.Entries.{value_of}
use Rattle.sq_graph.specs.declared.item.Item.{Item}
use Rattle.sq_graph.specs.declared.item.Item.TheVariants.{Op, Hi, Lo, Out}
use Rattle.sq_graph.specs.Graph.{Block, Graph}
use Rattle.sq_graph.specs.Blocks.{named, HasBlock, block_of, block_items, next_of, items_of, items_of_blocks, body_of}
use Rattle.sq_graph.specs.Operations.{with_blocks, changed, replaced_items, inlined}
use Rattle.sq_graph.specs.Rules.{IsGraph}
use Rattle.sq_graph.specs.Room.{GraphAndRoom}
use Rattle.sq_layout.proofs.Standing.{block_of-changed_here}
use Rattle.sq_graph.specs.Cursor.{IsPlace}
use Rattle.sq_layout.proofs.Walks.{blocks_from, here}
use Rattle.sq_outline.specs.Inlined.{is_call, call_count, spread, spread_block, spread_all}
use Rattle.sq_outline.specs.InlineSteps.{is_some_call, inlined_if, spread_at, HasRoom}
use Rattle.sq_outline.proofs.Spreading.{calls_in, calls_in_blocks-cons, spread_none, none_calls, none_left, bodies_call_none, IsCall, inlined_body, inlined_fewer}

-- ONE BLOCK BECOMES ANOTHER

same_change : (f h : Block → Block) (bs : List Block) (n : ℕ) → ((b : Block) → value_of (named bs) n ≡ Some b → f b ≡ h b) → with_blocks (λ b. f b ∷ []) bs n ≡ with_blocks (λ b. h b ∷ []) bs n
same_change f h [] n same = refl
same_change f h (b ∷ bs) n same =
    elim (cases_Bool (b.name == n)) [
      | inl here ↦ rw here (ap (λ c. c ∷ bs) (same b (rw here refl)))
      | inr apart ↦ rw apart (ap (λ cs. b ∷ cs) (same_change f h bs n (λ c is. same c (rw apart is))))
    ]

no_change : (f : Block → Block) (bs : List Block) (n : ℕ) → ((b : Block) → value_of (named bs) n ≡ Some b → f b ≡ b) → with_blocks (λ b. f b ∷ []) bs n ≡ bs
no_change f [] n same = refl
no_change f (b ∷ bs) n same =
    elim (cases_Bool (b.name == n)) [
      | inl here ↦ rw here (ap (λ c. c ∷ bs) (same b (rw here refl)))
      | inr apart ↦ rw apart (ap (λ cs. b ∷ cs) (no_change f bs n (λ c is. same c (rw apart is))))
    ]

two_changes : (f h : Block → Block) (bs : List Block) (n : ℕ) → ((b : Block) → (f b).name ≡ b.name) → with_blocks (λ b. h b ∷ []) (with_blocks (λ b. f b ∷ []) bs n) n ≡ with_blocks (λ b. h (f b) ∷ []) bs n
two_changes f h [] n names = refl
two_changes f h (b ∷ bs) n names =
    elim (cases_Bool (b.name == n)) [
      | inl here ↦ let here' : ((f b).name == n) ≡ true = ap (λ k. k == n) (names b) ∙ here in rw (here, here') refl
      | inr apart ↦ rw (apart, apart) (ap (λ cs. b ∷ cs) (two_changes f h bs n names))
    ]

-- ITEMS FROM A PLACE ON

module _ (p : ℕ) (body : List Item) where
  -- from this place on the body stands in place of each call
  abbrev spread_from : ℕ → List Item → List Item
  spread_from at items = take at items ++ spread p body (drop at items)

  call_step : (items : List Item) (at : ℕ) → at < length items → is_some_call p (slice_get (spread_from (at + 1) items) at) ≡ true → replaced_items (spread_from (at + 1) items) at 1 body ≡ spread_from at items
  call_step [] at below call = absurd (omega (arith, below))
  call_step (x ∷ items) zero below call = sym (ap (λ t. (if t then body else x ∷ []) ++ spread p body items) call)
  call_step (x ∷ items) (suc at) below call =
      let next : suc at + 1 ≡ suc (at + 1) = omega arith in
      let call' : is_some_call p (slice_get (spread_from (at + 1) items) at) ≡ true = sym (ap (λ n. is_some_call p (slice_get (spread_from n (x ∷ items)) (suc at))) next) ∙ call in
      ap (λ n. replaced_items (spread_from n (x ∷ items)) (suc at) 1 body) next
      ∙ ap (λ n. take (suc at) (x ∷ spread_from (at + 1) items) ++ (body ++ drop n (x ∷ spread_from (at + 1) items))) next
      ∙ ap (λ is. x ∷ is) (call_step items at (omega (arith, below)) call')

  other_step : (items : List Item) (at : ℕ) → at < length items → is_some_call p (slice_get (spread_from (at + 1) items) at) ≡ false → spread_from (at + 1) items ≡ spread_from at items
  other_step [] at below other = absurd (omega (arith, below))
  other_step (x ∷ items) zero below other = sym (ap (λ t. (if t then body else x ∷ []) ++ spread p body items) other)
  other_step (x ∷ items) (suc at) below other =
      let next : suc at + 1 ≡ suc (at + 1) = omega arith in
      let other' : is_some_call p (slice_get (spread_from (at + 1) items) at) ≡ false = sym (ap (λ n. is_some_call p (slice_get (spread_from n (x ∷ items)) (suc at))) next) ∙ other in
      ap (λ n. spread_from n (x ∷ items)) next ∙ ap (λ is. x ∷ is) (other_step items at (omega (arith, below)) other')

  from_end : (items : List Item) (at : ℕ) → at ≡ length items → spread_from at items ≡ items
  from_end [] zero e = refl
  from_end [] (suc at) e = absurd (omega (arith, e))
  from_end (x ∷ items) zero e = absurd (omega (arith, e))
  from_end (x ∷ items) (suc at) e = ap (λ is. x ∷ is) (from_end items at (omega (arith, e)))

  pub still_long : (items : List Item) (at : ℕ) → at < length items → at < length (spread_from (at + 1) items)
  still_long [] at below = absurd (omega (arith, below))
  still_long (x ∷ items) zero below = omega arith
  still_long (x ∷ items) (suc at) below =
      let next : suc at + 1 ≡ suc (at + 1) = omega arith in
      let rest = still_long items at (omega (arith, below)) in
      let size = ap (λ n. length (spread_from n (x ∷ items))) next in
      omega (arith, rest, size)

-- ONE BLOCK FROM A PLACE ON

abbrev pub partly_block : ℕ → List Item → ℕ → Block → Block
partly_block p body at b = record b { items = spread_from p body at b.items }

-- from a place of a block on the body stands in place of each call
abbrev pub partly : Graph → ℕ → ℕ → ℕ → Graph
partly g p block at = changed (λ b. partly_block p (body_of g p) at b ∷ []) g block

items_when : (g : Graph) (block : ℕ) (b : Block) → block_of g block ≡ Some b → items_of g block ≡ b.items
items_when g block b is = ap block_items is

partly_found : (g : Graph) (p block at : ℕ) (b : Block) → block_of g block ≡ Some b → block_of (partly g p block at) block ≡ Some (partly_block p (body_of g p) at b)
partly_found g p block at b is = block_of-changed_here (partly_block p (body_of g p) at) g.blocks block (λ c. refl) ∙ ap (option_map (partly_block p (body_of g p) at)) is

pub out_at : (p : ℕ) (o : Option Item) → is_some_call p o ≡ true → o ≡ Some (Out p)
out_at p None call = absurd (cc)
out_at p (Some (Op insn)) call = absurd (cc)
out_at p (Some (Hi rd to)) call = absurd (cc)
out_at p (Some (Lo rd rs to)) call = absurd (cc)
out_at p (Some (Out q)) call = ap (λ k. Some (Out k)) (eqb-true q p call)

-- the block of a name
some_block : (o : Option Block) → IsSome o → (b : Block) × (o ≡ Some b)
some_block None some = absurd (cc)
some_block (Some b) some = (b, refl)

pub partly_there : (g : Graph) (p block at : ℕ) → HasBlock g block → HasBlock (partly g p block at) block
partly_there g p block at has = let b = some_block (block_of g block) has in subst IsSome (sym (partly_found g p block at b.0 b.1)) refl

pub partly_long : (g : Graph) (p block at : ℕ) → HasBlock g block → at < length (items_of g block) → at < length (items_of (partly g p block (at + 1)) block)
partly_long g p block at has below =
    let b = some_block (block_of g block) has in
    let items = items_when (partly g p block (at + 1)) block (partly_block p (body_of g p) (at + 1) b.0) (partly_found g p block (at + 1) b.0 b.1) in
    subst (λ (is : List Item). at < length is) (sym items) (still_long p (body_of g p) b.0.items at (subst (λ (is : List Item). at < length is) (items_when g block b.0 b.1) below))

pub one_step : (g : Graph) (p block at : ℕ) → HasBlock g block → at < length (items_of g block) → inlined_if (partly g p block (at + 1)) p block at ≡ partly g p block at
one_step g p block at has below = by_block (some_block (block_of g block) has)
  where
    by_block : (b : Block) × (block_of g block ≡ Some b) → inlined_if (partly g p block (at + 1)) p block at ≡ partly g p block at
    by_block (b, is) =
        let h = partly g p block (at + 1) in
        let body = body_of g p in
        let within : at < length b.items = subst (λ (items : List Item). at < length items) (items_when g block b is) below in
        let items : items_of (partly g p block (at + 1)) block ≡ spread_from p (body_of g p) (at + 1) b.items = items_when h block (partly_block p body (at + 1) b) (partly_found g p block (at + 1) b is) in
        let same_block : (c : Block) → value_of (named g.blocks) block ≡ Some c → b ≡ c = λ c e. let f : Some b ≡ Some c = sym is ∙ e in cc in
        elim (cases_Bool (is_some_call p (slice_get (items_of (partly g p block (at + 1)) block) at))) [
          | inl call ↦
              let out = out_at p (slice_get (items_of h block) at) call in
              let call' : is_some_call p (slice_get (spread_from p (body_of g p) (at + 1) b.items) at) ≡ true = sym (ap (λ (ys : List Item). is_some_call p (slice_get ys at)) items) ∙ call in
              ap (λ t. if t then inlined (partly g p block (at + 1)) block at else partly g p block (at + 1)) call
              ∙ ap (λ (bd : List Item). record g { blocks = with_blocks (λ c. record c { items = replaced_items c.items at 1 bd } ∷ []) (partly g p block (at + 1)).blocks block }) (inlined_body (partly g p block (at + 1)) p block at out)
              ∙ ap (λ (bs : List Block). record g { blocks = bs })
              (two_changes (partly_block p body (at + 1)) (λ c. record c { items = replaced_items c.items at 1 (body_of g p) }) g.blocks block (λ c. refl)
              ∙ same_change (λ c. record c { items = replaced_items (spread_from p (body_of g p) (at + 1) c.items) at 1 (body_of g p) }) (partly_block p body at) g.blocks block (λ c e.
              let s = same_block c e in
              subst (λ (d : Block). record d { items = replaced_items (spread_from p (body_of g p) (at + 1) d.items) at 1 (body_of g p) } ≡ partly_block p (body_of g p) at d) s
              (ap (λ (ys : List Item). record b { items = ys }) (call_step p body b.items at within call'))))
          | inr other ↦
              let other' : is_some_call p (slice_get (spread_from p (body_of g p) (at + 1) b.items) at) ≡ false = sym (ap (λ (ys : List Item). is_some_call p (slice_get ys at)) items) ∙ other in
              ap (λ t. if t then inlined (partly g p block (at + 1)) block at else partly g p block (at + 1)) other
              ∙ ap (λ (bs : List Block). record g { blocks = bs })
              (same_change (partly_block p body (at + 1)) (partly_block p body at) g.blocks block (λ c e.
              let s = same_block c e in
              subst (λ (d : Block). partly_block p (body_of g p) (at + 1) d ≡ partly_block p (body_of g p) at d) s
              (ap (λ (ys : List Item). record b { items = ys }) (other_step p body b.items at within other'))))
        ]

pub partly_begins : (g : Graph) (p block : ℕ) → partly g p block (length (items_of g block)) ≡ g
partly_begins g p block =
    ap (λ (bs : List Block). record g { blocks = bs })
    (no_change (partly_block p (body_of g p) (length (items_of g block))) g.blocks block (λ b is.
    ap (λ (ys : List Item). record b { items = ys }) (from_end p (body_of g p) b.items (length (items_of g block)) (ap (λ (o : Option Block). length (block_items o)) is))))

-- ROOM

room_next : (k n s : ℕ) → (k + 1) * n + 1 ≤ s + (k + 1) → (n ≤ s) × (k * n + 1 ≤ (s + 1 - n) + k)
room_next k zero s room = (omega arith, omega (arith, room))
room_next k (suc n) s room =
    let least : k * 1 ≤ k * suc n = mul-le-mul_left k (omega arith) in
    let enough : suc n ≤ s = omega (arith, room, least) in
    (enough, omega (arith, room, enough))

-- one call fewer
pub room_step : (k k' n s : ℕ) → k * n + 1 ≤ s + k → k' + 1 ≡ k → (n ≤ s) × (k' * n + 1 ≤ (s + 1 - n) + k')
room_step k k' n s room fewer = room_next k' n s (subst (λ m. m * n + 1 ≤ s + m) (sym fewer) room)

-- the body fits in place of a call, and once more in place of each that is left
pub body_fits : (p block at : ℕ) (v : GraphAndRoom) → IsGraph v.graph → IsCall v.graph p block at → HasRoom p v → length (body_of v.graph p) ≤ v.spare.items
body_fits p block at v rules there room =
    (room_step (call_count v.graph p) (call_count (inlined v.graph block at) p) (length (body_of v.graph p)) v.spare.items room (inlined_fewer v.graph p block at rules there)).0

pub room_left : (p block at : ℕ) (old new : GraphAndRoom) → IsGraph old.graph → IsCall old.graph p block at → HasRoom p old → new.graph ≡ inlined old.graph block at → new.spare.items ≡ old.spare.items + 1 - length (body_of old.graph p) → HasRoom p new
room_left p block at old new rules there room is left =
    let step = room_step (call_count old.graph p) (call_count (inlined old.graph block at) p) (length (body_of old.graph p)) old.spare.items room (inlined_fewer old.graph p block at rules there) in
    subst (λ (h : Graph). call_count h p * length (body_of h p) + 1 ≤ new.spare.items + call_count h p) (sym is)
    (subst (λ n. call_count (inlined old.graph block at) p * length (body_of old.graph p) + 1 ≤ n + call_count (inlined old.graph block at) p) (sym left) step.1)

-- ONE BLOCK AFTER ANOTHER

first_changed : (Block → Block) → List Block → List Block
first_changed f [] = []
first_changed f (b ∷ bs) = f b ∷ bs

from_changed : (f : Block → Block) → ((b : Block) → (f b).name ≡ b.name) → (bs : List Block) (n : ℕ) → blocks_from (with_blocks (λ b. f b ∷ []) bs n) (Some n) ≡ first_changed f (blocks_from bs (Some n))
unfolding first_changed
from_changed f names [] n = refl
from_changed f names (b ∷ bs) n =
    elim (cases_Bool (b.name == n)) [
      | inl here ↦ let here' : ((f b).name == n) ≡ true = ap (λ k. k == n) (names b) ∙ here in rw (here, here') refl
      | inr apart ↦ rw (apart, apart) (from_changed f names bs n)
    ]

-- the calls of the other blocks
calls_changed : (p : ℕ) (f : Block → Block) (bs : List Block) (n : ℕ) (b : Block) → value_of (named bs) n ≡ Some b → calls_in p (items_of_blocks (with_blocks (λ c. f c ∷ []) bs n)) + calls_in p b.items ≡ calls_in p (items_of_blocks bs) + calls_in p (f b).items
calls_changed p f [] n b is = absurd (cc)
calls_changed p f (c ∷ bs) n b is =
    elim (cases_Bool (c.name == n)) [
      | inl here ↦
          let same : c ≡ b = let e : Some c ≡ Some b = rw here at is in cc in
          rw here
          (omega (
            arith,
            calls_in_blocks-cons p (f c) bs,
            calls_in_blocks-cons p c bs,
            ap (λ (d : Block). calls_in p d.items) same,
            ap (λ (d : Block). calls_in p (f d).items) same,
          ))
      | inr apart ↦
          rw apart
          (omega (
            arith,
            calls_in_blocks-cons p c (with_blocks (λ d. f d ∷ []) bs n),
            calls_in_blocks-cons p c bs,
            calls_changed p f bs n b (rw apart at is),
          ))
    ]

-- a block without calls stays
pub spread_at_none : (g : Graph) (p block : ℕ) → list_any (is_call p) (items_of g block) ≡ false → spread_at g p block ≡ g
spread_at_none g p block none =
    ap (λ bs. record g { blocks = bs })
    (no_change (spread_block p (body_of g p)) g.blocks block
    (λ b is. ap (λ (items : List Item). record b { items = items }) (spread_none p (body_of g p) b.items (none_calls p b.items (ap (λ (o : Option Block). list_any (is_call p) (block_items o)) (sym is) ∙ none)))))

-- spreading one block first changes nothing
spread_sooner_in : (p : ℕ) (body : List Item) → calls_in p body ≡ 0 → (bs : List Block) (n : ℕ) → map (spread_block p body) (with_blocks (λ b. spread_block p body b ∷ []) bs n) ≡ map (spread_block p body) bs
spread_sooner_in p body plain [] n = refl
spread_sooner_in p body plain (b ∷ bs) n =
    elim (cases_Bool (b.name == n)) [
      | inl here ↦ rw here (ap (λ (is : List Item). record b { items = is } ∷ map (spread_block p body) bs) (spread_none p body (spread p body b.items) (none_left p body plain b.items)))
      | inr apart ↦ rw apart (ap (λ cs. spread_block p body b ∷ cs) (spread_sooner_in p body plain bs n))
    ]

pub block_sooner : (g : Graph) (p block : ℕ) → IsGraph g → spread_all (spread_at g p block) p ≡ spread_all g p
block_sooner g p block rules = ap (λ (bs : List Block). record g { blocks = bs }) (spread_sooner_in p (body_of g p) (bodies_call_none g p p rules) g.blocks block)

-- what a walk knows behind a block in which the body stands in place of each call
pub record IsBehind (p : ℕ) (h k : Graph) (from next : Option ℕ) : Type 0 where
  pub place : IsPlace (named k.blocks) next
  pub left : call_count k p ≡ calls_in p (items_of_blocks (blocks_from k.blocks next))
  pub shorter : length (blocks_from k.blocks next) < length (blocks_from h.blocks from)

first_is : (f : Block → Block) (bs : List Block) (b : Block) (others : List Block) → bs ≡ b ∷ others → first_changed f bs ≡ f b ∷ others
unfolding first_changed
first_is f bs b others e = ap (first_changed f) e

pub still_named : (h : Graph) (p name : ℕ) → HasBlock h name → HasBlock (spread_at h p name) name
still_named h p name has =
    let b = some_block (block_of h name) has in
    subst IsSome (sym (block_of-changed_here (spread_block p (body_of h p)) h.blocks name (λ c. refl) ∙ ap (option_map (spread_block p (body_of h p))) b.1)) refl

pub walk_on : (h k : Graph) (p name : ℕ) (place : Option ℕ) → IsGraph h → IsGraph k → place ≡ Some name → IsPlace (named h.blocks) place → k ≡ spread_at h p name → call_count h p ≡ calls_in p (items_of_blocks (blocks_from h.blocks place)) → IsBehind p h k place (next_of k name)
walk_on h k p name place rules rules' is there spreads left =
    let body = body_of h p in
    let old = here h place name rules is there in
    let from : blocks_from k.blocks (Some name) ≡ spread_block p (body_of h p) old.step.block ∷ old.step.others =
    ap (λ (g : Graph). blocks_from g.blocks (Some name)) spreads
    ∙ from_changed (spread_block p (body_of h p)) (λ b. refl) h.blocks name
    ∙ first_is (spread_block p (body_of h p)) (blocks_from h.blocks (Some name)) old.step.block old.step.others old.step.from in
    let still : IsSome (block_of k name) = subst (λ (g : Graph). HasBlock g name) (sym spreads) (still_named h p name (subst IsSome (sym old.step.found) refl)) in
    let new = here k (Some name) name rules' refl still in
    let others : new.step.others ≡ old.step.others = let both : new.step.block ∷ new.step.others ≡ spread_block p (body_of h p) old.step.block ∷ old.step.others = sym new.step.from ∙ from in cc in
    let behind : blocks_from k.blocks (next_of k name) ≡ old.step.others = new.step.next ∙ others in
    let count = calls_changed p (spread_block p (body_of h p)) h.blocks name old.step.block old.step.found in
    let none = none_left p (body_of h p) (bodies_call_none h p p rules) old.step.block.items in
    let same = ap (λ (g : Graph). call_count g p) spreads in
    record {
      place = new.step.there;
      left =
          omega (
            arith,
            count,
            none,
            same,
            left,
            ap (λ (bs : List Block). calls_in p (items_of_blocks bs)) old.rest,
            ap (λ (bs : List Block). calls_in p (items_of_blocks bs)) behind,
            calls_in_blocks-cons p old.step.block old.step.others,
          );
      shorter = omega (arith, ap (λ (bs : List Block). length bs) behind, ap (λ (bs : List Block). length bs) old.rest);
    }

-- GOALS

-- the item that is looked at
pub item_at : (g : Graph) (block at : ℕ) (items : List Item) (item : Item) → items ≡ items_of g block → at < length (items_of g block) → item ≡ get_or items at item → slice_get (items_of g block) at ≡ Some item
item_at g block at items item are below is =
    ap (λ (ys : List Item). slice_get ys at) (sym are) ∙ slice_get-get_or items at item (subst (λ (ys : List Item). at < length ys) (sym are) below) ∙ ap Some (sym is)

pub no_step : (g : Graph) (p block at : ℕ) (item : Item) → slice_get (items_of g block) at ≡ Some item → is_call p item ≡ false → inlined_if g p block at ≡ g
no_step g p block at item is other = ap (λ t. if t then inlined g block at else g) (ap (is_some_call p) is ∙ other)

pub call_is : (g : Graph) (p block at : ℕ) (item : Item) → slice_get (items_of g block) at ≡ Some item → is_call p item ≡ true → inlined_if g p block at ≡ inlined g block at
call_is g p block at item is call = ap (λ t. if t then inlined g block at else g) (ap (is_some_call p) is ∙ call)

pub call_there_at : (g : Graph) (p block at : ℕ) (item : Item) → slice_get (items_of g block) at ≡ Some item → is_call p item ≡ true → IsCall g p block at
call_there_at g p block at item is call = is ∙ out_at p (Some item) call

-- a step back from a place
pub step_back : (g : Graph) (p block n : ℕ) → HasBlock g block → 0 < n → n ≤ length (items_of g block) → inlined_if (partly g p block n) p block (n - 1) ≡ partly g p block (n - 1)
step_back g p block zero has some within = absurd (omega (arith, some))
step_back g p block (suc n) has some within =
    let back : suc n - 1 ≡ n = omega arith in
    let next : suc n ≡ n + 1 = omega arith in
    ap (λ m. inlined_if (partly g p block (suc n)) p block m) back
    ∙ ap (λ m. inlined_if (partly g p block m) p block n) next
    ∙ one_step g p block n has (omega (arith, within))
    ∙ ap (partly g p block) (sym back)

pub back_there : (g : Graph) (p block n : ℕ) → HasBlock g block → 0 < n → n ≤ length (items_of g block) → n - 1 < length (items_of (partly g p block n) block)
back_there g p block zero has some within = absurd (omega (arith, some))
back_there g p block (suc n) has some within =
    let back : suc n - 1 ≡ n = omega arith in
    let next : suc n ≡ n + 1 = omega arith in
    subst (λ m. m < length (items_of (partly g p block (suc n)) block)) (sym back)
    (subst (λ m. n < length (items_of (partly g p block m) block)) (sym next) (partly_long g p block n has (omega (arith, within))))
