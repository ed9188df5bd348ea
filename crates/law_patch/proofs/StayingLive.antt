-- What is live at a place stays live when items become a call of a procedure with these items: the call is replaced by them again.
use Rattle.std.proofs.Common.{◌≡◌, ℕ, ◌+◌, ◌≤◌, ◌==◌, List, [], ◌∷◌, ◌++◌, take, drop, length, slice_get, Some, IsSome, inl, inr, refl, sym, ap, ◌∙◌, subst, arith, append_assoc, length-append}
use Rattle.std.specs.List.{slice_range}
use Rattle.std.proofs.lemmas.Bool.{cases_Bool}
use Rattle.std.proofs.lemmas.List.{take-append-drop, take_at, drop_at, drop-drop, length-take-le}
use Rattle.sq_arena.specs.Entries.{value_of}
use Rattle.sq_graph.specs.declared.item.Item.{Item}
use Rattle.sq_graph.specs.declared.item.Item.TheVariants.{Out}
use Rattle.sq_graph.specs.Graph.{Block, Graph}
use Rattle.sq_graph.specs.Blocks.{named, HasBlock, block_items, items_of, body_of, link_of}
use Rattle.sq_graph.specs.Lines.{place_lines}
use Rattle.sq_graph.specs.Operations.{with_blocks, replaced_items, replaced, call_of, called_body, inlined}
use Rattle.sq_graph.specs.Rules.{IsGraph}
use Rattle.sq_graph.specs.Walks.{IsLive}
use Rattle.law_patch.specs.Calls.{IsCallable, call_end, called_there}
use Rattle.law_patch.proofs.Calls.{range_is}
use Rattle.law_patch.proofs.OneBlock.{inline_live_by, inline_moves_by}
use Rattle.law_patch.proofs.StayingDead.{call_moves_dead}

-- items that are replaced by one are put back
put_back : (items body : List Item) (at : ℕ) (one : Item) → at + length body ≤ length items → slice_range items at (at + length body) ≡ body → replaced_items (replaced_items items at (length body) (one ∷ [])) at 1 body ≡ items
put_back items body at one within same =
    let front : length (take at items) ≡ at = length-take-le at items (omega (arith, within)) in
    let first : take at (take at items ++ one ∷ drop (at + length body) items) ≡ take at items = take_at (take at items) (one ∷ drop (at + length body) items) at front in
    let last : drop (at + 1) (take at items ++ one ∷ drop (at + length body) items) ≡ drop (at + length body) items =
    ap (drop (at + 1)) (sym (append_assoc (take at items) (one ∷ []) (drop (at + length body) items)))
    ∙ drop_at (take at items ++ one ∷ []) (drop (at + length body) items) (at + 1) (length-append (take at items) (one ∷ []) ∙ ap (λ k. k + 1) front) in
    ap (λ is. is ++ (body ++ drop (at + 1) (take at items ++ one ∷ drop (at + length body) items))) first
    ∙ ap (λ is. take at items ++ (body ++ is)) last
    ∙ ap (λ is. take at items ++ (is ++ drop (at + length body) items)) (sym same ∙ range_is items at (length body))
    ∙ ap (λ is. take at items ++ (take (length body) (drop at items) ++ is)) (sym (drop-drop (length body) at items))
    ∙ ap (λ is. take at items ++ is) (take-append-drop (length body) (drop at items))
    ∙ take-append-drop at items

blocks_back : (bs : List Block) (name at : ℕ) (one : Item) (body : List Item) → at + length body ≤ length (block_items (value_of (named bs) name)) → slice_range (block_items (value_of (named bs) name)) at (at + length body) ≡ body
    → with_blocks (λ b. record b { items = replaced_items b.items at 1 body } ∷ []) (with_blocks (λ b. record b { items = replaced_items b.items at (length body) (one ∷ []) } ∷ []) bs name) name ≡ bs
blocks_back [] name at one body within same = refl
blocks_back (b ∷ bs) name at one body within same =
    elim (cases_Bool (b.name == name)) [
      | inl here ↦ rw (here, here) (ap (λ is. record b { items = is } ∷ bs) (put_back b.items body at one (rw here at within) (rw here at same)))
      | inr apart ↦ rw (apart, apart) (ap (λ cs. b ∷ cs) (blocks_back bs name at one body (rw apart at within) (rw apart at same)))
    ]

item_there : (bs : List Block) (name at n : ℕ) (one : Item) → IsSome (value_of (named bs) name) → at ≤ length (block_items (value_of (named bs) name))
    → slice_get (block_items (value_of (named (with_blocks (λ b. record b { items = replaced_items b.items at n (one ∷ []) } ∷ []) bs name)) name)) at ≡ Some one
item_there [] name at n one has within = absurd (cc)
item_there (b ∷ bs) name at n one has within =
    elim (cases_Bool (b.name == name)) [
      | inl here ↦ rw (here, here) (get_behind (take at b.items) one (drop (at + n) b.items) at (length-take-le at b.items (rw here at within)))
      | inr apart ↦ rw (apart, apart) (item_there bs name at n one (rw apart at has) (rw apart at within))
    ]
  where
    get_behind : (xs : List Item) (x : Item) (ys : List Item) (k : ℕ) → length xs ≡ k → slice_get (xs ++ x ∷ ys) k ≡ Some x
    get_behind [] x ys k long = ap (λ m. slice_get (x ∷ ys) m) (sym long)
    get_behind (z ∷ xs) x ys k long = ap (λ m. slice_get (z ∷ (xs ++ x ∷ ys)) m) (sym long) ∙ get_behind xs x ys (length xs) refl

module _ (g : Graph) (block at procedure : ℕ) (rules : IsGraph g) (still : IsGraph (called_there g block at procedure)) (can : IsCallable g block at procedure) where
  abbrev h : Graph
  h = called_there g block at procedure

  there : slice_get (items_of (called_there g block at procedure) block) at ≡ Some (Out procedure)
  there = item_there g.blocks block at (length (body_of g procedure)) (Out procedure) can.block_there (let l = can.within in omega (arith, l))

  back : inlined (called_there g block at procedure) block at ≡ g
  back =
      ap (λ o. replaced (called_there g block at procedure) block at 1 (called_body (called_there g block at procedure) (call_of o))) there
      ∙ ap (λ bs. record g { blocks = bs }) (blocks_back g.blocks block at (Out procedure) (body_of g procedure) can.within can.items)

  dies : Unit {0} → (link : ℕ) → link_of (called_there g block at procedure) procedure ≡ Some link → ¬ IsLive (called_there g block at procedure) link (place_lines (called_there g block at procedure) block (at + 1))
  dies u link is =
      let dead : ¬ IsLive g link (place_lines g block (call_end g at procedure + 0)) = let e : call_end g at procedure ≡ call_end g at procedure + 0 = omega arith in subst (λ k. ¬ IsLive g link (place_lines g block k)) e (can.dead link is) in
      let f : at + 1 + 0 ≡ at + 1 = omega arith in
      subst (λ k. ¬ IsLive (called_there g block at procedure) link (place_lines (called_there g block at procedure) block k)) f (call_moves_dead g block at procedure rules can 0 link (let l = can.within in omega (arith, l)) dead)

  -- in other blocks, and in this one up to the call
  pub call_keeps_live : (other place r : ℕ) → HasBlock (called_there g block at procedure) other → place ≤ length (items_of (called_there g block at procedure) other) → (other ≡ block → place ≤ at)
      → IsLive g r (place_lines g other place) → IsLive (called_there g block at procedure) r (place_lines (called_there g block at procedure) other place)
  call_keeps_live other place r has l ahead lives =
      inline_live_by (called_there g block at procedure) block at procedure still there (Unit {0}) dies tt other place r has l ahead
      (subst (λ (k : Graph). IsLive k r (place_lines k other place)) (sym back) lives)

  -- and behind it
  pub call_moves_live : (place r : ℕ) → (at + 1) + place ≤ length (items_of (called_there g block at procedure) block) → IsLive g r (place_lines g block ((at + length (body_of g procedure)) + place))
      → IsLive (called_there g block at procedure) r (place_lines (called_there g block at procedure) block ((at + 1) + place))
  call_moves_live place r l lives =
      inline_moves_by (called_there g block at procedure) block at procedure still there (Unit {0}) dies tt place r l
      (subst (λ (k : Graph). IsLive k r (place_lines k block ((at + length (body_of g procedure)) + place))) (sym back) lives)
