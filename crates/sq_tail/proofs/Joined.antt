-- The steps by which two tails are joined.
use Rattle.std.proofs.Common.{◌≡◌, ◌≢◌, ℕ, ◌+◌, ◌-◌, List, drop, length, IsSome, refl, sym, ap, ◌∙◌, subst, arith, length-drop}
use Rattle.std.proofs.lemmas.Bool.{eq-eqb, ne_eqb}
use Rattle.sq_graph.specs.declared.item.Item.{Item}
use Rattle.sq_graph.specs.Blocks.{HasBlock, block_items, items_of}
use Rattle.sq_graph.specs.Graph.{Graph}
use Rattle.sq_graph.specs.Operations.{IsNew, split_at}
use Rattle.law_patch.specs.Merges.{merged, tailed}
use Rattle.sq_tail.specs.Tails.{fresh, IsJoined, AreTails}
use Rattle.sq_tail.proofs.Applying.{has_items}
use Rattle.sq_tail.proofs.Naming.{fresh_is_new, apart_from_new}
use Rattle.sq_tail.proofs.Splitting.{second_items, other_block}

-- the blocks once the kept one is split
pub record AreSplit (g : Graph) (new dropped from n : ℕ) (h : Graph) : Type 0 where
  pub has : HasBlock h dropped
  pub there : HasBlock h new
  pub new_items : length (items_of h new) ≡ n
  pub dropped_items : length (items_of h dropped) ≡ length (items_of g dropped)

pub split_ends : (g : Graph) (new dropped kept n from : ℕ) → IsNew g new → AreTails g dropped kept n → from + n ≡ length (items_of g kept) → AreSplit g new dropped from n (split_at g new kept from)
split_ends g new dropped kept n from unused tails sum =
    let s = split_at g new kept from in
    let items : items_of (split_at g new kept from) new ≡ drop from (items_of g kept) = second_items g new kept from unused tails.kept_there in
    let count : length (items_of (split_at g new kept from) new) ≡ n = omega (arith, ap (λ (is : List Item). length is) items, length-drop from (items_of g kept), sum) in
    let same = other_block g new kept from dropped (apart_from_new g new dropped unused tails.dropped_there) (λ e. tails.other (sym e)) in
    record {
      has = subst IsSome (sym same) tails.dropped_there;
      there = has_items (split_at g new kept from) new (λ none. absurd (omega (arith, count, tails.some, ap (λ (is : List Item). length is) none)));
      new_items = count;
      dropped_items = ap (λ o. length (block_items o)) same;
    }

-- where they are all items of the kept block
pub whole_joined : (g h : Graph) (dropped kept n at : ℕ) → n ≡ length (items_of g kept) → at ≡ length (items_of g dropped) - n → h ≡ merged g dropped at kept → IsJoined g dropped kept n h
whole_joined g h dropped kept n at whole at_is is =
    (fresh g, (fresh_is_new g, is ∙ ap (λ k. merged g dropped k kept) at_is ∙ sym (rw (eq-eqb n (length (items_of g kept)) whole) refl)))

-- and where they are not
pub part_joined : (g h s : Graph) (new dropped kept n at from : ℕ) → IsNew g new → n ≢ length (items_of g kept) → at ≡ length (items_of g dropped) - n → from ≡ length (items_of g kept) - n → s ≡ split_at g new kept from → h ≡ merged s dropped at new → IsJoined g dropped kept n h
part_joined g h s new dropped kept n at from unused part at_is from_is split is = (
  new,
  (unused, is ∙ ap (λ (k : Graph). merged k dropped at new) split ∙ (λ i. tailed g new dropped (at_is i) kept (from_is i)) ∙ sym (rw (ne_eqb n (length (items_of g kept)) part) refl)),
)
