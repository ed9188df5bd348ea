-- Cuts of row T on equal tails are the pairs of blocks with a common end that saves a word.
use Rattle.std.proofs.Common.{◌≡◌, ◌≢◌, ℕ, ◌+◌, ◌-◌, ◌≤◌, List, drop, length, sym, ap, ◌∙◌, subst, arith, length-drop}
use Rattle.sq_graph.specs.declared.item.Item.{Item}
use Rattle.sq_graph.specs.Graph.{Graph}
use Rattle.sq_graph.specs.Blocks.{items_of}
use Rattle.sq_pass.specs.declared.cut.Cut.{Cut}
use Rattle.law_patch.specs.Merges.{HaveTail}
use Rattle.sq_rename.specs.Reservations.{HasNoReservations}
use Rattle.sq_tail.specs.Tails.{end_words, tail_cut, IsTailCut, AreTails}
use Rattle.sq_tail.specs.Ends.{last_items, IsLongestEnd, HaveEnd, IsTailPair}
use Rattle.sq_tail.proofs.Applying.{AreEnds, tail_ends}

last_count : (n : ℕ) (items : List Item) → n ≤ length items → length (last_items n items) ≡ n
last_count n items l = omega (arith, l, length-drop (length items - n) items)

pub end_tail : (g : Graph) (dropped kept n : ℕ) → HaveEnd g dropped kept n → HaveTail g dropped (length (items_of g dropped) - n) kept (length (items_of g kept) - n)
end_tail g dropped kept n end = record {
  other = end.other;
  items = end.items.same;
  some = λ none. absurd (omega (arith, end.some, last_count n (items_of g kept) end.items.second, ap (λ (items : List Item). length items) none));
  ends = end.terms;
}

-- so many items, at least one, are a cut where they save a word
pub end_cut : (g : Graph) (dropped kept n : ℕ) (cut : Cut) → HaveEnd g dropped kept n → 1 ≤ n - 1 + end_words g dropped → cut ≡ tail_cut g dropped kept n → IsTailCut g cut
end_cut g dropped kept n cut end saves is =
    let count : length (last_items n (items_of g kept)) ≡ n = last_count n (items_of g kept) end.items.second in
    record {
      dropped = dropped;
      kept = kept;
      at = length (items_of g dropped) - n;
      from = length (items_of g kept) - n;
      tail = end_tail g dropped kept n end;
      plain = end.items.plain;
      is = is ∙ ap (tail_cut g dropped kept) (sym count);
      some = subst (λ (given : Cut). 1 ≤ given.saving) (sym is) saves;
    }

-- the longest common end serves where any does
pub longest_cut : (g : Graph) (dropped kept n : ℕ) (cut : Cut) → IsTailPair g dropped kept → IsLongestEnd (items_of g dropped) (items_of g kept) n → cut ≡ tail_cut g dropped kept n → IsTailCut g cut
longest_cut g dropped kept n cut pair most is =
    let l : pair.n ≤ n = most.longest pair.n pair.end.items in
    end_cut g dropped kept n cut (record { other = pair.end.other; some = omega (arith, l, pair.end.some); items = most.common; terms = pair.end.terms }) (omega (arith, l, pair.saves)) is

pub cut_end : (g : Graph) (cut : Cut) (is : IsTailCut g cut) → HaveEnd g is.dropped is.kept (length (drop is.from (items_of g is.kept)))
cut_end g cut is =
    let n = length (drop is.from (items_of g is.kept)) in
    let ends = tail_ends g is.dropped is.at is.kept is.from is.tail in
    let at_is : length (items_of g is.dropped) - length (drop is.from (items_of g is.kept)) ≡ is.at = omega (arith, ends.first) in
    let from_is : length (items_of g is.kept) - length (drop is.from (items_of g is.kept)) ≡ is.from = omega (arith, ends.second) in
    record {
      other = is.tail.other;
      some = ends.some;
      items = record {
        first = omega (arith, ends.first);
        second = omega (arith, ends.second);
        same = ap (λ k. drop k (items_of g is.dropped)) at_is ∙ is.tail.items ∙ ap (λ k. drop k (items_of g is.kept)) (sym from_is);
        plain = subst (λ k. HasNoReservations (drop k (items_of g is.kept))) (sym from_is) is.plain;
      };
      terms = is.tail.ends;
    }

pub cut_saves : (g : Graph) (cut : Cut) (is : IsTailCut g cut) → 1 ≤ length (drop is.from (items_of g is.kept)) - 1 + end_words g is.dropped
cut_saves g cut is = subst (λ (given : Cut). 1 ≤ given.saving) is.is is.some

pub cut_pair : (g : Graph) (cut : Cut) (is : IsTailCut g cut) → IsTailPair g is.dropped is.kept
cut_pair g cut is = record { n = length (drop is.from (items_of g is.kept)); end = cut_end g cut is; saves = cut_saves g cut is }

-- what applying asks of the blocks
pub ends_there : (g : Graph) (dropped at kept from n : ℕ) → kept ≢ dropped → AreEnds g dropped at kept from n → AreTails g dropped kept n
ends_there g dropped at kept from n other ends = record {
  other = other;
  some = ends.some;
  dropped_there = ends.has;
  kept_there = ends.there;
  dropped_items = omega (arith, ends.first);
  kept_items = omega (arith, ends.second);
}
