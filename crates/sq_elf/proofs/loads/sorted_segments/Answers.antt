-- a sort only moves the segments, and they ascend by the key
use Rattle.std.proofs.Common.{rules, subst, List}
use Rattle.std.specs.List.Sorted.{IsPermutation}
use Rattle.std.proofs.lemmas.List.Sorted.{IsNonDecreasingBy-from_sort_by_key}
use Rattle.sq_elf.specs.declared.segment.Segment.{Segment}
use Rattle.sq_elf.proofs.loads.sorted_segments.Goals as goal

pub returns : goal.returns
returns c = record {
  all = let moved : List Segment → Type 0 = λ xs. IsPermutation xs c.sort_by_key.new.self.items in subst moved c.in_ok-sorted.ensures c.in_ok-sort_by_key.ensures.permutation;
  ascending = IsNonDecreasingBy-from_sort_by_key (λ (s : Segment). s.address) _ c.in_ok-sort_by_key.ensures.sorted (λ a r q k. search rules);
}
