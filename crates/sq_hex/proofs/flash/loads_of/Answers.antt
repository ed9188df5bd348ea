-- a sort only moves the segments, and they ascend by the key
use Rattle.std.proofs.Common.{rules, subst, List}
use Rattle.std.specs.List.Sorted.{IsPermutation}
use Rattle.std.proofs.lemmas.List.Sorted.{IsNonDecreasingBy-from_sort_by_key, IsPermutation-trans}
use Rattle.sq_elf.specs.declared.segment.Segment.{Segment}
use Rattle.sq_elf.specs.Memory.{segments_of}
use Rattle.sq_hex.proofs.flash.loads_of.Goals as goal

pub returns : goal.returns
returns c =
    let moved : List Segment → Type 0 = λ xs. IsPermutation xs c.sort_by_key.new.self.items in
    record {
      all = IsPermutation-trans (segments_of c.args.elf.now) c.segments.result.now c.sort_by_key.new.self.items c.segments.ensures.all (subst moved c.in_ok-loads.ensures.items c.in_ok-sort_by_key.ensures.permutation);
      ascending = IsNonDecreasingBy-from_sort_by_key (λ (s : Segment). s.load_address) _ c.in_ok-sort_by_key.ensures.sorted (λ a r q k. search rules);
    }
