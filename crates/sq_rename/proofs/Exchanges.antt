-- A list that another undoes is a permutation.
use Rattle.std.proofs.Common.{ℕ, List, slice_index, sym, ap, ◌∙◌}
use Rattle.sq_rename.specs.Renamings.{IsPermutation}
use Rattle.sq_rename.specs.Inverses.{AreInverse}

pub inverse_permutes : (to from : List ℕ) → AreInverse to from → IsPermutation to
inverse_permutes to from h = record {
  count = h.to_count;
  below = h.to_below;
  one_to_one = λ q r k l e. sym (h.back q k) ∙ (ap (slice_index from) e ∙ h.back r l);
  onto = λ s k. (slice_index from s, (h.from_below s k, h.there s k));
}
