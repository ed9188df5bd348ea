-- Parts that are laid one behind another, each at a multiple of 4.
use Rattle.std.proofs.Common.{◌≡◌, ℕ, zero, suc, ◌+◌, ◌*◌, ◌≤◌, List, [], ◌∷◌, ◌++◌, length, sum_by, replicate, Some, slice_get, ap, subst, arith, length-append}
use Rattle.std.proofs.lemmas.List.{length-replicate}
use Rattle.std.proofs.lemmas.List.Sums.{sum_by-cons}
use Rattle.sq_write.specs.Output.{gap, layout, offsets, end_of}
use Rattle.law_written.proofs.OutputParts.{PartAt, part_from, first_part, rest_part}

few_zeros : (n : ℕ) → gap n ≤ 3
few_zeros n = omega arith

-- each part stands at its offset
pub laid_part : (bytes : List ℕ) (at : ℕ) (parts : List (List ℕ)) → PartAt bytes at (layout at parts) → (k place : ℕ) (part : List ℕ) → slice_get parts k ≡ Some part → slice_get (offsets at parts) k ≡ Some place → PartAt bytes place part
laid_part bytes at [] has k place part is stands = absurd (cc is)
laid_part bytes at (first ∷ parts) has k place part is stands =
    let next = at + gap at + length first in
    let zeros = replicate (gap at) 0 in
    let behind : PartAt bytes (at + gap at) (first ++ layout next parts) =
    part_from bytes (at + length zeros) (at + gap at) (first ++ layout next parts) (ap (λ n. at + n) (length-replicate {A = ℕ} (gap at) 0))
    (rest_part bytes at zeros (first ++ layout next parts) has) in
    by_place behind (laid_part bytes next parts (rest_part bytes (at + gap at) first (layout next parts) behind)) k is stands
  where
    by_place : PartAt bytes (at + gap at) (first ++ layout (at + gap at + length first) parts) → ((k place : ℕ) (part : List ℕ) → slice_get parts k ≡ Some part → slice_get (offsets (at + gap at + length first) parts) k ≡ Some place → PartAt bytes place part) → (k : ℕ) → slice_get (first ∷ parts) k ≡ Some part → slice_get (offsets at (first ∷ parts)) k ≡ Some place → PartAt bytes place part
    by_place behind more zero is stands =
        let same : first ≡ part = cc is in
        let there : at + gap at ≡ place = cc stands in
        subst (PartAt bytes place) same (part_from bytes (at + gap at) place first there (first_part bytes (at + gap at) first (layout (at + gap at + length first) parts) behind))
    by_place behind more (suc k) is stands = more k place part is stands

-- where they end: behind all, with three zeros at most before each
pub end_at_most : (at : ℕ) (parts : List (List ℕ)) → end_of at parts ≤ at + sum_by length parts + 3 * length parts + 3
end_at_most at [] = omega (arith, few_zeros at)
end_at_most at (part ∷ parts) =
    omega (arith, few_zeros at, end_at_most (at + gap at + length part) parts, sum_by-cons {X = List ℕ} length part parts)

pub layout_ends : (at : ℕ) (parts : List (List ℕ)) (last : List ℕ) → at + length (layout at (parts ++ last ∷ [])) ≡ end_of at parts + length last
layout_ends at [] last = omega (arith, length-append (replicate (gap at) 0) (last ++ []), length-append last [], length-replicate {A = ℕ} (gap at) 0)
layout_ends at (part ∷ parts) last =
    let rest = layout (at + gap at + length part) (parts ++ last ∷ []) in
    omega (arith, length-append (replicate (gap at) 0) (part ++ rest), length-append part rest, length-replicate {A = ℕ} (gap at) 0, layout_ends (at + gap at + length part) parts last)
