-- Parts laid one behind another.
use Rattle.std.proofs.Common.{◌≡◌, ℕ, ◌+◌, ◌%◌, List, [], ◌∷◌, ◌++◌, length, replicate, map, refl, sym, ap, ◌∙◌, arith, append_assoc, length-append}
use Rattle.std.proofs.lemmas.List.{length-replicate}
use Rattle.sq_write.specs.Output.{gap, layout, offsets, end_of}

-- with its first part written, a layout goes on behind it
pub layout_more : (old new part : List ℕ) (parts : List (List ℕ)) → new ≡ old ++ (replicate (gap (length old)) 0 ++ part) → old ++ layout (length old) (part ∷ parts) ≡ new ++ layout (length new) parts
layout_more old new part parts written =
    let behind : length old + gap (length old) + length part ≡ length new = rw written (simp (length-append, length-replicate) (omega arith)) in
    rw behind (sym (ap (λ xs. xs ++ layout (length new) parts) written ∙ simp append_assoc))

-- a start that is a multiple of 4 changes no gap
pub gap_shift : (k m : ℕ) → k % 4 ≡ 0 → gap (k + m) ≡ gap m
gap_shift k m even = omega arith

behind_shift : (k m n : ℕ) → k % 4 ≡ 0 → k + m + gap (k + m) + n ≡ k + (m + gap m + n)
behind_shift k m n even = rw (gap_shift k m even) (omega arith)

-- so it changes no layout
pub layout_shift : (k m : ℕ) → k % 4 ≡ 0 → (parts : List (List ℕ)) → layout (k + m) parts ≡ layout m parts
layout_shift k m even [] = refl
layout_shift k m even (part ∷ parts) =
    rw (behind_shift k m (length part) even, gap_shift k m even, layout_shift k (m + gap m + length part) even parts) refl

-- it moves each place by itself
pub offsets_shift : (k m : ℕ) → k % 4 ≡ 0 → (parts : List (List ℕ)) → offsets (k + m) parts ≡ map (λ place. k + place) (offsets m parts)
offsets_shift k m even [] = refl
offsets_shift k m even (part ∷ parts) =
    let first : k + m + gap (k + m) ≡ k + (m + gap m) = rw (gap_shift k m even) (omega arith) in
    rw (behind_shift k m (length part) even, first, offsets_shift k (m + gap m + length part) even parts) refl

-- and the end too
pub end_shift : (k m : ℕ) → k % 4 ≡ 0 → (parts : List (List ℕ)) → end_of (k + m) parts ≡ k + end_of m parts
end_shift k m even [] = rw (gap_shift k m even) (omega arith)
end_shift k m even (part ∷ parts) =
    rw (behind_shift k m (length part) even, end_shift k (m + gap m + length part) even parts) refl
