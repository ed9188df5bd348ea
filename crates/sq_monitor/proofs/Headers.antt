-- What is made of each segment, header by header.
use Rattle.std.proofs.Common.{◌≡◌, ℕ, suc, ◌+◌, true, false, List, [], ◌∷◌, ◌++◌, sym, ap, ◌∙◌, add-one}
use Rattle.std.specs.List.{flat_map}
use Rattle.std.proofs.lemmas.Grind.{flat_map-append}
use Rattle.std.proofs.lemmas.List.{append-nil}
use Rattle.sq_elf.specs.declared.segment.Segment.{Segment}
use Rattle.sq_elf.specs.Headers.{segment_of}
use Rattle.sq_elf.specs.Memory.{has_memory, segments_before}

module _ {A : Type 0} (f : Segment → List A) (bytes : List ℕ) (index : ℕ) (old new : List A) (before : old ≡ flat_map f (segments_before bytes index)) where
  one_more : has_memory bytes index ≡ true → flat_map f (segments_before bytes (suc index)) ≡ old ++ f (segment_of bytes index)
  unfolding segments_before
  one_more has =
      rw has (flat_map-append f (segments_before bytes index) (segment_of bytes index ∷ []))
      ∙ ap (λ xs. flat_map f (segments_before bytes index) ++ xs) (append-nil (f (segment_of bytes index)))
      ∙ ap (λ xs. xs ++ f (segment_of bytes index)) (sym before)

  no_more : has_memory bytes index ≡ false → flat_map f (segments_before bytes (suc index)) ≡ old
  unfolding segments_before
  no_more has = rw has (sym before)

  -- a segment that is in memory
  pub with_segment : has_memory bytes index ≡ true → new ≡ old ++ f (segment_of bytes index) → new ≡ flat_map f (segments_before bytes (index + 1))
  with_segment has e = rw add-one (e ∙ sym (one_more has))

  -- a header of another kind
  pub without_segment : has_memory bytes index ≡ false → new ≡ old → new ≡ flat_map f (segments_before bytes (index + 1))
  without_segment has e = rw add-one (e ∙ sym (no_more has))
