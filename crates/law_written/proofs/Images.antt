-- The memory of a file and of what is written of it agree around text.
use Rattle.std.proofs.Common.{◌≡◌, ◌⊎◌, inl, inr, ℕ, ◌<◌, ◌≤◌, List, [], ◌∷◌, ◌++◌, map, filter, Option, Some, None, refl, ap, ◌∙◌}
use Rattle.std.specs.List.{AllByRecursion, flat_map}
use Rattle.std.proofs.lemmas.List.{map-append}
use Rattle.std.proofs.lemmas.List.Concat.{flat_map-append}
use Rattle.sq_elf.specs.declared.segment.Segment.{Segment}
use Rattle.sq_elf.specs.Memory.{segments_of}
use Rattle.sq_elf.specs.Text.{text_of}
use Rattle.sq_write.specs.Output.{Piece}
use Rattle.sq_memory.specs.Cells.{Agree}
use Rattle.sq_memory.specs.Regions.{Region, region_cell, or_else, get}
use Rattle.law_files.proofs.FileRegions.{get_append}
use Rattle.sq_write.specs.Pieces.{by_address, part_before, part_behind, is_some_piece, pieces_before, pieces_behind}
use Rattle.law_written.specs.Reading.{piece_image}
use Rattle.law_written.proofs.Somewhere.{Somewhere, none_of, front_of, back_of, either_of, one_filtered, to_filtered, some_changed, one_mapped, to_mapped, one_flat, to_flat, one_ordered, to_ordered, AreApart, HasCell, one_has, agree_by}
use Rattle.law_written.proofs.SegmentCells.{plain_region, Has, IsKept, segment_regions, before_found, behind_found, written_around, before_alone}

pub any_all : {X : Type 0} (xs : List X) → AllByRecursion (λ x. Unit {0}) xs
any_all [] = tt
any_all (x ∷ xs) = (tt, any_all xs)

-- a byte of the pieces of these
module _ (x d : ℕ) where
  abbrev Here : Piece → Type 0
  Here p = Somewhere (HasCell x d) (map plain_region (piece_image p))

  one_image : (ps : List Piece) → Somewhere (HasCell x d) (map plain_region (flat_map piece_image ps)) → Somewhere Here ps
  one_image ps h =
      some_changed (λ p. Unit {0}) (λ p. Somewhere (λ m. HasCell x d (plain_region m)) (piece_image p)) Here ps (any_all ps) (λ p all k. to_mapped (HasCell x d) plain_region (piece_image p) k)
      (one_flat (λ m. HasCell x d (plain_region m)) piece_image ps (one_mapped (HasCell x d) plain_region (flat_map piece_image ps) h))

  to_image : (ps : List Piece) → Somewhere Here ps → Somewhere (HasCell x d) (map plain_region (flat_map piece_image ps))
  to_image ps h =
      to_mapped (HasCell x d) plain_region (flat_map piece_image ps)
      (to_flat (λ m. HasCell x d (plain_region m)) piece_image ps
      (some_changed (λ p. Unit {0}) Here (λ p. Somewhere (λ m. HasCell x d (plain_region m)) (piece_image p)) ps (any_all ps) (λ p all k. one_mapped (HasCell x d) plain_region (piece_image p) k) h))

  -- the parts of segments that aren't empty
  one_part : (part : Segment → Piece) (ss : List Segment) → Somewhere Here (filter is_some_piece (map part (by_address ss))) → Somewhere (λ s. Has x d (part s)) ss
  one_part part ss h =
      one_ordered (λ s. Has x d (part s)) ss
      (one_mapped (Has x d) part (by_address ss) (one_filtered Here is_some_piece (map part (by_address ss)) h))

  to_part : (part : Segment → Piece) (ss : List Segment) → Somewhere (λ s. Has x d (part s)) ss → Somewhere Here (filter is_some_piece (map part (by_address ss)))
  to_part part ss h =
      to_filtered Here is_some_piece (map part (by_address ss))
      (to_mapped (Has x d) part (by_address ss) (to_ordered (λ s. Has x d (part s)) ss h))

module _ {C : Type 0} (R : C → ℕ → Type 0) (cell : ℕ → ℕ → C) (bytes : List ℕ) (set : ℕ → Option ℕ) (some_text : (text_of bytes).lo < (text_of bytes).hi) (kept : AllByRecursion (IsKept R cell bytes set some_text) (segments_of bytes)) where
  abbrev ss : List Segment
  ss = segments_of bytes

  abbrev regions : Segment → List (Region C)
  regions s = segment_regions R cell bytes set some_text s

  abbrev Kept : Segment → Type 0
  Kept = IsKept R cell bytes set some_text

  -- the cell of some segment
  gathered : (x d : ℕ) (ss : List Segment) → Somewhere (λ s. (c : C) × Somewhere (HasCell x c) (regions s) × R c d) ss → (c : C) × Somewhere (HasCell x c) (flat_map regions ss) × R c d
  gathered x d [] h = absurd h
  gathered x d (s ∷ ss) (inl h) = (h.0, front_of (HasCell x h.0) (regions s) (flat_map regions ss) h.1, h.2)
  gathered x d (s ∷ ss) (inr h) = let g = gathered x d ss h in (g.0, back_of (HasCell x g.0) (regions s) (flat_map regions ss) g.1, g.2)

  sound : (text : Piece) (x d : ℕ) → (Somewhere (HasCell x d) (map plain_region (piece_image text)) → ⊥) → Somewhere (HasCell x d) (map plain_region (flat_map piece_image (pieces_before bytes set ++ text ∷ pieces_behind bytes set))) → (c : C) × Somewhere (HasCell x c) (flat_map regions ss) × R c d
  sound text x d away h =
      go (either_of (Here x d) (pieces_before bytes set) (text ∷ pieces_behind bytes set) (one_image x d (pieces_before bytes set ++ text ∷ pieces_behind bytes set) h))
    where
      go : Somewhere (Here x d) (pieces_before bytes set) ⊎ Somewhere (Here x d) (text ∷ pieces_behind bytes set) → (c : C) × Somewhere (HasCell x c) (flat_map regions ss) × R c d
      go (inl f) =
          gathered x d ss
          (some_changed Kept (λ s. Has x d (part_before bytes set s)) (λ s. (c : C) × Somewhere (HasCell x c) (regions s) × R c d) ss kept (λ s k f. before_found R cell bytes set some_text s k x d f) (one_part x d (part_before bytes set) ss f))
      go (inr (inl f)) = absurd (away f)
      go (inr (inr f)) =
          gathered x d ss
          (some_changed Kept (λ s. Has x d (part_behind bytes set s)) (λ s. (c : C) × Somewhere (HasCell x c) (regions s) × R c d) ss kept (λ s k f. behind_found R cell bytes set some_text s k x d f) (one_part x d (part_behind bytes set) ss f))

  abbrev Either : ℕ → ℕ → List Segment → Type 0
  Either x d ss = Somewhere (λ s. Has x d (part_before bytes set s)) ss ⊎ Somewhere (λ s. Has x d (part_behind bytes set s)) ss

  split : (x : ℕ) (c : C) (some : List Segment) → AllByRecursion Kept some → (x < (text_of bytes).lo) ⊎ ((text_of bytes).hi ≤ x) → Somewhere (λ s. Somewhere (HasCell x c) (regions s)) some → (d : ℕ) × Either x d some
  split x c [] all out h = absurd h
  split x c (s ∷ some) all out (inl h) =
      let f = written_around R cell bytes set some_text s all.0 x c out h in
      (f.0, elim f.1 [ inl g ↦ inl (inl g) | inr g ↦ inr (inl g) ])
  split x c (s ∷ some) all out (inr h) =
      let f = split x c some all.1 out h in
      (f.0, elim f.1 [ inl g ↦ inl (inr g) | inr g ↦ inr (inr g) ])

  complete : (text : Piece) (x : ℕ) (c : C) → (x < (text_of bytes).lo) ⊎ ((text_of bytes).hi ≤ x) → Somewhere (HasCell x c) (flat_map regions ss) → (d : ℕ) × Somewhere (HasCell x d) (map plain_region (flat_map piece_image (pieces_before bytes set ++ text ∷ pieces_behind bytes set)))
  complete text x c out h =
      let f = split x c ss kept out (one_flat (HasCell x c) regions ss h) in
      (f.0, to_image x f.0 (pieces_before bytes set ++ text ∷ pieces_behind bytes set) (go f.0 f.1))
    where
      go : (d : ℕ) → Either x d ss → Somewhere (Here x d) (pieces_before bytes set ++ text ∷ pieces_behind bytes set)
      go d (inl g) = front_of (Here x d) (pieces_before bytes set) (text ∷ pieces_behind bytes set) (to_part x d (part_before bytes set) ss g)
      go d (inr g) = back_of (Here x d) (pieces_before bytes set) (text ∷ pieces_behind bytes set) (inr (to_part x d (part_behind bytes set) ss g))

  -- around text the two agree
  pub images_agree : (text : Piece) (x : ℕ) → AreApart (flat_map regions ss) → ((d : ℕ) → Somewhere (HasCell x d) (map plain_region (piece_image text)) → ⊥) → (x < (text_of bytes).lo) ⊎ ((text_of bytes).hi ≤ x) → Agree R (get (flat_map regions ss) x) (get (map plain_region (flat_map piece_image (pieces_before bytes set ++ text ∷ pieces_behind bytes set))) x)
  images_agree text x apart away out =
      agree_by R (flat_map regions ss) (map plain_region (flat_map piece_image (pieces_before bytes set ++ text ∷ pieces_behind bytes set))) x apart (λ d h. sound text x d (away d) h) (λ c h. complete text x c out h)

  -- IN TEXT

  none_there : (x : ℕ) (qs : List (Region ℕ)) → ((d : ℕ) → Somewhere (HasCell x d) qs → ⊥) → get qs x ≡ None
  none_there x qs f = go (get qs x) refl
    where
      go : (o : Option ℕ) → get qs x ≡ o → o ≡ None
      go None e = refl
      go (Some d) e = absurd (f d (one_has qs x d e))

  -- in text is the text's piece alone
  pub text_cell : (text : Piece) (x d : ℕ) → (text_of bytes).lo ≤ x → x < (text_of bytes).hi → region_cell (plain_region (record { address = text.address; bytes = text.bytes; length = text.size; flags = text.flags })) x ≡ Some d → get (map plain_region (flat_map piece_image (pieces_before bytes set ++ text ∷ pieces_behind bytes set))) x ≡ Some d
  text_cell text x d low high e =
      split_get (pieces_before bytes set)
      ∙ ap (λ o. or_else o (get (map plain_region (flat_map piece_image (text ∷ pieces_behind bytes set))) x)) (none_there x (map plain_region (flat_map piece_image (pieces_before bytes set))) alone)
      ∙ rw e refl
    where
      alone : (d : ℕ) → Somewhere (HasCell x d) (map plain_region (flat_map piece_image (pieces_before bytes set))) → ⊥
      alone d h =
          none_of (λ (s : Segment). ⊥) ss (λ s f. f)
          (some_changed Kept (λ s. Has x d (part_before bytes set s)) (λ s. ⊥) ss kept (λ s k f. before_alone R cell bytes set some_text s k x d low high f) (one_part x d (part_before bytes set) ss (one_image x d (pieces_before bytes set) h)))

      split_get : (ps : List Piece) → get (map plain_region (flat_map piece_image (ps ++ text ∷ pieces_behind bytes set))) x ≡ or_else (get (map plain_region (flat_map piece_image ps)) x) (get (map plain_region (flat_map piece_image (text ∷ pieces_behind bytes set))) x)
      split_get ps =
          ap (λ ms. get (map plain_region ms) x) (flat_map-append piece_image ps (text ∷ pieces_behind bytes set))
          ∙ ap (λ rs. get rs x) (map-append plain_region (flat_map piece_image ps) (flat_map piece_image (text ∷ pieces_behind bytes set)))
          ∙ get_append (map plain_region (flat_map piece_image ps)) (map plain_region (flat_map piece_image (text ∷ pieces_behind bytes set))) x
