-- The image of a file, and the memory of its plain machine, as those of its segments.
use Rattle.std.proofs.Common.{◌≡◌, ℕ, zero, suc, ◌<◌, nat_lt, Bool, true, false, List, [], ◌∷◌, ◌++◌, map, if◌then◌else◌, refl, sym, ap, ◌∙◌, arith}
use Rattle.std.specs.List.{AllByRecursion, flat_map}
use Rattle.std.proofs.lemmas.List.{map-append}
use Rattle.std.proofs.lemmas.List.Concat.{flat_map-append}
use Rattle.sq_system.specs.Starts.{Start}
use Rattle.sq_system.specs.declared.piece.Piece.{Piece}
use Rattle.sq_elf.specs.declared.segment.Segment.{Segment}
use Rattle.sq_elf.specs.Headers.{phnum_of, segment_of}
use Rattle.sq_elf.specs.Segments.{copy_size}
use Rattle.sq_elf.specs.Memory.{MemoryPiece, has_memory, segments_before, segments_of, image_before, image_of, segment_pieces as image_pieces}
use Rattle.sq_reloc.specs.declared.mark.CodeWord.{CodeWord}
use Rattle.sq_machine.specs.Starts.{piece_of as plain_piece}
use Rattle.law_follow.specs.Worlds.{piece_of, layout_of}
use Rattle.sq_run.specs.FileRuns.{start_piece, file_world}
use Rattle.law_program.specs.Programs.{Program}
use Rattle.law_program.specs.FileRuns.{segment_pieces, world_of}

-- THE PIECES OF THE PLAIN MACHINE

module _ (bytes : List ℕ) (words : List CodeWord) where
  abbrev plain : List MemoryPiece → List Piece
  plain pieces = map plain_piece (map start_piece pieces)

  abbrev tagged : List Segment → List Piece
  tagged segments = map piece_of (flat_map (segment_pieces bytes words) segments)

  one_segment : (s : Segment) → plain (image_pieces bytes s) ≡ tagged (s ∷ [])
  one_segment s = go (nat_lt 0 (copy_size s)) refl
    where
      go : (b : Bool) → nat_lt 0 (copy_size s) ≡ b → plain (image_pieces bytes s) ≡ tagged (s ∷ [])
      go true e = rw e refl
      go false e = rw e refl

  plain_append : (xs ys : List MemoryPiece) → plain (xs ++ ys) ≡ plain xs ++ plain ys
  plain_append [] ys = refl
  plain_append (x ∷ xs) ys = ap (λ ps. plain_piece (start_piece x) ∷ ps) (plain_append xs ys)

  tagged_append : (xs ys : List Segment) → tagged (xs ++ ys) ≡ tagged xs ++ tagged ys
  tagged_append xs ys = ap (map piece_of) (flat_map-append (segment_pieces bytes words) xs ys) ∙ map-append piece_of (flat_map (segment_pieces bytes words) xs) (flat_map (segment_pieces bytes words) ys)

  pieces_same : (count : ℕ) → plain (image_before bytes count) ≡ tagged (segments_before bytes count)
  unfolding image_before segments_before
  pieces_same zero = refl
  pieces_same (suc count) = go (has_memory bytes count) (pieces_same count)
    where
      go : (b : Bool) → plain (image_before bytes count) ≡ tagged (segments_before bytes count) → plain (if b then image_before bytes count ++ image_pieces bytes (segment_of bytes count) else image_before bytes count) ≡ tagged (if b then segments_before bytes count ++ segment_of bytes count ∷ [] else segments_before bytes count)
      go true h =
          plain_append (image_before bytes count) (image_pieces bytes (segment_of bytes count))
          ∙ ap (λ ps. ps ++ plain (image_pieces bytes (segment_of bytes count))) h
          ∙ ap (λ ps. tagged (segments_before bytes count) ++ ps) (one_segment (segment_of bytes count))
          ∙ sym (tagged_append (segments_before bytes count) (segment_of bytes count ∷ []))
      go false h = h

pub same_layout : (bytes : List ℕ) (p : Program) (start : Start) → file_world bytes start ≡ layout_of (world_of bytes p) start
unfolding file_world
same_layout bytes p start = ap (λ (pieces : List Piece). record { pieces = pieces; base = start.base; size = start.size }) (pieces_same bytes p.code_words (phnum_of bytes))

-- THE IMAGE

image_to : (bytes : List ℕ) (count : ℕ) → image_before bytes count ≡ flat_map (image_pieces bytes) (segments_before bytes count)
unfolding image_before segments_before
image_to bytes zero = refl
image_to bytes (suc count) = go (has_memory bytes count) (image_to bytes count)
  where
    single : (xs : List MemoryPiece) → xs ≡ xs ++ []
    single [] = refl
    single (x ∷ xs) = ap (λ ys. x ∷ ys) (single xs)

    go : (b : Bool) → image_before bytes count ≡ flat_map (image_pieces bytes) (segments_before bytes count) → (if b then image_before bytes count ++ image_pieces bytes (segment_of bytes count) else image_before bytes count) ≡ flat_map (image_pieces bytes) (if b then segments_before bytes count ++ segment_of bytes count ∷ [] else segments_before bytes count)
    go false e = e
    go true e =
        ap (λ xs. xs ++ image_pieces bytes (segment_of bytes count)) e
        ∙ ap (λ xs. flat_map (image_pieces bytes) (segments_before bytes count) ++ xs) (single (image_pieces bytes (segment_of bytes count)))
        ∙ sym (flat_map-append (image_pieces bytes) (segments_before bytes count) (segment_of bytes count ∷ []))

-- the pieces of its segments, in order
pub image_is : (bytes : List ℕ) → image_of bytes ≡ flat_map (image_pieces bytes) (segments_of bytes)
image_is bytes = image_to bytes (phnum_of bytes)

-- what holds of each segment with memory
all_to : (P : Segment → Type 0) (bytes : List ℕ) (count : ℕ) → ((k : ℕ) → k < count → has_memory bytes k ≡ true → P (segment_of bytes k)) → AllByRecursion P (segments_before bytes count)
unfolding segments_before
all_to P bytes zero h = tt
all_to P bytes (suc count) h = go (has_memory bytes count) refl (all_to P bytes count (λ k l e. h k (omega (arith, l)) e))
  where
    push : (xs : List Segment) (x : Segment) → AllByRecursion P xs → P x → AllByRecursion P (xs ++ x ∷ [])
    push [] x all p = (p, tt)
    push (y ∷ xs) x all p = (all.0, push xs x all.1 p)

    go : (b : Bool) → has_memory bytes count ≡ b → AllByRecursion P (segments_before bytes count) → AllByRecursion P (if b then segments_before bytes count ++ segment_of bytes count ∷ [] else segments_before bytes count)
    go false e all = all
    go true e all = push (segments_before bytes count) (segment_of bytes count) all (h count (omega arith) e)

pub all_segments : (P : Segment → Type 0) (bytes : List ℕ) → ((k : ℕ) → k < phnum_of bytes → has_memory bytes k ≡ true → P (segment_of bytes k)) → AllByRecursion P (segments_of bytes)
all_segments P bytes h = all_to P bytes (phnum_of bytes) h
