-- The world of a file: its pieces have their bytes, and no two of them meet.
use Rattle.std.proofs.Common.{◌≡◌, ℕ, zero, suc, ◌+◌, ◌-◌, ◌%◌, ◌<◌, ◌≤◌, nat_lt, Bool, true, false, List, [], ◌∷◌, ◌++◌, length, take, drop, map, replicate, Option, Some, None, if◌then◌else◌, refl, sym, ap, ◌∙◌, subst, arith}
use Rattle.std.specs.Option.{unwrap_or}
use Rattle.std.specs.List.{AllByRecursion, flat_map}
use Rattle.std.proofs.lemmas.Bool.Decides.{nat_tests}
use Rattle.std.proofs.lemmas.List.Elements.{All-from_recursion}
use Rattle.std.proofs.lemmas.List.{length-map}
use Rattle.std.proofs.lemmas.List.Concat.{flat_map-append}
use Rattle.sq_system.specs.declared.start.Extent.{Extent}
use Rattle.sq_elf.specs.declared.segment.Segment.{Segment}
use Rattle.sq_elf.specs.Headers.{phnum_of, segment_of}
use Rattle.sq_elf.specs.Ranges.{leaves, bytes_at}
use Rattle.sq_elf.specs.Segments.{copy_size}
use Rattle.sq_elf.specs.Memory.{has_memory, segments_before, MemoryPiece, own_piece, copy_piece, file_bytes_of, image_before, image_of, segment_pieces as image_pieces, pieces_meet, AreApart}
use Rattle.sq_elf.specs.Refusing.{file_refusal_of}
use Rattle.sq_elf.proofs.Apart.{pieces_are_apart}
use Rattle.sq_reloc.specs.declared.mark.CodeWord.{CodeWord}
use Rattle.sq_reloc.specs.Outside.{is_stale, word_start}
use Rattle.law_follow.specs.Worlds.{Given, StaleByte, StartPiece, extent_of, extents, IsStartByte, IsFilled, AreApart as ApartExtents, AreAllApart}
use Rattle.law_program.specs.Programs.{Program, target_of}
use Rattle.law_program.specs.FileRuns.{code_word_number, byte_of_word, stale_or, start_byte, start_bytes, start_piece, segment_pieces, world_of}
use Rattle.sq_machine.specs.Starts.{extent_of as plain_extent}
use Rattle.sq_run.specs.FileRuns.{start_piece as plain_piece, pieces_of}
use Rattle.sq_lifted.specs.Same.{FilesAreWorlds}
use Rattle.sq_lifted.proofs.Files.{dropped}
use Rattle.law_files.proofs.FileBytes.{filled, filled_length, bytes_length, whole}
use Rattle.law_files.proofs.FileRegions.{loaded}
use Rattle.sq_lifted.proofs.PlainCells.{start_bytes_length, numbered_there}

-- THE BYTES OF A PIECE

abbrev AreBytes : List ℕ → Type 0
AreBytes bytes = AllByRecursion (λ b. b < 256) bytes

taken : (n : ℕ) (bytes : List ℕ) → AreBytes bytes → AreBytes (take n bytes)
taken zero bytes h = tt
taken (suc n) [] h = tt
taken (suc n) (b ∷ bytes) h = (h.0, taken n bytes h.1)

joined : (xs ys : List ℕ) → AreBytes xs → AreBytes ys → AreBytes (xs ++ ys)
joined [] ys h k = k
joined (x ∷ xs) ys h k = (h.0, joined xs ys h.1 k)

zeros : (n : ℕ) → AreBytes (replicate n 0)
zeros zero = tt
zeros (suc n) = (omega arith, zeros n)

segment_bytes : (bytes : List ℕ) (s : Segment) → AreBytes bytes → AreBytes (file_bytes_of bytes s)
unfolding bytes_at
segment_bytes bytes s h = go (leaves bytes s.offset s.filesz)
  where
    go : (b : Bool) → AreBytes (unwrap_or (if b then None else Some (take s.filesz (drop s.offset bytes))) [])
    go true = tt
    go false = taken s.filesz (drop s.offset bytes) (dropped s.offset bytes h)

-- the number of a code word is that of one of them
number_within : (words : List CodeWord) (x number : ℕ) → code_word_number words x ≡ Some number → number < length words
number_within words x number e = subst (λ n. number < n) (length-map words target_of) (numbered_there words x number e)

-- a byte at the start
start_byte_fits : (bytes : List ℕ) (words : List CodeWord) (x b : ℕ) → b < 256 → IsStartByte (length words) (start_byte bytes words x b)
start_byte_fits bytes words x b small = go (code_word_number words (word_start x)) refl
  where
    other : (stale : Bool) → IsStartByte (length words) (if stale then StaleByte else Given b)
    other true = tt
    other false = small

    go : (o : Option ℕ) → code_word_number words (word_start x) ≡ o → IsStartByte (length words) (byte_of_word (x % 4) o (stale_or bytes x b))
    go None e = other (is_stale bytes x)
    go (Some number) e = (number_within words (word_start x) number e, omega arith)

start_bytes_fit : (bytes : List ℕ) (words : List CodeWord) (x : ℕ) (bs : List ℕ) → AreBytes bs → AllByRecursion (IsStartByte (length words)) (start_bytes bytes words x bs)
start_bytes_fit bytes words x [] h = tt
start_bytes_fit bytes words x (b ∷ bs) h = (start_byte_fits bytes words x b h.0, start_bytes_fit bytes words (x + 1) bs h.1)

piece_filled : (bytes : List ℕ) (words : List CodeWord) (x : ℕ) (p : MemoryPiece) → AreBytes p.bytes → length p.bytes ≤ p.length → IsFilled (length words) (start_piece bytes words x p)
piece_filled bytes words x p h short = record {
  length = start_bytes_length bytes words x (filled p.length p.bytes) ∙ filled_length p.length p.bytes short;
  bytes = All-from_recursion (IsStartByte (length words)) (start_bytes bytes words x (filled p.length p.bytes)) (start_bytes_fit bytes words x (filled p.length p.bytes) (joined p.bytes (replicate (p.length - length p.bytes) 0) h (zeros (p.length - length p.bytes))));
}

-- THE PIECES OF A FILE

all_joined : (P : StartPiece → Type 0) (xs ys : List StartPiece) → AllByRecursion P xs → AllByRecursion P ys → AllByRecursion P (xs ++ ys)
all_joined P [] ys h k = k
all_joined P (x ∷ xs) ys h k = (h.0, all_joined P xs ys h.1 k)

module _ (bytes : List ℕ) (words : List CodeWord) (fit : AreBytes bytes) (accepted : file_refusal_of bytes ≡ None) where
  abbrev AreFilled : List StartPiece → Type 0
  AreFilled pieces = AllByRecursion (IsFilled (length words)) pieces

  segment_filled : (k : ℕ) → k < phnum_of bytes → has_memory bytes k ≡ true → AreFilled (segment_pieces bytes words (segment_of bytes k))
  segment_filled k within has =
      let load = loaded bytes k has in
      let count = bytes_length bytes accepted k within load in
      let some = whole bytes accepted k within load in
      let file = segment_bytes bytes (segment_of bytes k) fit in (
        piece_filled bytes words (segment_of bytes k).address (own_piece bytes (segment_of bytes k)) file (omega (arith, count, some)),
        copy (nat_lt 0 (copy_size (segment_of bytes k))) (piece_filled bytes words (segment_of bytes k).address (copy_piece bytes (segment_of bytes k)) file (omega (arith, count))),
      )
    where
      copy : (b : Bool) → IsFilled (length words) (start_piece bytes words (segment_of bytes k).address (copy_piece bytes (segment_of bytes k))) → AreFilled (if b then start_piece bytes words (segment_of bytes k).address (copy_piece bytes (segment_of bytes k)) ∷ [] else [])
      copy true h = (h, tt)
      copy false h = tt

  pieces_filled : (count : ℕ) → count ≤ phnum_of bytes → AreFilled (flat_map (segment_pieces bytes words) (segments_before bytes count))
  unfolding segments_before
  pieces_filled zero within = tt
  pieces_filled (suc count) within = go (has_memory bytes count) refl (pieces_filled count (omega (arith, within)))
    where
      go : (b : Bool) → has_memory bytes count ≡ b → AreFilled (flat_map (segment_pieces bytes words) (segments_before bytes count)) → AreFilled (flat_map (segment_pieces bytes words) (if b then segments_before bytes count ++ segment_of bytes count ∷ [] else segments_before bytes count))
      go false e h = h
      go true e h =
          subst AreFilled (sym (flat_map-append (segment_pieces bytes words) (segments_before bytes count) (segment_of bytes count ∷ [])))
          (all_joined (IsFilled (length words)) (flat_map (segment_pieces bytes words) (segments_before bytes count)) (flat_map (segment_pieces bytes words) (segment_of bytes count ∷ [])) h
          (all_joined (IsFilled (length words)) (segment_pieces bytes words (segment_of bytes count)) [] (segment_filled count (omega (arith, within)) e) tt))

-- NO TWO MEET

abbrev extent : MemoryPiece → Extent
extent p = record { address = p.address; length = p.length }

apart_extents : (p q : MemoryPiece) → pieces_meet p q ≡ false → ApartExtents (extent p) (extent q)
apart_extents p q e x inside other =
    let a = inside.from in
    let b = inside.below in
    let c = other.from in
    let d = other.below in grind (arith, nat_tests)

all_apart : (ps : List MemoryPiece) → AreApart ps → AreAllApart (map extent ps)
all_apart [] h = tt
all_apart (p ∷ ps) h = (All-from_recursion (ApartExtents (extent p)) (map extent ps) (each ps h.0), all_apart ps h.1)
  where
    each : (qs : List MemoryPiece) → AllByRecursion (λ q. pieces_meet p q ≡ false) qs → AllByRecursion (ApartExtents (extent p)) (map extent qs)
    each [] k = tt
    each (q ∷ qs) k = (apart_extents p q k.0, each qs k.1)

module _ (bytes : List ℕ) (words : List CodeWord) where
  extents_append : (xs ys : List StartPiece) → map extent_of (xs ++ ys) ≡ map extent_of xs ++ map extent_of ys
  extents_append [] ys = refl
  extents_append (x ∷ xs) ys = ap (λ es. extent_of x ∷ es) (extents_append xs ys)

  image_append : (xs ys : List MemoryPiece) → map extent (xs ++ ys) ≡ map extent xs ++ map extent ys
  image_append [] ys = refl
  image_append (x ∷ xs) ys = ap (λ es. extent x ∷ es) (image_append xs ys)

  segment_extents : (s : Segment) → map extent (image_pieces bytes s) ≡ map extent_of (flat_map (segment_pieces bytes words) (s ∷ []))
  segment_extents s = go (nat_lt 0 (copy_size s)) refl
    where
      go : (b : Bool) → nat_lt 0 (copy_size s) ≡ b → map extent (image_pieces bytes s) ≡ map extent_of (flat_map (segment_pieces bytes words) (s ∷ []))
      go true e = rw e refl
      go false e = rw e refl

  -- the pieces of the world stand where those of the image do
  extents_before : (count : ℕ) → map extent (image_before bytes count) ≡ map extent_of (flat_map (segment_pieces bytes words) (segments_before bytes count))
  unfolding image_before segments_before
  extents_before zero = refl
  extents_before (suc count) = go (has_memory bytes count) (extents_before count)
    where
      go : (b : Bool) → map extent (image_before bytes count) ≡ map extent_of (flat_map (segment_pieces bytes words) (segments_before bytes count)) → map extent (if b then image_before bytes count ++ image_pieces bytes (segment_of bytes count) else image_before bytes count) ≡ map extent_of (flat_map (segment_pieces bytes words) (if b then segments_before bytes count ++ segment_of bytes count ∷ [] else segments_before bytes count))
      go false h = h
      go true h =
          image_append (image_before bytes count) (image_pieces bytes (segment_of bytes count))
          ∙ ap (λ es. es ++ map extent (image_pieces bytes (segment_of bytes count))) h
          ∙ ap (λ es. map extent_of (flat_map (segment_pieces bytes words) (segments_before bytes count)) ++ es) (segment_extents (segment_of bytes count))
          ∙ sym (extents_append (flat_map (segment_pieces bytes words) (segments_before bytes count)) (flat_map (segment_pieces bytes words) (segment_of bytes count ∷ [])))
          ∙ ap (map extent_of) (sym (flat_map-append (segment_pieces bytes words) (segments_before bytes count) (segment_of bytes count ∷ [])))

pub files_are_worlds : FilesAreWorlds
files_are_worlds bytes is p fit read = record {
  filled = All-from_recursion (IsFilled (length p.code_words)) (world_of bytes p).pieces (pieces_filled bytes p.code_words fit read.file (phnum_of bytes) (omega arith));
  apart = subst AreAllApart (extents_before bytes p.code_words (phnum_of bytes)) (all_apart (image_of bytes) (pieces_are_apart bytes read.file));
}

-- the extents of the image as the plain machine has them
plain_extents : (ps : List MemoryPiece) → map plain_extent (map plain_piece ps) ≡ map extent ps
plain_extents [] = refl
plain_extents (p ∷ ps) = ap (λ es. extent p ∷ es) (plain_extents ps)

-- a start that is valid for a file is valid for its world
pub file_extents : (bytes : List ℕ) (p : Program) → map plain_extent (pieces_of bytes) ≡ extents (world_of bytes p)
file_extents bytes p = plain_extents (image_of bytes) ∙ extents_before bytes p.code_words (phnum_of bytes)
