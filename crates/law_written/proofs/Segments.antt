-- The program headers of an output file, as they are read.
use Rattle.std.proofs.Common.{◌≡◌, ℕ, zero, suc, ◌+◌, ◌*◌, ◌^◌, ◌<◌, ◌≤◌, true, nat_lt, List, [], ◌∷◌, ◌++◌, take, length, Some, slice_get, refl, sym, ap, subst, ◌∙◌, arith, append-nil, length-append}
use Rattle.std.specs.List.{flat_map}
use Rattle.std.specs.Option.{unwrap_or}
use Rattle.std.proofs.lemmas.Bool.{lt-ltb, eq-eqb}
use Rattle.std.proofs.lemmas.List.{take_all}
use Rattle.std.proofs.lemmas.List.Concat.{flat_map-append}
use Rattle.sq_elf.specs.declared.segment.Segment.{Segment}
use Rattle.sq_elf.specs.Headers.{phoff_of, phnum_of, program_field, kind_of, is_load, segment_of}
use Rattle.sq_elf.specs.Memory.{segments_before, file_bytes_of, segment_pieces, image_before}
use Rattle.sq_elf.specs.Sizes.{total, loaded_at}
use Rattle.sq_write.specs.Output.{words, Piece, Output, pieces_of, pieces_at, piece_bytes, piece_header, piece_headers, output_file}
use Rattle.sq_write.proofs.PieceWalks.{piece_bytes-append}
use Rattle.law_written.specs.Fitting.{IsFittingPiece, IsFitting}
use Rattle.law_written.specs.Reading.{segment_at, segments_at, output_segments, piece_image, IsSegment, ProgramHeadersAreRead, IsLoaded, SegmentsAreRead}
use Rattle.law_written.proofs.OutputParts.{PartAt, part_from, first_part, rest_part, part_ends, part_read, word_at}
use Rattle.law_written.proofs.OutputPlaces.{output_stands}
use Rattle.law_written.proofs.Headers.{headers_are_read}
use Rattle.law_written.proofs.Lists.{some_at, all_at, take_one_more}

-- the numbers of a program header
abbrev segment_words : Segment → List ℕ
segment_words s = 1 ∷ s.offset ∷ s.address ∷ s.load_address ∷ s.filesz ∷ s.memsz ∷ s.flags ∷ 1 ∷ []

-- program header k and the bytes of its segment stand in the file
record IsPlaced (file : List ℕ) (at : ℕ) (p : Piece) (s : Segment) : Type 0 where
  header : PartAt file at (words (segment_words s))
  stored : PartAt file s.offset p.bytes
  of_piece : s ≡ segment_at s.offset p

placed : (file : List ℕ) (at start : ℕ) (ps : List Piece) → PartAt file at (piece_headers start ps) → PartAt file start (piece_bytes ps) → (k : ℕ) (p : Piece) (s : Segment) → slice_get ps k ≡ Some p → slice_get (segments_at start ps) k ≡ Some s → IsPlaced file (at + 32 * k) p s
placed file at start [] headers stored k p s is of = absurd (cc is)
placed file at start (q ∷ ps) headers stored zero p s is of =
    let same : q ≡ p = cc is in
    let there : segment_at start q ≡ s = cc of in
    let none : at ≡ at + 32 * 0 = omega arith in
    let here : IsPlaced file (at + 32 * 0) q (segment_at start q) =
    record {
      header = part_from file at (at + 32 * 0) (piece_header start q) none (first_part file at (piece_header start q) (piece_headers (start + length q.bytes) ps) headers);
      stored = first_part file start q.bytes (piece_bytes ps) stored;
      of_piece = refl;
    }
    in
    subst (λ t. IsPlaced file (at + 32 * 0) p t) there (subst (λ r. IsPlaced file (at + 32 * 0) r (segment_at start q)) same here)
placed file at start (q ∷ ps) headers stored (suc k) p s is of =
    let rest : PartAt file (at + 32) (piece_headers (start + length q.bytes) ps) = rest_part file at (piece_header start q) (piece_headers (start + length q.bytes) ps) headers in
    let found = placed file (at + 32) (start + length q.bytes) ps rest (rest_part file start q.bytes (piece_bytes ps) stored) k p s is of in
    let next : at + 32 + 32 * k ≡ at + 32 * suc k = omega arith in
    subst (λ n. IsPlaced file n p s) next found

-- the numbers of a segment fit
record IsFittingSegment (s : Segment) : Type 0 where
  offset : s.offset < 2 ^ 32
  address : s.address < 2 ^ 32
  load_address : s.load_address < 2 ^ 32
  filesz : s.filesz < 2 ^ 32
  memsz : s.memsz < 2 ^ 32
  flags : s.flags < 2 ^ 32

fields_read : (file : List ℕ) (k : ℕ) (s : Segment) → phoff_of file ≡ 52 → PartAt file (52 + 32 * k) (words (segment_words s)) → (field n : ℕ) → slice_get (segment_words s) field ≡ Some n → n < 2 ^ 32 → program_field file k field ≡ n
fields_read file k s begins has field n is fits = rw begins (word_at file (52 + 32 * k) (segment_words s) has field n is fits)

segment_is : (file : List ℕ) (k : ℕ) (s : Segment) → ((field n : ℕ) → slice_get (segment_words s) field ≡ Some n → n < 2 ^ 32 → program_field file k field ≡ n) → IsFittingSegment s → segment_of file k ≡ s
unfolding segment_of
segment_is file k s read fits =
    let offset = read 1 s.offset refl fits.offset in
    let address = read 2 s.address refl fits.address in
    let load_address = read 3 s.load_address refl fits.load_address in
    let filesz = read 4 s.filesz refl fits.filesz in
    let memsz = read 5 s.memsz refl fits.memsz in
    let flags = read 6 s.flags refl fits.flags in
    rw (offset, address, load_address, filesz, memsz, flags) refl

is_segment : (file : List ℕ) (k : ℕ) (p : Piece) (s : Segment) → phoff_of file ≡ 52 → length file < 2 ^ 32 → IsFittingPiece p → IsPlaced file (52 + 32 * k) p s → IsSegment file k p s
is_segment file k p s begins long fits found =
    let read = fields_read file k s begins found.header in
    let sized : length p.bytes ≡ s.filesz = sym (ap (λ (t : Segment). t.filesz) found.of_piece) in
    let address : s.address ≡ p.address = ap (λ (t : Segment). t.address) found.of_piece in
    let load_address : s.load_address ≡ p.load_address = ap (λ (t : Segment). t.load_address) found.of_piece in
    let memsz : s.memsz ≡ p.size = ap (λ (t : Segment). t.memsz) found.of_piece in
    let flags : s.flags ≡ p.flags = ap (λ (t : Segment). t.flags) found.of_piece in
    let kind : kind_of file k ≡ 1 = read 0 1 refl (omega arith) in
    record {
      load = eq-eqb (kind_of file k) 1 kind;
      is =
          segment_is file k s read
          (record {
            offset = omega (arith, part_ends file s.offset p.bytes found.stored);
            address = omega (arith, fits.address);
            load_address = omega (arith, fits.load_address);
            filesz = omega (arith, fits.stored, fits.size);
            memsz = omega (arith, fits.size);
            flags = omega (arith, fits.flags);
          });
      inside = omega (arith, sized, part_ends file s.offset p.bytes found.stored);
      stored = ap (λ found. unwrap_or found []) (part_read file s.offset s.filesz p.bytes sized found.stored);
    }

pub program_headers_are_read : ProgramHeadersAreRead
program_headers_are_read = λ o fits k p s is of.
    let stands = output_stands o in
    is_segment (output_file o) k p s (headers_are_read o fits).0.program_headers fits.size (all_at IsFittingPiece (pieces_of o) fits.pieces k p is)
    (placed (output_file o) 52 (pieces_at (length (pieces_of o))) (pieces_of o) stands.headers stands.stored k p s is of)

pub piece_stored : (o : Output) (k : ℕ) (p : Piece) (s : Segment) → slice_get (pieces_of o) k ≡ Some p → slice_get (output_segments o) k ≡ Some s → PartAt (output_file o) s.offset p.bytes
piece_stored o k p s is of =
    let stands = output_stands o in
    (placed (output_file o) 52 (pieces_at (length (pieces_of o))) (pieces_of o) stands.headers stands.stored k p s is of).stored

-- All segments

pub length_segments : (start : ℕ) (ps : List Piece) → length (segments_at start ps) ≡ length ps
length_segments start [] = refl
length_segments start (p ∷ ps) = ap suc (length_segments (start + length p.bytes) ps)

-- the segment of piece k is made of it
pub of_piece : (start : ℕ) (ps : List Piece) (k : ℕ) (p : Piece) (s : Segment) → slice_get ps k ≡ Some p → slice_get (segments_at start ps) k ≡ Some s → s ≡ segment_at s.offset p
of_piece start [] k p s is of = absurd (cc is)
of_piece start (q ∷ ps) zero p s is of =
    let same : q ≡ p = cc is in
    let there : segment_at start q ≡ s = cc of in
    subst (λ t. t ≡ segment_at t.offset p) there (ap (segment_at start) same)
of_piece start (q ∷ ps) (suc k) p s is of = of_piece (start + length q.bytes) ps k p s is of

-- one program header more
module _ (file : List ℕ) (k : ℕ) (load : is_load file k ≡ true) (memory : nat_lt 0 (segment_of file k).memsz ≡ true) where
  next_segments : segments_before file (suc k) ≡ segments_before file k ++ segment_of file k ∷ []
  unfolding segments_before
  next_segments = rw (load, memory) refl

  next_image : image_before file (suc k) ≡ image_before file k ++ segment_pieces file (segment_of file k)
  unfolding image_before
  next_image = rw (load, memory) refl

  next_loaded : total (loaded_at file) (suc k) ≡ total (loaded_at file) k + (segment_of file k).filesz
  unfolding total
  next_loaded = rw load refl

no_segments : (file : List ℕ) → segments_before file 0 ≡ []
unfolding segments_before
no_segments file = refl

no_image : (file : List ℕ) → image_before file 0 ≡ []
unfolding image_before
no_image file = refl

no_loaded : (file : List ℕ) → total (loaded_at file) 0 ≡ 0
unfolding total
no_loaded file = refl

image_is : (file : List ℕ) (p : Piece) (s : Segment) → s ≡ segment_at s.offset p → file_bytes_of file s ≡ p.bytes → segment_pieces file s ≡ piece_image p
image_is file p s of stored =
    let address : s.address ≡ p.address = ap (λ (t : Segment). t.address) of in
    let load_address : s.load_address ≡ p.load_address = ap (λ (t : Segment). t.load_address) of in
    let filesz : s.filesz ≡ length p.bytes = ap (λ (t : Segment). t.filesz) of in
    let memsz : s.memsz ≡ p.size = ap (λ (t : Segment). t.memsz) of in
    let flags : s.flags ≡ p.flags = ap (λ (t : Segment). t.flags) of in
    rw (stored, address, load_address, filesz, memsz, flags) refl

module _ (o : Output) (fits : IsFitting o) where
  -- what is known of program header k
  pub record Knows (k : ℕ) : Type 0 where
    pub piece : Piece
    pub segment : Segment
    pub is_piece : slice_get (pieces_of o) k ≡ Some piece
    pub is_segment : slice_get (output_segments o) k ≡ Some segment
    pub read : IsSegment (output_file o) k piece segment
    pub memory : nat_lt 0 (segment_of (output_file o) k).memsz ≡ true
    pub made : segment ≡ segment_at segment.offset piece

  pub knows : (k : ℕ) → k < length (pieces_of o) → Knows k
  knows k within =
      let piece = some_at (pieces_of o) k within in
      let segment = some_at (output_segments o) k (omega (arith, length_segments (pieces_at (length (pieces_of o))) (pieces_of o))) in
      let read = program_headers_are_read o fits k piece.0 segment.0 piece.1 segment.1 in
      let made = of_piece (pieces_at (length (pieces_of o))) (pieces_of o) k piece.0 segment.0 piece.1 segment.1 in
      let fitting = all_at IsFittingPiece (pieces_of o) fits.pieces k piece.0 piece.1 in
      let size : (segment_of (output_file o) k).memsz ≡ piece.0.size = ap (λ (t : Segment). t.memsz) (read.is ∙ made) in
      record {
        piece = piece.0;
        segment = segment.0;
        is_piece = piece.1;
        is_segment = segment.1;
        read = read;
        memory = lt-ltb 0 (segment_of (output_file o) k).memsz (omega (arith, fitting.some));
        made = made;
      }

  segments_so_far : (k : ℕ) → k ≤ length (pieces_of o) → segments_before (output_file o) k ≡ take k (output_segments o)
  segments_so_far zero within = no_segments (output_file o)
  segments_so_far (suc k) within =
      let here = knows k (omega arith) in
      next_segments (output_file o) k here.read.load here.memory
      ∙ ap (λ ss. ss ++ segment_of (output_file o) k ∷ []) (segments_so_far k (omega arith))
      ∙ ap (λ s. take k (output_segments o) ++ s ∷ []) here.read.is
      ∙ sym (take_one_more (output_segments o) k here.segment here.is_segment)

  loaded_so_far : (k : ℕ) → k ≤ length (pieces_of o) → total (loaded_at (output_file o)) k ≡ length (piece_bytes (take k (pieces_of o)))
  loaded_so_far zero within = no_loaded (output_file o)
  loaded_so_far (suc k) within =
      let here = knows k (omega arith) in
      let size : (segment_of (output_file o) k).filesz ≡ length here.piece.bytes = ap (λ (t : Segment). t.filesz) (here.read.is ∙ here.made) in
      let more = ap (λ ps. length (piece_bytes ps)) (take_one_more (pieces_of o) k here.piece here.is_piece) in
      let pushed = ap length (piece_bytes-append (take k (pieces_of o)) (here.piece ∷ [])) in
      omega (arith, next_loaded (output_file o) k here.read.load here.memory, loaded_so_far k (omega arith), size, more, pushed, length-append (piece_bytes (take k (pieces_of o))) (here.piece.bytes ++ []), length-append here.piece.bytes [])

  image_so_far : (k : ℕ) → k ≤ length (pieces_of o) → image_before (output_file o) k ≡ flat_map piece_image (take k (pieces_of o))
  image_so_far zero within = no_image (output_file o)
  image_so_far (suc k) within =
      let here = knows k (omega arith) in
      let pieces = ap (segment_pieces (output_file o)) here.read.is ∙ image_is (output_file o) here.piece here.segment here.made here.read.stored in
      next_image (output_file o) k here.read.load here.memory
      ∙ ap (λ ms. ms ++ segment_pieces (output_file o) (segment_of (output_file o) k)) (image_so_far k (omega arith))
      ∙ ap (λ ms. flat_map piece_image (take k (pieces_of o)) ++ ms) (pieces ∙ sym (append-nil (piece_image here.piece)))
      ∙ sym (ap (flat_map piece_image) (take_one_more (pieces_of o) k here.piece here.is_piece) ∙ flat_map-append piece_image (take k (pieces_of o)) (here.piece ∷ []))

  pub count_is : phnum_of (output_file o) ≡ length (pieces_of o)
  count_is = (headers_are_read o fits).0.pieces

  all_segments : take (length (pieces_of o)) (output_segments o) ≡ output_segments o
  all_segments = take_all (length (pieces_of o)) (output_segments o) (omega (arith, length_segments (pieces_at (length (pieces_of o))) (pieces_of o)))

  all_pieces : take (length (pieces_of o)) (pieces_of o) ≡ pieces_of o
  all_pieces = take_all (length (pieces_of o)) (pieces_of o) (omega arith)

  loaded : IsLoaded (output_file o) o
  loaded = record {
    segments = ap (segments_before (output_file o)) count_is ∙ segments_so_far (length (pieces_of o)) (omega arith) ∙ all_segments;
    size =
        ap (total (loaded_at (output_file o))) count_is ∙ loaded_so_far (length (pieces_of o)) (omega arith)
        ∙ ap (λ ps. length (piece_bytes ps)) all_pieces;
    image =
        ap (image_before (output_file o)) count_is ∙ image_so_far (length (pieces_of o)) (omega arith)
        ∙ ap (flat_map piece_image) all_pieces;
  }

pub segments_are_read : SegmentsAreRead
segments_are_read = λ o fits. loaded o fits
