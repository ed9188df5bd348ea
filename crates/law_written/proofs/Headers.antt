-- The file header of an output file, as it is read.
use Rattle.std.proofs.Common.{◌≡◌, ℕ, ◌^◌, ◌<◌, List, [], ◌∷◌, ◌++◌, take, length, refl, ap, ◌∙◌, arith}
use Rattle.std.proofs.lemmas.List.{take-append-le}
use Rattle.sq_elf.specs.Refusing.{identification}
use Rattle.sq_write.specs.Output.{halves, words, Output, output_file, file_header, pieces_of, end_of, contents_at, contents_of}
use Rattle.law_written.specs.Reading.{IsHeader, HeadersAreRead}
use Rattle.law_written.proofs.OutputParts.{PartAt, part_in, part_dropped, half_at, word_at}
use Rattle.law_written.proofs.OutputPlaces.{header_of, Stands, output_stands}

magic : List ℕ
magic = 0x7f ∷ 0x45 ∷ 0x4c ∷ 0x46 ∷ 1 ∷ 1 ∷ 1 ∷ 0 ∷ 0 ∷ 0 ∷ 0 ∷ 0 ∷ 0 ∷ 0 ∷ 0 ∷ 0 ∷ []

-- the rows of numbers in it
module _ (entry count sections_at : ℕ) where
  kinds : PartAt (file_header entry count sections_at) 16 (halves (2 ∷ 243 ∷ []))
  unfolding magic
  kinds = record {
    front = magic;
    back = words (1 ∷ entry ∷ 52 ∷ sections_at ∷ 0 ∷ []) ++ halves (52 ∷ 32 ∷ count ∷ 40 ∷ 7 ∷ 6 ∷ []);
    whole = refl;
    offset = refl;
  }

  offsets : PartAt (file_header entry count sections_at) 20 (words (1 ∷ entry ∷ 52 ∷ sections_at ∷ 0 ∷ []))
  unfolding magic
  offsets = record { front = magic ++ halves (2 ∷ 243 ∷ []); back = halves (52 ∷ 32 ∷ count ∷ 40 ∷ 7 ∷ 6 ∷ []); whole = refl; offset = refl }

  counts : PartAt (file_header entry count sections_at) 40 (halves (52 ∷ 32 ∷ count ∷ 40 ∷ 7 ∷ 6 ∷ []))
  unfolding magic
  counts = record {
    front = magic ++ halves (2 ∷ 243 ∷ []) ++ words (1 ∷ entry ∷ 52 ∷ sections_at ∷ 0 ∷ []);
    back = [];
    whole = refl;
    offset = refl;
  }

  starts : take 7 (file_header entry count sections_at) ≡ identification
  starts = refl

header_is : (file : List ℕ) (o : Output) → Stands file o → o.entry < 2 ^ 32 → length (pieces_of o) < 2 ^ 16 → length file < 2 ^ 32 → IsHeader file o
header_is file o stands entry count size =
    let end = end_of (contents_at o) (contents_of o) in
    let number = length (pieces_of o) in
    let few : end_of (contents_at o) (contents_of o) < 2 ^ 32 = omega (arith, stands.long) in
    let kinds_at = part_in file 0 16 (header_of o) (halves (2 ∷ 243 ∷ [])) stands.header (kinds o.entry number end) in
    let offsets_at = part_in file 0 20 (header_of o) (words (1 ∷ o.entry ∷ 52 ∷ end ∷ 0 ∷ [])) stands.header (offsets o.entry number end) in
    let counts_at = part_in file 0 40 (header_of o) (halves (52 ∷ 32 ∷ number ∷ 40 ∷ 7 ∷ 6 ∷ [])) stands.header (counts o.entry number end) in
    let half = half_at file 40 (52 ∷ 32 ∷ number ∷ 40 ∷ 7 ∷ 6 ∷ []) counts_at in
    let word = word_at file 20 (1 ∷ o.entry ∷ 52 ∷ end ∷ 0 ∷ []) offsets_at in
    record {
      identified =
          ap (take 7) (part_dropped file 0 (header_of o) stands.header)
          ∙ take-append-le 7 (header_of o) stands.header.back (omega arith) ∙ starts o.entry number end;
      kind = half_at file 16 (2 ∷ 243 ∷ []) kinds_at 0 2 refl (omega arith);
      machine = half_at file 16 (2 ∷ 243 ∷ []) kinds_at 1 243 refl (omega arith);
      version = word 0 1 refl (omega arith);
      entry = word 1 o.entry refl entry;
      program_headers = word 2 52 refl (omega arith);
      section_headers = word 3 end refl few;
      flags = word 4 0 refl (omega arith);
      header_size = half 0 52 refl (omega arith);
      program_header_size = half 1 32 refl (omega arith);
      pieces = half 2 number refl count;
      section_header_size = half 3 40 refl (omega arith);
      sections = half 4 7 refl (omega arith);
    }

pub headers_are_read : HeadersAreRead
headers_are_read = λ o fits. (header_is (output_file o) o (output_stands o) fits.entry fits.count fits.size, (output_stands o).long)
