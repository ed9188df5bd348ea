-- Where everything stands in an output file.
use Rattle.std.proofs.Common.{◌≡◌, ℕ, ◌+◌, ◌*◌, List, [], ◌∷◌, ◌++◌, length, refl, sym, ap, subst, arith, append_assoc, length-append}
use Rattle.sq_write.specs.Output.{Output, output_file, file_header, piece_headers, piece_bytes, pieces_at, pieces_of, layout, offsets, end_of, section_table, sections_of, contents_at, contents_of}
use Rattle.sq_write.proofs.Files.{length_headers}
use Rattle.law_written.specs.Reading.{output_sections}
use Rattle.law_written.proofs.OutputParts.{PartAt, part_here, part_whole, part_behind, part_from}
use Rattle.law_written.proofs.Laid.{layout_ends}

abbrev pub header_of : Output → List ℕ
header_of o = file_header o.entry (length (pieces_of o)) (end_of (contents_at o) (contents_of o))

abbrev pub headers_of : Output → List ℕ
headers_of o = piece_headers (pieces_at (length (pieces_of o))) (pieces_of o)

abbrev pub laid_of : Output → List ℕ
laid_of o = layout (contents_at o) (contents_of o ++ section_table (output_sections o) ∷ [])

-- the four parts of the file
pub record Stands (file : List ℕ) (o : Output) : Type 0 where
  pub header : PartAt file 0 (header_of o)
  pub headers : PartAt file 52 (headers_of o)
  pub stored : PartAt file (pieces_at (length (pieces_of o))) (piece_bytes (pieces_of o))
  pub laid : PartAt file (contents_at o) (laid_of o)
  pub long : end_of (contents_at o) (contents_of o) + 280 ≡ length file

four : (a b c d : List ℕ) → a ++ b ++ c ++ d ≡ a ++ (b ++ (c ++ d))
four a b c d = simp append_assoc

split : (o : Output) → output_file o ≡ header_of o ++ (headers_of o ++ (piece_bytes (pieces_of o) ++ laid_of o))
split o = four (header_of o) (headers_of o) (piece_bytes (pieces_of o)) (laid_of o)

-- four parts of which the first has 52 bytes
module _ (a b c d : List ℕ) (first : length a ≡ 52) where
  second_part : PartAt (a ++ (b ++ (c ++ d))) 52 b
  second_part =
      part_from (a ++ (b ++ (c ++ d))) (length a + 0) 52 b (omega (arith, first)) (part_behind a (b ++ (c ++ d)) 0 b (part_here b (c ++ d)))

  third_part : PartAt (a ++ (b ++ (c ++ d))) (52 + length b) c
  third_part =
      part_from (a ++ (b ++ (c ++ d))) (length a + (length b + 0)) (52 + length b) c (omega (arith, first))
      (part_behind a (b ++ (c ++ d)) (length b + 0) c (part_behind b (c ++ d) 0 c (part_here c d)))

  last_part : PartAt (a ++ (b ++ (c ++ d))) (52 + length b + length c) d
  last_part =
      part_from (a ++ (b ++ (c ++ d))) (length a + (length b + (length c + 0))) (52 + length b + length c) d (omega (arith, first))
      (part_behind a (b ++ (c ++ d)) (length b + (length c + 0)) d (part_behind b (c ++ d) (length c + 0) d (part_behind c d 0 d (part_whole d))))

  length_four : length (a ++ (b ++ (c ++ d))) ≡ 52 + length b + length c + length d
  length_four = omega (arith, first, length-append a (b ++ (c ++ d)), length-append b (c ++ d), length-append c d)

header_size : (entry count sections_at : ℕ) → length (file_header entry count sections_at) ≡ 52
header_size entry count sections_at = refl

table_size : (o : Output) (text : ℕ) (places : List ℕ) → length (section_table (sections_of o text places)) ≡ 280
table_size o text places = refl

split_stands : (o : Output) → Stands (header_of o ++ (headers_of o ++ (piece_bytes (pieces_of o) ++ laid_of o))) o
split_stands o =
    let a = header_of o in
    let b = headers_of o in
    let c = piece_bytes (pieces_of o) in
    let d = laid_of o in
    let table = section_table (output_sections o) in
    let first : length (header_of o) ≡ 52 = header_size o.entry (length (pieces_of o)) (end_of (contents_at o) (contents_of o)) in
    let second : length (headers_of o) ≡ 32 * length (pieces_of o) = length_headers (pieces_at (length (pieces_of o))) (pieces_of o) in
    record {
      header = part_here a (b ++ (c ++ d));
      headers = second_part a b c d first;
      stored = part_from (a ++ (b ++ (c ++ d))) (52 + length b) (pieces_at (length (pieces_of o))) c (ap (λ n. 52 + n) second) (third_part a b c d first);
      laid =
          part_from (a ++ (b ++ (c ++ d))) (52 + length b + length c) (contents_at o) d (ap (λ n. 52 + n + length c) second)
          (last_part a b c d first);
      long =
          omega (arith, length_four a b c d first, second, layout_ends (contents_at o) (contents_of o) table, table_size o (pieces_at (length (pieces_of o)) + length (piece_bytes o.before)) (offsets (contents_at o) (contents_of o)));
    }

pub output_stands : (o : Output) → Stands (output_file o) o
output_stands o = subst (λ file. Stands file o) (sym (split o)) (split_stands o)
