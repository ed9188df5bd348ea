-- The sections of an output file, as they are read.
use Rattle.std.proofs.Common.{◌≡◌, ℕ, zero, suc, ◌+◌, ◌*◌, ◌^◌, ◌<◌, false, nat_eq, List, [], ◌∷◌, ◌++◌, length, slice_index, Some, slice_get, refl, ap, subst, ◌∙◌, arith}
use Rattle.std.proofs.lemmas.Bool.{lt-ltb}
use Rattle.std.proofs.lemmas.Bool.Decides.{nat_tests}
use Rattle.std.proofs.lemmas.Option.{slice_get_within}
use Rattle.sq_elf.specs.Headers.{shoff_of, shnum_of, section_field, section_of, section_header as read_header}
use Rattle.sq_elf.specs.Reading.{section_at, contents_in, contents_of as section_contents}
use Rattle.sq_write.specs.Output.{words, Output, text_piece, pieces_of, pieces_at, piece_bytes, contents_at, contents_of, symbol_table, symbol_names, section_names, relocation_table, offsets, end_of, note_kind, Section, section_header, section_table, output_file}
use Rattle.sq_write.proofs.PieceWalks.{piece_bytes-append}
use Rattle.law_written.specs.Fitting.{IsFittingPiece, IsFitting}
use Rattle.law_written.specs.Reading.{seen, output_sections, section_parts, SectionsAreRead}
use Rattle.law_written.proofs.OutputParts.{PartAt, part_here, part_from, first_part, rest_part, part_ends, part_read, word_at}
use Rattle.law_written.proofs.Laid.{laid_part}
use Rattle.law_written.proofs.OutputPlaces.{Stands, output_stands}
use Rattle.law_written.proofs.Headers.{headers_are_read}
use Rattle.law_written.proofs.Lists.{all_middle}

-- the numbers of a section fit
record IsFittingSection (s : Section) : Type 0 where
  kind : s.kind < 2 ^ 32
  flags : s.flags < 2 ^ 32
  address : s.address < 2 ^ 32
  offset : s.offset < 2 ^ 32
  size : s.size < 2 ^ 32
  link : s.link < 2 ^ 32
  info : s.info < 2 ^ 32
  entry_size : s.entry_size < 2 ^ 32

-- the numbers of a section header
abbrev section_words : Section → List ℕ
section_words s = s.name ∷ s.kind ∷ s.flags ∷ s.address ∷ s.offset ∷ s.size ∷ s.link ∷ s.info ∷ s.align ∷ s.entry_size ∷ []

table_part : (file : List ℕ) (at : ℕ) (ss : List Section) → PartAt file at (section_table ss) → (k : ℕ) (s : Section) → slice_get ss k ≡ Some s → PartAt file (at + 40 * k) (section_header s)
table_part file at [] has k s is = absurd (cc is)
table_part file at (t ∷ ss) has zero s is =
    let same : t ≡ s = cc is in
    let none : at ≡ at + 40 * 0 = omega arith in
    subst (λ x. PartAt file (at + 40 * 0) (section_header x)) same (part_from file at (at + 40 * 0) (section_header t) none (first_part file at (section_header t) (section_table ss) has))
table_part file at (t ∷ ss) has (suc k) s is =
    let rest : PartAt file (at + 40) (section_table ss) = rest_part file at (section_header t) (section_table ss) has in
    let next : at + 40 + 40 * k ≡ at + 40 * suc k = omega arith in
    part_from file (at + 40 + 40 * k) (at + 40 * suc k) (section_header s) next (table_part file (at + 40) ss rest k s is)

fields_read : (file : List ℕ) (at k : ℕ) (s : Section) → shoff_of file ≡ at → PartAt file (at + 40 * k) (section_header s) → (field n : ℕ) → slice_get (section_words s) field ≡ Some n → n < 2 ^ 32 → section_field file k field ≡ n
fields_read file at k s begins has field n is fits = rw begins (word_at file (at + 40 * k) (section_words s) has field n is fits)

header_is : (file : List ℕ) (k : ℕ) (s : Section) → ((field n : ℕ) → slice_get (section_words s) field ≡ Some n → n < 2 ^ 32 → section_field file k field ≡ n) → IsFittingSection s → read_header file k ≡ seen s
header_is file k s read fits =
    let kind = read 1 s.kind refl fits.kind in
    let flags = read 2 s.flags refl fits.flags in
    let address = read 3 s.address refl fits.address in
    let offset = read 4 s.offset refl fits.offset in
    let size = read 5 s.size refl fits.size in
    let link = read 6 s.link refl fits.link in
    let info = read 7 s.info refl fits.info in
    let entry_size = read 9 s.entry_size refl fits.entry_size in
    rw (kind, flags, address, offset, size, link, info, entry_size) refl

first_is : (file : List ℕ) (s : Section) → record { name = 0; kind = 0; flags = 0; address = 0; offset = 0; size = 0; link = 0; info = 0; align = 0; entry_size = 0 } ≡ s → section_of file 0 ≡ seen s
unfolding section_of
first_is file s same = ap seen same

apart_from_zero : (k : ℕ) → nat_eq (suc k) 0 ≡ false
apart_from_zero k = grind (arith, nat_tests)

later_is : (file : List ℕ) (k : ℕ) → section_of file (suc k) ≡ read_header file (suc k)
unfolding section_of
later_is file k = let apart : nat_eq (suc k) 0 ≡ false = apart_from_zero k in rw apart refl

-- a section whose bytes stand in the file
record IsSection (file : List ℕ) (s : Section) (part : List ℕ) : Type 0 where
  fits : IsFittingSection s
  stored : PartAt file s.offset part
  sized : length part ≡ s.size

abbrev AreSections : List ℕ → List Section → List (List ℕ) → Type 0
AreSections file [] parts = Unit {0}
AreSections file (s ∷ ss) [] = Unit {0}
AreSections file (s ∷ ss) (part ∷ parts) = IsSection file s part × AreSections file ss parts

section_here : (file : List ℕ) (ss : List Section) (parts : List (List ℕ)) → AreSections file ss parts → (k : ℕ) (s : Section) (part : List ℕ) → slice_get ss k ≡ Some s → slice_get parts k ≡ Some part → IsSection file s part
section_here file [] parts are k s part is has = absurd (cc is)
section_here file (t ∷ ss) [] are k s part is has = absurd (cc has)
section_here file (t ∷ ss) (first ∷ parts) are zero s part is has =
    let same : t ≡ s = cc is in
    let stands : first ≡ part = cc has in
    subst (λ x. IsSection file x part) same (subst (λ x. IsSection file t x) stands are.0)
section_here file (t ∷ ss) (first ∷ parts) are (suc k) s part is has = section_here file ss parts are.1 k s part is has

module _ (o : Output) (fits : IsFitting o) where
  stands : Stands (output_file o) o
  stands = output_stands o

  content_stands : (k place : ℕ) (part : List ℕ) → slice_get (contents_of o ++ section_table (output_sections o) ∷ []) k ≡ Some part → slice_get (offsets (contents_at o) (contents_of o ++ section_table (output_sections o) ∷ [])) k ≡ Some place → PartAt (output_file o) place part
  content_stands k place part is there =
      laid_part (output_file o) (contents_at o) (contents_of o ++ section_table (output_sections o) ∷ []) stands.laid k place part is there

  text_stands : PartAt (output_file o) (pieces_at (length (pieces_of o)) + length (piece_bytes o.before)) (words o.text)
  text_stands =
      let both : PartAt (output_file o) (pieces_at (length (pieces_of o))) (piece_bytes o.before ++ (words o.text ++ piece_bytes o.after)) =
      subst (PartAt (output_file o) (pieces_at (length (pieces_of o)))) (piece_bytes-append o.before (text_piece o ∷ o.after)) stands.stored in
      first_part (output_file o) (pieces_at (length (pieces_of o)) + length (piece_bytes o.before)) (words o.text) (piece_bytes o.after)
      (rest_part (output_file o) (pieces_at (length (pieces_of o))) (piece_bytes o.before) (words o.text ++ piece_bytes o.after) both)

  start_fits : o.start < 2 ^ 32
  start_fits = let text : IsFittingPiece (text_piece o) = all_middle IsFittingPiece o.before (text_piece o) o.after fits.pieces in text.address

  -- a part of the file fits
  part_fits : (at : ℕ) (part : List ℕ) → PartAt (output_file o) at part → (at < 2 ^ 32) × (length part < 2 ^ 32)
  part_fits at part has =
      let ends = part_ends (output_file o) at part has in
      (omega (arith, ends, fits.size), omega (arith, ends, fits.size))

  -- a section that isn't loaded
  unloaded : (s : Section) (part : List ℕ) → PartAt (output_file o) s.offset part → length part ≡ s.size → s.kind < 2 ^ 32 → s.flags < 2 ^ 32 → s.address < 2 ^ 32 → s.link < 2 ^ 32 → s.info < 2 ^ 32 → s.entry_size < 2 ^ 32 → IsSection (output_file o) s part
  unloaded s part has sized kind flags address link info entry_size =
      let both = part_fits s.offset part has in
      record {
        fits = record { kind = kind; flags = flags; address = address; offset = both.0; size = omega (arith, both.1, sized); link = link; info = info; entry_size = entry_size };
        stored = has;
        sized = sized;
      }

  all_sections : AreSections (output_file o) (output_sections o) (section_parts o)
  all_sections =
      let place = slice_index (offsets (contents_at o) (contents_of o)) in
      let none = part_here [] (output_file o) in
      let symbols = content_stands 0 (place 0) symbol_table refl refl in
      let names = content_stands 1 (place 1) symbol_names refl refl in
      let entries = content_stands 2 (place 2) (relocation_table o.relocations) refl refl in
      let note = content_stands 3 (place 3) o.note refl refl in
      let section_names_at = content_stands 4 (place 4) section_names refl refl in
      let zero_fits : 0 < 2 ^ 32 = omega arith in
      let note_fits : note_kind < 2 ^ 32 = omega arith in (
        unloaded (record { name = 0; kind = 0; flags = 0; address = 0; offset = 0; size = 0; link = 0; info = 0; align = 0; entry_size = 0 }) [] none refl zero_fits zero_fits zero_fits zero_fits zero_fits zero_fits,
        (
          unloaded (record { name = 1; kind = 1; flags = 6; address = o.start; offset = pieces_at (length (pieces_of o)) + length (piece_bytes o.before); size = length (words o.text); link = 0; info = 0; align = 4; entry_size = 0 }) (words o.text) text_stands refl (omega arith) (omega arith) start_fits zero_fits zero_fits zero_fits,
          (
            unloaded (record { name = 7; kind = 2; flags = 0; address = 0; offset = place 0; size = length symbol_table; link = 3; info = 1; align = 4; entry_size = 16 }) symbol_table symbols refl (omega arith) zero_fits zero_fits (omega arith) (omega arith) (omega arith),
            (
              unloaded (record { name = 15; kind = 3; flags = 0; address = 0; offset = place 1; size = length symbol_names; link = 0; info = 0; align = 1; entry_size = 0 }) symbol_names names refl (omega arith) zero_fits zero_fits zero_fits zero_fits zero_fits,
              (
                unloaded (record { name = 23; kind = 4; flags = 0; address = 0; offset = place 2; size = length (relocation_table o.relocations); link = 2; info = 1; align = 4; entry_size = 12 }) (relocation_table o.relocations) entries refl (omega arith) zero_fits zero_fits (omega arith) (omega arith) (omega arith),
                (
                  unloaded (record { name = 34; kind = note_kind; flags = 0; address = 0; offset = place 3; size = length o.note; link = 0; info = 0; align = 4; entry_size = 0 }) o.note note refl note_fits zero_fits zero_fits zero_fits zero_fits zero_fits,
                  (
                    unloaded (record { name = 43; kind = 3; flags = 0; address = 0; offset = place 4; size = length section_names; link = 0; info = 0; align = 1; entry_size = 0 }) section_names section_names_at refl (omega arith) zero_fits zero_fits zero_fits zero_fits zero_fits,
                    tt,
                  ),
                ),
              ),
            ),
          ),
        ),
      )

  table_stands : PartAt (output_file o) (end_of (contents_at o) (contents_of o)) (section_table (output_sections o))
  table_stands = content_stands 5 (end_of (contents_at o) (contents_of o)) (section_table (output_sections o)) refl refl

  section_read : (k : ℕ) (s : Section) → slice_get (output_sections o) k ≡ Some s → IsFittingSection s → section_of (output_file o) k ≡ seen s
  section_read zero s is fit = first_is (output_file o) s (cc is)
  section_read (suc k) s is fit =
      let at = end_of (contents_at o) (contents_of o) in
      let here = table_part (output_file o) at (output_sections o) table_stands (suc k) s is in
      later_is (output_file o) k
      ∙ header_is (output_file o) (suc k) s (fields_read (output_file o) at (suc k) s (headers_are_read o fits).0.section_headers here) fit

  few_sections : (k : ℕ) (s : Section) → slice_get (output_sections o) k ≡ Some s → k < shnum_of (output_file o)
  few_sections k s is =
      let seven : length (output_sections o) ≡ 7 = refl in
      omega (arith, slice_get_within (output_sections o) k s is, seven, (headers_are_read o fits).0.sections)

  contents_read : (k : ℕ) (s : Section) (part : List ℕ) → k < shnum_of (output_file o) → section_of (output_file o) k ≡ seen s → IsSection (output_file o) s part → section_contents (output_file o) k ≡ Some part
  contents_read k s part within read found =
      let there : section_at (output_file o) k ≡ Some (seen s) = rw (lt-ltb k (shnum_of (output_file o)) within) (ap Some read) in
      ap (contents_in (output_file o)) there ∙ part_read (output_file o) s.offset s.size part found.sized found.stored

pub sections_are_read : SectionsAreRead
sections_are_read = λ o fits k s part is has.
    let found = section_here (output_file o) (output_sections o) (section_parts o) (all_sections o fits) k s part is has in
    let read = section_read o fits k s is found.fits in
    (read, contents_read o fits k s part (few_sections o fits k s is) read found)
