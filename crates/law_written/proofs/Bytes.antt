-- Each byte of a written file is below 256.
use Rattle.std.proofs.Common.{◌≡◌, ℕ, zero, suc, ◌+◌, ◌*◌, ◌%◌, ◌<◌, Bool, true, false, ◌&&◌, ◌⊎◌, inl, inr, nat_lt, List, [], ◌∷◌, ◌++◌, take, drop, replicate, length, codes, get_or, Option, Some, None, refl, arith}
use Rattle.std.specs.List.{AllByRecursion}
use Rattle.std.proofs.lemmas.Bool.{cases_Bool, ltb-true, and_parts}
use Rattle.byteorder.specs.Endian.{little_bytes}
use Rattle.sq_elf.specs.declared.segment.Segment.{Segment}
use Rattle.sq_elf.specs.Memory.{segments_of, file_bytes_of}
use Rattle.sq_elf.specs.Ranges.{leaves, bytes_at}
use Rattle.sq_elf.specs.Text.{text_of}
use Rattle.sq_graph.specs.Graph.{Procedure}
use Rattle.sq_graph.specs.Words.{procedure_words}
use Rattle.sq_reloc.specs.Outside.{word_start}
use Rattle.sq_write.specs.Output.{halves, words, Piece, Relocation, Output, text_piece, pieces_of, pieces_at, piece_bytes, piece_header, piece_headers, gap, layout, section_names, relocation_table, Section, section_header, section_table, contents_of, contents_at, end_of, file_header, output_file}
use Rattle.sq_write.specs.Pieces.{by_address, set_word_at, set_byte, with_words, part_of, part_before, part_behind, is_some_piece, pieces_before, pieces_behind}
use Rattle.sq_write.specs.Plain.{empty_note}
use Rattle.sq_write.specs.Written.{note_entries, note_from, written_output, written}
use Rattle.law_written.specs.Contents.{WrittenIsBytes}
use Rattle.law_written.specs.Reading.{output_sections}
use Rattle.law_written.proofs.Pairs.{all_append, all_kept}

abbrev both : (xs ys : List ℕ) → AllByRecursion (λ b. b < 256) xs → AllByRecursion (λ b. b < 256) ys → AllByRecursion (λ b. b < 256) (xs ++ ys)
both = all_append (λ b. b < 256)

-- bytes that are written out
are_bytes : List ℕ → Bool
are_bytes [] = true
are_bytes (b ∷ bs) = nat_lt b 256 && are_bytes bs

tested : (bs : List ℕ) → are_bytes bs ≡ true → AllByRecursion (λ b. b < 256) bs
unfolding are_bytes
tested [] is = tt
tested (b ∷ bs) is = let two = and_parts (nat_lt b 256) (are_bytes bs) is in (ltb-true b 256 two.0, tested bs two.1)

words_bytes : (ns : List ℕ) → AllByRecursion (λ b. b < 256) (words ns)
words_bytes [] = tt
words_bytes (n ∷ ns) = (omega arith, (omega arith, (omega arith, (omega arith, words_bytes ns))))

halves_bytes : (ns : List ℕ) → AllByRecursion (λ b. b < 256) (halves ns)
halves_bytes [] = tt
halves_bytes (n ∷ ns) = (omega arith, (omega arith, halves_bytes ns))

zeros : (n : ℕ) → AllByRecursion (λ b. b < 256) (replicate n 0)
zeros zero = tt
zeros (suc n) = (omega arith, zeros n)

take_bytes : (n : ℕ) (bs : List ℕ) → AllByRecursion (λ b. b < 256) bs → AllByRecursion (λ b. b < 256) (take n bs)
take_bytes zero bs all = tt
take_bytes (suc n) [] all = tt
take_bytes (suc n) (b ∷ bs) all = (all.0, take_bytes n bs all.1)

drop_bytes : (n : ℕ) (bs : List ℕ) → AllByRecursion (λ b. b < 256) bs → AllByRecursion (λ b. b < 256) (drop n bs)
drop_bytes zero bs all = all
drop_bytes (suc n) [] all = tt
drop_bytes (suc n) (b ∷ bs) all = drop_bytes n bs all.1

byte_at : (bs : List ℕ) (k : ℕ) → AllByRecursion (λ b. b < 256) bs → get_or bs k 0 < 256
byte_at [] k all = omega arith
byte_at (b ∷ bs) zero all = all.0
byte_at (b ∷ bs) (suc k) all = byte_at bs k all.1

-- the parts of an output file

headers_bytes : (offset : ℕ) (ps : List Piece) → AllByRecursion (λ b. b < 256) (piece_headers offset ps)
headers_bytes offset [] = tt
headers_bytes offset (p ∷ ps) =
    both (piece_header offset p) (piece_headers (offset + length p.bytes) ps) (words_bytes (1 ∷ offset ∷ p.address ∷ p.load_address ∷ length p.bytes ∷ p.size ∷ p.flags ∷ 1 ∷ [])) (headers_bytes (offset + length p.bytes) ps)

stored_bytes : (ps : List Piece) → AllByRecursion (λ p. AllByRecursion (λ b. b < 256) p.bytes) ps → AllByRecursion (λ b. b < 256) (piece_bytes ps)
stored_bytes [] all = tt
stored_bytes (p ∷ ps) all = both p.bytes (piece_bytes ps) all.0 (stored_bytes ps all.1)

laid_bytes : (at : ℕ) (parts : List (List ℕ)) → AllByRecursion (λ part. AllByRecursion (λ b. b < 256) part) parts → AllByRecursion (λ b. b < 256) (layout at parts)
laid_bytes at [] all = tt
laid_bytes at (part ∷ parts) all =
    let rest = layout (at + gap at + length part) parts in
    both (replicate (gap at) 0) (part ++ rest) (zeros (gap at)) (both part rest all.0 (laid_bytes (at + gap at + length part) parts all.1))

entries_bytes : (rs : List Relocation) → AllByRecursion (λ b. b < 256) (relocation_table rs)
entries_bytes [] = tt
entries_bytes (r ∷ rs) = both (words (r.offset ∷ r.kind ∷ r.addend ∷ [])) (relocation_table rs) (words_bytes (r.offset ∷ r.kind ∷ r.addend ∷ [])) (entries_bytes rs)

table_bytes : (ss : List Section) → AllByRecursion (λ b. b < 256) (section_table ss)
table_bytes [] = tt
table_bytes (s ∷ ss) =
    both (section_header s) (section_table ss) (words_bytes (s.name ∷ s.kind ∷ s.flags ∷ s.address ∷ s.offset ∷ s.size ∷ s.link ∷ s.info ∷ s.align ∷ s.entry_size ∷ [])) (table_bytes ss)

magic : List ℕ
magic = 0x7f ∷ 0x45 ∷ 0x4c ∷ 0x46 ∷ 1 ∷ 1 ∷ 1 ∷ 0 ∷ 0 ∷ 0 ∷ 0 ∷ 0 ∷ 0 ∷ 0 ∷ 0 ∷ 0 ∷ []

header_bytes : (entry count sections_at : ℕ) → AllByRecursion (λ b. b < 256) (file_header entry count sections_at)
unfolding are_bytes magic
header_bytes entry count sections_at =
    let kinds = halves (2 ∷ 243 ∷ []) in
    let offsets = words (1 ∷ entry ∷ 52 ∷ sections_at ∷ 0 ∷ []) in
    let counts = halves (52 ∷ 32 ∷ count ∷ 40 ∷ 7 ∷ 6 ∷ []) in
    both (magic ++ kinds ++ offsets) counts
    (both (magic ++ kinds) offsets (both magic kinds (tested magic refl) (halves_bytes (2 ∷ 243 ∷ []))) (words_bytes (1 ∷ entry ∷ 52 ∷ sections_at ∷ 0 ∷ [])))
    (halves_bytes (52 ∷ 32 ∷ count ∷ 40 ∷ 7 ∷ 6 ∷ []))

names_bytes : AllByRecursion (λ b. b < 256) section_names
unfolding are_bytes
names_bytes = tested section_names refl

output_bytes : (o : Output) → AllByRecursion (λ p. AllByRecursion (λ b. b < 256) p.bytes) (pieces_of o) → AllByRecursion (λ b. b < 256) o.note → AllByRecursion (λ b. b < 256) (output_file o)
output_bytes o pieces note =
    let header = file_header o.entry (length (pieces_of o)) (end_of (contents_at o) (contents_of o)) in
    let headers = piece_headers (pieces_at (length (pieces_of o))) (pieces_of o) in
    let stored = piece_bytes (pieces_of o) in
    let parts = contents_of o ++ section_table (output_sections o) ∷ [] in
    both (header ++ headers ++ stored) (layout (contents_at o) parts)
    (both (header ++ headers) stored (both header headers (header_bytes o.entry (length (pieces_of o)) (end_of (contents_at o) (contents_of o))) (headers_bytes (pieces_at (length (pieces_of o))) (pieces_of o))) (stored_bytes (pieces_of o) pieces))
    (laid_bytes (contents_at o) parts (zeros 16, ((omega arith, tt), (entries_bytes o.relocations, (note, (names_bytes, (table_bytes (output_sections o), tt)))))))

-- the parts of a graph's output

set_bytes : (set : Option ℕ) (k b : ℕ) → b < 256 → set_byte set k b < 256
set_bytes None k b fits = fits
set_bytes (Some to) k b fits = byte_at (little_bytes 4 to) k (omega arith, (omega arith, (omega arith, (omega arith, tt))))

with_bytes : (set : ℕ → Option ℕ) (x : ℕ) (bs : List ℕ) → AllByRecursion (λ b. b < 256) bs → AllByRecursion (λ b. b < 256) (with_words set x bs)
with_bytes set x [] all = tt
with_bytes set x (b ∷ bs) all = (set_bytes (set (word_start x)) (x % 4) b all.0, with_bytes set (x + 1) bs all.1)

file_bytes : (bytes : List ℕ) (s : Segment) → AllByRecursion (λ b. b < 256) bytes → AllByRecursion (λ b. b < 256) (file_bytes_of bytes s)
unfolding bytes_at
file_bytes bytes s all = by_test (cases_Bool (leaves bytes s.offset s.filesz))
  where
    by_test : (leaves bytes s.offset s.filesz ≡ true) ⊎ (leaves bytes s.offset s.filesz ≡ false) → AllByRecursion (λ b. b < 256) (file_bytes_of bytes s)
    by_test (inl e) = rw e tt
    by_test (inr e) = rw e (take_bytes s.filesz (drop s.offset bytes) (drop_bytes s.offset bytes all))

part_bytes : (bytes : List ℕ) (set : ℕ → Option ℕ) (skip size : ℕ) (s : Segment) → AllByRecursion (λ b. b < 256) bytes → AllByRecursion (λ b. b < 256) (part_of bytes set skip size s).bytes
part_bytes bytes set skip size s all =
    with_bytes set (s.address + skip) (take size (drop skip (file_bytes_of bytes s))) (take_bytes size (drop skip (file_bytes_of bytes s)) (drop_bytes skip (file_bytes_of bytes s) (file_bytes bytes s all)))

any : (ss : List Segment) → AllByRecursion (λ s. Unit {0}) ss
any [] = tt
any (s ∷ ss) = (tt, any ss)

noted_bytes : (at : ℕ) (ps : List Procedure) → AllByRecursion (λ b. b < 256) (note_entries at ps)
noted_bytes at [] = tt
noted_bytes at (p ∷ ps) =
    both (words (at ∷ p.link ∷ length p.body ∷ [])) (note_entries (at + 4 * procedure_words p) ps) (words_bytes (at ∷ p.link ∷ length p.body ∷ [])) (noted_bytes (at + 4 * procedure_words p) ps)

note_bytes : (at : ℕ) (ps : List Procedure) → AllByRecursion (λ b. b < 256) (note_from at ps)
unfolding are_bytes
note_bytes at [] = tested empty_note refl
note_bytes at (p ∷ ps) =
    both (codes "SQZ2" ++ words (length (p ∷ ps) ∷ [])) (note_entries at (p ∷ ps))
    (both (codes "SQZ2") (words (length (p ∷ ps) ∷ [])) (tested (codes "SQZ2") refl) (words_bytes (length (p ∷ ps) ∷ [])))
    (noted_bytes at (p ∷ ps))

pub written_is_bytes : WrittenIsBytes
unfolding written
written_is_bytes = λ bytes g can.
    let lo = (text_of bytes).lo in
    let set = set_word_at g (text_of bytes).lo in
    let o = written_output bytes g in
    let ss = by_address (segments_of bytes) in
    output_bytes (written_output bytes g)
    (all_append (λ p. AllByRecursion (λ b. b < 256) p.bytes) (pieces_before bytes set) (text_piece o ∷ pieces_behind bytes set)
    (all_kept is_some_piece (part_before bytes set) (λ s. Unit {0}) (λ p. AllByRecursion (λ b. b < 256) p.bytes) (λ s given kept. part_bytes bytes set 0 _ s can.bytes) ss (any ss))
    (words_bytes o.text, all_kept is_some_piece (part_behind bytes set) (λ s. Unit {0}) (λ p. AllByRecursion (λ b. b < 256) p.bytes) (λ s given kept. part_bytes bytes set _ _ s can.bytes) ss (any ss)))
    (note_bytes _ g.procedures)
