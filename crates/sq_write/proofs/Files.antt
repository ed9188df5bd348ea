-- The output file from its parts.
use Rattle.std.proofs.Common.{◌≡◌, ℕ, ◌+◌, ◌*◌, List, [], ◌∷◌, ◌++◌, length, replicate, refl, sym, ap, ◌∙◌, append_assoc, append-nil, arith, length-append}
use Rattle.std.proofs.lemmas.List.{length-replicate}
use Rattle.sq_write.specs.declared.layout.Layout.{Layout}
use Rattle.sq_write.specs.Output.{Piece, Output, output_file, file_header, piece_headers, piece_header, piece_bytes, pieces_at, gap, layout, offsets, end_of, section_table, sections_of, contents_at, contents_of, pieces_of}
use Rattle.sq_write.specs.Laid.{FileParts, parts_of, pieces_in, contents_in, contents_from, text_from, IsLaid, section_headers, file_of, IsFile}

pub two : (old mid new a b : List ℕ) → mid ≡ old ++ a → new ≡ mid ++ b → new ≡ old ++ (a ++ b)
two old mid new a b first second = second ∙ ap (λ xs. xs ++ b) first ∙ append_assoc old a b

-- one more part behind a layout
layout_push : (n : ℕ) (parts : List (List ℕ)) (part : List ℕ) → layout n (parts ++ part ∷ []) ≡ layout n parts ++ (replicate (gap (n + length (layout n parts))) 0 ++ part)
layout_push n [] part =
    let e : n ≡ n + 0 = omega arith in
    ap (λ xs. replicate (gap n) 0 ++ xs) (append-nil part) ∙ ap (λ m. replicate (gap m) 0 ++ part) e
layout_push n (p ∷ parts) part =
    let rest = layout (n + gap n + length p) parts in
    let e : n + gap n + length p + length rest ≡ n + length (replicate (gap n) 0 ++ (p ++ rest)) =
    omega (arith, length-append (replicate (gap n) 0) (p ++ rest), length-append p rest, length-replicate {A = ℕ} (gap n) 0) in
    ap (λ xs. replicate (gap n) 0 ++ (p ++ xs)) (layout_push (n + gap n + length p) parts part ∙ ap (λ k. rest ++ (replicate (gap k) 0 ++ part)) e)
    ∙ ap (λ xs. replicate (gap n) 0 ++ xs) (sym (append_assoc p rest (replicate (gap (n + length (replicate (gap n) 0 ++ (p ++ rest)))) 0 ++ part)))
    ∙ sym (append_assoc (replicate (gap n) 0) (p ++ rest) (replicate (gap (n + length (replicate (gap n) 0 ++ (p ++ rest)))) 0 ++ part))

-- the contents and then the section headers, written one behind another
pub laid_out : (old mid aligned new : List ℕ) (parts : List (List ℕ)) (part : List ℕ) → mid ≡ old ++ layout (length old) parts → aligned ≡ mid ++ replicate (gap (length mid)) 0 → new ≡ aligned ++ part → new ≡ old ++ layout (length old) (parts ++ part ∷ [])
laid_out old mid aligned new parts part contents gaps last =
    let e : length mid ≡ length old + length (layout (length old) parts) = ap length contents ∙ length-append old (layout (length old) parts) in
    last
    ∙ ap (λ xs. xs ++ part) (gaps ∙ ap (λ xs. xs ++ replicate (gap (length mid)) 0) contents)
    ∙ append_assoc (old ++ layout (length old) parts) (replicate (gap (length mid)) 0) part
    ∙ append_assoc old (layout (length old) parts) (replicate (gap (length mid)) 0 ++ part)
    ∙ ap (λ k. old ++ (layout (length old) parts ++ (replicate (gap k) 0 ++ part))) e
    ∙ ap (λ xs. old ++ xs) (sym (layout_push (length old) parts part))

pub length_headers : (offset : ℕ) (pieces : List Piece) → length (piece_headers offset pieces) ≡ 32 * length pieces
length_headers offset [] = refl
length_headers offset (p ∷ pieces) =
    omega (arith, length-append (piece_header offset p) (piece_headers (offset + length p.bytes) pieces), length_headers (offset + length p.bytes) pieces)

-- header, piece headers, the pieces' bytes, contents and section headers, written one behind another
pub file_is : (p : FileParts) (l : Layout) (empty header headers bytes contents aligned file : List ℕ) → IsLaid p l → empty ≡ [] → header ≡ empty ++ file_header p.entry (length (pieces_in p)) l.sections → headers ≡ header ++ piece_headers (pieces_at (length (pieces_in p))) (pieces_in p) → bytes ≡ headers ++ piece_bytes (pieces_in p) → contents ≡ bytes ++ layout (length bytes) (contents_in p) → aligned ≡ contents ++ replicate (gap (length contents)) 0 → file ≡ aligned ++ section_headers p l → IsFile p file
unfolding file_of
file_is p l empty header headers bytes contents aligned file laid none has_header has_headers has_bytes has_contents has_gap has_sections =
    let start = file_header p.entry (length (pieces_in p)) l.sections in
    let middle = piece_headers (pieces_at (length (pieces_in p))) (pieces_in p) in
    let stored = piece_bytes (pieces_in p) in
    let front : bytes ≡ [] ++ (start ++ (middle ++ stored)) =
    two [] header bytes start (middle ++ stored) (has_header ∙ ap (λ xs. xs ++ start) none) (two header headers bytes middle stored has_headers has_bytes) in
    let size : length bytes ≡ contents_from p =
    omega (arith, ap length front, length-append start (middle ++ stored), length-append middle stored, length_headers (pieces_at (length (pieces_in p))) (pieces_in p)) in
    let parts = contents_in p ++ section_headers p l ∷ [] in
    record {
      laid = l;
      is_laid = laid;
      is =
          laid_out bytes contents aligned file (contents_in p) (section_headers p l) has_contents has_gap has_sections
          ∙ ap (λ n. bytes ++ layout n (contents_in p ++ section_headers p l ∷ [])) size
          ∙ ap (λ xs. xs ++ layout (contents_from p) (contents_in p ++ section_headers p l ∷ [])) front
          ∙ append_assoc start (middle ++ stored) (layout (contents_from p) (contents_in p ++ section_headers p l ∷ []))
          ∙ ap (λ xs. start ++ xs) (append_assoc middle stored (layout (contents_from p) (contents_in p ++ section_headers p l ∷ [])));
    }

-- the file of the parts of an output is that output
tables_are : (o : Output) (l : Layout) → section_table (sections_of o l.text (l.symbols ∷ l.symbol_names ∷ l.entries ∷ l.note ∷ l.section_names ∷ [])) ≡ section_headers (parts_of o) l
unfolding section_headers
tables_are o l = refl

-- the output file, with its end and its table as they are given
given : Output → ℕ → List ℕ → List ℕ
given o last table =
    file_header o.entry (length (pieces_of o)) last ++ piece_headers (pieces_at (length (pieces_of o))) (pieces_of o) ++ piece_bytes (pieces_of o)
    ++ layout (contents_at o) (contents_of o ++ table ∷ [])

table_at : Output → ℕ → List ℕ → List ℕ
table_at o text places = section_table (sections_of o text places)

by_given : (o : Output) → output_file o ≡ given o (end_of (contents_at o) (contents_of o)) (table_at o (text_from (parts_of o)) (offsets (contents_at o) (contents_of o)))
unfolding given table_at
by_given o = refl

four : (a b c d : List ℕ) → a ++ b ++ c ++ d ≡ a ++ (b ++ (c ++ d))
four a b c d = simp append_assoc

given_is : (o : Output) (l : Layout) → given o l.sections (section_headers (parts_of o) l) ≡ file_of (parts_of o) l
unfolding given file_of
given_is o l =
    four (file_header o.entry (length (pieces_of o)) l.sections) (piece_headers (pieces_at (length (pieces_of o))) (pieces_of o)) (piece_bytes (pieces_of o)) (layout (contents_at o) (contents_of o ++ section_headers (parts_of o) l ∷ []))

table_is : (o : Output) (l : Layout) → table_at o l.text (l.symbols ∷ l.symbol_names ∷ l.entries ∷ l.note ∷ l.section_names ∷ []) ≡ section_headers (parts_of o) l
unfolding table_at
table_is o l = tables_are o l

pub is_output : (o : Output) (file : List ℕ) → IsFile (parts_of o) file → file ≡ output_file o
is_output o file f =
    let places : List ℕ = f.laid.symbols ∷ f.laid.symbol_names ∷ f.laid.entries ∷ f.laid.note ∷ f.laid.section_names ∷ [] in
    f.is
    ∙ sym (
    by_given o
    ∙ ap (λ last. given o last (table_at o (text_from (parts_of o)) (offsets (contents_at o) (contents_of o)))) (sym f.is_laid.sections)
    ∙ ap (λ at. given o f.laid.sections (table_at o (text_from (parts_of o)) at)) f.is_laid.places
    ∙ ap (λ text. given o f.laid.sections (table_at o text places)) (sym f.is_laid.text)
    ∙ ap (λ table. given o f.laid.sections table) (table_is o f.laid)
    ∙ given_is o f.laid)
