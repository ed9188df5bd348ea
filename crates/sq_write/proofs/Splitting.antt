-- A plain file is its head, its text and its tail, and so long.
use Rattle.std.proofs.Common.{◌≡◌, ℕ, ◌+◌, ◌*◌, ◌%◌, List, [], ◌∷◌, ◌++◌, length, refl, sym, ap, ◌∙◌, arith, append-nil, length-append}
use Rattle.sq_write.specs.Output.{words, file_header, note_kind, section_table, sections_of, symbol_table, symbol_names, section_names, layout, offsets, end_of}
use Rattle.sq_write.specs.Plain.{plain_start, plain_file, plain_output, empty_note}
use Rattle.sq_write.proofs.Laying.{layout_shift, offsets_shift, end_shift}

-- a word has four bytes
pub length_words : (text : List ℕ) → length (words text) ≡ 4 * length text
length_words [] = refl
length_words (w ∷ ws) = omega (arith, length_words ws)

-- where the text ends, behind a header of 52 bytes and a piece header of 32
abbrev text_end : ℕ → ℕ
text_end size = 84 + size

-- the file header, and the header of the one piece
plain_head : ℕ → List ℕ
plain_head size =
    file_header plain_start 1 (text_end size + 84) ++ words (1 ∷ 84 ∷ plain_start ∷ plain_start ∷ size ∷ size ∷ 5 ∷ 1 ∷ [])

-- the seven section headers
abbrev plain_sections : ℕ → List ℕ
plain_sections size =
    words (0 ∷ 0 ∷ 0 ∷ 0 ∷ 0 ∷ 0 ∷ 0 ∷ 0 ∷ 0 ∷ 0 ∷ [])
    ++ words (1 ∷ 1 ∷ 6 ∷ plain_start ∷ 84 ∷ size ∷ 0 ∷ 0 ∷ 4 ∷ 0 ∷ [])
    ++ words (7 ∷ 2 ∷ 0 ∷ 0 ∷ text_end size ∷ 16 ∷ 3 ∷ 1 ∷ 4 ∷ 16 ∷ [])
    ++ words (15 ∷ 3 ∷ 0 ∷ 0 ∷ (text_end size + 16) ∷ 1 ∷ 0 ∷ 0 ∷ 1 ∷ 0 ∷ [])
    ++ words (23 ∷ 4 ∷ 0 ∷ 0 ∷ (text_end size + 20) ∷ 0 ∷ 2 ∷ 1 ∷ 4 ∷ 12 ∷ [])
    ++ words (34 ∷ note_kind ∷ 0 ∷ 0 ∷ (text_end size + 20) ∷ 8 ∷ 0 ∷ 0 ∷ 4 ∷ 0 ∷ [])
    ++ words (43 ∷ 3 ∷ 0 ∷ 0 ∷ (text_end size + 28) ∷ 53 ∷ 0 ∷ 0 ∷ 1 ∷ 0 ∷ [])

-- the five contents and the section headers, each at the next multiple of 4
plain_parts : ℕ → List (List ℕ)
plain_parts size = symbol_table ∷ symbol_names ∷ [] ∷ empty_note ∷ section_names ∷ plain_sections size ∷ []

-- a file of this many bytes of text, with its end, its places and its layout as they are given
file_with : List ℕ → ℕ → ℕ → List ℕ → (List ℕ → List ℕ) → List ℕ
file_with text size last places lay =
    file_header plain_start 1 last ++ words (1 ∷ 84 ∷ plain_start ∷ plain_start ∷ size ∷ size ∷ 5 ∷ 1 ∷ []) ++ words text
    ++ lay (section_table (sections_of (plain_output text) 84 places))

contents : List (List ℕ)
contents = symbol_table ∷ symbol_names ∷ [] ∷ empty_note ∷ section_names ∷ []

-- the text ends at a multiple of 4
even_end : (n : ℕ) → text_end (4 * n) % 4 ≡ 0
even_end n = omega arith

no_more : (n : ℕ) → n ≡ n + 0
no_more n = omega arith

-- the section headers stand 84 bytes behind the text
end_is : (end : ℕ) → end % 4 ≡ 0 → end_of end contents ≡ end + 84
unfolding contents
end_is end even = ap (λ n. end_of n contents) (no_more end) ∙ end_shift end 0 even contents

-- the contents stand behind the text by these offsets
places_are : (end : ℕ) → end % 4 ≡ 0 → offsets end contents ≡ end ∷ (end + 16) ∷ (end + 20) ∷ (end + 20) ∷ (end + 28) ∷ []
unfolding contents
places_are end even =
    ap (λ n. offsets n contents) (no_more end) ∙ offsets_shift end 0 even contents
    ∙ ap (λ first. first ∷ (end + 16) ∷ (end + 20) ∷ (end + 20) ∷ (end + 28) ∷ []) (sym (no_more end))

-- they are laid as they would be from offset 0 on
layout_is : (end : ℕ) → end % 4 ≡ 0 → (parts : List (List ℕ)) → layout end parts ≡ layout 0 parts
layout_is end even parts = ap (λ n. layout n parts) (no_more end) ∙ layout_shift end 0 even parts

as_given : List ℕ → ℕ → List ℕ
as_given text size =
    file_with text size (end_of (text_end size) contents) (offsets (text_end size) contents) (λ table. layout (text_end size) (contents ++ table ∷ []))

by_parts : (text : List ℕ) → plain_file text ≡ as_given text (length (words text))
unfolding plain_file file_with as_given contents
by_parts text = rw (append-nil (words text)) refl

at_end : (text : List ℕ) (size : ℕ) → text_end size % 4 ≡ 0 → as_given text size ≡ file_with text size (text_end size + 84) (text_end size ∷ (text_end size + 16) ∷ (text_end size + 20) ∷ (text_end size + 20) ∷ (text_end size + 28) ∷ []) (λ table. layout 0 (contents ++ table ∷ []))
unfolding as_given
at_end text size even =
    let lay : List ℕ → List ℕ = λ table. layout (text_end size) (contents ++ table ∷ []) in
    let end : ℕ = text_end size in
    let places : List ℕ = end ∷ (end + 16) ∷ (end + 20) ∷ (end + 20) ∷ (end + 28) ∷ [] in
    ap (λ last. file_with text size last (offsets end contents) lay) (end_is end even)
    ∙ ap (λ at. file_with text size (end + 84) at lay) (places_are end even)
    ∙ ap (λ layout. file_with text size (end + 84) places layout) (λ i table. layout_is end even (contents ++ table ∷ []) i)

-- head, text and tail
joined : (text : List ℕ) (size : ℕ) → length (words text) ≡ size → file_with text size (text_end size + 84) (text_end size ∷ (text_end size + 16) ∷ (text_end size + 20) ∷ (text_end size + 20) ∷ (text_end size + 28) ∷ []) (λ table. layout 0 (contents ++ table ∷ [])) ≡ plain_head size ++ (words text ++ layout 0 (plain_parts size))
unfolding file_with contents plain_head plain_parts
joined text size has = rw has refl

plain_split : (text : List ℕ) → plain_file text ≡ plain_head (4 * length text) ++ (words text ++ layout 0 (plain_parts (4 * length text)))
plain_split text =
    by_parts text ∙ ap (as_given text) (length_words text) ∙ at_end text (4 * length text) (even_end (length text))
    ∙ joined text (4 * length text) (length_words text)

length_head : (size : ℕ) → length (plain_head size) ≡ 84
unfolding plain_head
length_head size = refl

length_tail : (size : ℕ) → length (layout 0 (plain_parts size)) ≡ 364
unfolding plain_parts
length_tail size = refl

pub length_plain : (text : List ℕ) → length (plain_file text) ≡ 4 * length text + 448
length_plain text =
    rw (plain_split text)
    (simp (length-append, length_words) (omega (arith, length_head (4 * length text), length_tail (4 * length text))))
