-- What is known of a file that is not refused.
use Rattle.std.proofs.Common.{◌≡◌, ℕ, ◌<◌, ◌≤◌, length, Bool, true, false, nat_lt, List, [], ◌∷◌, ◌++◌, Option, Some, None, refl, sym, ◌∙◌, arith}
use Rattle.std.proofs.lemmas.Bool.Decides.{nat_tests}
use Rattle.sq_num.specs.declared.refusal.Refusal.{Refusal}
use Rattle.sq_num.specs.declared.refusal.Refusal.TheVariants.{FileTooLong, TooLarge}
use Rattle.sq_num.specs.Refusals.{Row, first_from, first_refusal}
use Rattle.sq_elf.specs.Sizes.{loaded_of, piece_count_of}
use Rattle.sq_elf.specs.Refusing.{single, not_elf, short_header, header_field, flags, header_rows, table_rows, segment_rows, text_rows, size_rows, bad_entry, too_many_bytes, file_refusal_of}
use Rattle.sq_elf.proofs.Parts.{or_later, first_of_parts, here_of_parts, single_here}

-- a table that refuses nothing: neither of its parts does
none_first : (first later : Option Refusal) → or_later first later ≡ None → first ≡ None
none_first None later none = refl
none_first (Some refusal) later none = absurd (cc none)

none_later : (first later : Option Refusal) → or_later first later ≡ None → later ≡ None
none_later None later none = none
none_later (Some refusal) later none = absurd (cc none)

pub none_of_first : (rows more : List Row) → first_refusal (rows ++ more) ≡ None → first_refusal rows ≡ None
none_of_first rows more none = none_first (first_refusal rows) (first_refusal more) (sym (first_of_parts rows more) ∙ none)

pub none_of_later : (rows more : List Row) → first_refusal (rows ++ more) ≡ None → first_refusal more ≡ None
none_of_later rows more none = none_later (first_refusal rows) (first_refusal more) (sym (first_of_parts rows more) ∙ none)

-- a row of one place that refuses nothing
pub single_passes : (fails : Bool) (refusal : Refusal) (rows : List Row) → first_refusal (single fails refusal ∷ rows) ≡ None → fails ≡ false
unfolding first_from
single_passes false refusal rows none = refl
single_passes true refusal rows none = absurd (cc none)

pub behind_single : (fails : Bool) (refusal : Refusal) (rows : List Row) → first_refusal (single fails refusal ∷ rows) ≡ None → first_refusal rows ≡ None
unfolding first_from
behind_single false refusal rows none = none
behind_single true refusal rows none = absurd (cc none)

abbrev from_text : List ℕ → List Row
from_text bytes = text_rows bytes ++ size_rows bytes

abbrev from_segments : List ℕ → List Row
from_segments bytes = segment_rows bytes ++ from_text bytes

abbrev from_tables : List ℕ → List Row
from_tables bytes = table_rows bytes ++ from_segments bytes

tables_on : (bytes : List ℕ) → file_refusal_of bytes ≡ None → first_refusal (from_tables bytes) ≡ None
unfolding file_refusal_of
tables_on bytes accepted = none_of_later (header_rows bytes) (from_tables bytes) accepted

segments_on : (bytes : List ℕ) → file_refusal_of bytes ≡ None → first_refusal (from_segments bytes) ≡ None
segments_on bytes accepted = none_of_later (table_rows bytes) (from_segments bytes) (tables_on bytes accepted)

text_on : (bytes : List ℕ) → file_refusal_of bytes ≡ None → first_refusal (from_text bytes) ≡ None
text_on bytes accepted = none_of_later (segment_rows bytes) (from_text bytes) (segments_on bytes accepted)

-- each part of the table refuses nothing
pub header_accepted : (bytes : List ℕ) → file_refusal_of bytes ≡ None → first_refusal (header_rows bytes) ≡ None
unfolding file_refusal_of
header_accepted bytes accepted = none_of_first (header_rows bytes) (from_tables bytes) accepted

pub tables_accepted : (bytes : List ℕ) → file_refusal_of bytes ≡ None → first_refusal (table_rows bytes) ≡ None
tables_accepted bytes accepted = none_of_first (table_rows bytes) (from_segments bytes) (tables_on bytes accepted)

pub segments_accepted : (bytes : List ℕ) → file_refusal_of bytes ≡ None → first_refusal (segment_rows bytes) ≡ None
segments_accepted bytes accepted = none_of_first (segment_rows bytes) (from_text bytes) (segments_on bytes accepted)

pub text_accepted : (bytes : List ℕ) → file_refusal_of bytes ≡ None → first_refusal (text_rows bytes) ≡ None
text_accepted bytes accepted = none_of_first (text_rows bytes) (size_rows bytes) (text_on bytes accepted)

pub sizes_accepted : (bytes : List ℕ) → file_refusal_of bytes ≡ None → first_refusal (size_rows bytes) ≡ None
sizes_accepted bytes accepted = none_of_later (text_rows bytes) (size_rows bytes) (text_on bytes accepted)

-- it loads at most 16,777,216 bytes
pub few_loaded : (bytes : List ℕ) → file_refusal_of bytes ≡ None → loaded_of bytes ≤ 16777216
few_loaded bytes accepted =
    let pieces : first_refusal (too_many_bytes bytes ∷ bad_entry bytes ∷ []) ≡ None = behind_single (nat_lt 64 (piece_count_of bytes)) (TooLarge 1 (piece_count_of bytes)) (too_many_bytes bytes ∷ bad_entry bytes ∷ []) (sizes_accepted bytes accepted) in
    let loaded : nat_lt 16777216 (loaded_of bytes) ≡ false = single_passes (nat_lt 16777216 (loaded_of bytes)) (TooLarge 2 (loaded_of bytes)) (bad_entry bytes ∷ []) pieces in
    grind (arith, nat_tests)

-- a file of more than the most bytes is refused so, whatever it holds
pub too_long_refused : (bytes : List ℕ) → 134217728 < length bytes → file_refusal_of bytes ≡ Some FileTooLong
unfolding file_refusal_of
too_long_refused bytes long =
    let fails : nat_lt 134217728 (length bytes) ≡ true = grind (arith, nat_tests) in
    sym (here_of_parts (header_rows bytes) (from_tables bytes) FileTooLong (single_here (nat_lt 134217728 (length bytes)) FileTooLong (not_elf bytes ∷ short_header bytes ∷ header_field bytes ∷ flags bytes ∷ []) fails))
