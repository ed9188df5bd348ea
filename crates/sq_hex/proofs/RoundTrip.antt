-- The text that is written for ranges means exactly their bytes and the entry.
use Rattle.std.proofs.Common.{◌≡◌, ◌≢◌, ℕ, zero, suc, ◌+◌, ◌-◌, ◌*◌, ◌/◌, ◌%◌, ◌^◌, ◌<◌, ◌≤◌, Bool, true, false, nat_eq, nat_le, if◌then◌else◌, List, [], ◌∷◌, ◌++◌, Option, Some, None, Ok, length, take, drop, sum, refl, sym, ap, ◌∙◌, subst, append_assoc, ◌⊎◌, inl, inr, arith}
use Rattle.std.proofs.lemmas.Bool.Decides.{nat_tests}
use Rattle.std.proofs.lemmas.Grind.{common_steps}
use Rattle.std.proofs.lemmas.Bool.{cases_eq}
use Rattle.std.proofs.lemmas.List.{append-nil}
use Rattle.std.proofs.lemmas.List.Concat.{flat_map-append}
use Rattle.std.specs.declared.cmp.Ordering.TheVariants.{Greater}
use Rattle.std.specs.List.{AllByRecursion, flat_map}
use Rattle.std.specs.Option.{is_some, unwrap_or}
use Rattle.std.specs.Prelude.{slice_index}
use Rattle.std.specs.Ordering.{nat_cmp}
use Rattle.std.specs.BTreeMap.{insert_entry}
use Rattle.hex.specs.Hex.{encode_with, encode_upper, upper_digits, hex_digit_value, IsBytes}
use Rattle.hex.proofs.HexLemmas.{IsDigits-upper_digits, decode_of-encode_upper}
use Rattle.sq_hex.specs.declared.command.Command.TheVariants.{Data, End, Base, Start}
use Rattle.sq_hex.specs.Lines.{in_front, lines_of}
use Rattle.sq_hex.specs.Records.{is_record, record_of, checked, command_of, offset_of, data_of}
use Rattle.sq_hex.specs.Meaning.{HexMeaning, HexState, byte_at, with_bytes, after_line, after_record, after_command, loaded, meaning_from, hex_meaning}
use Rattle.sq_elf.specs.declared.segment.Segment.{Segment}
use Rattle.sq_elf.specs.Memory.{file_bytes_of}
use Rattle.sq_elf.specs.Ranges.{bytes_at, leaves}
use Rattle.sq_hex.specs.Flash.{Range, placed, ranges_of, bytes_of}
use Rattle.sq_hex.specs.Texts.{summed, record_bytes, record_line, joined, cut, two_bytes, is_base, base_line, data_text, last_lines, text_of_ranges}
use Rattle.sq_hex.proofs.LineLemmas.{eq_test, ne_test, lines_with, lines_step, lines_newline}
use Rattle.sq_hex.proofs.ReadLemmas.{with_bytes_free, with_bytes_none, line_taken, text_ended}
use Rattle.sq_hex.proofs.TextLemmas.{data_text_none, data_text_more, cut_none, cut_here, cut_later}
use Rattle.sq_hex.proofs.Flashes.{AscendsFrom, has_above, has_back, few_bytes}

-- neither a newline nor a carriage return
abbrev IsPlain : ℕ → Type 0
IsPlain byte = (byte ≢ 10) × (byte ≢ 13)

not_return : (byte : ℕ) (bytes : List ℕ) (lines : List (List ℕ)) → byte ≢ 13 → lines_with byte bytes lines ≡ in_front byte lines
not_return byte bytes lines plain = rw (ne_test byte 13 plain) refl

plain_line : (line rest : List ℕ) → AllByRecursion IsPlain line → lines_of (line ++ 10 ∷ rest) ≡ line ∷ lines_of rest
plain_line [] rest plain = lines_newline 10 rest refl
plain_line (byte ∷ line) rest plain =
    lines_step byte (line ++ 10 ∷ rest) plain.0.0
    ∙ not_return byte (line ++ 10 ∷ rest) (lines_of (line ++ 10 ∷ rest)) plain.0.1
    ∙ ap (in_front byte) (plain_line line rest plain.1)

-- a digit is no end of a line
no_digit : (c d : ℕ) → hex_digit_value c ≡ Some d → IsPlain c
no_digit c d is = (
  λ newline. let V : ℕ → Type 0 = λ x. hex_digit_value x ≡ Some d in cc (subst V newline is),
  λ return. let V : ℕ → Type 0 = λ x. hex_digit_value x ≡ Some d in cc (subst V return is),
)

plain_digits : (bytes : List ℕ) → IsBytes bytes → AllByRecursion IsPlain (encode_upper bytes)
unfolding encode_with
plain_digits [] fits = tt
plain_digits (byte ∷ bytes) fits =
    let small : byte < 256 = fits 0 in (
      no_digit (slice_index upper_digits (byte / 16)) (byte / 16) (IsDigits-upper_digits (byte / 16) (omega arith)),
      (
        no_digit (slice_index upper_digits (byte % 16)) (byte % 16) (IsDigits-upper_digits (byte % 16) (omega arith)),
        plain_digits bytes (λ k. fits (suc k)),
      ),
    )

-- what a record is made of
record IsFine (type offset : ℕ) (bytes : List ℕ) : Type 0 where
  small : type < 256
  offsets : offset < 65536
  few : length bytes < 256
  fits : IsBytes bytes

fits_front : (byte : ℕ) (bytes : List ℕ) → byte < 256 → IsBytes bytes → IsBytes (byte ∷ bytes)
fits_front byte bytes small fits zero = small
fits_front byte bytes small fits (suc k) = fits k

fits_behind : (bytes : List ℕ) (byte : ℕ) → IsBytes bytes → byte < 256 → IsBytes (bytes ++ byte ∷ [])
fits_behind [] byte fits small = fits_front byte [] small (λ k. omega arith)
fits_behind (first ∷ bytes) byte fits small = fits_front first (bytes ++ byte ∷ []) (fits 0) (fits_behind bytes byte (λ k. fits (suc k)) small)

record_fits : (type offset : ℕ) (bytes : List ℕ) → IsFine type offset bytes → IsBytes (record_bytes type offset bytes)
record_fits type offset bytes fine =
    fits_behind (length bytes ∷ offset / 256 ∷ offset % 256 ∷ type ∷ bytes) _
    (fits_front (length bytes) (offset / 256 ∷ offset % 256 ∷ type ∷ bytes) fine.few
    (fits_front (offset / 256) (offset % 256 ∷ type ∷ bytes) (omega (arith, fine.offsets))
    (fits_front (offset % 256) (type ∷ bytes) (omega arith) (fits_front type bytes fine.small fine.fits))))
    (omega arith)

sum_behind : (bytes : List ℕ) (byte : ℕ) → sum (bytes ++ byte ∷ []) ≡ sum bytes + byte
sum_behind bytes byte = grind (arith, common_steps)

length_behind : (bytes : List ℕ) (byte : ℕ) → length (bytes ++ byte ∷ []) ≡ suc (length bytes)
length_behind [] byte = refl
length_behind (first ∷ bytes) byte = ap suc (length_behind bytes byte)

rounds : (n : ℕ) → (n + (256 - n % 256) % 256) % 256 ≡ 0
rounds n = omega arith

summed_rounds : (bytes : List ℕ) → sum (summed bytes) % 256 ≡ 0
summed_rounds bytes = ap (λ n. n % 256) (sum_behind bytes ((256 - sum bytes % 256) % 256)) ∙ rounds (sum bytes)

record_good : (type offset : ℕ) (bytes : List ℕ) → is_record (record_bytes type offset bytes) ≡ true
record_good type offset bytes =
    let front : List ℕ = length bytes ∷ offset / 256 ∷ offset % 256 ∷ type ∷ bytes in
    let size : length (summed front) ≡ length bytes + 5 = length_behind front ((256 - sum front % 256) % 256) ∙ omega arith in
    rw (eq_test (length (summed front)) (length bytes + 5) size, eq_test (sum (summed front) % 256) 0 (summed_rounds front)) refl

-- the line of a record
line_of : ℕ → ℕ → List ℕ → List ℕ
line_of type offset bytes = 58 ∷ encode_upper (record_bytes type offset bytes)

line_splits : (type offset : ℕ) (bytes rest : List ℕ) → IsFine type offset bytes → lines_of (record_line type offset bytes ++ rest) ≡ line_of type offset bytes ∷ lines_of rest
unfolding line_of record_line
line_splits type offset bytes rest fine =
    ap lines_of (append_assoc (58 ∷ encode_upper (record_bytes type offset bytes)) (10 ∷ []) rest)
    ∙ plain_line (58 ∷ encode_upper (record_bytes type offset bytes)) rest
    ((λ is. cc is, λ is. cc is), plain_digits (record_bytes type offset bytes) (record_fits type offset bytes fine))

line_read : (type offset : ℕ) (bytes : List ℕ) → IsFine type offset bytes → record_of (line_of type offset bytes) ≡ Some (record_bytes type offset bytes)
unfolding line_of
line_read type offset bytes fine =
    ap checked (decode_of-encode_upper (record_bytes type offset bytes) (record_fits type offset bytes fine))
    ∙ rw (record_good type offset bytes) refl

open_line : (state : HexState) (line : List ℕ) → state.ended ≡ false → after_line state line ≡ after_record state (record_of line)
open_line state line open' = ap (λ (ended : Bool). if ended then None else after_record state (record_of line)) open'

-- a record that is taken
taken : (type offset : ℕ) (bytes rest : List ℕ) (number : ℕ) (state next : HexState) → IsFine type offset bytes → state.ended ≡ false
    → after_command state (record_bytes type offset bytes) (command_of (record_bytes type offset bytes)) ≡ Some next
    → meaning_from number state (lines_of (record_line type offset bytes ++ rest)) ≡ meaning_from (number + 1) next (lines_of rest)
taken type offset bytes rest number state next fine open' after =
    ap (meaning_from number state) (line_splits type offset bytes rest fine)
    ∙ line_taken number state (line_of type offset bytes) (lines_of rest) next
    (open_line state (line_of type offset bytes) open' ∙ ap (after_record state) (line_read type offset bytes fine) ∙ after)

offset_back : (type offset : ℕ) (bytes : List ℕ) → offset_of (record_bytes type offset bytes) ≡ offset
offset_back type offset bytes = omega arith

data_back : (type offset : ℕ) (bytes : List ℕ) → data_of (record_bytes type offset bytes) ≡ bytes
data_back type offset bytes = take_front bytes _
  where
    take_front : (front back : List ℕ) → take (length front) (front ++ back) ≡ front
    take_front [] back = refl
    take_front (byte ∷ front) back = ap (λ rest. byte ∷ rest) (take_front front back)

le_test : (a b : ℕ) → a ≤ b → nat_le a b ≡ true
le_test a b within = grind (arith, nat_tests)

data_command : (offset : ℕ) (bytes : List ℕ) → offset + length bytes ≤ 65536 → command_of (record_bytes 0 offset bytes) ≡ Some Data
unfolding command_of
data_command offset bytes within = rw (le_test (256 * (offset / 256) + offset % 256 + length bytes) 65536 (omega arith)) refl

end_command : command_of (record_bytes 1 0 []) ≡ Some End
unfolding command_of
end_command = refl

base_command : (high : ℕ) → command_of (record_bytes 4 0 (two_bytes high)) ≡ Some (Base (65536 * high))
unfolding command_of
base_command high =
    let whole : 256 * (high / 256) + high % 256 ≡ high = omega arith in
    ap (λ n. Some (Base (65536 * n))) whole

start_command : (entry : ℕ) → command_of (record_bytes 5 0 (two_bytes (entry / 65536) ++ two_bytes (entry % 65536))) ≡ Some (Start entry)
unfolding command_of
start_command entry =
    let whole : 65536 * (256 * (entry / 65536 / 256) + entry / 65536 % 256) + (256 * (entry % 65536 / 256) + entry % 65536 % 256) ≡ entry = omega arith in
    ap (λ n. Some (Start n)) whole

-- bytes behind all that are there
greater : (above address : ℕ) → above < address → nat_cmp address above ≡ Greater
greater above address below = grind (arith, nat_tests)

below_head : (e entry : ℕ × ℕ) (entries rest : List (ℕ × ℕ)) → AscendsFrom (suc e.0) (entries ++ entry ∷ rest) → e.0 < entry.0
below_head e entry entries rest ascends = has_above (suc e.0) (entries ++ entry ∷ rest) entry ascends (has_back entries (entry ∷ rest) entry (inl refl))

free_behind : (low : ℕ) (entries rest : List (ℕ × ℕ)) (address byte : ℕ) → AscendsFrom low (entries ++ (address, byte) ∷ rest) → byte_at entries address ≡ None
free_behind low [] rest address byte ascends = refl
free_behind low (e ∷ entries) rest address byte ascends =
    rw (greater e.0 address (below_head e (address, byte) entries rest ascends.1)) (free_behind (suc e.0) entries rest address byte ascends.1)

insert_behind : (low : ℕ) (entries rest : List (ℕ × ℕ)) (address byte : ℕ) → AscendsFrom low (entries ++ (address, byte) ∷ rest) → insert_entry nat_cmp entries address byte ≡ entries ++ (address, byte) ∷ []
insert_behind low [] rest address byte ascends = refl
insert_behind low (e ∷ entries) rest address byte ascends =
    rw (greater e.0 address (below_head e (address, byte) entries rest ascends.1)) (ap (λ more. e ∷ more) (insert_behind (suc e.0) entries rest address byte ascends.1))

ascends_front : (low : ℕ) (entries rest : List (ℕ × ℕ)) → AscendsFrom low (entries ++ rest) → AscendsFrom low entries
ascends_front low [] rest ascends = tt
ascends_front low (e ∷ entries) rest ascends = (ascends.0, ascends_front (suc e.0) entries rest ascends.1)

loads_behind : (low : ℕ) (bytes : List ℕ) (entries : List (ℕ × ℕ)) (address : ℕ) → AscendsFrom low (entries ++ placed address bytes) → with_bytes entries address bytes ≡ Some (entries ++ placed address bytes)
loads_behind low [] entries address ascends = with_bytes_none entries address ∙ ap Some (sym (append-nil entries))
loads_behind low (byte ∷ bytes) entries address ascends =
    let one : (entries ++ (address, byte) ∷ []) ++ placed (address + 1) bytes ≡ entries ++ placed address (byte ∷ bytes) = append_assoc entries ((address, byte) ∷ []) (placed (address + 1) bytes) in
    let A : List (ℕ × ℕ) → Type 0 = AscendsFrom low in
    with_bytes_free entries address byte bytes (ap is_some (free_behind low entries (placed (address + 1) bytes) address byte ascends))
    ∙ ap (λ map. with_bytes map (address + 1) bytes) (insert_behind low entries (placed (address + 1) bytes) address byte ascends)
    ∙ loads_behind low bytes (entries ++ (address, byte) ∷ []) (address + 1) (subst A (sym one) ascends)
    ∙ ap Some one

-- a range whose bytes are one record
pub record IsChunk (range : Range) : Type 0 where
  pub room : range.0 % 16 + length range.1 ≤ 16
  pub small : range.0 < 2 ^ 32
  pub fits : IsBytes range.1

abbrev StartsAt : ℕ → List Range → Type 0
StartsAt address [] = Unit {0}
StartsAt address (range ∷ ranges) = range.0 ≡ address

starts_joined : (address byte : ℕ) (ranges : List Range) → StartsAt address (joined address byte ranges)
starts_joined address byte [] = refl
starts_joined address byte (range ∷ ranges) = refl

cut_starts : (address : ℕ) (bytes : List ℕ) → StartsAt address (cut address bytes)
unfolding cut
cut_starts address [] = tt
cut_starts address (byte ∷ bytes) = by_end (nat_eq ((address + 1) % 16) 0) refl
  where
    by_end : (is : Bool) → nat_eq ((address + 1) % 16) 0 ≡ is → StartsAt address (if nat_eq ((address + 1) % 16) 0 then (address, byte ∷ []) ∷ cut (address + 1) bytes else joined address byte (cut (address + 1) bytes))
    by_end true is = rw is refl
    by_end false is = rw is (starts_joined address byte (cut (address + 1) bytes))

chunks_joined : (address byte : ℕ) (ranges : List Range) → (address + 1) % 16 ≢ 0 → address < 2 ^ 32 → byte < 256 → StartsAt (address + 1) ranges → AllByRecursion IsChunk ranges → AllByRecursion IsChunk (joined address byte ranges)
chunks_joined address byte [] goes small fits starts chunks =
    (record { room = omega arith; small = small; fits = fits_front byte [] fits (λ k. omega arith) }, tt)
chunks_joined address byte (range ∷ ranges) goes small fits starts chunks =
    (record { room = omega (arith, chunks.0.room, starts); small = small; fits = fits_front byte range.1 fits chunks.0.fits }, chunks.1)

bytes_joined : (address byte : ℕ) (ranges : List Range) → StartsAt (address + 1) ranges → bytes_of (joined address byte ranges) ≡ (address, byte) ∷ bytes_of ranges
bytes_joined address byte [] starts = refl
bytes_joined address byte (range ∷ ranges) starts = ap (λ a. (address, byte) ∷ (placed a range.1 ++ bytes_of ranges)) (sym starts)

cut_chunks : (address : ℕ) (bytes : List ℕ) → address + length bytes ≤ 2 ^ 32 → IsBytes bytes → AllByRecursion IsChunk (cut address bytes)
cut_chunks address [] within fits = rw (cut_none address) tt
cut_chunks address (byte ∷ bytes) within fits =
    by_end (cut_chunks (address + 1) bytes (omega arith) (λ k. fits (suc k))) (cases_eq ((address + 1) % 16) 0)
  where
    by_end : AllByRecursion IsChunk (cut (address + 1) bytes) → ((address + 1) % 16 ≡ 0) ⊎ ((address + 1) % 16 ≢ 0) → AllByRecursion IsChunk (cut address (byte ∷ bytes))
    by_end later (inl ends) = rw (cut_here address byte bytes ends) (record { room = omega arith; small = omega arith; fits = fits_front byte [] (fits 0) (λ k. omega arith) }, later)
    by_end later (inr goes) = rw (cut_later address byte bytes goes) (chunks_joined address byte (cut (address + 1) bytes) goes (omega arith) (fits 0) (cut_starts (address + 1) bytes) later)

cut_bytes : (address : ℕ) (bytes : List ℕ) → bytes_of (cut address bytes) ≡ placed address bytes
cut_bytes address [] = rw (cut_none address) refl
cut_bytes address (byte ∷ bytes) = by_end (cut_bytes (address + 1) bytes) (cases_eq ((address + 1) % 16) 0)
  where
    by_end : bytes_of (cut (address + 1) bytes) ≡ placed (address + 1) bytes → ((address + 1) % 16 ≡ 0) ⊎ ((address + 1) % 16 ≢ 0) → bytes_of (cut address (byte ∷ bytes)) ≡ placed address (byte ∷ bytes)
    by_end later (inl ends) = rw (cut_here address byte bytes ends) (ap (λ rest. (address, byte) ∷ rest) later)
    by_end later (inr goes) = rw (cut_later address byte bytes goes) (bytes_joined address byte (cut (address + 1) bytes) (cut_starts (address + 1) bytes) ∙ ap (λ rest. (address, byte) ∷ rest) later)

-- all ranges, cut
abbrev cuts : List Range → List Range
cuts ranges = flat_map (λ range. cut range.0 range.1) ranges

pub record IsRange (range : Range) : Type 0 where
  pub within : range.0 + length range.1 ≤ 2 ^ 32
  pub fits : IsBytes range.1

all_append : (xs ys : List Range) → AllByRecursion IsChunk xs → AllByRecursion IsChunk ys → AllByRecursion IsChunk (xs ++ ys)
all_append [] ys front back = back
all_append (x ∷ xs) ys front back = (front.0, all_append xs ys front.1 back)

cuts_chunks : (ranges : List Range) → AllByRecursion IsRange ranges → AllByRecursion IsChunk (cuts ranges)
cuts_chunks [] good = tt
cuts_chunks (range ∷ ranges) good = all_append (cut range.0 range.1) (cuts ranges) (cut_chunks range.0 range.1 good.0.within good.0.fits) (cuts_chunks ranges good.1)

cuts_bytes : (ranges : List Range) → bytes_of (cuts ranges) ≡ bytes_of ranges
cuts_bytes [] = refl
cuts_bytes (range ∷ ranges) =
    flat_map-append (λ (r : Range). placed r.0 r.1) (cut range.0 range.1) (cuts ranges)
    ∙ ap (λ front. front ++ bytes_of (cuts ranges)) (cut_bytes range.0 range.1)
    ∙ ap (λ rest. placed range.0 range.1 ++ rest) (cuts_bytes ranges)

-- the state while data is read
abbrev reading : ℕ → List (ℕ × ℕ) → HexState
reading base bytes = record { bytes = bytes; start = None; base = base; ended = false }

abbrev IsAt : Option ℕ → ℕ → Type 0
IsAt None base = Unit {0}
IsAt (Some high) base = base ≡ 65536 * high

at_base : (last : Option ℕ) (base high : ℕ) → IsAt last base → is_base last high ≡ true → base ≡ 65536 * high
at_base None base high at is = absurd (cc is)
at_base (Some last) base high at is = let same : last ≡ high = grind (arith, nat_tests) in at ∙ ap (λ n. 65536 * n) same

module _ (m : HexMeaning) where
  base_read : (last : Option ℕ) (base high : ℕ) (bytes : List (ℕ × ℕ)) (rest : List ℕ) → IsAt last base → high < 65536
      → ((n : ℕ) → meaning_from n (reading (65536 * high) bytes) (lines_of rest) ≡ Ok m)
      → (n : ℕ) → meaning_from n (reading base bytes) (lines_of (base_line last high ++ rest)) ≡ Ok m
  base_read last base high bytes rest at small later n = by_base (is_base last high) refl
    where
      by_base : (is : Bool) → is_base last high ≡ is → meaning_from n (reading base bytes) (lines_of (base_line last high ++ rest)) ≡ Ok m
      by_base true is = rw is (ap (λ b. meaning_from n (reading b bytes) (lines_of rest)) (at_base last base high at is) ∙ later n)
      by_base false is = rw is (
          taken 4 0 (two_bytes high) rest n (reading base bytes) (reading (65536 * high) bytes)
          (record { small = omega arith; offsets = omega arith; few = omega arith; fits = fits_front (high / 256) (high % 256 ∷ []) (omega arith) (fits_front (high % 256) [] (omega arith) (λ k. omega arith)) })
          refl (ap (after_command (reading base bytes) (record_bytes 4 0 (two_bytes high))) (base_command high))
          ∙ later (n + 1))

  data_read : (low address high : ℕ) (data' : List ℕ) (bytes : List (ℕ × ℕ)) (rest : List ℕ) → high ≡ address / 65536 → IsChunk (address, data') → AscendsFrom low (bytes ++ placed address data')
      → ((n : ℕ) → meaning_from n (reading (65536 * high) (bytes ++ placed address data')) (lines_of rest) ≡ Ok m)
      → (n : ℕ) → meaning_from n (reading (65536 * high) bytes) (lines_of (record_line 0 (address % 65536) data' ++ rest)) ≡ Ok m
  data_read low address high data' bytes rest is chunk ascends later n =
      let offset : ℕ = address % 65536 in
      let at : 65536 * high + offset ≡ address = omega (arith, is) in
      let within : offset + length data' ≤ 65536 = omega (arith, chunk.room) in
      let state : HexState = reading (65536 * high) bytes in
      let after : after_command state (record_bytes 0 offset data') (command_of (record_bytes 0 offset data')) ≡ Some (reading (65536 * high) (bytes ++ placed address data')) =
      ap (after_command state (record_bytes 0 offset data')) (data_command offset data' within)
      ∙ ap (λ o. loaded state (with_bytes bytes (65536 * high + o) (data_of (record_bytes 0 offset data')))) (offset_back 0 offset data')
      ∙ ap (λ a. loaded state (with_bytes bytes a (data_of (record_bytes 0 offset data')))) at
      ∙ ap (λ d. loaded state (with_bytes bytes address d)) (data_back 0 offset data')
      ∙ ap (loaded state) (loads_behind low data' bytes address ascends) in
      taken 0 offset data' rest n state (reading (65536 * high) (bytes ++ placed address data'))
      (record { small = omega arith; offsets = omega arith; few = omega (arith, chunk.room); fits = chunk.fits }) refl after
      ∙ later (n + 1)

  text_read : (low : ℕ) (ranges : List Range) (last : Option ℕ) (base : ℕ) (bytes : List (ℕ × ℕ)) (rest : List ℕ) → IsAt last base → AllByRecursion IsChunk ranges → AscendsFrom low (bytes ++ bytes_of ranges)
      → ((n b : ℕ) → meaning_from n (reading b (bytes ++ bytes_of ranges)) (lines_of rest) ≡ Ok m)
      → (n : ℕ) → meaning_from n (reading base bytes) (lines_of (data_text last ranges ++ rest)) ≡ Ok m
  text_read low [] last base bytes rest at chunks ascends later n =
      rw (data_text_none last) (ap (λ b. meaning_from n (reading base b) (lines_of rest)) (sym (append-nil bytes)) ∙ later n base)
  text_read low (range ∷ ranges) last base bytes rest at chunks ascends later n =
      let high : ℕ = range.0 / 65536 in
      let line : List ℕ = record_line 0 (range.0 % 65536) range.1 in
      let more : List ℕ = data_text (Some high) ranges in
      let whole : (bytes ++ placed range.0 range.1) ++ bytes_of ranges ≡ bytes ++ bytes_of (range ∷ ranges) = append_assoc bytes (placed range.0 range.1) (bytes_of ranges) in
      let A : List (ℕ × ℕ) → Type 0 = AscendsFrom low in
      let assoc : (base_line last high ++ (line ++ more)) ++ rest ≡ base_line last high ++ (line ++ (more ++ rest)) = simp append_assoc in
      ap (λ t. meaning_from n (reading base bytes) (lines_of (t ++ rest))) (data_text_more last range.0 range.1 ranges)
      ∙ ap (λ t. meaning_from n (reading base bytes) (lines_of t)) assoc
      ∙ base_read last base high bytes (line ++ (more ++ rest)) at (omega (arith, chunks.0.small))
      (data_read low range.0 high range.1 bytes (more ++ rest) refl chunks.0 (ascends_front low (bytes ++ placed range.0 range.1) (bytes_of ranges) (subst A (sym whole) ascends))
      (text_read low ranges (Some high) (65536 * high) (bytes ++ placed range.0 range.1) rest refl chunks.1 (subst A (sym whole) ascends)
      (λ k b. ap (λ all. meaning_from k (reading b all) (lines_of rest)) whole ∙ later k b))) n

last_read : (bytes : List (ℕ × ℕ)) (entry : ℕ) → entry < 2 ^ 32 → (n base : ℕ) → meaning_from n (reading base bytes) (lines_of (last_lines entry)) ≡ Ok (record { bytes = bytes; start = Some entry })
last_read bytes entry small n base =
    let word : List ℕ = two_bytes (entry / 65536) ++ two_bytes (entry % 65536) in
    let started : HexState = record { bytes = bytes; start = Some entry; base = base; ended = false } in
    let ended : HexState = record { bytes = bytes; start = Some entry; base = base; ended = true } in
    let fine : IsFine 5 0 word = record {
      small = omega arith;
      offsets = omega arith;
      few = omega arith;
      fits = fits_front (entry / 65536 / 256) (entry / 65536 % 256 ∷ entry % 65536 / 256 ∷ entry % 65536 % 256 ∷ []) (omega arith)
          (fits_front (entry / 65536 % 256) (entry % 65536 / 256 ∷ entry % 65536 % 256 ∷ []) (omega arith)
          (fits_front (entry % 65536 / 256) (entry % 65536 % 256 ∷ []) (omega arith)
          (fits_front (entry % 65536 % 256) [] (omega arith) (λ k. omega arith))));
    } in
    taken 5 0 word (record_line 1 0 []) n (reading base bytes) started fine refl (ap (after_command (reading base bytes) (record_bytes 5 0 word)) (start_command entry))
    ∙ ap (λ t. meaning_from (n + 1) started (lines_of t)) (sym (append-nil (record_line 1 0 [])))
    ∙ taken 1 0 [] [] (n + 1) started ended (record { small = omega arith; offsets = omega arith; few = omega arith; fits = λ k. omega arith }) refl (ap (after_command started (record_bytes 1 0 [])) end_command)
    ∙ text_ended (n + 1 + 1) ended [] refl refl

-- THE round trip
pub text_means : (ranges : List Range) (entry : ℕ) → AllByRecursion IsRange ranges → AscendsFrom 0 (bytes_of ranges) → entry < 2 ^ 32 → hex_meaning (text_of_ranges ranges entry) ≡ Ok (record { bytes = bytes_of ranges; start = Some entry })
unfolding text_of_ranges
text_means ranges entry good ascends small =
    let A : List (ℕ × ℕ) → Type 0 = AscendsFrom 0 in
    text_read (record { bytes = bytes_of ranges; start = Some entry }) 0 (cuts ranges) None 0 [] (last_lines entry) tt (cuts_chunks ranges good) (subst A (sym (cuts_bytes ranges)) ascends)
    (λ n b. ap (λ all. meaning_from n (reading b all) (lines_of (last_lines entry))) (cuts_bytes ranges) ∙ last_read (bytes_of ranges) entry small n b) 1

-- the ranges of a file
take_fits : (size : ℕ) (bytes : List ℕ) → IsBytes bytes → IsBytes (take size bytes)
take_fits zero bytes fits k = omega arith
take_fits (suc size) [] fits k = omega arith
take_fits (suc size) (byte ∷ bytes) fits zero = fits 0
take_fits (suc size) (byte ∷ bytes) fits (suc k) = take_fits size bytes (λ i. fits (suc i)) k

drop_fits : (skip : ℕ) (bytes : List ℕ) → IsBytes bytes → IsBytes (drop skip bytes)
drop_fits zero bytes fits = fits
drop_fits (suc skip) [] fits = fits
drop_fits (suc skip) (byte ∷ bytes) fits = drop_fits skip bytes (λ i. fits (suc i))

part_fits : (out : Bool) (bytes : List ℕ) → IsBytes bytes → IsBytes (unwrap_or (if out then None else Some bytes) [])
part_fits true bytes fits = λ k. omega arith
part_fits false bytes fits = fits

module _ (file : List ℕ) (file_fits : IsBytes file) where
  segment_fits : (s : Segment) → IsBytes (file_bytes_of file s)
  unfolding bytes_at
  segment_fits s = part_fits (leaves file s.offset s.filesz) (take s.filesz (drop s.offset file)) (take_fits s.filesz (drop s.offset file) (drop_fits s.offset file file_fits))

  pub ranges_good : (loads : List Segment) → AllByRecursion (λ s. s.load_address + s.filesz ≤ 2 ^ 32) loads → AllByRecursion IsRange (ranges_of file loads)
  ranges_good [] bounded = tt
  ranges_good (s ∷ loads) bounded =
      (record { within = omega (arith, bounded.0, few_bytes file s); fits = segment_fits s }, ranges_good loads bounded.1)
