-- The bytes of a segment, and of a word in it, as they stand in the file.
use Rattle.std.proofs.Common.{◌≡◌, ℕ, zero, suc, ◌+◌, ◌-◌, ◌^◌, ◌≤◌, ◌<◌, nat_le, nat_lt, true, false, ◌||◌, List, [], ◌∷◌, ◌++◌, length, take, drop, replicate, Some, None, slice_get, refl, ap, ◌∙◌, arith}
use Rattle.std.specs.List.{AllByRecursion}
use Rattle.std.proofs.lemmas.List.{length-take-le, length-drop, length-append, length-replicate}
use Rattle.std.proofs.lemmas.Bool.Decides.{nat_tests}
use Rattle.byteorder.specs.Endian.{little_number, little_bytes}
use Rattle.std.proofs.lemmas.Bool.{or_parts}
use Rattle.sq_isa.specs.Accesses.{bytes_number}
use Rattle.sq_elf.specs.declared.segment.Segment.{Segment}
use Rattle.sq_elf.specs.Fields.{u32_field}
use Rattle.sq_elf.specs.Headers.{phnum_of, is_load, segment_of}
use Rattle.sq_elf.specs.Ranges.{leaves, bytes_at}
use Rattle.sq_elf.specs.Segments.{is_misshapen, is_bad_segment}
use Rattle.sq_elf.specs.Memory.{file_bytes_of}
use Rattle.sq_elf.specs.Refusing.{program_table, section_table, file_bytes, bad_segment, segment_kind, segment_overlap, file_refusal_of}
use Rattle.sq_elf.proofs.Accepted.{tables_accepted, segments_accepted}
use Rattle.sq_elf.proofs.Passing.{row_passes, behind_row}
use Rattle.sq_elf.proofs.TextFacts.{second_false}

-- COMPARISONS

pub le_is : (a b : ℕ) → a ≤ b → nat_le a b ≡ true
le_is a b h = grind (arith, nat_tests)

pub lt_is : (a b : ℕ) → a < b → nat_lt a b ≡ true
lt_is a b h = grind (arith, nat_tests)

-- LISTS OF BYTES

pub front_byte : (xs ys : List ℕ) (i : ℕ) → i < length xs → slice_get (xs ++ ys) i ≡ slice_get xs i
front_byte [] ys i h = absurd (let f : i < 0 = h in omega arith)
front_byte (x ∷ xs) ys zero h = refl
front_byte (x ∷ xs) ys (suc i) h = front_byte xs ys i (let f : suc i < suc (length xs) = h in omega arith)

pub taken_byte : (n : ℕ) (xs : List ℕ) (i : ℕ) → i < n → slice_get (take n xs) i ≡ slice_get xs i
taken_byte zero xs i h = absurd (omega (arith, h))
taken_byte (suc n) [] i h = refl
taken_byte (suc n) (x ∷ xs) zero h = refl
taken_byte (suc n) (x ∷ xs) (suc i) h = taken_byte n xs i (omega (arith, h))

pub dropped_byte : (n : ℕ) (xs : List ℕ) (i : ℕ) → slice_get (drop n xs) i ≡ slice_get xs (n + i)
dropped_byte zero xs i = let same : i ≡ 0 + i = omega arith in ap (slice_get xs) same
dropped_byte (suc n) [] i = refl
dropped_byte (suc n) (x ∷ xs) i = let same : suc (n + i) ≡ suc n + i = omega arith in dropped_byte n xs i ∙ ap (slice_get (x ∷ xs)) same

-- these bytes, and then zeros up to a length
abbrev pub filled : ℕ → List ℕ → List ℕ
filled n xs = xs ++ replicate (n - length xs) 0

pub filled_length : (n : ℕ) (xs : List ℕ) → length xs ≤ n → length (filled n xs) ≡ n
filled_length n xs h = length-append xs (replicate (n - length xs) 0) ∙ ap (λ m. length xs + m) (length-replicate (n - length xs) 0) ∙ omega arith

-- WORDS

-- byte k of the number of four bytes
bytes_back : (a b c d k : ℕ) (rest : List ℕ) → a < 256 → b < 256 → c < 256 → d < 256 → k < 4 → slice_get (little_bytes 4 (little_number 4 (a ∷ b ∷ c ∷ d ∷ rest))) k ≡ slice_get (a ∷ b ∷ c ∷ d ∷ rest) k
bytes_back a b c d zero rest e f g h l = ap Some (omega arith)
bytes_back a b c d (suc zero) rest e f g h l = ap Some (omega arith)
bytes_back a b c d (suc (suc zero)) rest e f g h l = ap Some (omega arith)
bytes_back a b c d (suc (suc (suc zero))) rest e f g h l = ap Some (omega arith)
bytes_back a b c d (suc (suc (suc (suc k)))) rest e f g h l = absurd (omega (arith, l))

pub word_bytes : (xs : List ℕ) (k : ℕ) → AllByRecursion (λ b. b < 256) xs → 4 ≤ length xs → k < 4 → slice_get (little_bytes 4 (little_number 4 xs)) k ≡ slice_get xs k
word_bytes [] k s h l = absurd (let f : 4 ≤ 0 = h in omega arith)
word_bytes (a ∷ []) k s h l = absurd (let f : 4 ≤ 1 = h in omega arith)
word_bytes (a ∷ b ∷ []) k s h l = absurd (let f : 4 ≤ 2 = h in omega arith)
word_bytes (a ∷ b ∷ c ∷ []) k s h l = absurd (let f : 4 ≤ 3 = h in omega arith)
word_bytes (a ∷ b ∷ c ∷ d ∷ rest) k s h l = bytes_back a b c d k rest s.0 s.1.0 s.1.1.0 s.1.1.1.0 l

-- the number of the first four bytes
pub first_number : (xs : List ℕ) → 4 ≤ length xs → bytes_number (take 4 xs) ≡ little_number 4 xs
first_number [] h = absurd (let f : 4 ≤ 0 = h in omega arith)
first_number (a ∷ []) h = absurd (let f : 4 ≤ 1 = h in omega arith)
first_number (a ∷ b ∷ []) h = absurd (let f : 4 ≤ 2 = h in omega arith)
first_number (a ∷ b ∷ c ∷ []) h = absurd (let f : 4 ≤ 3 = h in omega arith)
first_number (a ∷ b ∷ c ∷ d ∷ rest) h = refl

pub field_is : (bytes : List ℕ) (at : ℕ) → at + 4 ≤ length bytes → u32_field bytes at ≡ little_number 4 (drop at bytes)
unfolding u32_field
field_is bytes at h = rw (le_is (at + 4) (length bytes) h) refl

-- SEGMENTS

not_less : (a b : ℕ) → nat_lt a b ≡ false → b ≤ a
not_less a b e = grind (arith, nat_tests)

stays_in : (bytes : List ℕ) (offset size : ℕ) → leaves bytes offset size ≡ false → 0 < size → offset + size ≤ length bytes
stays_in bytes offset size e some = not_less (length bytes) (offset + size) (second_false (nat_lt 0 size) (nat_lt (length bytes) (offset + size)) e (lt_is 0 size some))

-- so many bytes from a place on
part_length : (bytes : List ℕ) (offset size : ℕ) → (0 < size → offset + size ≤ length bytes) → length (take size (drop offset bytes)) ≡ size
part_length bytes offset zero h = refl
part_length bytes offset (suc size) h =
    let e : length (drop offset bytes) ≡ length bytes - offset = length-drop offset bytes in
    let f : offset + suc size ≤ length bytes = h (omega arith) in
    length-take-le (suc size) (drop offset bytes) (omega arith)

module _ (bytes : List ℕ) (accepted : file_refusal_of bytes ≡ None) (index : ℕ) (within : index < phnum_of bytes) (load : is_load bytes index ≡ true) where
  abbrev segment : Segment
  segment = segment_of bytes index

  stays : leaves bytes segment.offset segment.filesz ≡ false
  stays =
      second_false (is_load bytes index) (leaves bytes segment.offset segment.filesz)
      (row_passes (file_bytes bytes) []
      (behind_row (section_table bytes) (file_bytes bytes ∷ [])
      (behind_row (program_table bytes) (section_table bytes ∷ file_bytes bytes ∷ []) (tables_accepted bytes accepted))) index within)
      load

  pub in_file : 0 < segment.filesz → segment.offset + segment.filesz ≤ length bytes
  in_file = stays_in bytes segment.offset segment.filesz stays

  bytes_are : file_bytes_of bytes segment ≡ take segment.filesz (drop segment.offset bytes)
  unfolding bytes_at
  bytes_are = rw stays refl

  pub bytes_length : length (file_bytes_of bytes segment) ≡ segment.filesz
  bytes_length = ap length bytes_are ∙ part_length bytes segment.offset segment.filesz in_file

  -- a file byte of the segment
  pub segment_byte : (i : ℕ) → i < segment.filesz → slice_get (file_bytes_of bytes segment) i ≡ slice_get bytes (segment.offset + i)
  segment_byte i h =
      ap (λ xs. slice_get xs i) bytes_are ∙ taken_byte segment.filesz (drop segment.offset bytes) i h ∙ dropped_byte segment.offset bytes i

  pub filled_byte : (n i : ℕ) → i < segment.filesz → slice_get (filled n (file_bytes_of bytes segment)) i ≡ slice_get bytes (segment.offset + i)
  filled_byte n i h =
      let e = bytes_length in
      front_byte (file_bytes_of bytes segment) (replicate (n - length (file_bytes_of bytes segment)) 0) i (omega (arith, e, h)) ∙ segment_byte i h

  pub whole : segment.filesz ≤ segment.memsz
  whole =
      let good : is_bad_segment bytes index ≡ false = row_passes (bad_segment bytes) (segment_kind bytes ∷ segment_overlap bytes ∷ []) (segments_accepted bytes accepted) index within in
      let shaped = second_false (is_load bytes index) (is_misshapen segment) good load in
      let ends = or_parts (nat_lt segment.memsz segment.filesz || nat_lt (2 ^ 32) (segment.address + segment.memsz)) (nat_lt (2 ^ 32) (segment.load_address + segment.filesz)) shaped in
      not_less segment.memsz segment.filesz (or_parts (nat_lt segment.memsz segment.filesz) (nat_lt (2 ^ 32) (segment.address + segment.memsz)) ends.0).0
