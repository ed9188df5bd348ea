-- Where arguments stand, and how much room they take.
use Rattle.std.proofs.Common.{◌≡◌, ℕ, suc, ◌+◌, ◌-◌, ◌*◌, ◌/◌, ◌%◌, ◌≤◌, List, [], ◌∷◌, ◌++◌, length, drop, replicate, Some, refl, ap, ◌∙◌, sym, arith, length-append, append_assoc}
use Rattle.std.specs.List.{slice_get}
use Rattle.std.proofs.lemmas.List.{drop_more, length-replicate, replicate-append-replicate}
use Rattle.std.proofs.lemmas.List.Concat.{flat_map-append}
use Rattle.std.proofs.lemmas.Option.{slice_get_within, get_or_from_slice_get}
use Rattle.byteorder.specs.Endian.{little_bytes}
use Rattle.sq_system.specs.Starts.{Start, StartFits, HasRoom, area_room, word_room, argument_bytes, addresses_from, arguments_at, word_bytes, ram_end, stack_pointer, argument_area, argument_words, ram_at_start}

-- the element at a place, and those behind it
pub drop_from_get : {X : Type 0} (xs : List X) (i : ℕ) (x : X) → slice_get xs i ≡ Some x → drop i xs ≡ x ∷ drop (i + 1) xs
drop_from_get xs i x found =
    drop_more xs i x (slice_get_within xs i x found)
    ∙ ap (λ y. y ∷ drop (i + 1) xs) (get_or_from_slice_get xs i x x found)

-- what these arguments and their addresses take
abbrev pub taken : List (List ℕ) → ℕ
taken arguments = 4 * length arguments + length (argument_bytes arguments)

-- one argument takes its bytes, a zero byte and an address
pub taken-cons : (argument : List ℕ) (rest : List (List ℕ)) → taken (argument ∷ rest) ≡ length argument + 5 + taken rest
taken-cons argument rest = rw (length-append argument (0 ∷ argument_bytes rest)) (omega arith)

-- what RAM has room for is what is not below the base
room_below : (base size words bytes : ℕ) → base % 16 ≡ 0 → words + bytes ≤ base + size → base ≤ (base + size - bytes - words) / 16 * 16 → words + bytes ≤ size
room_below base size words bytes multiple fits above = omega arith

pub room_from_start : (start : Start) → StartFits start.base start.size → HasRoom start → area_room start ≤ start.size
room_from_start start fits room =
    room_below start.base start.size (word_room start) (length (argument_bytes start.arguments)) fits.base_multiple room.above_zero room.above_base

-- with `room` bytes to spare, the stack pointer is those down to a multiple of 16 above the base
pointer_from_room : (base size words bytes room : ℕ) → base % 16 ≡ 0 → room + (words + bytes) ≡ size → (base + size - bytes - words) / 16 * 16 + room % 16 ≡ base + room
pointer_from_room base size words bytes room multiple spare =
    let left : base + size - bytes - words ≡ base + room = omega arith in rw left (omega arith)

pub stack_pointer-room : (start : Start) (room : ℕ) → StartFits start.base start.size → room + area_room start ≡ start.size → stack_pointer start + room % 16 ≡ start.base + room
stack_pointer-room start room fits spare =
    pointer_from_room start.base start.size (word_room start) (length (argument_bytes start.arguments)) room fits.base_multiple spare

-- the parts of an area, as they are appended
abbrev pub area_parts : ℕ → ℕ → ℕ → List (List ℕ) → List ℕ
area_parts count first zeros arguments =
    little_bytes 4 count ++ word_bytes (addresses_from first arguments) ++ replicate zeros 0 ++ argument_bytes arguments

argument_words-bytes : (start : Start) →
    word_bytes (argument_words start)
    ≡ little_bytes 4 (length start.arguments) ++ word_bytes (addresses_from (arguments_at start) start.arguments) ++ replicate 8 0
argument_words-bytes start =
    flat_map-append (little_bytes 4) (length start.arguments ∷ addresses_from (arguments_at start) start.arguments) (0 ∷ 0 ∷ [])

first_from_room : (base size words bytes room : ℕ) → room + (words + bytes) ≡ size → base + size - bytes ≡ base + room + words
first_from_room base size words bytes room spare = omega arith

gap_from_room : (first pointer words base room : ℕ) → first ≡ base + room + words → pointer + room % 16 ≡ base + room → first - (pointer + words) ≡ room % 16
gap_from_room first pointer words base room stands rounded = omega arith

argument_area-parts : (start : Start) (room : ℕ) → StartFits start.base start.size → room + area_room start ≡ start.size →
    argument_area start ≡ area_parts (length start.arguments) (start.base + room + word_room start) (8 + room % 16) start.arguments
unfolding argument_area
argument_area-parts start room fits spare =
    let first : arguments_at start ≡ start.base + room + word_room start = first_from_room start.base start.size (word_room start) (length (argument_bytes start.arguments)) room spare in
    let gap : arguments_at start - (stack_pointer start + word_room start) ≡ room % 16 = gap_from_room (arguments_at start) (stack_pointer start) (word_room start) start.base room first (stack_pointer-room start room fits spare) in
    let front : ℕ → List ℕ = λ at. little_bytes 4 (length start.arguments) ++ word_bytes (addresses_from at start.arguments) in
    let bytes = argument_bytes start.arguments in
    ap (λ words. words ++ replicate (arguments_at start - (stack_pointer start + word_room start)) 0 ++ bytes) (argument_words-bytes start)
    ∙ ap (λ zeroes. front (arguments_at start) ++ replicate 8 0 ++ replicate zeroes 0 ++ bytes) gap
    ∙ ap (λ part. part ++ bytes) (append_assoc (front (arguments_at start)) (replicate 8 0) (replicate (room % 16) 0))
    ∙ ap (λ zeroes. front (arguments_at start) ++ zeroes ++ bytes) (replicate-append-replicate 8 (room % 16) 0)
    ∙ ap (λ at. front at ++ replicate (8 + room % 16) 0 ++ bytes) first

length-addresses_from : (first : ℕ) (arguments : List (List ℕ)) → length (addresses_from first arguments) ≡ length arguments
length-addresses_from first [] = refl
length-addresses_from first (argument ∷ rest) = ap suc (length-addresses_from (first + length argument + 1) rest)

length-word_bytes : (words : List ℕ) → length (word_bytes words) ≡ 4 * length words
length-word_bytes [] = refl
length-word_bytes (word ∷ rest) =
    rw (length-append (little_bytes 4 word) (word_bytes rest), length-word_bytes rest) (omega arith)

length-area_parts : (count first blank : ℕ) (arguments : List (List ℕ)) →
    length (area_parts count first blank arguments) ≡ 4 + 4 * length arguments + blank + length (argument_bytes arguments)
length-area_parts count first blank arguments =
    let words = word_bytes (addresses_from first arguments) in
    let zeroes : List ℕ = replicate blank 0 in
    let bytes = argument_bytes arguments in
    rw (length-append (words ++ zeroes) bytes, length-append words zeroes, length-replicate {A = ℕ} blank 0, length-word_bytes (addresses_from first arguments), length-addresses_from first arguments) (omega arith)

end_from_room : (base size count bytes room pointer : ℕ) → room + (4 * (count + 3) + bytes) ≡ size → pointer + room % 16 ≡ base + room →
    pointer + (4 + 4 * count + (8 + room % 16) + bytes) ≡ base + size
end_from_room base size count bytes room pointer spare rounded = omega arith

same_length : (pointer base size area : ℕ) → base ≤ pointer → pointer + area ≡ base + size → pointer - base + area ≡ size
same_length pointer base size area below ends = omega arith

-- the area ends at the end of RAM
pub argument_area-ends : (start : Start) → StartFits start.base start.size → HasRoom start → stack_pointer start + length (argument_area start) ≡ ram_end start
argument_area-ends start fits room =
    let left = start.size - area_room start in
    let fit = room_from_start start fits room in
    let spare : left + area_room start ≡ start.size = omega (arith, fit) in
    rw (argument_area-parts start left fits spare, length-area_parts (length start.arguments) (start.base + left + word_room start) (8 + left % 16) start.arguments)
    (end_from_room start.base start.size (length start.arguments) (length (argument_bytes start.arguments)) left (stack_pointer start) spare (stack_pointer-room start left fits spare))

-- RAM at a start has its size
pub length-ram_at_start : (start : Start) → StartFits start.base start.size → HasRoom start → length (ram_at_start start) ≡ start.size
length-ram_at_start start fits room =
    let ends = argument_area-ends start fits room in
    let below = room.above_base in
    rw (length-append (replicate {A = ℕ} (stack_pointer start - start.base) 0) (argument_area start), length-replicate {A = ℕ} (stack_pointer start - start.base) 0)
    (same_length (stack_pointer start) start.base start.size (length (argument_area start)) below ends)

-- the parts that are appended one behind another to what stood there are the area
pub area_appended : (start : Start) (room count first : ℕ) (old : List ℕ) → StartFits start.base start.size → room + area_room start ≡ start.size →
    count ≡ length start.arguments → first ≡ start.base + room + 4 * (count + 3) →
    old ++ little_bytes 4 count ++ word_bytes (addresses_from first start.arguments) ++ replicate (8 + room % 16) 0 ++ argument_bytes start.arguments
    ≡ old ++ argument_area start
area_appended start room count first old fits spare counted placed =
    let at : first ≡ start.base + room + word_room start = rw placed (ap (λ n. start.base + room + 4 * (n + 3)) counted) in
    let words = word_bytes (addresses_from first start.arguments) in
    let zeroes : List ℕ = replicate (8 + room % 16) 0 in
    let bytes = argument_bytes start.arguments in
    rw (append_assoc old (little_bytes 4 count) words, append_assoc old (little_bytes 4 count ++ words) zeroes, append_assoc old (little_bytes 4 count ++ words ++ zeroes) bytes)
    (ap (λ area. old ++ area) (
    ap (λ n. area_parts n first (8 + room % 16) start.arguments) counted
    ∙ ap (λ n. area_parts (length start.arguments) n (8 + room % 16) start.arguments) at ∙ sym (argument_area-parts start room fits spare)))

below_pointer : (pointer base room : ℕ) → pointer + room % 16 ≡ base + room → room - room % 16 ≡ pointer - base
below_pointer pointer base room rounded = omega arith

-- the area behind so many zeros is RAM at the start
pub ram_laid : (start : Start) (room : ℕ) → StartFits start.base start.size → room + area_room start ≡ start.size →
    replicate (room - room % 16) 0 ++ argument_area start ≡ ram_at_start start
ram_laid start room fits spare =
    ap (λ n. replicate n 0 ++ argument_area start) (below_pointer (stack_pointer start) start.base room (stack_pointer-room start room fits spare))
