-- The number of each refusal, the places that its text names, and the text.
use Rattle.std.specs.Prelude.{ℕ, Option, Some, None, List, [], ◌++◌, codes, decimal}
use Rattle.sq_num.specs.Texts.{hex_text}
use Rattle.sq_num.specs.declared.refusal.Refusal.{Refusal}
use Rattle.sq_num.specs.declared.refusal.Refusal.TheVariants.{FileTooLong, NotElf, HeaderField, Flags, TableOutside, BadSegment, SegmentKind, SegmentOverlap, NoText, BadTextSection, TextSplit, TextMoved, TextTooLarge, NoRelocs, BadRelocTable, BadSymbol, UnsupportedReloc, RelocDisagrees, BadEntry, UnsupportedInstruction, BadTarget, FallsOffText, UnrelocatedAuipc, ReadsText, ConflictingReloc, BadNote, LoneHalf, TooLarge}
use Rattle.sq_num.specs.declared.refusal.Place.{Place}
use Rattle.sq_num.specs.declared.refusal.Place.TheVariants.{Hex, Number}

abbrev pub number_of : Refusal → ℕ
number_of FileTooLong = 1
number_of (NotElf offset) = 2
number_of (HeaderField offset) = 3
number_of (Flags value) = 4
number_of (TableOutside table index) = 5
number_of (BadSegment index) = 6
number_of (SegmentKind index kind) = 7
number_of (SegmentOverlap index) = 8
number_of NoText = 9
number_of (BadTextSection section) = 10
number_of (TextSplit section) = 11
number_of (TextMoved index) = 12
number_of (TextTooLarge bytes) = 13
number_of NoRelocs = 14
number_of (BadRelocTable section) = 15
number_of (BadSymbol section entry) = 16
number_of (UnsupportedReloc address kind) = 17
number_of (RelocDisagrees address kind) = 18
number_of (BadEntry address) = 19
number_of (UnsupportedInstruction address word) = 20
number_of (BadTarget address) = 21
number_of (FallsOffText address) = 22
number_of (UnrelocatedAuipc address) = 23
number_of (ReadsText address) = 24
number_of (ConflictingReloc address) = 25
number_of (BadNote entry) = 26
number_of (LoneHalf address) = 27
number_of (TooLarge kind count) = 28

-- addresses, offsets, words and flags are hexadecimal, all other numbers decimal
abbrev pub first_place : Refusal → Option Place
first_place FileTooLong = None
first_place (NotElf offset) = Some (Hex offset)
first_place (HeaderField offset) = Some (Hex offset)
first_place (Flags value) = Some (Hex value)
first_place (TableOutside table index) = Some (Number table)
first_place (BadSegment index) = Some (Number index)
first_place (SegmentKind index kind) = Some (Number index)
first_place (SegmentOverlap index) = Some (Number index)
first_place NoText = None
first_place (BadTextSection section) = Some (Number section)
first_place (TextSplit section) = Some (Number section)
first_place (TextMoved index) = Some (Number index)
first_place (TextTooLarge bytes) = Some (Number bytes)
first_place NoRelocs = None
first_place (BadRelocTable section) = Some (Number section)
first_place (BadSymbol section entry) = Some (Number section)
first_place (UnsupportedReloc address kind) = Some (Hex address)
first_place (RelocDisagrees address kind) = Some (Hex address)
first_place (BadEntry address) = Some (Hex address)
first_place (UnsupportedInstruction address word) = Some (Hex address)
first_place (BadTarget address) = Some (Hex address)
first_place (FallsOffText address) = Some (Hex address)
first_place (UnrelocatedAuipc address) = Some (Hex address)
first_place (ReadsText address) = Some (Hex address)
first_place (ConflictingReloc address) = Some (Hex address)
first_place (BadNote entry) = Some (Number entry)
first_place (LoneHalf address) = Some (Hex address)
first_place (TooLarge kind count) = Some (Number kind)

abbrev pub second_place : Refusal → Option Place
second_place FileTooLong = None
second_place (NotElf offset) = None
second_place (HeaderField offset) = None
second_place (Flags value) = None
second_place (TableOutside table index) = Some (Number index)
second_place (BadSegment index) = None
second_place (SegmentKind index kind) = Some (Number kind)
second_place (SegmentOverlap index) = None
second_place NoText = None
second_place (BadTextSection section) = None
second_place (TextSplit section) = None
second_place (TextMoved index) = None
second_place (TextTooLarge bytes) = None
second_place NoRelocs = None
second_place (BadRelocTable section) = None
second_place (BadSymbol section entry) = Some (Number entry)
second_place (UnsupportedReloc address kind) = Some (Number kind)
second_place (RelocDisagrees address kind) = Some (Number kind)
second_place (BadEntry address) = None
second_place (UnsupportedInstruction address word) = Some (Hex word)
second_place (BadTarget address) = None
second_place (FallsOffText address) = None
second_place (UnrelocatedAuipc address) = None
second_place (ReadsText address) = None
second_place (ConflictingReloc address) = None
second_place (BadNote entry) = None
second_place (LoneHalf address) = None
second_place (TooLarge kind count) = Some (Number count)

abbrev pub place_text : Place → List ℕ
place_text (Hex v) = hex_text v
place_text (Number v) = decimal v

-- each place follows after one space
abbrev pub place_suffix : Option Place → List ℕ
place_suffix None = []
place_suffix (Some place) = codes " " ++ place_text place

-- `refused`, the number and the places, each after one space
unfoldable pub refusal_text : Refusal → List ℕ
refusal_text r = codes "refused " ++ decimal (number_of r) ++ place_suffix (first_place r) ++ place_suffix (second_place r)
