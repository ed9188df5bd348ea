-- What stays of a file around its text: its segments, cut where text was, with each code word set.
use Rattle.std.specs.Prelude.{ℕ, ◌+◌, ◌-◌, ◌%◌, ◌^◌, Bool, nat_eq, nat_lt, nat_le, min, List, [], ◌∷◌, map, filter, take, drop, slice_index, Option, Some, None, if◌then◌else◌}
use Rattle.std.specs.Option.{option_map}
use Rattle.std.specs.List.{find}
use Rattle.byteorder.specs.Endian.{little_bytes}
use Rattle.sq_elf.specs.declared.segment.Segment.{Segment}
use Rattle.sq_elf.specs.Memory.{segments_of, file_bytes_of}
use Rattle.sq_elf.specs.Text.{text_of}
use Rattle.sq_reloc.specs.Outside.{word_start}
use Rattle.sq_graph.specs.Graph.{Graph}
use Rattle.sq_write.specs.Output.{Piece}
use Rattle.sq_write.specs.Points.{new_address}

-- the PT_LOADs of memsz above 0, ascending by address
abbrev pub insert_segment : Segment → List Segment → List Segment
insert_segment s [] = s ∷ []
insert_segment s (t ∷ ts) = if nat_le s.address t.address then s ∷ t ∷ ts else t ∷ insert_segment s ts

abbrev pub by_address : List Segment → List Segment
by_address [] = []
by_address (s ∷ ss) = insert_segment s (by_address ss)

-- the new address in the code word at an address, where there is one
abbrev pub set_word_at : Graph → ℕ → ℕ → Option ℕ
set_word_at g lo at = option_map (λ word. new_address g lo word.block) (find (λ word. nat_eq word.at at) g.code_words)

-- byte k of the word that is set there, or the byte that was there
abbrev pub set_byte : Option ℕ → ℕ → ℕ → ℕ
set_byte None k b = b
set_byte (Some to) k b = slice_index (little_bytes 4 to) k

-- bytes that stand from an address on, with these words set
abbrev pub with_words : (ℕ → Option ℕ) → ℕ → List ℕ → List ℕ
with_words set x [] = []
with_words set x (b ∷ bs) = set_byte (set (word_start x)) (x % 4) b ∷ with_words set (x + 1) bs

-- flags without PF_X, which is bit 0
abbrev pub without_x : ℕ → ℕ
without_x flags = flags - flags % 2

-- `size` bytes of a segment from the place `skip` on. Addresses are modulo 2^32
abbrev pub part_of : List ℕ → (ℕ → Option ℕ) → ℕ → ℕ → Segment → Piece
part_of bytes set skip size s = record {
  address = s.address + skip;
  load_address = (s.load_address + skip) % 2 ^ 32;
  bytes = with_words set (s.address + skip) (take size (drop skip (file_bytes_of bytes s)));
  size = size;
  flags = without_x s.flags;
}

-- what of a segment stands before text, and what behind it. A segment that doesn't meet text is wholly one of them, and
-- the other is empty
abbrev pub part_before : List ℕ → (ℕ → Option ℕ) → Segment → Piece
part_before bytes set s = part_of bytes set 0 (min s.memsz ((text_of bytes).lo - s.address)) s

abbrev pub part_behind : List ℕ → (ℕ → Option ℕ) → Segment → Piece
part_behind bytes set s = part_of bytes set ((text_of bytes).hi - s.address) (s.memsz - ((text_of bytes).hi - s.address)) s

abbrev pub is_some_piece : Piece → Bool
is_some_piece p = nat_lt 0 p.size

-- THE pieces before text and behind it, by address, empty parts left out
abbrev pub pieces_before : List ℕ → (ℕ → Option ℕ) → List Piece
pieces_before bytes set = filter is_some_piece (map (part_before bytes set) (by_address (segments_of bytes)))

abbrev pub pieces_behind : List ℕ → (ℕ → Option ℕ) → List Piece
pieces_behind bytes set = filter is_some_piece (map (part_behind bytes set) (by_address (segments_of bytes)))
