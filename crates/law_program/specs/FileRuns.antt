-- Runs of files under the monitor. p is the program of the file.
use Rattle.std.specs.Prelude.{ℕ, suc, ◌+◌, ◌-◌, ◌%◌, ◌==◌, List, [], ◌∷◌, ◌++◌, length, replicate, map, Option, Some, None, if◌then◌else◌, nat_lt}
use Rattle.std.specs.Option.{option_map}
use Rattle.std.specs.List.{flat_map}
use Rattle.law_runs.specs.Runs.{Trace, trace, IsUnbroken}
use Rattle.sq_system.specs.Starts.{Start}
use Rattle.sq_system.specs.World.{World as Layout}
use Rattle.sq_system.specs.declared.event.Event.{Event}
use Rattle.sq_system.specs.declared.event.Halt.{Halt}
use Rattle.sq_elf.specs.declared.segment.Segment.{Segment}
use Rattle.sq_elf.specs.Memory.{MemoryPiece, own_piece, copy_piece, segments_of}
use Rattle.sq_elf.specs.Segments.{copy_size}
use Rattle.sq_reloc.specs.declared.mark.CodeWord.{CodeWord}
use Rattle.sq_reloc.specs.Outside.{is_stale, word_start}
use Rattle.law_follow.specs.Worlds.{StartByte, Given, OfWord, StaleByte, StartPiece, World, layout_of, core_at_start}
use Rattle.law_program.specs.Programs.{Program, end_of, target_of}
use Rattle.law_program.specs.Monitored.{Watched, monitored_step}

-- the number of the code word at an address
abbrev pub code_word_number : List CodeWord → ℕ → Option ℕ
code_word_number [] x = None
code_word_number (word ∷ words) x = if word.at == x then Some 0 else option_map suc (code_word_number words x)

abbrev pub byte_of_word : ℕ → Option ℕ → StartByte → StartByte
byte_of_word k None other = other
byte_of_word k (Some number) other = OfWord number k

abbrev pub stale_or : List ℕ → ℕ → ℕ → StartByte
stale_or bytes x b = if is_stale bytes x then StaleByte else Given b

-- what the byte b at the virtual address x is at the start: byte k of a code word, stale, or itself
abbrev pub start_byte : List ℕ → List CodeWord → ℕ → ℕ → StartByte
start_byte bytes words x b = byte_of_word (x % 4) (code_word_number words (word_start x)) (stale_or bytes x b)

-- these bytes, which stand from the virtual address x on
abbrev pub start_bytes : List ℕ → List CodeWord → ℕ → List ℕ → List StartByte
start_bytes bytes words x [] = []
start_bytes bytes words x (b ∷ rest) = start_byte bytes words x b ∷ start_bytes bytes words (x + 1) rest

-- a piece of a segment, whose first byte stands at the virtual address x: its file bytes, and then zeros
abbrev pub start_piece : List ℕ → List CodeWord → ℕ → MemoryPiece → StartPiece
start_piece bytes words x p = record {
  piece = record { extent = record { address = p.address; length = p.length }; flags = p.flags };
  bytes = start_bytes bytes words x (p.bytes ++ replicate (p.length - length p.bytes) 0);
}

-- a load copy starts with what stands at the virtual addresses
abbrev pub segment_pieces : List ℕ → List CodeWord → Segment → List StartPiece
segment_pieces bytes words s =
    start_piece bytes words s.address (own_piece bytes s)
    ∷ (if nat_lt 0 (copy_size s) then start_piece bytes words s.address (copy_piece bytes s) ∷ [] else [])

-- THE world of a file: all that the run of a graph has from it
abbrev pub world_of : List ℕ → Program → World
world_of bytes p = record {
  pieces = flat_map (segment_pieces bytes p.code_words) (segments_of bytes);
  lo = p.text.lo;
  hi = end_of p.text;
  code_words = length p.code_words;
}

-- the start of the monitored run of a program over a world: pc is the entry, and the code words hold their targets
abbrev pub watched_start : World → Program → Start → Watched
watched_start w p start = record { pc = p.entry; core = core_at_start w (map target_of p.code_words) start }

abbrev pub watched_layout : List ℕ → Program → Start → Layout
watched_layout bytes p start = layout_of (world_of bytes p) start

-- THE monitored trace of a file: the events of the first n steps, and Running, the halt, or a break
abbrev pub monitored_trace : List ℕ → Program → Start → ℕ → Trace Event Halt
monitored_trace bytes p start n =
    trace (monitored_step (watched_layout bytes p start) p.text) n (watched_start (world_of bytes p) p start)

-- none of the first n monitored steps is a break
abbrev pub IsUnbrokenRun : List ℕ → Program → Start → ℕ → Type 0
IsUnbrokenRun bytes p start n = IsUnbroken (monitored_trace bytes p start n)
