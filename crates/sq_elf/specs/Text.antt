-- Text: from the least address of an executable section to the greatest end of one.
use Rattle.std.specs.Prelude.{◌≡◌, ◌<◌, ◌≤◌, ℕ, zero, suc, ◌+◌, ◌-◌, ◌%◌, Bool, not, ◌&&◌, ◌||◌, nat_eq, nat_lt, nat_le, min, max, bit_and, if◌then◌else◌, List, Option}
use Rattle.std.specs.Option.{is_some, unwrap_or}
use Rattle.sq_num.specs.Refusals.{first_from}
use Rattle.sq_elf.specs.declared.segment.Segment.{Segment}
use Rattle.sq_elf.specs.declared.section.Section.{Section}
use Rattle.sq_elf.specs.declared.text.Text.{Text}
use Rattle.sq_elf.specs.Headers.{phnum_of, shnum_of, is_load, segment_of, section_of}
use Rattle.sq_elf.specs.Ranges.{meets, lies_in}

-- flags ALLOC and EXECINSTR, and size above 0
abbrev pub is_executable : Section → Bool
is_executable s = nat_eq (bit_and s.flags 6) 6 && nat_lt 0 s.size

-- flag ALLOC, and size above 0
abbrev pub is_allocated : Section → Bool
is_allocated s = nat_eq (bit_and s.flags 2) 2 && nat_lt 0 s.size

abbrev pub is_executable_at : List ℕ → ℕ → Bool
is_executable_at bytes index = is_executable (section_of bytes index)

-- the text with an executable section more
abbrev pub widened : Text → Section → Text
widened text s =
    if is_executable s then record { lo = min text.lo s.address; hi = max text.hi (s.address + s.size) } else text

-- no text yet: no address is above `lo`, and none below `hi`
abbrev pub no_text : Text
no_text = record { lo = 0xffffffff; hi = 0 }

-- the text of the first so many sections
unfoldable pub text_before : List ℕ → ℕ → Text
text_before bytes zero = no_text
text_before bytes (suc count) = widened (text_before bytes count) (section_of bytes count)

-- THE text range of a file
abbrev pub text_of : List ℕ → Text
text_of bytes = text_before bytes (shnum_of bytes)

-- the address is in text
abbrev pub is_in_text : Text → ℕ → Bool
is_in_text text address = nat_le text.lo address && nat_lt address text.hi

-- a segment with PF_X whose file bytes hold the section whole
abbrev pub holds : Segment → Section → Bool
holds segment s = nat_eq (bit_and segment.flags 1) 1 && lies_in s.address s.size segment.address segment.filesz

abbrev pub holds_at : List ℕ → Section → ℕ → Bool
holds_at bytes s index = is_load bytes index && holds (segment_of bytes index) s

-- the PT_LOAD with PF_X whose file bytes hold the section whole
abbrev pub holder_of : List ℕ → Section → Option ℕ
holder_of bytes s = first_from (holds_at bytes s) 0 (phnum_of bytes)

-- an executable section that is not PROGBITS, not of whole words, or not in the file bytes of one
-- PT_LOAD with PF_X
abbrev pub is_bad_text_section : List ℕ → ℕ → Bool
is_bad_text_section bytes index =
    let s : Section = section_of bytes index in
    is_executable s && (not (nat_eq s.kind 1) || not (nat_eq (s.address % 4) 0) || not (nat_eq (s.size % 4) 0) || not (is_some (holder_of bytes s)))

-- the first executable section
abbrev pub first_executable : List ℕ → Option ℕ
first_executable bytes = first_from (is_executable_at bytes) 0 (shnum_of bytes)

-- the text segment: the one that holds the first executable section (0 where there is none)
abbrev pub text_segment_of : List ℕ → ℕ
text_segment_of bytes = unwrap_or (holder_of bytes (section_of bytes (unwrap_or (first_executable bytes) 0))) 0

-- an executable section that is not in the text segment, or another ALLOC section that meets text
abbrev pub splits : List ℕ → Text → ℕ → ℕ → Bool
splits bytes text segment index =
    let s : Section = section_of bytes index in
    if is_executable s then not (holds_at bytes s segment) else (is_allocated s && meets s.address s.size text.lo (text.hi - text.lo))

-- a word of text: an address in it that is a multiple of 4
abbrev pub is_text_word : Text → ℕ → Bool
is_text_word text address = is_in_text text address && nat_eq (address % 4) 0

-- the text lies in the file bytes of the segment, in whole words, and is not empty
pub record IsTextIn (segment : Segment) (text : Text) : Type 0 where
  pub low : segment.address ≤ text.lo
  pub high : text.hi ≤ segment.address + segment.filesz
  pub some : text.lo < text.hi
  pub low_word : text.lo % 4 ≡ 0
  pub high_word : text.hi % 4 ≡ 0
