-- What a reader of an accepted file answers, as functions of the file's bytes.
use Rattle.std.specs.Prelude.{◌≡◌, ℕ, ◌+◌, ◌-◌, Bool, ◌&&◌, nat_lt, if◌then◌else◌, List, Option, Some, None}
use Rattle.std.specs.Option.{option_map}
use Rattle.sq_num.specs.Refusals.{first_from}
use Rattle.sq_elf.specs.declared.segment.Segment.{Segment}
use Rattle.sq_elf.specs.declared.section.Section.{Section}
use Rattle.sq_elf.specs.declared.text.Text.{Text}
use Rattle.sq_elf.specs.Fields.{u32_field}
use Rattle.sq_elf.specs.Headers.{phnum_of, shnum_of, is_load, segment_of, section_of}
use Rattle.sq_elf.specs.Ranges.{lies_in, bytes_at}
use Rattle.sq_elf.specs.Text.{text_of}
use Rattle.sq_elf.specs.Memory.{AreSegments}
use Rattle.sq_elf.specs.Sizes.{loaded_of}
use Rattle.sq_elf.specs.Refusing.{file_refusal_of}

-- the four bytes at the address are file bytes of PT_LOAD `index`, at its virtual address
abbrev pub has_word : List ℕ → ℕ → ℕ → Bool
has_word bytes address index =
    is_load bytes index && lies_in address 4 (segment_of bytes index).address (segment_of bytes index).filesz

-- the word at an address of a segment
abbrev pub word_in : List ℕ → Segment → ℕ → ℕ
word_in bytes segment address = u32_field bytes (segment.offset + (address - segment.address))

-- the word at an address: none where its four bytes are not all file bytes of one segment
unfoldable pub word_of : List ℕ → ℕ → Option ℕ
word_of bytes address =
    option_map (λ index. word_in bytes (segment_of bytes index) address) (first_from (has_word bytes address) 0 (phnum_of bytes))

-- the section of this number, where there is one
abbrev pub section_at : List ℕ → ℕ → Option Section
section_at bytes index = if nat_lt index (shnum_of bytes) then Some (section_of bytes index) else None

abbrev pub contents_in : List ℕ → Option Section → Option (List ℕ)
contents_in bytes None = None
contents_in bytes (Some section) = bytes_at bytes section.offset section.size

-- the bytes of a section: none where there is no such section, or its bytes leave the file
abbrev pub contents_of : List ℕ → ℕ → Option (List ℕ)
contents_of bytes index = contents_in bytes (section_at bytes index)

-- what a reader keeps of an accepted file
pub record Keeps (bytes : List ℕ) (text : Text) (loaded : ℕ) (segments : List Segment) : Type 0 where
  pub accepted : file_refusal_of bytes ≡ None
  pub text_is : text ≡ text_of bytes
  pub loaded_is : loaded ≡ loaded_of bytes
  pub segments_are : AreSegments bytes segments
