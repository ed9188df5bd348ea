-- What is asked of program headers.
use Rattle.std.specs.Prelude.{ℕ, ◌+◌, ◌^◌, Bool, ◌&&◌, ◌||◌, nat_eq, nat_lt, if◌then◌else◌, List}
use Rattle.std.specs.Option.{is_some}
use Rattle.sq_num.specs.Refusals.{first_from}
use Rattle.sq_elf.specs.declared.segment.Segment.{Segment}
use Rattle.sq_elf.specs.Headers.{kind_of, is_load, segment_of}
use Rattle.sq_elf.specs.Ranges.{leaves, meets}

-- the file bytes of a PT_LOAD leave the file
abbrev pub is_outside : List ℕ → ℕ → Bool
is_outside bytes index = is_load bytes index && leaves bytes (segment_of bytes index).offset (segment_of bytes index).filesz

-- more bytes in the file than in memory, or `vaddr + memsz` or `paddr + filesz` above 2^32
abbrev pub is_misshapen : Segment → Bool
is_misshapen s = nat_lt s.memsz s.filesz || nat_lt (2 ^ 32) (s.address + s.memsz) || nat_lt (2 ^ 32) (s.load_address + s.filesz)

abbrev pub is_bad_segment : List ℕ → ℕ → Bool
is_bad_segment bytes index = is_load bytes index && is_misshapen (segment_of bytes index)

-- PT_DYNAMIC, PT_INTERP or PT_TLS
abbrev pub is_refused_kind : List ℕ → ℕ → Bool
is_refused_kind bytes index = nat_eq (kind_of bytes index) 2 || nat_eq (kind_of bytes index) 3 || nat_eq (kind_of bytes index) 7

-- the size of the load copy: the file bytes at paddr, where it is not vaddr
abbrev pub copy_size : Segment → ℕ
copy_size s = if nat_eq s.load_address s.address then 0 else s.filesz

-- memsz bytes at vaddr meet the load copy of another
abbrev pub meets_copy : Segment → Segment → Bool
meets_copy s other = meets s.address s.memsz other.load_address (copy_size other)

-- a range of one meets a range of the other: memsz bytes at vaddr, and the load copy
abbrev pub overlaps : Segment → Segment → Bool
overlaps s other =
    meets s.address s.memsz other.address other.memsz || meets_copy s other || meets_copy other s
    || meets s.load_address (copy_size s) other.load_address (copy_size other)

-- PT_LOAD `earlier` overlaps PT_LOAD `index`
abbrev pub overlaps_at : List ℕ → ℕ → ℕ → Bool
overlaps_at bytes index earlier = is_load bytes earlier && overlaps (segment_of bytes index) (segment_of bytes earlier)

-- a range of this PT_LOAD meets its own other range, or one of an earlier PT_LOAD
abbrev pub is_overlapping : List ℕ → ℕ → Bool
is_overlapping bytes index =
    is_load bytes index && (meets_copy (segment_of bytes index) (segment_of bytes index) || is_some (first_from (overlaps_at bytes index) 0 index))
