-- Types of relocation entries, by the numbers of the RISC-V ELF psABI, and the bytes that an entry touches.
use Rattle.std.specs.Prelude.{ℕ, ◌+◌, Bool, ◌&&◌, ◌||◌, nat_eq, nat_lt, nat_le, if◌then◌else◌}
use Rattle.sq_elf.specs.Ranges.{meets}
use Rattle.sq_reloc.specs.declared.entry.Entry.{Entry}

-- NONE 0, ALIGN 43 and RELAX 51 are told to the linker alone: in a linked file their entries are ignored
abbrev pub is_ignored : ℕ → Bool
is_ignored kind = nat_eq kind 0 || nat_eq kind 43 || nat_eq kind 51

-- the types that are accepted outside text: 32 1 and 64 2; ADD8, ADD16, ADD32, ADD64 33 to 36 and SUB8, SUB16,
-- SUB32, SUB64 37 to 40; SUB6 52, SET6 53, SET8, SET16, SET32 54 to 56 and 32_PCREL 57
abbrev pub is_data_kind : ℕ → Bool
is_data_kind kind = nat_eq kind 1 || nat_eq kind 2 || (nat_le 33 kind && nat_le kind 40) || (nat_le 52 kind && nat_le kind 57)

-- CALL and CALL_PLT: an upper half at the offset, and `jalr` behind it
abbrev pub is_call : ℕ → Bool
is_call kind = nat_eq kind 18 || nat_eq kind 19

-- PCREL_LO12_I and PCREL_LO12_S
abbrev pub is_paired : ℕ → Bool
is_paired kind = nat_eq kind 24 || nat_eq kind 25

-- the types that are supported in text: BRANCH 16, JAL 17, CALL 18, CALL_PLT 19; PCREL_HI20 23, PCREL_LO12_I 24,
-- PCREL_LO12_S 25, HI20 26, LO12_I 27, LO12_S 28
abbrev pub is_text_kind : ℕ → Bool
is_text_kind kind = (nat_le 16 kind && nat_le kind 19) || (nat_le 23 kind && nat_le kind 28)

-- how many bytes an entry touches, from its offset on: a call eight and the other types of text four; outside text
-- what the type's name says; a type that is in neither list its first byte alone
unfoldable pub width_of : ℕ → ℕ
width_of kind =
    if is_call kind then 8 else
    if is_text_kind kind then 4 else
    if nat_eq kind 2 || nat_eq kind 36 || nat_eq kind 40 then 8 else
    if nat_eq kind 1 || nat_eq kind 35 || nat_eq kind 39 || nat_eq kind 56 || nat_eq kind 57 then 4 else
    if nat_eq kind 34 || nat_eq kind 38 || nat_eq kind 55 then 2 else 1

-- the entry touches this byte
abbrev pub touches : Entry → ℕ → Bool
touches e address = nat_le e.offset address && nat_lt address (e.offset + width_of e.kind)

-- the entry touches a byte of the word at the address
abbrev pub touches_word : Entry → ℕ → Bool
touches_word e address = meets e.offset (width_of e.kind) address 4
