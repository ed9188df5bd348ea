-- What an entry in text asks of its instruction, by the relocation types of the RISC-V ELF psABI. P is the entry's
-- offset, S its symbol's value, A its addend, T = S + A.
use Rattle.std.specs.Prelude.{ℕ, ℤ, ◌+◌, ◌-◌, ◌%◌, ◌^◌, Bool, true, false, ◌&&◌, ◌||◌, nat_eq, if◌then◌else◌, List, Option, Some, None}
use Rattle.std.specs.Option.{option_map, option_and_then}
use Rattle.std.specs.Ordering.{int_eq}
use Rattle.std.specs.Int.{cast_unsigned, w32}
use Rattle.sq_num.specs.Halves.{high_half, low_half}
use Rattle.sq_isa.specs.declared.instructions.Insn.{Insn}
use Rattle.sq_isa.specs.declared.instructions.Insn.TheVariants.{Lui, Auipc, Jal, Jalr, Branch, Load, Store, OpImm}
use Rattle.sq_isa.specs.declared.instructions.ImmOp.TheVariants.{Addi}
use Rattle.sq_isa.specs.Table.{insn_of}
use Rattle.sq_elf.specs.Reading.{word_of}
use Rattle.sq_reloc.specs.declared.entry.Entry.{Entry}
use Rattle.sq_reloc.specs.Entries.{target_of, first_target, entries_of}

-- the instruction at an address of the file
abbrev pub insn_at : List ℕ → ℕ → Option Insn
insn_at bytes address = option_and_then insn_of (word_of bytes address)

-- the address that an offset from an instruction gives, modulo 2^32
abbrev pub reached_from : ℕ → ℤ → ℕ
reached_from address offset = (address + cast_unsigned w32 offset) % 2 ^ 32

-- how far the second address is from the first, modulo 2^32
abbrev pub distance : ℕ → ℕ → ℕ
distance from to = (to + (2 ^ 32 - from)) % 2 ^ 32

-- BRANCH: a conditional branch at P to T
abbrev pub is_branch_to : ℕ → ℕ → Option Insn → Bool
is_branch_to address target (Some (Branch cond a b offset)) = nat_eq (reached_from address offset) target
is_branch_to address target other = false

-- JAL: a `jal` at P to T
abbrev pub is_jal_to : ℕ → ℕ → Option Insn → Bool
is_jal_to address target (Some (Jal rd offset)) = nat_eq (reached_from address offset) target
is_jal_to address target other = false

-- a `lui`, an `auipc` with this upper half
abbrev pub is_lui : ℕ → Option Insn → Bool
is_lui half (Some (Lui rd upper)) = nat_eq upper half
is_lui half other = false

abbrev pub is_auipc : ℕ → Option Insn → Bool
is_auipc half (Some (Auipc rd upper)) = nat_eq upper half
is_auipc half other = false

-- an `addi`, a load or a `jalr` with this lower half
abbrev pub has_low_i : ℤ → Option Insn → Bool
has_low_i half (Some (OpImm Addi rd rs imm)) = int_eq imm half
has_low_i half (Some (Load kind rd rs offset)) = int_eq offset half
has_low_i half (Some (Jalr rd rs offset)) = int_eq offset half
has_low_i half other = false

-- a store with this lower half
abbrev pub has_low_s : ℤ → Option Insn → Bool
has_low_s half (Some (Store kind rs src offset)) = int_eq offset half
has_low_s half other = false

-- an `auipc` with any upper half
abbrev pub adds_pc : Option Insn → Bool
adds_pc (Some (Auipc rd upper)) = true
adds_pc other = false

-- PCREL_HI20
abbrev pub is_upper : Entry → Bool
is_upper e = nat_eq e.kind 23

-- THE upper half of a PCREL_LO12 is the first PCREL_HI20 entry at the address S: its target, where there is one
abbrev pub upper_target : List ℕ → Entry → Option ℕ
upper_target bytes e = first_target is_upper (entries_of bytes) e.value

-- the target of a PCREL_LO12, from that of its upper half; none where its own addend is not 0, or there is no upper half
abbrev pub paired_target : Entry → Option ℕ → Option ℕ
paired_target e upper = if nat_eq e.addend 0 then upper else None

-- the half that goes with the upper half at the address: of its target's distance from there for an `auipc`, else of
-- its target
abbrev pub paired_half : List ℕ → ℕ → ℕ → ℤ
paired_half bytes address target = low_half (if adds_pc (insn_at bytes address) then distance address target else target)

-- the half that a PCREL_LO12 asks for; one that is lone asks for none
abbrev pub asked_half : List ℕ → Entry → Option ℕ → Option ℤ
asked_half bytes e upper = option_map (paired_half bytes e.value) (paired_target e upper)

-- nothing is asked, or what is asked holds
abbrev pub meets_ask : (ℤ → Bool) → Option ℤ → Bool
meets_ask test None = true
meets_ask test (Some half) = test half

-- PCREL_HI20: an `auipc` with the upper half of T - P, or a `lui` with that of T
abbrev pub is_upper_half : List ℕ → ℕ → ℕ → Bool
is_upper_half bytes address target = is_auipc (high_half (distance address target)) (insn_at bytes address) || is_lui (high_half target) (insn_at bytes address)

-- the word of a PCREL_LO12_I, and of a PCREL_LO12_S, is as it asks
abbrev pub meets_low_i : List ℕ → Option ℕ → Entry → Bool
meets_low_i bytes upper e = meets_ask (λ half. has_low_i half (insn_at bytes e.offset)) (asked_half bytes e upper)

abbrev pub meets_low_s : List ℕ → Option ℕ → Entry → Bool
meets_low_s bytes upper e = meets_ask (λ half. has_low_s half (insn_at bytes e.offset)) (asked_half bytes e upper)

-- a `jalr` through this register with this lower half
abbrev pub jumps_by : ℕ → ℤ → Option Insn → Bool
jumps_by register half (Some (Jalr rd rs offset)) = nat_eq rs register && int_eq offset half
jumps_by register half other = false

-- a `jalr` through x0
abbrev pub jumps_through_zero : Option Insn → Bool
jumps_through_zero (Some (Jalr rd rs offset)) = nat_eq rs 0
jumps_through_zero other = false

-- the two instructions of a call: `auipc r` with the halves of T - P, or `lui r` with those of T, and `jalr` through r
abbrev pub is_pair : ℕ → ℕ → Option Insn → Option Insn → Bool
is_pair address target (Some (Auipc r upper)) second =
    nat_eq upper (high_half (distance address target)) && jumps_by r (low_half (distance address target)) second
is_pair address target (Some (Lui r upper)) second = nat_eq upper (high_half target) && jumps_by r (low_half target) second
is_pair address target other second = false

-- an `auipc` or `lui` with any value
abbrev pub loads_upper : Option Insn → Bool
loads_upper (Some (Auipc rd upper)) = true
loads_upper (Some (Lui rd upper)) = true
loads_upper other = false

-- an instruction with a lower half: an `addi`, a load, a `jalr` or a store
abbrev pub takes_low : Option Insn → Bool
takes_low (Some (OpImm Addi rd rs imm)) = true
takes_low (Some (Load kind rd rs offset)) = true
takes_low (Some (Jalr rd rs offset)) = true
takes_low (Some (Store kind rs src offset)) = true
takes_low other = false

-- the call of an undefined weak symbol, whose value is 0: any `auipc` or `lui`, and `jalr` through x0
abbrev pub is_call_of_none : ℕ → Option Insn → Option Insn → Bool
is_call_of_none target first second = nat_eq target 0 && loads_upper first && jumps_through_zero second

-- the address behind an instruction
abbrev pub next_of : ℕ → ℕ
next_of address = (address + 4) % 2 ^ 32

-- the pair of a call at its offset
abbrev pub has_pair : List ℕ → Entry → Bool
has_pair bytes e = is_pair e.offset (target_of e) (insn_at bytes e.offset) (insn_at bytes (next_of e.offset))

abbrev pub has_call_of_none : List ℕ → Entry → Bool
has_call_of_none bytes e = is_call_of_none (target_of e) (insn_at bytes e.offset) (insn_at bytes (next_of e.offset))

-- THE table: the word at an entry is as its type asks. `upper` is the target of the upper half of a PCREL_LO12
unfoldable pub agrees : List ℕ → Option ℕ → Entry → Bool
agrees bytes upper e =
    if nat_eq e.kind 16 then is_branch_to e.offset (target_of e) (insn_at bytes e.offset) else
    if nat_eq e.kind 17 then is_jal_to e.offset (target_of e) (insn_at bytes e.offset) else
    if nat_eq e.kind 23 then is_upper_half bytes e.offset (target_of e) else
    if nat_eq e.kind 24 then meets_low_i bytes upper e else
    if nat_eq e.kind 25 then meets_low_s bytes upper e else
    if nat_eq e.kind 26 then is_lui (high_half (target_of e)) (insn_at bytes e.offset) else
    if nat_eq e.kind 27 then has_low_i (low_half (target_of e)) (insn_at bytes e.offset) else
    if nat_eq e.kind 28 then has_low_s (low_half (target_of e)) (insn_at bytes e.offset) else
    has_pair bytes e || has_call_of_none bytes e
