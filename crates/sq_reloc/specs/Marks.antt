-- What the entries say of a word of text.
use Rattle.std.specs.Prelude.{◌≡◌, ℕ, true, ◌%◌, Bool, false, not, ◌&&◌, ◌||◌, nat_eq, if◌then◌else◌, List, [], ◌∷◌, Option, Some, None}
use Rattle.std.specs.Option.{option_map_or, is_some}
use Rattle.std.specs.List.{list_any, find, filter}
use Rattle.sq_isa.specs.declared.instructions.Insn.{Insn}
use Rattle.sq_elf.specs.declared.text.Text.{Text}
use Rattle.sq_elf.specs.Text.{text_of, is_in_text}
use Rattle.sq_reloc.specs.declared.entry.Entry.{Entry}
use Rattle.sq_reloc.specs.declared.mark.Mark.{Mark}
use Rattle.sq_reloc.specs.declared.mark.Mark.TheVariants.{Plain, Hi, Lo, Unsupported, Disagrees, Conflict, Lone}
use Rattle.sq_reloc.specs.Kinds.{is_call, is_paired, is_text_kind, touches_word}
use Rattle.sq_reloc.specs.Entries.{target_of, entries_of}
use Rattle.sq_reloc.specs.Required.{upper_target, paired_target, loads_upper, takes_low, has_pair, agrees}

-- an entry outside text, of a type that is not supported in text, or at an offset that is not a multiple of 4
abbrev pub is_unsupported : Text → Entry → Bool
is_unsupported text e = not (is_in_text text e.offset) || not (is_text_kind e.kind) || not (nat_eq (e.offset % 4) 0)

-- a supported entry whose word is not as its type asks
abbrev pub is_disagreeing : List ℕ → Entry → Bool
is_disagreeing bytes e = not (is_unsupported (text_of bytes) e) && not (agrees bytes (upper_target bytes e) e)

-- a PCREL_LO12 without its upper half, or with an addend
abbrev pub is_lone : Entry → Option ℕ → Bool
is_lone e upper = is_paired e.kind && not (is_some (paired_target e upper))

abbrev pub is_lone_entry : List ℕ → Entry → Bool
is_lone_entry bytes e = is_lone e (upper_target bytes e)

-- two entries differ in type or in target
abbrev pub differs : Entry → Entry → Bool
differs e other = not (nat_eq e.kind other.kind) || not (nat_eq (target_of e) (target_of other))

-- some two of them differ: one of them differs from the first
abbrev pub differ : List Entry → Bool
differ [] = false
differ (e ∷ others) = list_any (differs e) others

-- a target in text gives the mark, another one leaves the word plain
abbrev pub if_in_text : Text → ℕ → Mark → Mark
if_in_text text target mark = if is_in_text text target then mark else Plain

-- the mark of a PCREL_LO12
abbrev pub paired_mark : Entry → Option ℕ → Mark
paired_mark e upper = option_map_or Lo (paired_target e upper) Lone

-- THE mark of an entry that agrees: `here` at the word at its offset, `behind` at the second word of a call
unfoldable pub mark_here : Text → Option ℕ → Entry → Mark
mark_here text upper e =
    if nat_eq e.kind 26 then if_in_text text (target_of e) (Hi (target_of e)) else
    if nat_eq e.kind 27 || nat_eq e.kind 28 then if_in_text text (target_of e) (Lo (target_of e)) else
    if nat_eq e.kind 23 || is_call e.kind then Hi (target_of e) else
    if is_paired e.kind then paired_mark e upper else
    Plain

abbrev pub mark_behind : List ℕ → Entry → Mark
mark_behind bytes e = if is_call e.kind && has_pair bytes e then Lo (target_of e) else Plain

abbrev pub entry_mark : List ℕ → ℕ → Entry → Mark
entry_mark bytes address e =
    if nat_eq address e.offset then mark_here (text_of bytes) (upper_target bytes e) e else mark_behind bytes e

-- the mark of the first entry, or Plain where there is none
abbrev pub first_mark : List ℕ → ℕ → List Entry → Mark
first_mark bytes address [] = Plain
first_mark bytes address (e ∷ others) = entry_mark bytes address e

-- a fault with the type of the entry that has it, or else what comes later
abbrev pub faulty : (ℕ → Mark) → Option Entry → Mark → Mark
faulty fault None later = later
faulty fault (Some e) later = fault e.kind

-- the mark that entries give to a word: the first of four faults, else that of the first entry
abbrev pub mark_by : List ℕ → ℕ → List Entry → Mark
mark_by bytes address entries =
    faulty Unsupported (find (is_unsupported (text_of bytes)) entries)
    (faulty Disagrees (find (is_disagreeing bytes) entries)
    (if differ entries then Conflict else
    if list_any (is_lone_entry bytes) entries then Lone else
    first_mark bytes address entries))

-- the entries that touch the word at an address, in order
abbrev pub touching : List ℕ → ℕ → List Entry
touching bytes address = filter (λ e. touches_word e address) (entries_of bytes)

-- THE mark of the word of text at an address
unfoldable pub mark_of : List ℕ → ℕ → Mark
mark_of bytes address = mark_by bytes address (touching bytes address)

-- what a mark says of the instruction at its word: an upper half stands in an `auipc` or a `lui`, a lower half in an
-- `addi`, a load, a `jalr` or a store
abbrev pub IsMarked : Option Insn → Mark → Type 0
IsMarked insn (Hi target) = loads_upper insn ≡ true
IsMarked insn (Lo target) = takes_low insn ≡ true
IsMarked insn other = Unit {0}
