-- What is read off small programs, by computing it.
use Rattle.std.specs.Prelude.{◌≡◌, ℕ, pos, Bool, ◌||◌, nat_le, nat_lt, ◌&&◌, List, [], ◌∷◌, Some, None, refl}
use Rattle.sq_num.specs.declared.refusal.Refusal.TheVariants.{UnsupportedInstruction, FallsOffText, UnrelocatedAuipc, RelocDisagrees, BadTarget}
use Rattle.sq_isa.specs.Table.{insn_of}
use Rattle.sq_isa.specs.declared.instructions.Insn.TheVariants.{OpImm, Ecall, Load, Lui}
use Rattle.sq_isa.specs.declared.instructions.ImmOp.TheVariants.{Addi}
use Rattle.sq_isa.specs.declared.instructions.LoadKind.TheVariants.{Lw}
use Rattle.sq_reloc.specs.declared.mark.Mark.{Mark}
use Rattle.sq_reloc.specs.declared.mark.Mark.TheVariants.{Plain, Hi as HiMark, Lo as LoMark, Disagrees}
use Rattle.sq_reloc.specs.declared.mark.CodeWord.{CodeWord}
use Rattle.sq_graph.specs.declared.item.Item.{Item}
use Rattle.sq_graph.specs.declared.item.Item.TheVariants.{Op, Hi, Lo, Out}
use Rattle.sq_graph.specs.declared.item.Term.TheVariants.{Fall, Jump, Indirect}
use Rattle.law_program.specs.Programs.{Word, Note, Program}
use Rattle.law_program.specs.Faults.{text_refusal}
use Rattle.law_program.specs.Notes.{bad_note}
use Rattle.law_program.specs.Lifted.{lifted}

plain : ℕ → Word
plain number = record { number = number; mark = Plain }

marked : ℕ → Mark → Word
marked number mark = record { number = number; mark = mark }

-- a program at 0x00010000 with its entry there
program : List Word → List CodeWord → List Note → Program
program words code_words notes =
    record { text = record { lo = 65536; words = words }; entry = 65536; code_words = code_words; notes = notes }

-- the words from the first to the one before this address
below : ℕ → ℕ → Bool
below end x = nat_le 65536 x && nat_lt x end

item : ℕ → ℕ → ℕ → Item
item rd rs n = Op (OpImm Addi rd rs (pos n))

-- `li a7,93; li a0,7; ecall; j .`
smallest : Program
smallest = program (plain 0x05d00893 ∷ plain 0x00700513 ∷ plain 0x00000073 ∷ plain 0x0000006f ∷ []) [] []

smallest_is_read : text_refusal (below 65552) smallest ≡ None
unfolding insn_of smallest program plain below
smallest_is_read = refl

smallest_graph : lifted (below 65552) smallest ≡ record {
  blocks = record { name = 65536; items = item 17 0 93 ∷ item 10 0 7 ∷ Op Ecall ∷ []; term = Fall } ∷ record { name = 65548; items = []; term = Jump 65548 } ∷ [];
  entry = 65536;
  code_words = [];
  procedures = [];
}
unfolding insn_of smallest program plain below item
smallest_graph = refl

-- without its last word the ECALL may fall off text
off_the_end : text_refusal (below 65548) (program (plain 0x05d00893 ∷ plain 0x00700513 ∷ plain 0x00000073 ∷ []) [] []) ≡ Some (FallsOffText 65544)
unfolding insn_of program plain below
off_the_end = refl

-- a word that is no instruction of RV32IMA, where it is reached, and where it isn't
unsupported : text_refusal (below 65544) (program (plain 0x30529073 ∷ plain 0x0000006f ∷ []) [] []) ≡ Some (UnsupportedInstruction 65536 0x30529073)
unfolding insn_of program plain below
unsupported = refl

unreached : text_refusal (below 65540) (program (plain 0x0000006f ∷ plain 0x30529073 ∷ []) [] []) ≡ None
unfolding insn_of program plain below
unreached = refl

bare_auipc : text_refusal (below 65544) (program (plain 0x00000517 ∷ plain 0x0000006f ∷ []) [] []) ≡ Some (UnrelocatedAuipc 65536)
unfolding insn_of program plain below
bare_auipc = refl

branch_disagrees : text_refusal (below 65548) (program (marked 0x00050463 (Disagrees 16) ∷ plain 0x0000006f ∷ plain 0x0000006f ∷ []) [] []) ≡ Some (RelocDisagrees 65536 16)
unfolding insn_of program plain marked below
branch_disagrees = refl

-- `jal x0` to no word of text
astray : text_refusal (below 65540) (program (plain 0x0100006f ∷ []) [] []) ≡ Some (BadTarget 65536)
unfolding insn_of program plain below
astray = refl

-- `lui a5,%hi(f); addi a4,a5,%lo(f); addi a3,a5,%lo(f+4); li a7,93; ecall; j .; f: ret; ret`
shared_upper_half : Program
shared_upper_half = program (marked 0x000107b7 (HiMark 65560) ∷ marked 0x01878713 (LoMark 65560) ∷ marked 0x01c78693 (LoMark 65564) ∷ plain 0x05d00893 ∷ plain 0x00000073 ∷ plain 0x0000006f ∷ plain 0x00008067 ∷ plain 0x00008067 ∷ []) [] []

shared_graph : lifted (below 65568) shared_upper_half ≡ record {
  blocks = record { name = 65536; items = Hi 15 65560 ∷ Lo 14 15 65560 ∷ Lo 13 15 65564 ∷ item 17 0 93 ∷ Op Ecall ∷ []; term = Fall }
      ∷ record { name = 65556; items = []; term = Jump 65556 }
      ∷ record { name = 65560; items = []; term = Indirect 0 1 (pos 0) }
      ∷ record { name = 65564; items = []; term = Indirect 0 1 (pos 0) }
      ∷ [];
  entry = 65536;
  code_words = [];
  procedures = [];
}
unfolding insn_of shared_upper_half program plain marked below item
shared_graph = refl

-- a function that only a code word names, and an unreached word before it
code_word : Program
code_word = program (plain 0x000202b7 ∷ plain 0x0002a303 ∷ plain 0x000300e7 ∷ plain 0x05d00893 ∷ plain 0x00000073 ∷ plain 0x0000006f ∷ plain 0x00000000 ∷ plain 0x00900513 ∷ plain 0x00008067 ∷ []) (record { at = 131072; to = 65564 } ∷ []) []

reached_of_code_word : ℕ → Bool
reached_of_code_word x = below 65560 x || (nat_le 65564 x && nat_lt x 65572)

code_word_graph : lifted reached_of_code_word code_word ≡ record {
  blocks = record { name = 65536; items = Op (Lui 5 32) ∷ Op (Load Lw 6 5 (pos 0)) ∷ []; term = Indirect 1 6 (pos 0) }
      ∷ record { name = 65548; items = item 17 0 93 ∷ Op Ecall ∷ []; term = Fall }
      ∷ record { name = 65556; items = []; term = Jump 65556 }
      ∷ record { name = 65564; items = item 10 0 9 ∷ []; term = Indirect 0 1 (pos 0) }
      ∷ [];
  entry = 65536;
  code_words = record { at = 131072; block = 65564 } ∷ [];
  procedures = [];
}
unfolding insn_of code_word reached_of_code_word program plain below item
code_word_graph = refl

-- two calls of a noted procedure of one item through t0, and `jal ra` to what isn't noted
noted : List Note → Program
noted notes = program (plain 0x014002ef ∷ plain 0x010002ef ∷ plain 0x05d00893 ∷ plain 0x00000073 ∷ plain 0x0000006f ∷ plain 0x00158593 ∷ plain 0x00028067 ∷ []) [] notes

note : ℕ → ℕ → Note
note link length = record { address = 65556; link = link; length = length }

noted_graph : lifted (below 65564) (noted (note 5 1 ∷ [])) ≡ record {
  blocks = record { name = 65536; items = Out 0 ∷ Out 0 ∷ item 17 0 93 ∷ Op Ecall ∷ []; term = Fall } ∷ record { name = 65552; items = []; term = Jump 65552 } ∷ [];
  entry = 65536;
  code_words = [];
  procedures = record { link = 5; body = item 11 11 1 ∷ [] } ∷ [];
}
unfolding insn_of noted note program plain below item
noted_graph = refl

good_note : bad_note (below 65564) (noted (note 5 1 ∷ [])) ≡ None
unfolding insn_of noted note program plain below
good_note = refl

-- another link, another length, and an address that doesn't ascend
other_link : bad_note (below 65564) (noted (note 6 1 ∷ [])) ≡ Some 1
unfolding insn_of noted note program plain below
other_link = refl

other_length : bad_note (below 65564) (noted (note 5 2 ∷ [])) ≡ Some 1
unfolding insn_of noted note program plain below
other_length = refl

twice : bad_note (below 65564) (noted (note 5 1 ∷ note 5 1 ∷ [])) ≡ Some 2
unfolding insn_of noted note program plain below
twice = refl
