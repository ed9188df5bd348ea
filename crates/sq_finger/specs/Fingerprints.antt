-- Fingerprints of lists of items.
use Rattle.std.specs.Prelude.{ℕ, ◌+◌, ◌*◌, ◌^◌, List, [], ◌∷◌, take, length}
use Rattle.sq_isa.specs.declared.instructions.Insn.{Insn}
use Rattle.sq_isa.specs.declared.instructions.Insn.TheVariants.{Lui, Auipc, Jal, Jalr, Branch, Load, Store, OpImm, Op as OpInsn, Fence, Ecall, Ebreak, Unimp, Atomic}
use Rattle.sq_graph.specs.declared.item.Item.{Item}
use Rattle.sq_graph.specs.declared.item.Item.TheVariants.{Op, Hi, Lo, Out}

-- the class of an instruction, and of an item
abbrev pub insn_class : Insn → ℕ
insn_class (Lui rd upper) = 1
insn_class (Auipc rd upper) = 15
insn_class (Jal rd offset) = 15
insn_class (Jalr rd rs offset) = 15
insn_class (Branch c a b offset) = 15
insn_class (Load kind rd rs offset) = 2
insn_class (Store kind rs src offset) = 3
insn_class (OpImm op rd rs imm) = 4
insn_class (OpInsn op rd a b) = 5
insn_class (Fence word) = 6
insn_class Ecall = 7
insn_class Ebreak = 15
insn_class (Unimp word) = 15
insn_class (Atomic op order rd rs src) = 15

abbrev pub item_class : Item → ℕ
item_class (Op insn) = insn_class insn
item_class (Hi rd to) = 8
item_class (Lo rd rs to) = 9
item_class (Out procedure) = 10

-- the sum of each item's class times 16 to the power of its place, where the first has this place
abbrev pub weighted : ℕ → List Item → ℕ
weighted place [] = 0
weighted place (item ∷ items) = item_class item * 16 ^ place + weighted (place + 1) items

-- that of the first sixteen items, counted from 0
abbrev pub fingerprint_of : List Item → ℕ
fingerprint_of items = weighted 0 (take 16 items)

-- what is equal in a class of blocks: the fingerprint of the items, and how many they are
abbrev pub kind_of : List Item → ℕ × ℕ
kind_of items = (fingerprint_of items, length items)
