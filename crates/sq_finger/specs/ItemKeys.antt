-- Keys of items.
use Rattle.sq_isa.specs.Encoding.{word_of}
use Rattle.sq_graph.specs.declared.item.Item.{Item}
use Rattle.sq_graph.specs.declared.item.Item.TheVariants.{Op, Hi, Lo, Out}
use Rattle.sq_finger.specs.declared.keys.ItemKey.{ItemKey}
use Rattle.sq_finger.specs.declared.keys.ItemKey.TheVariants.{Op as OpKey, Hi as HiKey, Lo as LoKey, Out as OutKey}

-- an instruction by its word, and else the item as it is
abbrev pub key_of : Item → ItemKey
key_of (Op insn) = OpKey (word_of insn)
key_of (Hi rd to) = HiKey rd to
key_of (Lo rd rs to) = LoKey rd rs to
key_of (Out procedure) = OutKey procedure
