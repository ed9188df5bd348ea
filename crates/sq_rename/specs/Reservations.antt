-- Load-reserved and store-conditional, which RISC-V asks to stand close to each other, with few instructions between.
use Rattle.std.specs.Prelude.{◌≡◌, Bool, true, false, List}
use Rattle.std.specs.List.{All}
use Rattle.sq_isa.specs.declared.instructions.Insn.TheVariants.{Atomic}
use Rattle.sq_isa.specs.declared.instructions.AtomicOp.{AtomicOp}
use Rattle.sq_isa.specs.declared.instructions.AtomicOp.TheVariants.{Lr, Sc}
use Rattle.sq_graph.specs.declared.item.Item.{Item}
use Rattle.sq_graph.specs.declared.item.Item.TheVariants.{Op}

abbrev pub reserves : AtomicOp → Bool
reserves Lr = true
reserves Sc = true
reserves op = false

abbrev pub is_reservation : Item → Bool
is_reservation (Op (Atomic op order rd rs src)) = reserves op
is_reservation item = false

-- there is no LR and no SC among the items
abbrev pub HasNoReservations : List Item → Type 0
HasNoReservations items = All (λ item. is_reservation item ≡ false) items
