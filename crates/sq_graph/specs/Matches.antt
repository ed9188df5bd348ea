-- Items that match: equal forms, and registers in equal places that go together.
use Rattle.std.specs.Prelude.{◌≡◌, ◌≢◌, ℕ, ◌⊎◌, true, false, Bool, List, [], ◌∷◌, Option, Some, None, slice_get}
use Rattle.std.specs.List.{flat_map}
use Rattle.sq_isa.specs.Forms.{first_of, second_of, with_registers}
use Rattle.sq_isa.specs.Registers.{is_among_but_x0}
use Rattle.sq_isa.specs.Uses.{sources_of, destination_of, is_read, is_written}
use Rattle.sq_isa.specs.declared.instructions.Insn.{Insn}
use Rattle.sq_graph.specs.declared.item.Item.{Item}
use Rattle.sq_graph.specs.declared.item.Item.TheVariants.{Op, Hi, Lo, Out}
use Rattle.sq_graph.specs.Graph.{Procedure}
use Rattle.sq_graph.specs.Walks.{is_register}

-- the registers that an item names, with x0 where it has none: its destination and then its sources. An Out names none
abbrev pub item_registers : Item → List ℕ
item_registers (Op insn) = destination_of insn ∷ sources_of insn
item_registers (Hi rd to) = rd ∷ []
item_registers (Lo rd rs to) = rd ∷ rs ∷ []
item_registers (Out procedure) = []

-- those of a procedure: its link, and all that its body mentions
abbrev pub procedure_registers : Option Procedure → List ℕ
procedure_registers None = []
procedure_registers (Some procedure) = procedure.link ∷ flat_map item_registers procedure.body

-- and those of an item, where an Out has its procedure's
abbrev pub registers_of : List Procedure → Item → List ℕ
registers_of procedures (Op insn) = item_registers (Op insn)
registers_of procedures (Hi rd to) = item_registers (Hi rd to)
registers_of procedures (Lo rd rs to) = item_registers (Lo rd rs to)
registers_of procedures (Out procedure) = procedure_registers (slice_get procedures procedure)

-- Whether an item reads and writes a register. Of an Out neither is said: each of its registers goes with itself alone,
-- and these are asked of registers that go with others.
abbrev pub item_reads : Item → ℕ → Bool
item_reads (Op insn) r = is_read insn r
item_reads (Hi rd to) r = false
item_reads (Lo rd rs to) r = is_among_but_x0 (rs ∷ []) r
item_reads (Out procedure) r = false

abbrev pub item_writes : Item → ℕ → Bool
item_writes (Op insn) r = is_written insn r
item_writes (Hi rd to) r = is_register rd r
item_writes (Lo rd rs to) r = is_register rd r
item_writes (Out procedure) r = false

-- but for their registers the two are one instruction
abbrev pub IsSameInsn : Insn → Insn → Type 0
IsSameInsn insn other = other ≡ with_registers (destination_of other) (first_of other) (second_of other) insn

-- equal but for registers: the same constants, the same target, the same procedure
abbrev pub IsSameForm : Item → Item → Type 0
IsSameForm (Op insn) (Op other) = IsSameInsn insn other
IsSameForm (Hi rd to) (Hi rd' to') = to' ≡ to
IsSameForm (Lo rd rs to) (Lo rd' rs' to') = to' ≡ to
IsSameForm (Out procedure) (Out procedure') = procedure' ≡ procedure
IsSameForm item other = ⊥

abbrev pub AreSameForms : List Item → List Item → Type 0
AreSameForms [] [] = Unit {0}
AreSameForms [] (other ∷ others) = ⊥
AreSameForms (item ∷ items) [] = ⊥
AreSameForms (item ∷ items) (other ∷ others) = IsSameForm item other × AreSameForms items others

-- r and s stand in equal places
abbrev pub IsPairIn : List ℕ → List ℕ → ℕ → ℕ → Type 0
IsPairIn [] ys r s = ⊥
IsPairIn (x ∷ xs) [] r s = ⊥
IsPairIn (x ∷ xs) (y ∷ ys) r s = ((r ≡ x) × (s ≡ y)) ⊎ IsPairIn xs ys r s

-- Of items of equal forms. The four registers of an ECALL, which are fixed, are pairs with themselves, and so are an
-- Out's, since both call one procedure.
abbrev pub IsPair : List Procedure → List Item → List Item → ℕ → ℕ → Type 0
IsPair procedures [] others r s = ⊥
IsPair procedures (item ∷ items) [] r s = ⊥
IsPair procedures (item ∷ items) (other ∷ others) r s =
    IsPairIn (registers_of procedures item) (registers_of procedures other) r s ⊎ IsPair procedures items others r s

-- r is written by these before it is read
abbrev pub IsWrittenFirst : ℕ → List Item → Type 0
IsWrittenFirst r [] = ⊥
IsWrittenFirst r (item ∷ items) = (item_reads item r ≡ false) × ((item_writes item r ≡ true) ⊎ IsWrittenFirst r items)

-- The forms are equal; the pairs are one to one, x0 with x0 alone; and of two different registers that are a pair the
-- first is written before it is read.
pub record Match (procedures : List Procedure) (items others : List Item) : Type 0 where
  pub forms : AreSameForms items others
  pub there : (r s t : ℕ) → IsPair procedures items others r s → IsPair procedures items others r t → s ≡ t
  pub back : (q r s : ℕ) → IsPair procedures items others q s → IsPair procedures items others r s → q ≡ r
  pub zero_there : (s : ℕ) → IsPair procedures items others 0 s → s ≡ 0
  pub zero_back : (r : ℕ) → IsPair procedures items others r 0 → r ≡ 0
  pub first : (r s : ℕ) → IsPair procedures items others r s → s ≢ r → IsWrittenFirst r items

-- neither of two different registers that are a pair is among these
abbrev pub PairsDie : List Procedure → List Item → List Item → (ℕ → Type 0) → Type 0
PairsDie procedures items others Lives = (r s : ℕ) → IsPair procedures items others r s → s ≢ r → (¬ Lives r) × (¬ Lives s)
