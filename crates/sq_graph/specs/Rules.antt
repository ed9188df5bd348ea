-- The rules of a graph.
use Rattle.std.specs.Prelude.{◌≡◌, ◌≢◌, ℕ, ◌⊎◌, Bool, false, List, [], ◌∷◌, map}
use Rattle.std.specs.List.{All}
use Rattle.std.specs.List.Sorted.{IsStrictlyIncreasing}
use Rattle.sq_arena.specs.Entries.{HasDistinctKeys}
use Rattle.sq_isa.specs.Ranges.{FieldsFit, IsRegister, IsSigned, IsUnimp}
use Rattle.sq_isa.specs.Registers.{is_among_but_x0}
use Rattle.sq_isa.specs.Uses.{is_mentioned}
use Rattle.sq_isa.specs.declared.instructions.Insn.{Insn}
use Rattle.sq_isa.specs.declared.instructions.Insn.TheVariants.{Lui, Auipc, Jal, Jalr, Branch as BranchInsn, Load, Store, OpImm, Op as OpInsn, Fence, Ecall, Ebreak, Unimp, Atomic}
use Rattle.sq_graph.specs.declared.item.Item.{Item}
use Rattle.sq_graph.specs.declared.item.Item.TheVariants.{Op, Hi, Lo, Out}
use Rattle.sq_graph.specs.declared.item.Term.{Term}
use Rattle.sq_graph.specs.declared.item.Term.TheVariants.{Fall, Jump, Branch, Call, PartJump, Indirect, Stop}
use Rattle.sq_graph.specs.Graph.{Block, Procedure, Graph}
use Rattle.sq_graph.specs.Terms.{goes_on}
use Rattle.sq_graph.specs.Blocks.{named, HasBlock, HasProcedure, all_items}
use Rattle.sq_graph.specs.Uses.{uses, calls, item_calls}

-- the instructions that go on to the next word whatever they do, and name no address
abbrev pub IsOperation : Insn → Type 0
IsOperation (Lui rd upper) = Unit {0}
IsOperation (Auipc rd upper) = ⊥
IsOperation (Jal rd offset) = ⊥
IsOperation (Jalr rd rs offset) = ⊥
IsOperation (BranchInsn c a b offset) = ⊥
IsOperation (Load kind rd rs offset) = Unit {0}
IsOperation (Store kind rs src offset) = Unit {0}
IsOperation (OpImm op rd rs imm) = Unit {0}
IsOperation (OpInsn op rd a b) = Unit {0}
IsOperation (Fence word) = Unit {0}
IsOperation Ecall = Unit {0}
IsOperation Ebreak = ⊥
IsOperation (Unimp word) = ⊥
IsOperation (Atomic op order rd rs src) = Unit {0}

-- an Op holds an OpImm, Op, Lui, Load, Store, Fence, Ecall or Atomic whose fields fit, and registers are x0 to x31
abbrev pub ItemFits : Item → Type 0
ItemFits (Op insn) = IsOperation insn × FieldsFit insn
ItemFits (Hi rd to) = IsRegister rd
ItemFits (Lo rd rs to) = IsRegister rd × IsRegister rs
ItemFits (Out procedure) = Unit {0}

-- EBREAK, or a word that stands for no instruction
abbrev pub IsStop : ℕ → Type 0
IsStop word = (word ≡ 0x00100073) ⊎ IsUnimp word

-- registers are x0 to x31, the link of a Call isn't x0, an Indirect's offset is from -2048 to 2047, and a Stop's word
-- is one of three
abbrev pub TermFits : Term → Type 0
TermFits Fall = Unit {0}
TermFits (Jump to) = Unit {0}
TermFits (Branch c a b to) = IsRegister a × IsRegister b
TermFits (Call link to) = IsRegister link × (link ≢ 0)
TermFits (PartJump link part to) = IsRegister link × IsRegister part
TermFits (Indirect link at offset) = IsRegister link × IsRegister at × IsSigned 12 offset
TermFits (Stop word) = IsStop word

-- whether an item mentions the register: reads or writes it. An ECALL mentions its four registers
abbrev pub mentions : Item → ℕ → Bool
mentions (Op insn) r = is_mentioned insn r
mentions (Hi rd to) r = is_among_but_x0 (rd ∷ []) r
mentions (Lo rd rs to) r = is_among_but_x0 (rd ∷ rs ∷ []) r
mentions (Out procedure) r = false

-- a procedure's link is one of x1 to x31, and its body has no Out and doesn't mention the link
pub record ProcedureFits (p : Procedure) : Type 0 where
  pub register : IsRegister p.link
  pub link : p.link ≢ 0
  pub no_calls : All (λ item. item_calls item ≡ []) p.body
  pub no_mention : All (λ item. mentions item p.link ≡ false) p.body

-- whether the last block goes on to a next slot, which isn't there
abbrev pub last_goes_on : List Block → Bool
last_goes_on [] = false
last_goes_on (b ∷ []) = goes_on b.term
last_goes_on (b ∷ next ∷ rest) = last_goes_on (next ∷ rest)

pub record IsGraph (g : Graph) : Type 0 where
  -- names are distinct
  pub distinct : HasDistinctKeys (named g.blocks)
  -- every name that is used is a block's, and every procedure that is used is there
  pub named_all : All (HasBlock g) (uses g)
  pub called_all : All (HasProcedure g) (calls g)
  -- a term that goes on to the next slot isn't last
  pub ends : last_goes_on g.blocks ≡ false
  -- code words ascend by address
  pub code_words : IsStrictlyIncreasing (map (λ w. w.at) g.code_words)
  pub items : All ItemFits (all_items g)
  pub terms : All (λ b. TermFits b.term) g.blocks
  pub procedures : All ProcedureFits g.procedures
