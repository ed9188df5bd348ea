-- Instructions that go on to the next one.
use Rattle.std.proofs.Common.{◌≡◌, ℕ, ℤ, ◌⊎◌, inl, inr, refl, sym, subst}
use Rattle.sq_isa.specs.Uses.{destination_of}
use Rattle.sq_isa.specs.declared.instructions.Insn.{Insn}
use Rattle.sq_isa.specs.declared.instructions.Insn.TheVariants.{Lui, Auipc, Load, Store, OpImm, Op, Fence, Ecall, Atomic}
use Rattle.sq_isa.specs.declared.instructions.LoadKind.{LoadKind}
use Rattle.sq_isa.specs.declared.instructions.StoreKind.{StoreKind}
use Rattle.sq_isa.specs.declared.instructions.ImmOp.{ImmOp}
use Rattle.sq_isa.specs.declared.instructions.RegOp.{RegOp}
use Rattle.sq_isa.specs.declared.instructions.AtomicOp.{AtomicOp}
use Rattle.sq_graph.specs.Lines.{AddressHalf}
use Rattle.law_follow.specs.Settings.{Setting}
use Rattle.law_follow.specs.Rows.{row_of}
use Rattle.law_follow.specs.GraphRuns.{Core, operands}
use Rattle.law_program.specs.Monitored.{Watches, finished, insn_step}

abbrev pub item_step : Setting → ℕ → AddressHalf → Insn → Core → Watches
item_step s at half insn core = finished at (destination_of insn) core (row_of s half insn (operands insn core.registers) core.store)

-- what the instruction does is what its row makes
abbrev IsItem : Insn → Type 0
IsItem insn = (s : Setting) (at : ℕ) (half : AddressHalf) (core : Core) → insn_step s at half insn core ≡ item_step s at half insn core

pub by_row : (insn : Insn) →
    ((rd : ℕ) × (upper : ℕ) × insn ≡ Lui rd upper)
    ⊎ (((rd : ℕ) × (upper : ℕ) × insn ≡ Auipc rd upper)
    ⊎ (((kind : LoadKind) × (rd : ℕ) × (rs : ℕ) × (offset : ℤ) × insn ≡ Load kind rd rs offset)
    ⊎ (((kind : StoreKind) × (rs : ℕ) × (src : ℕ) × (offset : ℤ) × insn ≡ Store kind rs src offset)
    ⊎ (((op : ImmOp) × (rd : ℕ) × (rs : ℕ) × (imm : ℤ) × insn ≡ OpImm op rd rs imm)
    ⊎ (((op : RegOp) × (rd : ℕ) × (a : ℕ) × (b : ℕ) × insn ≡ Op op rd a b)
    ⊎ (((word : ℕ) × insn ≡ Fence word)
    ⊎ ((insn ≡ Ecall)
    ⊎ ((op : AtomicOp) × (order : ℕ) × (rd : ℕ) × (rs : ℕ) × (src : ℕ) × insn ≡ Atomic op order rd rs src)))))))) →
    (s : Setting) (at : ℕ) (half : AddressHalf) (core : Core) → insn_step s at half insn core ≡ item_step s at half insn core
by_row insn (inl e) = subst IsItem (sym e.2) (λ s at half core. refl)
by_row insn (inr (inl e)) = subst IsItem (sym e.2) (λ s at half core. refl)
by_row insn (inr (inr (inl e))) = subst IsItem (sym e.4) (λ s at half core. refl)
by_row insn (inr (inr (inr (inl e)))) = subst IsItem (sym e.4) (λ s at half core. refl)
by_row insn (inr (inr (inr (inr (inl e))))) = subst IsItem (sym e.4) (λ s at half core. refl)
by_row insn (inr (inr (inr (inr (inr (inl e)))))) = subst IsItem (sym e.4) (λ s at half core. refl)
by_row insn (inr (inr (inr (inr (inr (inr (inl e))))))) = subst IsItem (sym e.1) (λ s at half core. refl)
by_row insn (inr (inr (inr (inr (inr (inr (inr (inl e)))))))) = subst IsItem (sym e) (λ s at half core. refl)
by_row insn (inr (inr (inr (inr (inr (inr (inr (inr e)))))))) = subst IsItem (sym e.5) (λ s at half core. refl)
