-- Renaming changes the registers of an instruction and leaves its form; form and registers make the instruction.
use Rattle.std.proofs.Common.{◌≡◌, ℕ, ◌<◌, refl, sym, ap, ◌∙◌, map}
use Rattle.sq_isa.specs.Forms.{renamed, form_of, first_of, second_of, with_registers}
use Rattle.sq_isa.specs.Uses.{sources_of, destination_of}
use Rattle.sq_isa.specs.Ranges.{FieldsFit, SourceFits}
use Rattle.sq_isa.specs.declared.instructions.Insn.{Insn}
use Rattle.sq_isa.specs.declared.instructions.Insn.TheVariants.{Lui, Auipc, Jal, Jalr, Branch, Load, Store, OpImm, Op, Fence, Ecall, Ebreak, Unimp, Atomic}
use Rattle.sq_isa.specs.declared.instructions.AtomicOp.{AtomicOp}
use Rattle.sq_isa.specs.declared.instructions.AtomicOp.TheVariants.{Lr, Sc, Swap, Add, Xor, And, Or, Min, Max, MinU, MaxU}

-- the form stays
pub form_of-renamed : (to : ℕ → ℕ) (i : Insn) → form_of (renamed to i) ≡ form_of i
form_of-renamed to (Lui d u) = refl
form_of-renamed to (Auipc d u) = refl
form_of-renamed to (Jal d o) = refl
form_of-renamed to (Jalr d a o) = refl
form_of-renamed to (Branch c a b o) = refl
form_of-renamed to (Load k d a o) = refl
form_of-renamed to (Store k a b o) = refl
form_of-renamed to (OpImm op d a z) = refl
form_of-renamed to (Op op d a b) = refl
form_of-renamed to (Fence word) = refl
form_of-renamed to Ecall = refl
form_of-renamed to Ebreak = refl
form_of-renamed to (Unimp word) = refl
form_of-renamed to (Atomic op o d a b) = refl

-- the registers are replaced, where x0 stays x0
module _ (to : ℕ → ℕ) (zero_stays : to 0 ≡ 0) where
  pub first_of-renamed : (i : Insn) → first_of (renamed to i) ≡ to (first_of i)
  first_of-renamed (Lui d u) = sym zero_stays
  first_of-renamed (Auipc d u) = sym zero_stays
  first_of-renamed (Jal d o) = sym zero_stays
  first_of-renamed (Jalr d a o) = refl
  first_of-renamed (Branch c a b o) = refl
  first_of-renamed (Load k d a o) = refl
  first_of-renamed (Store k a b o) = refl
  first_of-renamed (OpImm op d a z) = refl
  first_of-renamed (Op op d a b) = refl
  first_of-renamed (Fence word) = sym zero_stays
  first_of-renamed Ecall = sym zero_stays
  first_of-renamed Ebreak = sym zero_stays
  first_of-renamed (Unimp word) = sym zero_stays
  first_of-renamed (Atomic op o d a b) = refl

  pub second_of-renamed : (i : Insn) → second_of (renamed to i) ≡ to (second_of i)
  second_of-renamed (Lui d u) = sym zero_stays
  second_of-renamed (Auipc d u) = sym zero_stays
  second_of-renamed (Jal d o) = sym zero_stays
  second_of-renamed (Jalr d a o) = sym zero_stays
  second_of-renamed (Branch c a b o) = refl
  second_of-renamed (Load k d a o) = sym zero_stays
  second_of-renamed (Store k a b o) = refl
  second_of-renamed (OpImm op d a z) = sym zero_stays
  second_of-renamed (Op op d a b) = refl
  second_of-renamed (Fence word) = sym zero_stays
  second_of-renamed Ecall = sym zero_stays
  second_of-renamed Ebreak = sym zero_stays
  second_of-renamed (Unimp word) = sym zero_stays
  second_of-renamed (Atomic op o d a b) = refl

  -- an ECALL writes a0, which stays too
  pub destination_of-renamed : to 10 ≡ 10 → (i : Insn) → destination_of (renamed to i) ≡ to (destination_of i)
  destination_of-renamed a0_stays (Lui d u) = refl
  destination_of-renamed a0_stays (Auipc d u) = refl
  destination_of-renamed a0_stays (Jal d o) = refl
  destination_of-renamed a0_stays (Jalr d a o) = refl
  destination_of-renamed a0_stays (Branch c a b o) = sym zero_stays
  destination_of-renamed a0_stays (Load k d a o) = refl
  destination_of-renamed a0_stays (Store k a b o) = sym zero_stays
  destination_of-renamed a0_stays (OpImm op d a z) = refl
  destination_of-renamed a0_stays (Op op d a b) = refl
  destination_of-renamed a0_stays (Fence word) = sym zero_stays
  destination_of-renamed a0_stays Ecall = sym a0_stays
  destination_of-renamed a0_stays Ebreak = sym zero_stays
  destination_of-renamed a0_stays (Unimp word) = sym zero_stays
  destination_of-renamed a0_stays (Atomic op o d a b) = refl

-- the sources are replaced one by one, where those of an ECALL stay
pub sources_of-renamed : (to : ℕ → ℕ) → to 10 ≡ 10 → to 11 ≡ 11 → to 12 ≡ 12 → to 17 ≡ 17 → (i : Insn) → sources_of (renamed to i) ≡ map to (sources_of i)
sources_of-renamed to a0 a1 a2 a7 (Lui d u) = refl
sources_of-renamed to a0 a1 a2 a7 (Auipc d u) = refl
sources_of-renamed to a0 a1 a2 a7 (Jal d o) = refl
sources_of-renamed to a0 a1 a2 a7 (Jalr d a o) = refl
sources_of-renamed to a0 a1 a2 a7 (Branch c a b o) = refl
sources_of-renamed to a0 a1 a2 a7 (Load k d a o) = refl
sources_of-renamed to a0 a1 a2 a7 (Store k a b o) = refl
sources_of-renamed to a0 a1 a2 a7 (OpImm op d a z) = refl
sources_of-renamed to a0 a1 a2 a7 (Op op d a b) = refl
sources_of-renamed to a0 a1 a2 a7 (Fence word) = refl
sources_of-renamed to a0 a1 a2 a7 Ecall = rw (a0, a1, a2, a7) refl
sources_of-renamed to a0 a1 a2 a7 Ebreak = refl
sources_of-renamed to a0 a1 a2 a7 (Unimp word) = refl
sources_of-renamed to a0 a1 a2 a7 (Atomic op o d a b) = refl

-- a form with the registers put into it
with_its_registers : (i : Insn) → with_registers (destination_of i) (first_of i) (second_of i) (form_of i) ≡ i
with_its_registers (Lui d u) = refl
with_its_registers (Auipc d u) = refl
with_its_registers (Jal d o) = refl
with_its_registers (Jalr d a o) = refl
with_its_registers (Branch c a b o) = refl
with_its_registers (Load k d a o) = refl
with_its_registers (Store k a b o) = refl
with_its_registers (OpImm op d a z) = refl
with_its_registers (Op op d a b) = refl
with_its_registers (Fence word) = refl
with_its_registers Ecall = refl
with_its_registers Ebreak = refl
with_its_registers (Unimp word) = refl
with_its_registers (Atomic op o d a b) = refl

-- two instructions of one form with the same registers are equal
pub same_insn : (i j : Insn) → form_of i ≡ form_of j → destination_of i ≡ destination_of j → first_of i ≡ first_of j → second_of i ≡ second_of j → i ≡ j
same_insn i j e d a b =
    sym (with_its_registers i) ∙ (rw (e, d, a, b) (with_its_registers j))

source_fits_renamed : (to : ℕ → ℕ) → to 0 ≡ 0 → ((r : ℕ) → r < 32 → to r < 32) → (op : AtomicOp) (b : ℕ) → SourceFits op b → SourceFits op (to b)
source_fits_renamed to zero_stays within Lr b s = ap to s ∙ zero_stays
source_fits_renamed to zero_stays within Sc b s = within b s
source_fits_renamed to zero_stays within Swap b s = within b s
source_fits_renamed to zero_stays within Add b s = within b s
source_fits_renamed to zero_stays within Xor b s = within b s
source_fits_renamed to zero_stays within And b s = within b s
source_fits_renamed to zero_stays within Or b s = within b s
source_fits_renamed to zero_stays within Min b s = within b s
source_fits_renamed to zero_stays within Max b s = within b s
source_fits_renamed to zero_stays within MinU b s = within b s
source_fits_renamed to zero_stays within MaxU b s = within b s

-- what fits still fits
pub FieldsFit-renamed : (to : ℕ → ℕ) → to 0 ≡ 0 → ((r : ℕ) → r < 32 → to r < 32) → (i : Insn) → FieldsFit i → FieldsFit (renamed to i)
FieldsFit-renamed to zero_stays within (Lui d u) h = (within d h.0, h.1)
FieldsFit-renamed to zero_stays within (Auipc d u) h = (within d h.0, h.1)
FieldsFit-renamed to zero_stays within (Jal d o) h = (within d h.0, h.1, h.2)
FieldsFit-renamed to zero_stays within (Jalr d a o) h = (within d h.0, within a h.1, h.2)
FieldsFit-renamed to zero_stays within (Branch c a b o) h = (within a h.0, within b h.1, h.2, h.3)
FieldsFit-renamed to zero_stays within (Load k d a o) h = (within d h.0, within a h.1, h.2)
FieldsFit-renamed to zero_stays within (Store k a b o) h = (within a h.0, within b h.1, h.2)
FieldsFit-renamed to zero_stays within (OpImm op d a z) h = (within d h.0, within a h.1, h.2)
FieldsFit-renamed to zero_stays within (Op op d a b) h = (within d h.0, within a h.1, within b h.2)
FieldsFit-renamed to zero_stays within (Fence word) h = h
FieldsFit-renamed to zero_stays within Ecall h = tt
FieldsFit-renamed to zero_stays within Ebreak h = tt
FieldsFit-renamed to zero_stays within (Unimp word) h = h
FieldsFit-renamed to zero_stays within (Atomic op o d a b) h = (h.0, within d h.1, within a h.2, source_fits_renamed to zero_stays within op b h.3)
