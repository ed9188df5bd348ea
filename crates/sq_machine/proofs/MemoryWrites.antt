-- Bytes written to the regions of memory.
use Rattle.std.proofs.Common.{◌≡◌, ℕ, ◌≤◌, zero, suc, List, take, refl, sym, ap, ◌∙◌, arith}
use Rattle.std.specs.Int.{to_le_bytes, w32}
use Rattle.byteorder.specs.Endian.{little_bytes}
use Rattle.sq_memory.specs.Regions.{Region, get, put_all}
use Rattle.sq_memory.proofs.RegionLaws.{get-put_all}
use Rattle.sq_machine.specs.State.{State, with_bytes}
use Rattle.sq_memory.specs.Cells.{Cells, with_cells}

pub with_bytes-regions : (s : State) (old new : List (Region ℕ)) (x : ℕ) (bytes : List ℕ) → s.memory ≡ get old → new ≡ put_all old x bytes → record s { memory = get new } ≡ with_bytes x bytes s
unfolding with_bytes
with_bytes-regions s old new x bytes e f =
    let g : get new ≡ get (put_all old x bytes) = ap get f in ap (λ (memory : Cells ℕ). record s { memory = memory }) (g ∙ (get-put_all bytes old x ∙ ap (λ m. with_cells m x bytes) (sym e)))

-- the lowest bytes of a word
pub take-little : (n v : ℕ) → n ≤ 4 → take n (to_le_bytes w32 v) ≡ little_bytes n v
take-little zero v h = refl
take-little (suc zero) v h = refl
take-little (suc (suc zero)) v h = refl
take-little (suc (suc (suc zero))) v h = refl
take-little (suc (suc (suc (suc zero)))) v h = refl
take-little (suc (suc (suc (suc (suc n))))) v h = absurd (omega arith)
