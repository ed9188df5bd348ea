-- Registers and memory behind a write, as what they stand for.
use Rattle.std.proofs.Common.{◌≡◌, ◌≢◌, ℕ, zero, suc, ◌<◌, length, Bool, true, false, List, map, replicate, nat_eq, not, ◌&&◌, if◌then◌else◌, slice_set, refl, ap, ◌∙◌, ne_eqb, get_or-set_same, get_or-set_other}
use Rattle.std.proofs.lemmas.Bool.{eqb-true, eqb-false}
use Rattle.sq_isa.specs.Registers.{written}
use Rattle.sq_memory.specs.Cells.{map_cells, with_cells}
use Rattle.sq_pages.specs.Pages.{Sheet, cells_of}
use Rattle.sq_memory.proofs.RangeLaws.{map_cells-with_cells}
use Rattle.law_follow.specs.Values.{Num, Held, Holds}
use Rattle.sq_tagged.specs.declared.values.Value.{Value}
use Rattle.sq_tagged.specs.declared.values.Value.TheVariants.{Num as Number}
use Rattle.sq_tagged.specs.declared.values.Cell.{Cell}
use Rattle.sq_tagged.specs.Views.{value_of, cell_of, held}

written_at : (xs : List Value) (r : ℕ) (v : Value) (x : ℕ) → r < length xs → r ≢ 0 → held (slice_set xs r v) x ≡ written r (Holds (value_of v)) (held xs) x
written_at xs r v x h n = rw (ne_eqb r 0 n) (tell (nat_eq x r) refl)
  where
    tell : (b : Bool) → nat_eq x r ≡ b → held (slice_set xs r v) x ≡ (if b && not false then Holds (value_of v) else held xs x)
    tell true e = let f : x ≡ r = eqb-true x r e in rw f (ap (λ w. Holds (value_of w)) (get_or-set_same xs r v (Number 0) h))
    tell false e = ap (λ w. Holds (value_of w)) (get_or-set_other xs r x v (Number 0) (eqb-false x r e))

pub held-set : (xs : List Value) (r : ℕ) (v : Value) → r < length xs → r ≢ 0 → held (slice_set xs r v) ≡ written r (Holds (value_of v)) (held xs)
held-set xs r v h n = λ i x. written_at xs r v x h n i

kept_at : (b : Bool) (v w : Held) → w ≡ (if b && false then v else w)
kept_at true v w = refl
kept_at false v w = refl

-- x0 is not written
pub written-x0 : (v : Held) (registers : ℕ → Held) → registers ≡ written 0 v registers
written-x0 v registers = λ i x. kept_at (nat_eq x 0) v (registers x) i

zero_at : (n x : ℕ) → held (replicate n (Number 0)) x ≡ Holds (Num 0)
zero_at zero x = refl
zero_at (suc n) zero = refl
zero_at (suc n) (suc x) = zero_at n x

pub held-zeros : (n : ℕ) → held (replicate n (Number 0)) ≡ (λ r. Holds (Num 0))
held-zeros n = λ i x. zero_at n x i

-- cells in memory from x on
pub cells-put : (old new : List (Sheet Cell)) (x : ℕ) (cells : List Cell) → cells_of new ≡ with_cells (cells_of old) x cells → map_cells cell_of (cells_of new) ≡ with_cells (map_cells cell_of (cells_of old)) x (map cell_of cells)
cells-put old new x cells e = ap (map_cells cell_of) e ∙ map_cells-with_cells cell_of cells (cells_of old) x
