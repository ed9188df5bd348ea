-- A list of registers after a write, as a function.
use Rattle.std.proofs.Common.{◌≡◌, ◌≢◌, ℕ, ◌<◌, length, Bool, true, false, List, nat_eq, not, ◌&&◌, if◌then◌else◌, slice_index, slice_set, refl, ap, ne_eqb, get_or-set_same, get_or-set_other}
use Rattle.std.proofs.lemmas.Bool.{eqb-true, eqb-false}
use Rattle.sq_isa.specs.Registers.{written}
use Rattle.sq_machine.specs.State.{State, with_register}
use Rattle.sq_machine.specs.Views.{numbers}

written_at : (xs : List ℕ) (r v x : ℕ) → r < length xs → r ≢ 0 → numbers (slice_set xs r v) x ≡ written r v (numbers xs) x
written_at xs r v x h n = rw (ne_eqb r 0 n) (tell (nat_eq x r) refl)
  where
    tell : (b : Bool) → nat_eq x r ≡ b → slice_index (slice_set xs r v) x ≡ (if b && not false then v else slice_index xs x)
    tell true e = let f : x ≡ r = eqb-true x r e in rw f (get_or-set_same xs r v 0 h)
    tell false e = get_or-set_other xs r x v 0 (eqb-false x r e)

pub registers-written : (xs : List ℕ) (r v : ℕ) → r < length xs → r ≢ 0 → numbers (slice_set xs r v) ≡ written r v (numbers xs)
registers-written xs r v h n = λ i x. written_at xs r v x h n i

kept_at : (b : Bool) (v w : ℕ) → w ≡ (if b && false then v else w)
kept_at true v w = refl
kept_at false v w = refl

-- x0 is not written
pub with_register-x0 : (v : ℕ) (s : State) → s ≡ with_register 0 v s
unfolding with_register
with_register-x0 v s =
    let e : s.registers ≡ written 0 v s.registers = λ i x. kept_at (nat_eq x 0) v (s.registers x) i in
    ap (λ registers. record s { registers = registers }) e
