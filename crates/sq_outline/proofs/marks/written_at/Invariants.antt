use Rattle.std.proofs.Common.{◌≡◌, ℕ, ◌||◌, ◌+◌, drop}
use Rattle.sq_isa.specs.Registers.{is_member}
use Rattle.sq_outline.specs.Marks.{is_written_at}
use Rattle.sq_outline.proofs.marks.written_at.Given as goal

abbrev pub invariant-loop-place : goal.invariant-loop-place
invariant-loop-place l = (r : ℕ) → (is_member l.written r || is_written_at l.bit (l.place + 1) (drop l.place l.items) r) ≡ is_written_at l.bit 1 l.items r
