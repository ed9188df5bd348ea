use Rattle.std.proofs.Common.{◌≡◌, ◌<◌, ◌^◌, ◌-◌, ℕ, Bool}
use Rattle.sq_num.specs.Refusals.{first_from}
use Rattle.sq_elf.proofs.first.first_where.Given as goal

-- no place so far is the first
abbrev pub invariant-loop-place : goal.invariant-loop-place
invariant-loop-place g l =
    (holds : ℕ → Bool) → ((at : ℕ) (answer : Bool) → at < 2 ^ 32 → g.F.Fn.post l.test (at, tt) answer → answer ≡ holds at)
    → first_from holds 0 l.count ≡ first_from holds l.place (l.count - l.place)
