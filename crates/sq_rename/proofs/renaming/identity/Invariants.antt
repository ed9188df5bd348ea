use Rattle.std.proofs.Common.{◌≡◌, ◌<◌, ℕ, length, slice_index}
use Rattle.sq_rename.proofs.renaming.identity.Given as goal

abbrev pub invariant-loop-number : goal.invariant-loop-number
invariant-loop-number l = record { count : length l.registers ≡ 32; value : (r : ℕ) → r < l.number → slice_index l.registers r ≡ r }
