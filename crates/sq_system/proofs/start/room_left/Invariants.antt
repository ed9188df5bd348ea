use Rattle.std.proofs.Common.{◌≡◌, ◌+◌, drop}
use Rattle.sq_system.proofs.Areas.{taken}
use Rattle.sq_system.proofs.start.room_left.Given as goal

-- what the arguments so far take is gone
abbrev pub invariant-loop-index : goal.invariant-loop-index
invariant-loop-index l =
    l.room + 12 + taken (drop l.start.skip l.start.words.now) ≡ l.start.size + taken (drop l.index l.start.words.now)
