use Rattle.std.proofs.Common.{◌≡◌, ◌++◌, drop}
use Rattle.sq_system.specs.Starts.{argument_bytes}
use Rattle.sq_system.proofs.area.push_arguments.Given as goal

-- the arguments from here on are left to append
abbrev pub invariant-loop-index : goal.invariant-loop-index
invariant-loop-index l =
    l.area.items ++ argument_bytes (drop l.index l.start.words.now)
    ≡ l.fn.area.items ++ argument_bytes (drop l.start.skip l.start.words.now)
