use Rattle.std.proofs.Common.{◌≡◌, ◌+◌, ◌≤◌, ◌^◌, ◌++◌, length, drop}
use Rattle.sq_system.specs.Starts.{argument_bytes, addresses_from, word_bytes}
use Rattle.sq_system.proofs.area.push_addresses.Given as goal

-- the addresses from here on are left to append, and all of them stay below 2^32
abbrev pub invariant-loop-index : goal.invariant-loop-index
invariant-loop-index l =
    (l.area.items ++ word_bytes (addresses_from l.address (drop l.index l.start.words.now))
    ≡ l.fn.area.items ++ word_bytes (addresses_from l.fn.first (drop l.start.skip l.start.words.now)))
    × (l.address + length (argument_bytes (drop l.index l.start.words.now)) ≤ 2 ^ 32)
