use Rattle.std.proofs.Common.{◌≡◌, take, not}
use Rattle.std.specs.List.{filter}
use Rattle.sq_lookup.specs.Names.{is_listed}
use Rattle.sq_jumps.proofs.unreached.unmarked.Given as goal

abbrev pub invariant-loop-name : goal.invariant-loop-name
invariant-loop-name l = l.blocks ≡ filter (λ n. not (is_listed l.marks n)) (take l.name-index l.names)
