use Rattle.std.proofs.Common.{take}
use Rattle.std.specs.List.{All}
use Rattle.sq_pass.specs.declared.cut.Row.{Row}
use Rattle.sq_jumps.specs.Candidates.{HasRow}
use Rattle.sq_jumps.proofs.jumps.first_row.Given as goal

abbrev pub invariant-loop-name : goal.invariant-loop-name
invariant-loop-name l = All (λ block. (row : Row) → ¬ HasRow row l.graph.graph block) (take l.name-index l.names)
