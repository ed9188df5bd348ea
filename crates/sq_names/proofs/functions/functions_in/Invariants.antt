use Rattle.std.proofs.Common.{◌≡◌, ◌≤◌, length, map}
use Rattle.sq_names.specs.Functions.{functions_before}
use Rattle.sq_names.specs.Names.{seen}
use Rattle.sq_names.proofs.functions.functions_in.Given as goal

abbrev pub invariant-loop-number : goal.invariant-loop-number
invariant-loop-number l =
    (map seen l.functions.items ≡ functions_before l.elf l.table l.number) × (length l.functions.items ≤ l.number)
