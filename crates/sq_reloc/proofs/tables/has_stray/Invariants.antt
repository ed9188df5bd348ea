use Rattle.std.proofs.Common.{◌≡◌}
use Rattle.std.specs.List.{list_any}
use Rattle.sq_reloc.specs.Entries.{entries_in}
use Rattle.sq_reloc.specs.Tables.{is_stray}
use Rattle.sq_reloc.proofs.tables.has_stray.Given as goal

abbrev pub invariant-loop-number : goal.invariant-loop-number
invariant-loop-number l = l.found ≡ list_any (is_stray l.elf) (entries_in l.elf l.index l.table l.number)
