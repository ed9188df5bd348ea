use Rattle.std.proofs.Common.{◌++◌, List}
use Rattle.sq_reloc.specs.declared.entry.Entry.{Entry}
use Rattle.sq_reloc.specs.Entries.{entries_in}
use Rattle.sq_reloc.specs.Gathering.{IsGathered}
use Rattle.sq_reloc.proofs.gathered.Gathered.add_table.Given as goal

abbrev pub invariant-loop-number : goal.invariant-loop-number
invariant-loop-number l =
    (entries : List Entry) → IsGathered l.elf l.fn.self entries → IsGathered l.elf l.self (entries ++ entries_in l.elf l.index l.table l.number)
