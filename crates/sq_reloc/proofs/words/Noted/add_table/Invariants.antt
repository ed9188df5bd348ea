use Rattle.std.proofs.Common.{◌++◌, List}
use Rattle.sq_reloc.specs.declared.entry.Entry.{Entry}
use Rattle.sq_reloc.specs.Entries.{entries_in}
use Rattle.sq_reloc.specs.Gathering.{IsNoted}
use Rattle.sq_reloc.proofs.words.Noted.add_table.Given as goal

abbrev pub invariant-loop-number : goal.invariant-loop-number
invariant-loop-number l = (entries : List Entry) → IsNoted l.elf l.fn.self entries → IsNoted l.elf l.self (entries ++ entries_in l.elf l.index l.table l.number)
