use Rattle.std.proofs.Common.{◌≡◌, ◌-◌}
use Rattle.sq_num.specs.Refusals.{first_from}
use Rattle.sq_elf.specs.Refusing.{is_not_elf_at}
use Rattle.sq_elf.proofs.header_rows.first_not_elf.Given as goal

-- no offset so far is refused
abbrev pub invariant-loop-offset : goal.invariant-loop-offset
invariant-loop-offset l = first_from (is_not_elf_at l.bytes) 0 7 ≡ first_from (is_not_elf_at l.bytes) l.offset (7 - l.offset)
