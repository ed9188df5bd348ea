-- no second look at the entries of repeats is needed
use Rattle.std.proofs.Common.{◌≡◌, ◌∙◌, rules}
use Rattle.sq_num.specs.Refusals.{first_from}
use Rattle.sq_elf.specs.Headers.{shnum_of}
use Rattle.sq_reloc.specs.Repeats.{is_bad_once_at}
use Rattle.sq_reloc.proofs.FreshTables.{first_bad_same}
use Rattle.sq_reloc.proofs.tables.first_bad_table.Goals as goal

pub returns : goal.returns
returns c =
    let once : c.first_where.result ≡ first_from (is_bad_once_at c.args.elf.now) 0 (shnum_of c.args.elf.now) = search rules in
    once ∙ first_bad_same c.args.elf.now
