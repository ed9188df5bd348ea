-- the reader's segments are those of the file, in another order
use Rattle.std.proofs.Common.{sym, ◌∙◌}
use Rattle.std.proofs.lemmas.List.Sorted.{list_any-IsPermutation}
use Rattle.sq_elf.specs.Memory.{segments_of}
use Rattle.sq_reloc.specs.Tables.{has_file_byte}
use Rattle.sq_reloc.proofs.tables.is_file_byte.Goals as goal

pub returns : goal.returns
returns c =
    c.any_has_byte.ensures
    ∙ sym (list_any-IsPermutation (has_file_byte c.args.address) (segments_of c.args.elf.now) c.segments.result.now c.segments.ensures.all)
