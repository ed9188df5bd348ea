use Rattle.std.proofs.Common.{◌≡◌}
use Rattle.sq_elf.specs.Text.{text_before}
use Rattle.sq_elf.proofs.text.text_range.Given as goal

abbrev pub invariant-loop-index : goal.invariant-loop-index
invariant-loop-index l = l.text ≡ text_before l.bytes l.index
