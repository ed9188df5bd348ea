use Rattle.std.proofs.Common.{◌≡◌}
use Rattle.law_program.specs.FilePrograms.{words_from}
use Rattle.sq_lift.proofs.text.read_text.Given as goal

abbrev pub invariant-loop-place : goal.invariant-loop-place
invariant-loop-place l = l.words.items ≡ words_from l.elf l.range.lo l.place
