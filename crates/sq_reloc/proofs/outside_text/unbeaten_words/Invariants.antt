use Rattle.std.proofs.Common.{◌≡◌, ◌++◌}
use Rattle.sq_reloc.specs.Outside.{is_beaten}
use Rattle.sq_reloc.specs.CodeWords.{unbeaten}
use Rattle.sq_reloc.proofs.outside_text.unbeaten_words.Given as goal

abbrev pub invariant-loop-at : goal.invariant-loop-at
invariant-loop-at l =
    l.words.items ++ unbeaten (is_beaten l.outside) l.at-iterator ≡ unbeaten (is_beaten l.outside) l.targets.entries
