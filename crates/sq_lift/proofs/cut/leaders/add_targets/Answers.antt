use Rattle.std.proofs.Common.{get_or, refl}
use Rattle.sq_reloc.specs.declared.mark.CodeWord.{CodeWord}
use Rattle.law_program.specs.Programs.{target_of}
use Rattle.sq_lift.proofs.Raising.{raises_more}
use Rattle.sq_lift.proofs.cut.leaders.add_targets.Goals as goal

pub loop-word-preserved : goal.loop-word-preserved
loop-word-preserved c =
    let none : CodeWord = record { at = 0; to = 0 } in
    raises_more target_of c.args.words.now c.loop-word.word-index (get_or c.args.words.now c.loop-word.word-index none) none c.loop-word-test.true refl c.loop-word.invariant c.add.ensures
