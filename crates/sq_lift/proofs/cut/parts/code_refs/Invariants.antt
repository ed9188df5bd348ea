use Rattle.std.proofs.Common.{◌≡◌, map, take}
use Rattle.sq_graph.specs.Renames.{retargeted_words}
use Rattle.law_program.specs.Lifted.{code_ref}
use Rattle.sq_lift.specs.Cuts.{position_by}
use Rattle.sq_lift.proofs.cut.parts.code_refs.Given as goal

abbrev pub invariant-loop-word : goal.invariant-loop-word
invariant-loop-word l =
    l.refs.items ≡ retargeted_words (position_by l.positions) (map code_ref (take l.word-index l.words))
