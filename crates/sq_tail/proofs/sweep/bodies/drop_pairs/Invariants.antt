use Rattle.std.proofs.Common.{nat_eq}
use Rattle.std.specs.HashMap.{get}
use Rattle.sq_lookup.specs.Counts.{AreUses}
use Rattle.sq_pass.specs.Rewrites.{IsRewritten}
use Rattle.sq_tail.specs.Candidates.{IsCandidate, described}
use Rattle.sq_tail.specs.StillDead.{AreTold}
use Rattle.sq_tail.proofs.sweep.bodies.drop_pairs.Given as goal

abbrev pub invariant-loop-pair : goal.invariant-loop-pair
invariant-loop-pair l = record {
  rewritten : IsRewritten IsCandidate described l.fn.savings l.after l.initial.graph.graph l.graph.graph;
  uses : AreUses l.graph.graph l.uses;
  told : AreTold l.graph.graph (get nat_eq l.told);
}
