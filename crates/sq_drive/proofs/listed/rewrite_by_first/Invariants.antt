use Rattle.std.proofs.Common.{◌≡◌, take}
use Rattle.std.specs.List.{All}
use Rattle.sq_pass.specs.declared.cut.Cut.{Cut}
use Rattle.sq_drive.proofs.listed.rewrite_by_first.Given as goal

abbrev pub invariant-loop-pass : goal.invariant-loop-pass
invariant-loop-pass g l = record {
  same : l.graph.graph ≡ l.fn.graph.graph;
  left : All (λ pass. (cut : Cut) → ¬ g.P.Pass.is_candidate pass l.graph.graph cut) (take l.pass-index l.passes);
}
