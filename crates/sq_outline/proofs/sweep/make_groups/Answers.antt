use Rattle.sq_pass.proofs.Rewriting.{rewritten_itself, rewritten_through}
use Rattle.sq_outline.specs.Candidates.{IsCandidate, described}
use Rattle.sq_outline.proofs.Still.{still_itself, still_through}
use Rattle.sq_outline.proofs.sweep.make_groups.Goals as goal

pub loop-group-init : goal.loop-group-init
loop-group-init c = record {
  rewritten = rewritten_itself IsCandidate described c.args.savings c.args.graph.now.graph c.requires.canonical;
  still = still_itself c.args.graph.now.graph;
}

pub loop-group-preserved : goal.loop-group-preserved
loop-group-preserved c =
    let old = c.args.graph.now.graph in
    let mid = c.loop-group.graph.graph in
    let new = c.make_each.new.graph.graph in
    record {
      rewritten = rewritten_through IsCandidate described c.args.savings c.loop-group.after c.in_ok-after.after old mid new c.loop-group.invariant.rewritten c.in_ok-after.ensures.rewritten;
      still = still_through old mid new c.loop-group.invariant.still c.make_each.ensures.still;
    }
