use Rattle.sq_pass.proofs.Rewriting.{rewritten_itself, rewritten_through}
use Rattle.sq_outline.specs.Candidates.{IsCandidate, described}
use Rattle.sq_outline.proofs.Still.{still_itself, still_through}
use Rattle.sq_outline.proofs.sweep.make_each.Goals as goal

pub loop-at-init : goal.loop-at-init
loop-at-init c = record {
  rewritten = rewritten_itself IsCandidate described c.args.savings c.args.graph.now.graph c.requires.canonical;
  still = still_itself c.args.graph.now.graph;
}

pub loop-at-preserved : goal.loop-at-preserved
loop-at-preserved c =
    let old = c.args.graph.now.graph in
    let mid = c.loop-at.graph.graph in
    let new = c.make_for.new.graph.graph in
    record {
      rewritten = rewritten_through IsCandidate described c.args.savings c.loop-at.after c.in_ok-after.after old mid new c.loop-at.invariant.rewritten c.in_ok-after.ensures.rewritten;
      still = still_through old mid new c.loop-at.invariant.still c.make_for.ensures.still;
    }
