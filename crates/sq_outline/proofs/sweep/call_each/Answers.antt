use Rattle.sq_pass.proofs.Rewriting.{rewritten_itself, rewritten_through}
use Rattle.sq_outline.specs.Candidates.{IsCandidate, described}
use Rattle.sq_outline.proofs.Still.{still_itself, still_through}
use Rattle.sq_outline.proofs.sweep.call_each.Goals as goal

pub loop-name-init : goal.loop-name-init
loop-name-init c = record {
  rewritten = rewritten_itself IsCandidate described c.args.savings c.args.graph.now.graph c.requires.canonical;
  still = still_itself c.args.graph.now.graph;
}

pub loop-name-preserved : goal.loop-name-preserved
loop-name-preserved c =
    let old = c.args.graph.now.graph in
    let mid = c.loop-name.graph.graph in
    let new = c.call_for-after.new.graph.graph in
    record {
      rewritten = rewritten_through IsCandidate described c.args.savings c.loop-name.after c.call_for-after.result old mid new c.loop-name.invariant.rewritten c.call_for-after.ensures.rewritten;
      still = still_through old mid new c.loop-name.invariant.still c.call_for-after.ensures.still;
    }
