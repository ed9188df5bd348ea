use Rattle.sq_jumps.specs.Candidates.{IsCandidate, described}
use Rattle.sq_pass.proofs.Rewriting.{rewritten_itself, rewritten_through}
use Rattle.sq_jumps.proofs.invert.invert_each.Goals as goal

pub loop-name-init : goal.loop-name-init
loop-name-init c = record {
  rewritten = rewritten_itself IsCandidate described c.args.savings c.args.graph.now.graph c.requires.canonical;
  survey = c.requires.survey;
}

pub loop-name-preserved : goal.loop-name-preserved
loop-name-preserved c = record {
  rewritten = rewritten_through IsCandidate described c.args.savings c.loop-name.after c.invert_one-after.result c.args.graph.now.graph c.loop-name.graph.graph c.invert_one-after.new.graph.graph c.loop-name.invariant.rewritten c.invert_one-after.ensures.rewritten;
  survey = c.invert_one-after.ensures.survey;
}
