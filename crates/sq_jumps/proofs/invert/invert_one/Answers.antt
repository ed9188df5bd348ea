use Rattle.sq_jumps.specs.Candidates.{IsCandidate, described}
use Rattle.sq_lookup.specs.Tables.{number_at}
use Rattle.sq_pass.proofs.Rewriting.{rewritten_itself}
use Rattle.sq_jumps.proofs.invert.invert_one.Goals as goal
use Rattle.sq_jumps.proofs.InvertKept.{invert_rewritten}
use Rattle.sq_jumps.proofs.InvertSafe.{invert_safe}

pub returns-then-not-is_block-clause-rewritten : goal.returns-then-not-is_block-clause-rewritten
returns-then-not-is_block-clause-rewritten c = rewritten_itself IsCandidate described c.args.savings c.args.graph.now.graph c.requires.canonical

pub returns-then-not-branches_over_jump-clause-rewritten : goal.returns-then-not-branches_over_jump-clause-rewritten
returns-then-not-branches_over_jump-clause-rewritten c = rewritten_itself IsCandidate described c.args.savings c.args.graph.now.graph c.requires.canonical

pub returns-clause-rewritten : goal.returns-clause-rewritten
returns-clause-rewritten c =
    invert_rewritten c.args.graph.now.graph c.invert.new.graph.graph c.args.block c.args.savings c.count.result c.learn.ensures.rules c.requires.canonical (c.branches_over_jump.ensures.some c.if-not-branches_over_jump.false) c.invert.ensures.graph c.count.ensures.value

pub returns-clause-survey : goal.returns-clause-survey
returns-clause-survey c =
    invert_safe c.args.graph.now.graph c.args.block c.learn.ensures.rules (c.branches_over_jump.ensures.some c.if-not-branches_over_jump.false) c.invert.new.graph.graph (number_at c.args.survey.now.addresses) c.args.survey.now.used c.invert.ensures.graph c.requires.survey
