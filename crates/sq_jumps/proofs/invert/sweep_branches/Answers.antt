use Rattle.law_follow.proofs.Following.{graph_follows_itself}
use Rattle.sq_jumps.proofs.invert.sweep_branches.Goals as goal
use Rattle.sq_jumps.proofs.InvertTests.{survey_safe}

pub returns-in_err-names-clause-follows : goal.returns-in_err-names-clause-follows
returns-in_err-names-clause-follows c = graph_follows_itself c.args.graph.now.graph

pub returns-in_err-survey-clause-follows : goal.returns-in_err-survey-clause-follows
returns-in_err-survey-clause-follows c = graph_follows_itself c.args.graph.now.graph

pub invert_each-requires-clause-survey : goal.invert_each-requires-clause-survey
invert_each-requires-clause-survey c = survey_safe c.args.graph.now.graph _ _ _ c.learn.ensures.rules c.in_ok-survey.ensures c.learn.ensures.few
