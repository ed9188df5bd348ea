use Rattle.sq_jumps.proofs.jumps.jump_row.Goals as goal
use Rattle.sq_jumps.proofs.InvertTests.{survey_safe}

pub branches_over_jump-requires-clause-survey : goal.branches_over_jump-requires-clause-survey
branches_over_jump-requires-clause-survey c = survey_safe c.args.graph.now.graph _ _ _ c.learn.ensures.rules c.requires.survey c.learn.ensures.few
