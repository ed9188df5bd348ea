use Rattle.law_follow.proofs.Following.{graph_follows_itself}
use Rattle.sq_pass.proofs.Rewriting.{rewritten_itself}
use Rattle.sq_drive.specs.Rows.{IsRowCandidate, row_described}
use Rattle.sq_drive.proofs.rows.sweep_in_turn.Goals as goal

pub returns-then-looks-gt0-clause-rewritten : goal.returns-then-looks-gt0-clause-rewritten
returns-then-looks-gt0-clause-rewritten c = rewritten_itself IsRowCandidate row_described c.args.savings c.args.graph.now.graph c.requires.canonical

pub returns-then-looks-gt0-clause-follows : goal.returns-then-looks-gt0-clause-follows
returns-then-looks-gt0-clause-follows c = graph_follows_itself c.args.graph.now.graph
