use Rattle.law_follow.proofs.Following.{graph_follows_itself}
use Rattle.sq_outline.specs.WindowsCandidates.{IsWindowsCandidate, windows_described}
use Rattle.sq_chain.specs.Candidates.{IsCandidate as IsMove, described as move_described}
use Rattle.sq_drive.proofs.Moves.{by_windows, by_moves, made_by_all}
use Rattle.sq_drive.proofs.reach.sweep_on.Goals as goal

pub returns-in_ok-live-in-Windows-clause-rewritten : goal.returns-in_ok-live-in-Windows-clause-rewritten
returns-in_ok-live-in-Windows-clause-rewritten c =
    made_by_all IsWindowsCandidate windows_described by_windows c.args.savings c.args.graph.now.graph c.sweep_windows.new.graph.graph c.sweep_windows.result c.sweep_windows.ensures.rewritten

pub returns-in-Moves-clause-rewritten : goal.returns-in-Moves-clause-rewritten
returns-in-Moves-clause-rewritten c =
    made_by_all IsMove move_described by_moves c.args.savings c.args.graph.now.graph c.sweep_moves.new.graph.graph c.sweep_moves.result c.sweep_moves.ensures.rewritten

pub returns-in_err-live-in-Windows-clause-follows : goal.returns-in_err-live-in-Windows-clause-follows
returns-in_err-live-in-Windows-clause-follows c = graph_follows_itself c.args.graph.now.graph
