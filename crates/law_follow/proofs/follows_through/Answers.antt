use Rattle.law_follow.proofs.Following.{graph_follows_through}
use Rattle.law_follow.proofs.follows_through.Goals as goal

pub returns : goal.returns
returns c = graph_follows_through
