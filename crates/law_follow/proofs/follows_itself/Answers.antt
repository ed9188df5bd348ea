use Rattle.law_follow.proofs.Following.{graph_follows_itself}
use Rattle.law_follow.proofs.follows_itself.Goals as goal

pub returns : goal.returns
returns c = graph_follows_itself
