use Rattle.law_patch.proofs.Shortening.{shorten_follows}
use Rattle.law_patch.proofs.shorten_keeps_runs.Goals as goal

pub returns : goal.returns
returns c = λ g block at link part to rules can. shorten_follows g block at link part to rules can
