use Rattle.law_patch.proofs.Inverting.{invert_follows}
use Rattle.law_patch.proofs.invert_keeps_runs.Goals as goal

pub returns : goal.returns
returns c = λ g block cond a b over behind to rules jumped. invert_follows g block cond a b over behind to rules jumped
