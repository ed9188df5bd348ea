use Rattle.law_patch.proofs.Exchanging.{exchange_follows}
use Rattle.law_patch.proofs.exchange_keeps_runs.Goals as goal

pub returns : goal.returns
returns c = λ g block cond a b over away to rules over_jump. exchange_follows g block cond a b over away to rules over_jump
