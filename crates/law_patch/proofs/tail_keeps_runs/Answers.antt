use Rattle.law_patch.proofs.Tailing.{tail_follows}
use Rattle.law_patch.proofs.tail_keeps_runs.Goals as goal

pub returns : goal.returns
returns c = λ g new dropped at kept from rules fresh have. tail_follows g new dropped at kept from rules fresh have
