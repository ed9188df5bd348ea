use Rattle.law_patch.proofs.Recalling.{uncalled_goes_follows}
use Rattle.law_patch.proofs.uncalled_goes_keeps_runs.Goals as goal

pub returns : goal.returns
returns c = λ g procedure rules unused. uncalled_goes_follows g procedure rules unused
