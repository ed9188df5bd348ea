use Rattle.law_runs.proofs.Traces.{stay, grow}
use Rattle.law_runs.proofs.stay.Goals as goal

pub returns-clause-stays : goal.returns-clause-stays
returns-clause-stays g c = stay

pub returns-clause-leads : goal.returns-clause-leads
returns-clause-leads g c = grow
