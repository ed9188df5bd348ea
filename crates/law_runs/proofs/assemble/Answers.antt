use Rattle.law_runs.proofs.Follow.{assemble}
use Rattle.law_runs.proofs.assemble.Goals as goal

pub returns : goal.returns
returns g c = λ watch a g h b u s v w t. assemble watch u a s g v h w b t
