use Rattle.law_patch.proofs.Detouring.{detour_follows}
use Rattle.law_patch.proofs.detour_keeps_runs.Goals as goal

pub returns : goal.returns
returns c = λ g block to rules leads. detour_follows g block to rules leads
