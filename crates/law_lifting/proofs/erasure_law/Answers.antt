use Rattle.law_lifting.proofs.Watched.{erasure_law}
use Rattle.law_lifting.proofs.erasure_law.Goals as goal

pub returns : goal.returns
returns c = λ p is linked dec fine w start plain first lo hi begins. erasure_law p is linked dec fine w start plain first lo hi begins
