use Rattle.law_lifting.proofs.Watched.{watching_erases}
use Rattle.law_lifting.proofs.watching_erases.Goals as goal

pub returns : goal.returns
returns c = λ p is linked dec fine w start plain first lo hi begins. watching_erases p is linked dec fine w start plain first lo hi begins
