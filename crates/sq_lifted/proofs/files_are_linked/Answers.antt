use Rattle.sq_lifted.proofs.Files.{files_linked}
use Rattle.sq_lifted.proofs.files_are_linked.Goals as goal

pub returns : goal.returns
returns c = λ bytes is p fit read. files_linked bytes is p fit read
