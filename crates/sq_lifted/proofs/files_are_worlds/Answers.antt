use Rattle.sq_lifted.proofs.FilePieces.{files_are_worlds}
use Rattle.sq_lifted.proofs.files_are_worlds.Goals as goal

pub returns : goal.returns
returns c = λ bytes is p fit read. files_are_worlds bytes is p fit read
