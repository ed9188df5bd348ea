use Rattle.sq_write.proofs.Renaming.{same_file}
use Rattle.sq_write.proofs.laws.names_do_not_matter.Goals as goal

pub returns : goal.returns
returns c = λ bytes f g rules one. same_file f g rules one bytes
