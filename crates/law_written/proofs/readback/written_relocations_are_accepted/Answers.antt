use Rattle.law_written.proofs.Refusing.{written_relocations_are_accepted}
use Rattle.law_written.proofs.readback.written_relocations_are_accepted.Goals as goal

pub returns : goal.returns
returns c = λ bytes g can. written_relocations_are_accepted bytes g can
