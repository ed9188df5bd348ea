use Rattle.law_written.proofs.Writing.{pieces_are_placed}
use Rattle.law_written.proofs.outputs.pieces_are_placed.Goals as goal

pub returns : goal.returns
returns c = λ bytes g can. pieces_are_placed bytes g can
