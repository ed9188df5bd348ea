use Rattle.law_written.proofs.LiftedBack.{written_graphs_lift_back}
use Rattle.law_written.proofs.readback.written_graphs_lift_back.Goals as goal

pub returns : goal.returns
returns c = λ bytes g can canonical whole is every. written_graphs_lift_back bytes g can canonical whole is every
