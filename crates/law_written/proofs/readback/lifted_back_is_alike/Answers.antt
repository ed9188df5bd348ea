use Rattle.law_written.proofs.AlikeBack.{lifted_back_is_alike}
use Rattle.law_written.proofs.readback.lifted_back_is_alike.Goals as goal

pub returns : goal.returns
returns c = λ bytes g can canonical whole is every. lifted_back_is_alike bytes g can canonical whole is every
