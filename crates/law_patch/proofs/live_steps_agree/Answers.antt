use Rattle.law_patch.proofs.LiveSteps.{steps_agree}
use Rattle.law_patch.proofs.live_steps_agree.Goals as goal

pub returns : goal.returns
returns c = steps_agree
