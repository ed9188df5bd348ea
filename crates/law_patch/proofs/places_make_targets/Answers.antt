use Rattle.law_patch.proofs.LiveTargets.{place_makes}
use Rattle.law_patch.proofs.places_make_targets.Goals as goal

pub returns : goal.returns
returns c = place_makes
