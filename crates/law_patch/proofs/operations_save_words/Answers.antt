use Rattle.law_patch.proofs.Saving.{saved}
use Rattle.law_patch.proofs.operations_save_words.Goals as goal

pub returns : goal.returns
returns c = saved
