use Rattle.sq_outline.proofs.RecallNumbers.{pair_itself, grown_by}
use Rattle.sq_outline.proofs.recall.number_after.Goals as goal

pub returns-clause-grown : goal.returns-clause-grown
returns-clause-grown c = grown_by _ _ _ _ pair_itself c.in_ok-at.ensures.unique c.in_ok-at.ensures.keys
