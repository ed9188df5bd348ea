use Rattle.sq_lookup.proofs.Viewing.{words_none}
use Rattle.sq_lookup.proofs.words_before.WordsBefore.new.Goals as goal

pub returns-clause-none : goal.returns-clause-none
returns-clause-none c = words_none c.in_ok-text.text c.in_ok-text.ensures.none
