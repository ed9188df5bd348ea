use Rattle.sq_finger.proofs.Telling.{items_numbered, terms_numbered}
use Rattle.sq_finger.proofs.laws.number_laws.Goals as goal

pub returns-clause-items : goal.returns-clause-items
returns-clause-items c = λ items numbers fits are. items_numbered items numbers fits are

pub returns-clause-terms : goal.returns-clause-terms
returns-clause-terms c = λ terms numbers are. terms_numbered terms numbers are
