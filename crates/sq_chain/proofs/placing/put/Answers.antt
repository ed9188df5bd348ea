use Rattle.std.proofs.Common.{◌∙◌, List, ℕ, length, ap}
use Rattle.std.proofs.lemmas.List.{length-set}
use Rattle.sq_chain.specs.Places.{placed_at}
use Rattle.sq_chain.proofs.Tabled.{put_at}
use Rattle.sq_chain.proofs.placing.put.Goals as goal

pub returns-clause-length : goal.returns-clause-length
returns-clause-length c = ap (λ (t : List ℕ). length t) c.put.ensures ∙ length-set c.args.addresses.now c.args.name c.args.words

pub returns-clause-value : goal.returns-clause-value
returns-clause-value c = λ n. ap (λ t. placed_at t n) c.put.ensures ∙ put_at c.args.addresses.now c.args.name c.args.words n c.requires.within c.requires.there
