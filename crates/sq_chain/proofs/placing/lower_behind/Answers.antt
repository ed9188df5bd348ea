use Rattle.std.proofs.Common.{◌∙◌, ap}
use Rattle.sq_chain.specs.Places.{placed_at}
use Rattle.sq_chain.proofs.Tabled.{lowered_at}
use Rattle.sq_chain.proofs.placing.lower_behind.Goals as goal

pub returns : goal.returns
returns c = λ n. ap (λ t. placed_at t n) c.lower_behind.ensures ∙ lowered_at c.args.start c.args.addresses.now n
