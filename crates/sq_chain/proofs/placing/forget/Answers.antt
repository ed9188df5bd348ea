use Rattle.std.proofs.Common.{◌∙◌, ap}
use Rattle.sq_chain.specs.Places.{placed_at}
use Rattle.sq_chain.proofs.Tabled.{forgotten}
use Rattle.sq_chain.proofs.placing.forget.Goals as goal

pub returns : goal.returns
returns c = λ n. ap (λ t. placed_at t n) c.forget.ensures ∙ forgotten c.args.addresses.now c.args.name n
