use Rattle.std.proofs.Common.{◌∙◌, List, ℕ, length, ap}
use Rattle.std.proofs.lemmas.List.{length-map}
use Rattle.sq_lookup.specs.Lowering.{raised_word}
use Rattle.sq_chain.specs.Places.{placed_at}
use Rattle.sq_chain.proofs.Tabled.{raised_at}
use Rattle.sq_chain.proofs.placing.raise_behind.Goals as goal

pub returns-clause-length : goal.returns-clause-length
returns-clause-length c = ap (λ (t : List ℕ). length t) c.raise_behind.ensures ∙ length-map c.args.addresses.now (raised_word c.args.start)

pub returns-clause-raised : goal.returns-clause-raised
returns-clause-raised c = λ n. ap (λ t. placed_at t n) c.raise_behind.ensures ∙ raised_at c.args.start c.args.addresses.now n (c.requires n)
