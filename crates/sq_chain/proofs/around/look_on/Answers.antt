use Rattle.sq_chain.proofs.around.look_on.Goals as goal

pub returns-clause-near : goal.returns-clause-near
returns-clause-near c = λ near unseen. c.look_around_span.ensures.near near
