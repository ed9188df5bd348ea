use Rattle.sq_chain.proofs.moving.move_surveyed.Goals as goal

pub move_by-requires-clause-near : goal.move_by-requires-clause-near
move_by-requires-clause-near c = λ same. c.in_ok-outlook.ensures.near (cc)

pub move_by-requires-clause-stays : goal.move_by-requires-clause-stays
move_by-requires-clause-stays c = λ same. c.in_ok-outlook.ensures.still (cc)
