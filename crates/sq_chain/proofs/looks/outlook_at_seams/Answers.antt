use Rattle.std.proofs.Common.{sym, subst}
use Rattle.sq_graph.specs.Blocks.{HasBlock}
use Rattle.sq_chain.specs.Moves.{fallen, carried}
use Rattle.sq_chain.proofs.Distant.{addresses_stay}
use Rattle.sq_chain.proofs.FallenNear.{reach_there}
use Rattle.sq_chain.proofs.Orders.{last_has}
use Rattle.sq_chain.proofs.Reordered.{to_has}
use Rattle.sq_chain.proofs.Unmarked.{clear_reaches}
use Rattle.sq_chain.proofs.looks.outlook_at_seams.Goals as goal

pub shift_of-shift-requires-clause-addresses : goal.shift_of-shift-requires-clause-addresses
shift_of-shift-requires-clause-addresses c = addresses_stay c.args.graph.now.graph c.args.survey.now c.requires.survey c.if-survey-ne0.false

pub outlook_by-requires-clause-to : goal.outlook_by-requires-clause-to
outlook_by-requires-clause-to c = to_has c.args.graph.now.graph c.args.corners.from c.args.corners.to c.learn.ensures.rules c.requires.movable

pub outlook_by-requires-clause-end : goal.outlook_by-requires-clause-end
outlook_by-requires-clause-end c =
    let g = c.args.graph.now.graph in
    subst (HasBlock g) (sym c.requires.end) (last_has g c.args.corners.from c.args.corners.to c.learn.ensures.rules c.requires.movable)

pub outlook_by-requires-clause-addresses : goal.outlook_by-requires-clause-addresses
outlook_by-requires-clause-addresses c = addresses_stay c.args.graph.now.graph c.args.survey.now c.requires.survey c.if-survey-ne0.false

pub outlook_by-requires-clause-reach : goal.outlook_by-requires-clause-reach
outlook_by-requires-clause-reach c = reach_there c.args.graph.now.graph c.args.survey.now c.requires.survey c.if-survey-ne0.false c.if-not-survey.false

pub returns-then-are_clear-clause-near : goal.returns-then-are_clear-clause-near
returns-then-are_clear-clause-near c = λ near.
    let g = c.args.graph.now.graph in
    let s = c.requires.survey in
    let at = addresses_stay g c.args.survey.now s c.if-survey-ne0.false in
    let clear = c.are_clear.ensures in
    clear_reaches g (fallen (carried g c.args.corners.from c.args.corners.to)) c.shift_of-shift.result c.learn.ensures.rules c.shift_of-shift.ensures (reach_there g c.args.survey.now s c.if-survey-ne0.false c.if-not-survey.false)
    (clear.first c.if-are_clear.true g c.learn.ensures.rules at s.branches) (clear.second c.if-are_clear.true g c.learn.ensures.rules at s.branches) (clear.end c.if-are_clear.true g c.learn.ensures.rules at s.branches)
