use Rattle.std.proofs.Common.{◌+◌, sym, subst, arith}
use Rattle.sq_chain.specs.Moves.{fallen, carried}
use Rattle.sq_chain.specs.Settled.{IsLeastWide}
use Rattle.sq_chain.specs.declared.shift.Wide.{Wide}
use Rattle.sq_chain.proofs.Found.{AreFound, none_found, more_found, enough_found, all_found, none_short}
use Rattle.sq_chain.proofs.looks.outlook_by.Goals as goal

pub loop-size-init : goal.loop-size-init
loop-size-init c = none_found c.args.graph.now.graph (fallen (carried c.args.graph.now.graph c.args.corners.from c.args.corners.to)) c.args.shift c.requires.settled

pub returns-in-Near-clause-near : goal.returns-in-Near-clause-near
returns-in-Near-clause-near c = λ near.
    let g = c.args.graph.now.graph in
    let none = c.outlook_with.ensures.near near in
    none_short g (fallen (carried g c.args.corners.from c.args.corners.to)) c.args.shift c.requires.settled c.loop-size.wide c.loop-size.size c.loop-size.invariant (c.look_again.ensures.near c.in-Near.is) none.0 none.1

pub returns-in-Near-clause-few : goal.returns-in-Near-clause-few
returns-in-Near-clause-few c = λ wide few.
    let g = c.args.graph.now.graph in
    let h = fallen (carried g c.args.corners.from c.args.corners.to) in
    subst (IsLeastWide c.args.graph.now.graph (fallen (carried c.args.graph.now.graph c.args.corners.from c.args.corners.to))) (sym (c.outlook_with.ensures.few wide few))
    (all_found g h c.args.shift c.requires.settled c.loop-size.wide c.loop-size.size c.loop-size.invariant (c.look_again.ensures.near c.in-Near.is) (omega (arith, c.loop-size-test.true)))

pub loop-size-preserved : goal.loop-size-preserved
loop-size-preserved c =
    let g = c.args.graph.now.graph in
    let h = fallen (carried g c.args.corners.from c.args.corners.to) in
    subst (λ (w : Wide). AreFound c.args.graph.now.graph (fallen (carried c.args.graph.now.graph c.args.corners.from c.args.corners.to)) w (c.loop-size.size + 1)) (sym c.with-wide.ensures)
    (more_found g h c.args.shift c.requires.settled c.loop-size.wide c.loop-size.size c.loop-size.invariant c.in-Short.block (c.look_again.ensures.short c.in-Short.block c.in-Short.is) (omega (arith, c.loop-size-test.true, c.requires.settled.few_fall)))

pub returns-clause-still : goal.returns-clause-still
returns-clause-still c = λ e.
    let g = c.args.graph.now.graph in
    let h = fallen (carried g c.args.corners.from c.args.corners.to) in
    enough_found g h c.args.shift c.requires.settled c.loop-size.wide c.loop-size.size c.loop-size.invariant (omega (arith, c.loop-size-test.false))
