use Rattle.std.proofs.Common.{◌∙◌, arith}
use Rattle.sq_chain.specs.Moves.{carried}
use Rattle.sq_chain.proofs.Carried.{carried_words}
use Rattle.sq_chain.proofs.Surveyed.{carried_laid, carried_below}
use Rattle.sq_chain.proofs.outlook.outlook_of.Goals as goal

pub ordered_outlook-requires : goal.ordered_outlook-requires
ordered_outlook-requires c =
    let g = c.args.graph.now.graph in
    let laid = carried_laid g c.args.corners.from c.args.corners.to c.learn.ensures.rules c.requires.movable c.deref-2.result.now c.learn.ensures.few (c.deref-2.ensures.value ∙ c.in_ok-order.ensures) in
    let below = carried_below g c.args.corners.from c.args.corners.to c.learn.ensures.rules c.requires.movable c.args.survey.now.names c.requires.survey.names in
    (carried g c.args.corners.from c.args.corners.to, laid, below)

pub returns-clause-near : goal.returns-clause-near
returns-clause-near c = λ e.
    let g = c.args.graph.now.graph in
    let laid = carried_laid g c.args.corners.from c.args.corners.to c.learn.ensures.rules c.requires.movable c.deref-2.result.now c.learn.ensures.few (c.deref-2.ensures.value ∙ c.in_ok-order.ensures) in
    let below = carried_below g c.args.corners.from c.args.corners.to c.learn.ensures.rules c.requires.movable c.args.survey.now.names c.requires.survey.names in
    c.ordered_outlook.ensures.near e (carried g c.args.corners.from c.args.corners.to) laid below

pub returns-clause-still : goal.returns-clause-still
returns-clause-still c = λ e.
    let g = c.args.graph.now.graph in
    let laid = carried_laid g c.args.corners.from c.args.corners.to c.learn.ensures.rules c.requires.movable c.deref-2.result.now c.learn.ensures.few (c.deref-2.ensures.value ∙ c.in_ok-order.ensures) in
    let below = carried_below g c.args.corners.from c.args.corners.to c.learn.ensures.rules c.requires.movable c.args.survey.now.names c.requires.survey.names in
    let few = c.ordered_outlook.ensures.still e (carried g c.args.corners.from c.args.corners.to) laid below in
    omega (arith, few, carried_words g c.args.corners.from c.args.corners.to c.learn.ensures.rules c.requires.movable)

pub returns-then-ne-clause-few : goal.returns-then-ne-clause-few
returns-then-ne-clause-few c = λ wide e. c.outlook_at_seams-seen.ensures.few wide (cc (e))
