use Rattle.std.proofs.lemmas.Bool.{or_left, or_right}
use Rattle.sq_graph.specs.declared.item.Term.TheVariants.{Branch}
use Rattle.sq_graph.specs.Blocks.{HasBlock}
use Rattle.sq_lookup.proofs.Targets.{has_term}
use Rattle.sq_chain.specs.Bare.{is_it}
use Rattle.sq_chain.proofs.Both.{if_some}
use Rattle.sq_chain.proofs.Missed.{none_missed}
use Rattle.sq_chain.proofs.around.look_around.Goals as goal

pub look_at_block-around-requires-clause-block : goal.look_at_block-around-requires-clause-block
look_at_block-around-requires-clause-block c =
    let g = c.args.graph.now.graph in
    let wide = c.args.wide in
    if_some (HasBlock c.args.graph.now.graph) wide.one (λ n e. let b = c.requires.wide.branches n (or_left (is_it wide.one n) (is_it wide.other n) e) in has_term g n (Branch b.cond b.a b.b b.to) b.is)

pub look_at_block-requires-clause-block : goal.look_at_block-requires-clause-block
look_at_block-requires-clause-block c =
    let g = c.args.graph.now.graph in
    let wide = c.args.wide in
    if_some (HasBlock c.args.graph.now.graph) wide.other (λ n e. let b = c.requires.wide.branches n (or_right (is_it wide.one n) (is_it wide.other n) e) in has_term g n (Branch b.cond b.a b.b b.to) b.is)

pub returns-clause-near : goal.returns-clause-near
returns-clause-near c = λ near.
    let one = c.look_at_block.ensures.before near in
    let seams = c.look_at_block-around.ensures.before one in
    none_missed c.args.graph.now.graph c.requires.settled.0 c.args.shift c.learn.ensures.rules c.requires.settled.1 c.requires.reach c.args.wide
    (c.look_at_seams-seams.ensures.first seams) (c.look_at_seams-seams.ensures.second seams) (c.look_at_seams-seams.ensures.third seams)
    (c.look_at_block-around.ensures.near one) (c.look_at_block.ensures.near near)
