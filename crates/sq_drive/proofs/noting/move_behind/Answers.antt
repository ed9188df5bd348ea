use Rattle.std.proofs.Common.{[]}
use Rattle.std.proofs.lemmas.List.Elements.{All-head}
use Rattle.sq_graph.specs.declared.item.Term.TheVariants.{Jump}
use Rattle.sq_graph.specs.Blocks.{HasBlock}
use Rattle.sq_lookup.proofs.Targets.{targets_there}
use Rattle.sq_drive.proofs.Replays.{moving_from}
use Rattle.sq_drive.proofs.noting.move_behind.Goals as goal

pub returns-then-not-is_block-clause-still : goal.returns-then-not-is_block-clause-still
returns-then-not-is_block-clause-still c = λ e to movable.
    let yes = c.is_block.ensures.1 (moving_from c.args.graph.now.graph c.args.from to movable) in
    let no = c.if-not-is_block.true in
    cc

pub movable-requires-clause-to : goal.movable-requires-clause-to
movable-requires-clause-to c =
    let g = c.args.graph.now.graph in
    All-head (HasBlock g) c.in-Jump.to [] (targets_there g c.args.from (Jump c.in-Jump.to) c.learn.ensures.rules c.in-Jump.ensures)
