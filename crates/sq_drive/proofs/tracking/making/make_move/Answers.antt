use Rattle.std.proofs.Common.{arith}
use Rattle.sq_chain.proofs.Moved.{canonical_few}
use Rattle.sq_drive.proofs.Replays.{moving, moving_from, moving_to}
use Rattle.sq_drive.proofs.Tracked.{move_made_so}
use Rattle.sq_drive.proofs.tracking.making.make_move.Goals as goal
use Rattle.sq_drive.proofs.tracking.making.make_move.Goals.{then-not-is_block-via-then-not-is_block, then-not-is_block-via-else-not-is_block+then-not-is_block-2}

pub returns-then-not-is_block-clause-none : goal.returns-then-not-is_block-clause-none
returns-then-not-is_block-clause-none c = λ e given.
    let g = c.args.graph.now.graph in
    let from = c.args.from in
    let to = c.args.to in
    let m = moving g from to given in
    elim c.then-not-is_block.branch [
      | then-not-is_block-via-then-not-is_block w ↦
          let yes = c.is_block.ensures.1 (moving_from g from to m.movable) in
          let no = w.if-not-is_block.true in
          cc
      | then-not-is_block-via-else-not-is_block+then-not-is_block-2 w ↦
          let yes = w.is_block-else-not-is_block.ensures.1 (moving_to g from to c.learn.ensures.rules m.movable) in
          let no = w.if-not-is_block-2.true in
          cc
    ]

pub returns-then-not-movable-clause-none : goal.returns-then-not-movable-clause-none
returns-then-not-movable-clause-none c = λ e given.
    let m = moving c.args.graph.now.graph c.args.from c.args.to given in
    let yes = c.movable.ensures.1 m.movable in
    let no = c.if-not-movable.true in
    cc

pub try_move-requires-clause-blocks : goal.try_move-requires-clause-blocks
try_move-requires-clause-blocks c =
    let few = canonical_few c.args.graph.now.graph c.requires.canonical in
    let words = c.requires.words in
    omega (arith, few, words)

pub returns-clause-made : goal.returns-clause-made
returns-clause-made c = λ e.
    move_made_so c.args.from c.args.to c.args.graph.now.graph c.try_move.new.graph.graph (c.try_move.ensures.moved e)

pub returns-clause-none : goal.returns-clause-none
returns-clause-none c = λ e given.
    let m = moving c.args.graph.now.graph c.args.from c.args.to given in
    let still = c.try_move.ensures.still e in
    omega (arith, still, m.fewer)
