use Rattle.std.proofs.Common.{ap, arith}
use Rattle.sq_graph.specs.Room.{GraphAndRoom}
use Rattle.law_follow.proofs.Following.{graph_follows_itself, graph_follows_through}
use Rattle.sq_chain.proofs.Moved.{canonical_few}
use Rattle.sq_chain.specs.Moves.{moved}
use Rattle.sq_drive.proofs.Replays.{follows_same, less_by, move_taken, moving, moving_from, moving_to}
use Rattle.sq_drive.proofs.replaying.take_move.Goals as goal
use Rattle.sq_drive.proofs.replaying.take_move.Goals.{then-not-is_block-via-then-not-is_block, then-not-is_block-via-else-not-is_block+then-not-is_block-2}

pub returns-then-not-is_block-clause-none : goal.returns-then-not-is_block-clause-none
returns-then-not-is_block-clause-none c = λ e given.
    let g = c.args.graph.now.graph in
    let from = c.args.from in
    let to = c.args.to in
    let m = moving g from to given in
    elim c.then-not-is_block.branch [
      | then-not-is_block-via-then-not-is_block w ↦
          let yes = c.is_block.ensures.1 (moving_from g from to m.movable) in
          let no = w.if-not-is_block.true in
          cc
      | then-not-is_block-via-else-not-is_block+then-not-is_block-2 w ↦
          let yes = w.is_block-else-not-is_block.ensures.1 (moving_to g from to c.learn.ensures.rules m.movable) in
          let no = w.if-not-is_block-2.true in
          cc
    ]

pub returns-then-not-is_block-clause-follows : goal.returns-then-not-is_block-clause-follows
returns-then-not-is_block-clause-follows c = graph_follows_itself c.args.graph.now.graph

pub returns-then-not-movable-clause-none : goal.returns-then-not-movable-clause-none
returns-then-not-movable-clause-none c = λ e given.
    let m = moving c.args.graph.now.graph c.args.from c.args.to given in
    let yes = c.movable.ensures.1 m.movable in
    let no = c.if-not-movable.true in
    cc

pub returns-then-not-movable-clause-follows : goal.returns-then-not-movable-clause-follows
returns-then-not-movable-clause-follows c = graph_follows_itself c.args.graph.now.graph

pub try_move-requires-clause-blocks : goal.try_move-requires-clause-blocks
try_move-requires-clause-blocks c =
    let few = canonical_few c.args.graph.now.graph c.requires.canonical in
    let words = c.requires.words in
    omega (arith, few, words)

pub returns-in_err-try_move-clause-follows : goal.returns-in_err-try_move-clause-follows
returns-in_err-try_move-clause-follows c =
    follows_same c.args.graph.now.graph c.try_move.new.graph.graph (ap (λ (v : GraphAndRoom). v.graph) c.in_err-try_move.ensures.kept)

pub returns-then-not-branch-clause-none : goal.returns-then-not-branch-clause-none
returns-then-not-branch-clause-none c = λ e given.
    let m = moving c.args.graph.now.graph c.args.from c.args.to given in
    let still = c.in_ok-try_move.ensures.still (cc) in
    omega (arith, still, m.fewer)

pub returns-then-not-branch-clause-follows : goal.returns-then-not-branch-clause-follows
returns-then-not-branch-clause-follows c =
    follows_same c.args.graph.now.graph c.try_move.new.graph.graph (ap (λ (v : GraphAndRoom). v.graph) (c.in_ok-try_move.ensures.same (cc)))

pub returns-in_err-tidy-clause-follows : goal.returns-in_err-tidy-clause-follows
returns-in_err-tidy-clause-follows c =
    let m = c.in_ok-try_move.ensures.moved (cc) in
    graph_follows_through c.args.graph.now.graph c.try_move.new.graph.graph c.tidy.new.graph.graph m.applied.follows c.tidy.ensures.follows

pub returns-clause-taken : goal.returns-clause-taken
returns-clause-taken c = λ e.
    move_taken c.args.from c.args.to c.args.graph.now.graph c.try_move.new.graph.graph c.tidy.new.graph.graph (c.in_ok-try_move.ensures.moved (cc)) c.in_ok-tidy.ensures.graph

pub returns-clause-less : goal.returns-clause-less
returns-clause-less c = λ e.
    let g = c.args.graph.now.graph in
    let m = c.in_ok-try_move.ensures.moved (cc) in
    less_by m.saving (moved g c.args.from c.args.to) g c.try_move.new.graph.graph c.tidy.new.graph.graph m.applied c.in_ok-tidy.ensures.lighter c.in_ok-tidy.ensures.slotted

pub returns-clause-follows : goal.returns-clause-follows
returns-clause-follows c =
    let m = c.in_ok-try_move.ensures.moved (cc) in
    graph_follows_through c.args.graph.now.graph c.try_move.new.graph.graph c.tidy.new.graph.graph m.applied.follows c.tidy.ensures.follows
