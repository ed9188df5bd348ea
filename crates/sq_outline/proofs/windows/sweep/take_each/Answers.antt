use Rattle.sq_pass.proofs.Rewriting.{rewritten_itself, rewritten_through}
use Rattle.sq_outline.specs.WindowsCandidates.{IsWindowsCandidate, windows_described}
use Rattle.sq_outline.specs.WindowsSwept.{swept}
use Rattle.sq_outline.proofs.WindowsUntaken.{has_its_blocks, has_blocks_through, same_kinds}
use Rattle.sq_outline.proofs.windows.sweep.take_each.Goals as goal

pub returns-in_err-blocks-clause-blocks : goal.returns-in_err-blocks-clause-blocks
returns-in_err-blocks-clause-blocks c = has_its_blocks c.args.graph.now.graph

pub loop-window-init : goal.loop-window-init
loop-window-init c = record {
  sweeping = c.requires.sweeping;
  swept = rewritten_itself IsWindowsCandidate windows_described c.args.savings (swept c.args.graph.now.graph c.args.taken.now) c.requires.sweeping.canonical;
  blocks = has_its_blocks c.args.graph.now.graph;
  kinds = c.in_ok-blocks.ensures;
  found = c.requires.found;
}

pub take_if_may-requires-clause-live : goal.take_if_may-requires-clause-live
take_if_may-requires-clause-live c = c.loop-window.invariant.blocks.lives c.args.live.now c.requires.live

pub take_if_may-requires-clause-found : goal.take_if_may-requires-clause-found
take_if_may-requires-clause-found c = c.pop.ensures.left c.loop-window.graph.graph c.loop-window.invariant.found

pub take_if_may-requires-clause-window : goal.take_if_may-requires-clause-window
take_if_may-requires-clause-window c = c.in-Some.ensures.first c.loop-window.graph.graph c.loop-window.invariant.found

pub loop-window-preserved : goal.loop-window-preserved
loop-window-preserved c =
    let first = c.args.graph.now.graph in
    let g = c.loop-window.graph.graph in
    let h = c.take_if_may.new.graph.graph in
    record {
      sweeping = c.in_ok-after.ensures.sweeping;
      swept =
          rewritten_through IsWindowsCandidate windows_described c.args.savings c.loop-window.after c.in_ok-after.after (swept first c.args.taken.now) (swept g c.loop-window.taken) (swept h c.take_if_may.new.taken)
          c.loop-window.invariant.swept c.in_ok-after.ensures.swept;
      blocks = has_blocks_through first g h c.loop-window.invariant.blocks c.take_if_may.ensures.blocks;
      kinds = same_kinds g h c.take_if_may.ensures.blocks.blocks c.in_ok-blocks.blocks.items c.loop-window.invariant.kinds;
      found = c.in_ok-after.ensures.found;
    }

pub returns-in_err-after-clause-blocks : goal.returns-in_err-after-clause-blocks
returns-in_err-after-clause-blocks c =
    has_blocks_through c.args.graph.now.graph c.loop-window.graph.graph c.take_if_may.new.graph.graph c.loop-window.invariant.blocks c.take_if_may.ensures.blocks

pub returns-in_default-clause-found : goal.returns-in_default-clause-found
returns-in_default-clause-found c = c.pop.ensures.left c.loop-window.graph.graph c.loop-window.invariant.found
