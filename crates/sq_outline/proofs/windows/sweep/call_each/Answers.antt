use Rattle.std.proofs.Common.{arith}
use Rattle.sq_pass.proofs.Rewriting.{rewritten_itself, rewritten_through}
use Rattle.sq_outline.specs.WindowsCandidates.{IsWindowsCandidate, windows_described}
use Rattle.sq_outline.specs.WindowsSwept.{swept}
use Rattle.sq_outline.proofs.windows.sweep.call_each.Goals as goal

pub loop-at-init : goal.loop-at-init
loop-at-init c = record {
  sweeping = c.requires.sweeping;
  swept = rewritten_itself IsWindowsCandidate windows_described c.args.savings (swept c.args.graph.now.graph c.args.taken.now) c.requires.sweeping.canonical;
}

pub call_if_free-requires-clause-may : goal.call_if_free-requires-clause-may
call_if_free-requires-clause-may c = c.requires.may _ _ (omega (arith, c.loop-at-test.true))

pub loop-at-preserved : goal.loop-at-preserved
loop-at-preserved c =
    let g = c.args.graph.now.graph in
    record {
      sweeping = c.in_ok-after.ensures.sweeping;
      swept =
          rewritten_through IsWindowsCandidate windows_described c.args.savings c.loop-at.after c.in_ok-after.after (swept g c.args.taken.now) (swept g c.loop-at.taken) (swept g c.call_if_free.new.taken) c.loop-at.invariant.swept
          c.in_ok-after.ensures.swept;
    }
