use Rattle.sq_outline.proofs.WindowsApplying.{window_of_cut, window_within}
use Rattle.sq_outline.proofs.windows.pass.WindowsPass.room.Goals as goal

pub returns-in-W-clause-within : goal.returns-in-W-clause-within
returns-in-W-clause-within c =
    let g = c.args.graph.now.graph in
    window_within g c.args.cut.now c.learn.ensures.rules c.learn.ensures.few (window_of_cut g c.args.cut.now c.requires c.in-W.is)
