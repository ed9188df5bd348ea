use Rattle.sq_outline.proofs.WindowsApplying.{inside_of, inside_matching, inside_cut_applied, window_of_cut, window_there, window_cut_applied}
use Rattle.sq_outline.proofs.windows.pass.WindowsPass.apply.Goals as goal

pub call-requires-clause-matching : goal.call-requires-clause-matching
call-requires-clause-matching c =
    let g = c.args.graph.now.graph in
    inside_matching g c.args.cut.now c.as_slice-blocks.result.now (inside_of g c.args.cut.now c.requires.candidate c.in-V.is) c.as_slice-blocks.ensures

pub returns-in-V-clause-applied : goal.returns-in-V-clause-applied
returns-in-V-clause-applied c =
    let g = c.args.graph.now.graph in
    inside_cut_applied g c.call.new.graph.graph c.args.cut.now c.as_slice-blocks.result.now c.learn.ensures.rules c.in-V.is (inside_of g c.args.cut.now c.requires.candidate c.in-V.is) c.as_slice-blocks.ensures c.call.ensures.graph

pub make_window-requires-clause-made : goal.make_window-requires-clause-made
make_window-requires-clause-made c =
    let g = c.args.graph.now.graph in
    window_there g c.args.cut.now c.as_slice-blocks.result.now (window_of_cut g c.args.cut.now c.requires.candidate c.in-W.is) c.as_slice-blocks.ensures

pub returns-in-W-clause-applied : goal.returns-in-W-clause-applied
returns-in-W-clause-applied c =
    let g = c.args.graph.now.graph in
    window_cut_applied g c.make_window.new.graph.graph c.args.cut.now c.as_slice-blocks.result.now c.learn.ensures.rules c.in-W.is (window_of_cut g c.args.cut.now c.requires.candidate c.in-W.is) c.as_slice-blocks.ensures c.make_window.ensures.graph
