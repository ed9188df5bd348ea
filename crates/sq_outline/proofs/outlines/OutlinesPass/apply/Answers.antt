use Rattle.sq_outline.proofs.Applying.{made_of, called_of, inlined_of, make_cut_applied, call_matching, call_cut_applied, inline_there, inline_has_room, inline_cut_applied}
use Rattle.sq_outline.proofs.outlines.OutlinesPass.apply.Goals as goal

pub call-requires-clause-matching : goal.call-requires-clause-matching
call-requires-clause-matching c =
    let g = c.args.graph.now.graph in
    call_matching g c.args.cut.now c.as_slice-blocks.result.now c.learn.ensures.rules (called_of g c.args.cut.now c.requires.candidate c.in-O2.is) c.as_slice-blocks.ensures

pub returns-in-O1-clause-applied : goal.returns-in-O1-clause-applied
returns-in-O1-clause-applied c =
    let g = c.args.graph.now.graph in
    make_cut_applied g c.make.new.graph.graph c.args.cut.now c.as_slice-blocks.result.now c.learn.ensures.rules c.in-O1.is (made_of g c.args.cut.now c.requires.candidate c.in-O1.is) c.as_slice-blocks.ensures c.make.ensures.graph

pub returns-in-O2-clause-applied : goal.returns-in-O2-clause-applied
returns-in-O2-clause-applied c =
    let g = c.args.graph.now.graph in
    call_cut_applied g c.call.new.graph.graph c.args.cut.now c.as_slice-blocks.result.now c.learn.ensures.rules c.in-O2.is (called_of g c.args.cut.now c.requires.candidate c.in-O2.is) c.as_slice-blocks.ensures c.call.ensures.graph

pub apply_inline-requires-clause-there : goal.apply_inline-requires-clause-there
apply_inline-requires-clause-there c = let g = c.args.graph.now.graph in inline_there g c.args.cut.now (inlined_of g c.args.cut.now c.requires.candidate c.in-O4.is)

pub apply_inline-requires-clause-room : goal.apply_inline-requires-clause-room
apply_inline-requires-clause-room c = let g = c.args.graph.now.graph in inline_has_room c.args.graph.now c.args.cut.now c.in-O4.is (inlined_of g c.args.cut.now c.requires.candidate c.in-O4.is) c.requires.room

pub returns-in-O4-clause-applied : goal.returns-in-O4-clause-applied
returns-in-O4-clause-applied c =
    let g = c.args.graph.now.graph in
    inline_cut_applied g c.apply_inline.new.graph.graph c.args.cut.now c.in-O4.is (inlined_of g c.args.cut.now c.requires.candidate c.in-O4.is) c.apply_inline.ensures.applied
