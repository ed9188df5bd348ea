use Rattle.std.proofs.Common.{ap, ◌∙◌}
use Rattle.sq_jumps.specs.Unreached.{without_all}
use Rattle.sq_jumps.proofs.jumps.JumpsPass.apply.Goals as goal
use Rattle.sq_jumps.proofs.Cutting.{unreached_of, unreached_gone}

pub returns-in-U-clause-applied : goal.returns-in-U-clause-applied
returns-in-U-clause-applied c =
    let g = c.args.graph.now.graph in
    let u = unreached_of g c.args.cut.now c.requires.candidate c.in-U.is in
    unreached_gone g c.drop_unreached.new.graph.graph c.args.cut.now c.learn.ensures.rules u c.drop_unreached.ensures.rules (c.drop_unreached.ensures.graph ∙ ap (λ ns. without_all g ns) c.as_slice-blocks.ensures)
