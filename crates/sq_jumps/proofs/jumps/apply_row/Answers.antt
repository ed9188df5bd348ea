use Rattle.sq_pass.specs.declared.cut.Row.TheVariants.{J1, J2, J3, C}
use Rattle.sq_jumps.proofs.jumps.apply_row.Goals as goal
use Rattle.sq_jumps.proofs.FallApplied.{fall_applied}
use Rattle.sq_jumps.proofs.DetourApplied.{detour_applied}
use Rattle.sq_jumps.proofs.InvertApplied.{invert_applied}
use Rattle.sq_jumps.proofs.ShortenApplied.{shorten_applied}
use Rattle.sq_jumps.proofs.Cutting.{row_applied}

pub returns-in-J1-clause-applied : goal.returns-in-J1-clause-applied
returns-in-J1-clause-applied c =
    let g = c.args.graph.now.graph in
    row_applied c.args.row J1 g c.fall.new.graph.graph c.args.block c.in-J1.is c.requires (λ has. fall_applied g c.args.block c.learn.ensures.rules has) c.fall.ensures.graph

pub returns-in-J2-clause-applied : goal.returns-in-J2-clause-applied
returns-in-J2-clause-applied c =
    let g = c.args.graph.now.graph in
    row_applied c.args.row J2 g c.remove_detour.new.graph.graph c.args.block c.in-J2.is c.requires (λ has. detour_applied g c.args.block c.learn.ensures.rules has) c.remove_detour.ensures.graph

pub returns-in-J3-clause-applied : goal.returns-in-J3-clause-applied
returns-in-J3-clause-applied c =
    let g = c.args.graph.now.graph in
    row_applied c.args.row J3 g c.invert.new.graph.graph c.args.block c.in-J3.is c.requires (λ has. invert_applied g c.args.block c.learn.ensures.rules has) c.invert.ensures.graph

pub returns-in-C-clause-applied : goal.returns-in-C-clause-applied
returns-in-C-clause-applied c =
    let g = c.args.graph.now.graph in
    row_applied c.args.row C g c.shorten.new.graph.graph c.args.block c.in-C.is c.requires (λ has. shorten_applied g c.args.block c.learn.ensures.rules has) c.shorten.ensures.graph
