use Rattle.std.proofs.Common.{get_or, sym, ◌∙◌, subst}
use Rattle.sq_tail.specs.Tails.{AreTails, IsJoined}
use Rattle.sq_tail.proofs.Admitting.{joinable, tails_there, candidate_applied}
use Rattle.sq_tail.proofs.tails.TailsPass.apply.Goals as goal

pub join-requires-clause-tails : goal.join-requires-clause-tails
join-requires-clause-tails c =
    let g = c.args.graph.now.graph in
    let cut = c.args.cut.now in
    let j = joinable g cut c.requires.candidate in
    subst (λ blocks. AreTails g (get_or blocks 0 0) (get_or blocks 1 0) cut.length) (sym (c.as_slice-blocks.ensures ∙ j.two.blocks)) (tails_there g cut j.dropped j.kept c.requires.candidate j.two.blocks)

pub returns-clause-applied : goal.returns-clause-applied
returns-clause-applied c =
    let g = c.args.graph.now.graph in
    let h = c.join.new.graph.graph in
    let cut = c.args.cut.now in
    let j = joinable g cut c.requires.candidate in
    candidate_applied g h cut j.dropped j.kept c.learn.ensures.rules c.requires.candidate j.two.blocks
    (subst (λ blocks. IsJoined g (get_or blocks 0 0) (get_or blocks 1 0) cut.length h) (c.as_slice-blocks.ensures ∙ j.two.blocks) c.join.ensures.graph)
