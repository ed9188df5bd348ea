use Rattle.std.proofs.Common.{Ok, ap, ◌∙◌, subst}
use Rattle.std.specs.Prelude.{IfSome}
use Rattle.sq_tail.specs.Ends.{IsTailPair}
use Rattle.sq_tail.proofs.Cutting.{cut_pair, longest_cut}
use Rattle.sq_tail.proofs.find.find_tail_cut.Goals as goal

pub returns-in_default-clause-none : goal.returns-in_default-clause-none
returns-in_default-clause-none c = λ e cut is. c.find_tails.ensures.none (c.in_ok-dropped.was ∙ ap Ok c.in_default.is) is.dropped is.kept (cut_pair c.args.graph.now.graph cut is)

pub returns-clause-some : goal.returns-clause-some
returns-clause-some c =
    let g = c.args.graph.now.graph in
    let pair : IsTailPair g c.in-Some.dropped c.in-Some.kept = subst (λ o. IfSome o (λ found. IsTailPair g found.0 found.1)) c.in-Some.is c.in_ok-dropped.ensures.some in
    longest_cut g c.in-Some.dropped c.in-Some.kept c.common_items-length.result c.in_ok-cut.cut pair c.common_items-length.ensures c.in_ok-cut.ensures
