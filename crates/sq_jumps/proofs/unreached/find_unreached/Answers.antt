use Rattle.std.proofs.Common.{◌∙◌, sym, arith}
use Rattle.sq_jumps.proofs.UnreachedCounted.{none_unreached, cut_is}
use Rattle.sq_jumps.proofs.unreached.find_unreached.Goals as goal

pub returns-then-found-eq0-clause-none : goal.returns-then-found-eq0-clause-none
returns-then-found-eq0-clause-none c = λ none cut.
    none_unreached c.args.graph.now.graph c.in_ok-found.found.gone c.in_ok-found.ensures.unreached (sym c.in_ok-found.ensures.saving ∙ c.if-found-eq0.true) cut

pub returns-clause-some : goal.returns-clause-some
returns-clause-some c =
    let found = c.in_ok-found.found in
    let more = c.if-found-eq0.false in
    rw c.no_register.ensures (cut_is c.args.graph.now.graph found.gone found.saving c.in_ok-found.ensures.unreached c.in_ok-found.ensures.saving (omega (arith, more)))
