use Rattle.std.proofs.Common.{not, ap, ◌∙◌, arith}
use Rattle.sq_lookup.proofs.Noting.{is_nothing}
use Rattle.sq_chain.proofs.Unmarked.{clear_between}
use Rattle.sq_chain.proofs.clear.is_clear.Goals as goal

pub returns : goal.returns
returns c = λ none g rules placed are seam from to.
    clear_between g rules c.args.addresses.now c.args.branches.now placed are c.args.first c.args.last c.min-ahead.result c.start_near-start.result c.min-behind.result c.start_near-start.ensures
    (λ some. omega arith)
    (λ w few past. omega arith)
    (c.marked_between.ensures.none (is_nothing c.marked_between.result (c.is_none.ensures ∙ ap not none)))
    seam from to
