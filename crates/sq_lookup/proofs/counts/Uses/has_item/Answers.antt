use Rattle.std.proofs.Common.{◌==◌, not, ap, ◌∙◌}
use Rattle.sq_lookup.specs.Counts.{count_at}
use Rattle.sq_lookup.proofs.Counting.{itemed_is}
use Rattle.sq_lookup.proofs.counts.Uses.has_item.Goals as goal

pub returns : goal.returns
returns c = λ g are.
    ap (λ k. not (k == 0)) (c.count.ensures ∙ ap (λ xs. count_at xs c.args.name) c.deref.ensures.value) ∙ itemed_is g c.args.self.now c.args.name are
