use Rattle.std.proofs.Common.{[]}
use Rattle.sq_lookup.proofs.Adding.{adds_uses}
use Rattle.sq_lookup.proofs.uses.used_names.Goals as goal

pub returns : goal.returns
returns c = adds_uses c.args.graph.now.graph [] c.in_ok-used.used c.use_terms.new.used c.in_ok-used.ensures c.in_ok-use_terms.ensures
