use Rattle.std.proofs.Common.{rules}
use Rattle.sq_tagged.specs.Views.{store_of}
use Rattle.sq_tagged.proofs.QuietRows.{quiet}
use Rattle.sq_tagged.proofs.rows.plain_row.Goals as goal

pub returns-in-OpImm-clause-ok : goal.returns-in-OpImm-clause-ok
returns-in-OpImm-clause-ok c =
    let h = c.gives_or_breaks.ensures (store_of c.args.store.now) in
    rw c.in-OpImm.is (search (rules, quiet, h))
