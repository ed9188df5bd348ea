use Rattle.std.proofs.Common.{is_some, ap, ◌∙◌}
use Rattle.sq_live.proofs.Layouts.{block_at}
use Rattle.sq_lookup.proofs.resolutions.resolve_all.Goals as goal

pub note-requires-clause-block : goal.note-requires-clause-block
note-requires-clause-block c =
    let b = block_at c.args.graph.now.graph c.deref-name-items.result.now c.loop-name.name-index c.learn.ensures.rules (c.deref-name-items.ensures.value ∙ c.in_ok-names.ensures) c.loop-name-test.true in
    ap is_some b.found
