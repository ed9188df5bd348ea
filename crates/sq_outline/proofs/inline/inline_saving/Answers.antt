use Rattle.sq_outline.proofs.InlineSearch.{would_of}
use Rattle.sq_outline.proofs.inline.inline_saving.Goals as goal

pub returns-in_default-clause-none : goal.returns-in_default-clause-none
returns-in_default-clause-none c = λ none saving inlinable.
    c.would_save.ensures.none c.in_default.is saving (would_of c.args.graph.now.graph c.args.procedure saving inlinable)
