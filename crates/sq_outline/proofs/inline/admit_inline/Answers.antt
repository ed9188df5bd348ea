use Rattle.std.proofs.Common.{ap, Ok}
use Rattle.sq_outline.proofs.InlineSearch.{inlinable_of}
use Rattle.sq_outline.proofs.inline.admit_inline.Goals as goal

pub returns-clause-none : goal.returns-clause-none
returns-clause-none c = λ none given completed inlined.
    c.in_ok-saving.ensures.none (ap Ok c.in-None.is) inlined.saving (inlinable_of c.args.graph.now.graph c.args.cut.now given completed inlined)
