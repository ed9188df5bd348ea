use Rattle.std.proofs.Common.{◌-◌, length, sym, ap, ◌∙◌, subst}
use Rattle.sq_graph.specs.Calls.{are_free}
use Rattle.sq_pass.proofs.Rewriting.{rewritten_itself}
use Rattle.sq_outline.specs.WindowsCandidates.{IsWindowsCandidate, windows_described}
use Rattle.sq_outline.specs.WindowsSwept.{swept}
use Rattle.sq_outline.specs.WindowsTaken.{index_of, HasFates}
use Rattle.sq_outline.proofs.WindowsTakenOf.{has_fates, free_there}
use Rattle.sq_outline.proofs.windows.sweep.call_if_free.Goals as goal

pub body-n-requires : goal.body-n-requires
body-n-requires c = c.requires.may.callable.procedure_there

pub are_free-requires : goal.are_free-requires
are_free-requires c =
    let place = c.args.tried.place in
    subst (λ is. HasFates c.args.taken.now place.block place.at (length is)) (sym c.body-n.ensures)
    (has_fates c.args.graph.now.graph c.args.taken.now c.requires.sweeping.fates place.block place.at _ c.requires.may.callable.block_there c.requires.may.callable.within)

pub returns-then-asks-clause-swept : goal.returns-then-asks-clause-swept
returns-then-asks-clause-swept c = rewritten_itself IsWindowsCandidate windows_described c.args.savings (swept c.args.graph.now.graph c.args.taken.now) c.requires.sweeping.canonical

pub take_call-requires-clause-free : goal.take_call-requires-clause-free
take_call-requires-clause-free c =
    let g = c.args.graph.now.graph in
    let taken = c.args.taken.now in
    let place = c.args.tried.place in
    let can = c.requires.may.callable in
    sym (free_there g taken c.requires.sweeping.fates place.block place.at _ can.block_there can.within)
    ∙ ap (λ is. are_free (length is) taken.fates.items (index_of taken place.block place.at)) (sym c.body-n.ensures)
    ∙ sym c.are_free.ensures ∙ c.if-not-are_free.false
