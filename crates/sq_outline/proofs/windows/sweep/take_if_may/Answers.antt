use Rattle.std.proofs.Common.{◌≤◌, List, None, length, sym, ◌∙◌, subst, arith}
use Rattle.sq_outline.specs.declared.sites.Site.{Site}
use Rattle.sq_outline.specs.WindowsSearch.{thinned}
use Rattle.sq_outline.specs.WindowsTaken.{MayBeMadeOf}
use Rattle.sq_outline.proofs.WindowsFew.{less_by_one}
use Rattle.sq_pass.proofs.Rewriting.{rewritten_itself}
use Rattle.sq_outline.specs.WindowsCandidates.{IsWindowsCandidate, windows_described}
use Rattle.sq_outline.specs.WindowsSwept.{swept}
use Rattle.sq_outline.proofs.WindowsFreePlaces.{free_there, free_few, free_made}
use Rattle.sq_outline.proofs.WindowsUntaken.{has_its_blocks, same_found}
use Rattle.sq_outline.proofs.windows.sweep.take_if_may.Goals as goal

pub returns-in_err-places-clause-blocks : goal.returns-in_err-places-clause-blocks
returns-in_err-places-clause-blocks c = has_its_blocks c.args.graph.now.graph

pub returns-in_default-clause-swept : goal.returns-in_default-clause-swept
returns-in_default-clause-swept c = rewritten_itself IsWindowsCandidate windows_described c.args.savings (swept c.args.graph.now.graph c.args.taken.now) c.requires.sweeping.canonical

pub returns-in_default-clause-blocks : goal.returns-in_default-clause-blocks
returns-in_default-clause-blocks c = has_its_blocks c.args.graph.now.graph

pub found_with_sites-requires-clause-places : goal.found_with_sites-requires-clause-places
found_with_sites-requires-clause-places c =
    let f = c.args.window.now.found.first in
    free_there c.args.graph.now.graph c.args.taken.now.fates.items c.requires.sweeping.fates.fates c.learn.ensures.rules f.block f.at c.args.window.now.n (rw c.in-Some.is at c.in_ok-places.ensures.within) c.deref.result.now
    (c.deref.ensures.value ∙ rw c.in-Some.is at c.in_ok-places.ensures.places)

pub found_with_sites-requires-clause-few : goal.found_with_sites-requires-clause-few
found_with_sites-requires-clause-few c =
    let f = c.args.window.now.found.first in
    let n = c.args.window.now.n in
    let least : 3 ≤ c.args.window.now.n = rw c.in-Some.is at c.in_ok-places.ensures.least in
    let few =
    free_few c.args.graph.now.graph c.args.taken.now.fates.items c.requires.sweeping.fates.fates c.learn.ensures.rules f.block f.at n (rw c.in-Some.is at c.in_ok-places.ensures.within) c.deref.result.now
    (c.deref.ensures.value ∙ rw c.in-Some.is at c.in_ok-places.ensures.places) (omega (arith, least)) (rw c.in-Some.is at c.in_ok-places.ensures.plain) c.requires.sweeping.rules in
    let all = c.requires.sweeping.few in
    omega (arith, few, all, less_by_one (length (thinned n None c.deref.result.now)) n)

pub returns-in_err-found-clause-blocks : goal.returns-in_err-found-clause-blocks
returns-in_err-found-clause-blocks c = has_its_blocks c.args.graph.now.graph

pub returns-in_default-2-clause-swept : goal.returns-in_default-2-clause-swept
returns-in_default-2-clause-swept c = rewritten_itself IsWindowsCandidate windows_described c.args.savings (swept c.args.graph.now.graph c.args.taken.now) c.requires.sweeping.canonical

pub returns-in_default-2-clause-blocks : goal.returns-in_default-2-clause-blocks
returns-in_default-2-clause-blocks c = has_its_blocks c.args.graph.now.graph

pub returns-in_err-put_back-clause-blocks : goal.returns-in_err-put_back-clause-blocks
returns-in_err-put_back-clause-blocks c = has_its_blocks c.args.graph.now.graph

pub returns-then-part-window-clause-swept : goal.returns-then-part-window-clause-swept
returns-then-part-window-clause-swept c = rewritten_itself IsWindowsCandidate windows_described c.args.savings (swept c.args.graph.now.graph c.args.taken.now) c.requires.sweeping.canonical

pub returns-then-part-window-clause-blocks : goal.returns-then-part-window-clause-blocks
returns-then-part-window-clause-blocks c = has_its_blocks c.args.graph.now.graph

pub take_window-requires-clause-may : goal.take_window-requires-clause-may
take_window-requires-clause-may c =
    let f = c.args.window.now.found.first in
    let made = c.in-Some-2.found in
    let places = c.deref.result.now in
    let are = c.deref.ensures.value ∙ rw c.in-Some.is at c.in_ok-places.ensures.places in
    subst (λ (ss : List Site). MayBeMadeOf c.args.graph.now.graph c.args.taken.now.fates.items made.first.block made.first.at c.args.window.now.n made.link made.saving ss) (sym c.deref-2.ensures.value)
    (free_made c.args.graph.now.graph c.args.taken.now.fates.items c.requires.sweeping.fates.fates c.learn.ensures.rules f.block f.at c.args.window.now.n (rw c.in-Some.is at c.in_ok-places.ensures.within) places are made.first made.link made.saving
    c.in-Some-2.sites.items (rw c.in-Some.is at c.in_ok-places.ensures.least) (rw c.in-Some.is at c.in_ok-places.ensures.most) (rw c.in-Some-2.is at c.in_ok-found.ensures.some))

pub returns-clause-found : goal.returns-clause-found
returns-clause-found c = same_found c.args.graph.now.graph c.take_window.new.graph.graph c.take_window.ensures.blocks.blocks c.args.windows.now c.requires.found
