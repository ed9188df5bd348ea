use Rattle.std.proofs.Common.{◌≤◌, ◌+◌, Ok, length, get_or, sym, ap, ◌∙◌, arith}
use Rattle.sq_graph.specs.Blocks.{items_of}
use Rattle.sq_outline.specs.declared.sites.Site.{Site}
use Rattle.sq_outline.specs.WindowsMade.{items_at}
use Rattle.sq_outline.proofs.WindowsClasses.{are_standing}
use Rattle.sq_outline.proofs.WindowsFinding.{long_at, first_same, completes_window}
use Rattle.sq_outline.proofs.windows.search.admit_window.Goals as goal
use Rattle.sq_outline.proofs.windows.search.admit_window.Goals.{then-found-block-via-then-found-block, then-found-block-via-else-found-block+then-found-cut}

pub found_at-requires-clause-places : goal.found_at-requires-clause-places
found_at-requires-clause-places c =
    let g = c.args.graph.now.graph in
    let block = get_or c.as_slice.result.now 0 0 in
    let within : c.args.cut.other + c.args.cut.length ≤ length (items_of c.args.graph.now.graph (get_or c.as_slice.result.now 0 0)) = omega (arith, c.if-count-cut.false, ap length c.items-count.ensures) in
    are_standing g (items_at g block c.args.cut.other c.args.cut.length) c.args.cut.length c.deref-2.result.now (sym (long_at g block c.args.cut.other c.args.cut.length within)) (c.deref-2.ensures.value ∙ c.in_ok-places.ensures)

pub returns-in_default-2-clause-none : goal.returns-in_default-2-clause-none
returns-in_default-2-clause-none c = λ e given done candidate.
    let made = completes_window c.args.graph.now.graph c.args.cut given c.as_slice.result.now c.requires.row done candidate c.as_slice.ensures in
    c.found_at.ensures.none (c.in_ok-found.was ∙ ap Ok c.in_default-2.is) (get_or c.as_slice.result.now 0 0) c.args.cut.other given.link given.saving (c.deref-2.ensures.value ∙ c.in_ok-places.ensures) made

pub returns-then-found-block-clause-none : goal.returns-then-found-block-clause-none
returns-then-found-block-clause-none c = λ e given done candidate.
    let g = c.args.graph.now.graph in
    let block = get_or c.as_slice.result.now 0 0 in
    let made = completes_window g c.args.cut given c.as_slice.result.now c.requires.row done candidate c.as_slice.ensures in
    let other = rw c.in-Some.is at c.in_ok-found.ensures.some in
    let occur = rw c.in-Some.is at c.in_ok-found.ensures.first in
    let same = first_same g c.args.cut.length c.learn.ensures.rules c.deref-2.result.now block c.args.cut.other given.link given.saving c.in-Some.found.first c.in-Some.found.link c.in-Some.found.saving (c.deref-2.ensures.value ∙ c.in_ok-places.ensures) made other occur in
    let at_block = ap (λ (s : Site). s.block) same in
    let at_place = ap (λ (s : Site). s.at) same in
    elim c.then-found-block.branch [
      | then-found-block-via-then-found-block w ↦ absurd (w.if-found-block.true at_block)
      | then-found-block-via-else-found-block+then-found-cut w ↦ absurd (w.if-found-cut.true at_place)
    ]
