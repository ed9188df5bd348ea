use Rattle.std.proofs.Common.{◌≤◌, ◌+◌, List, length, sym, ap, ◌∙◌, subst, arith}
use Rattle.std.specs.List.{All, filter}
use Rattle.sq_graph.specs.Blocks.{items_of}
use Rattle.sq_finger.specs.declared.places.WindowAt.{WindowAt}
use Rattle.sq_outline.specs.WindowsMade.{items_at}
use Rattle.sq_outline.specs.WindowsSearch.{standing}
use Rattle.sq_outline.specs.WindowsTaken.{HasFates, is_free_at}
use Rattle.sq_outline.proofs.WindowsNarrowed.{placed_whole}
use Rattle.sq_outline.proofs.WindowsTakenOf.{has_fates, all_have_fates, free_places_of}
use Rattle.sq_outline.proofs.WindowsUntaken.{standing_within}
use Rattle.sq_outline.proofs.windows.sweep.places_of.Goals as goal
use Rattle.sq_outline.proofs.windows.sweep.places_of.Goals.{in-Some+in_ok-places-in-Some, in-None+in_ok-searched-in-None+in_ok-places-in-None}

pub places_of-requires : goal.places_of-requires
places_of-requires c = λ some. (c.requires.found some).within

pub are_free-requires : goal.are_free-requires
are_free-requires c =
    let f = c.args.window.now.found.first in
    has_fates c.args.graph.now.graph c.args.taken.now c.requires.taken f.block f.at c.args.window.now.n (c.is_block.ensures.0 c.if-not-is_block.false) (omega (arith, c.if-count-at.false, ap length c.items-count.ensures))

pub free_places-requires : goal.free_places-requires
free_places-requires c =
    let g = c.args.graph.now.graph in
    let f = c.args.window.now.found.first in
    let n = c.args.window.now.n in
    let within : c.args.window.now.found.first.at + c.args.window.now.n ≤ length (items_of c.args.graph.now.graph c.args.window.now.found.first.block) = omega (arith, c.if-count-at.false, ap length c.items-count.ensures) in
    subst (λ (ps : List WindowAt). All (λ (p : WindowAt). HasFates c.args.taken.now p.block p.at n) ps) (sym (placed_whole g c.args.windows.now.places.items c.in-Some.places.now c.args.window.now c.requires.found c.in-Some.ensures.known c.in-Some.ensures.places))
    (all_have_fates g c.args.taken.now c.requires.taken n (standing g (items_at g f.block f.at n)) (standing_within g f.block f.at n within))

pub free_places-requires-in-None : goal.free_places-requires-in-None
free_places-requires-in-None c =
    let g = c.args.graph.now.graph in
    let f = c.args.window.now.found.first in
    let n = c.args.window.now.n in
    let within : c.args.window.now.found.first.at + c.args.window.now.n ≤ length (items_of c.args.graph.now.graph c.args.window.now.found.first.block) = omega (arith, c.if-count-at.false, ap length c.items-count.ensures) in
    subst (λ (ps : List WindowAt). All (λ (p : WindowAt). HasFates c.args.taken.now p.block p.at n) ps) (sym (c.deref.ensures.value ∙ c.in_ok-searched-in-None.ensures))
    (all_have_fates g c.args.taken.now c.requires.taken n (standing g (items_at g f.block f.at n)) (standing_within g f.block f.at n within))

pub returns-clause-places : goal.returns-clause-places
returns-clause-places c =
    let g = c.args.graph.now.graph in
    let taken = c.args.taken.now in
    let f = c.args.window.now.found.first in
    let n = c.args.window.now.n in
    let within : c.args.window.now.found.first.at + c.args.window.now.n ≤ length (items_of c.args.graph.now.graph c.args.window.now.found.first.block) = omega (arith, c.if-count-at.false, ap length c.items-count.ensures) in
    let free = free_places_of g taken c.requires.taken n (standing g (items_at g f.block f.at n)) (standing_within g f.block f.at n within) in
    elim c.match-places_of.branch [
      | in-Some+in_ok-places-in-Some w ↦
          ap (λ v. v.items) w.places-is ∙ w.in_ok-places-in-Some.ensures ∙ ap (λ (ps : List WindowAt). filter (is_free_at taken n) ps) (placed_whole g c.args.windows.now.places.items w.in-Some.places.now c.args.window.now c.requires.found w.in-Some.ensures.known w.in-Some.ensures.places) ∙ free
      | in-None+in_ok-searched-in-None+in_ok-places-in-None w ↦
          ap (λ v. v.items) w.places-is ∙ w.in_ok-places-in-None.ensures ∙ ap (λ (ps : List WindowAt). filter (is_free_at taken n) ps) (w.deref.ensures.value ∙ w.in_ok-searched-in-None.ensures) ∙ free
    ]
