use Rattle.std.proofs.Common.{sym, ◌∙◌}
use Rattle.sq_outline.proofs.WindowsClasses.{stands_there}
use Rattle.sq_outline.proofs.WindowsNarrowed.{told_there, one_among, none_among}
use Rattle.sq_outline.proofs.windows.search.among.Goals as goal
use Rattle.sq_outline.proofs.windows.search.among.Goals.{then-stand_at+in_ok-push, else-stand_at}

pub loop-place-preserved : goal.loop-place-preserved
loop-place-preserved c =
    let g = c.args.graph.now.graph in
    let window = c.args.window.now in
    let places = c.args.places.now in
    let i = c.loop-place.place-index in
    let found = c.loop-place.found.items in
    let stands = stands_there g window in
    let told = told_there g _ _ window c.stand_at.result c.requires.some c.stand_at.ensures in
    elim c.if-stand_at.branch [
      | then-stand_at+in_ok-push w ↦
          rw (w.found-is, w.in_ok-push.ensures.items)
          (one_among stands places found i _ c.loop-place-test.true c.loop-place.invariant (sym told ∙ w.if-stand_at.true))
      | else-stand_at w ↦
          rw w.found-is
          (none_among stands places found i _ c.loop-place-test.true c.loop-place.invariant (sym told ∙ w.if-stand_at.false))
    ]
