use Rattle.std.proofs.Common.{List, refl, sym, ◌∙◌, subst}
use Rattle.sq_finger.specs.declared.places.WindowAt.{WindowAt}
use Rattle.sq_outline.specs.WindowsProposed.{IsPlacedIn}
use Rattle.sq_outline.specs.declared.windows.proposals.FoundWindow.{FoundWindow}
use Rattle.sq_outline.proofs.WindowsPlaced.{placed_new}
use Rattle.sq_outline.proofs.windows.proposals.placed.Goals as goal

pub returns-in_default-clause-placed : goal.returns-in_default-clause-placed
returns-in_default-clause-placed c =
    let g = c.args.graph.now.graph in
    let f = c.args.found in
    let window : FoundWindow = record { n = c.args.n; found = c.args.found; sixteenths = c.sixteenths.result; known = c.args.n; place = c.len.result; places = c.in_ok-keep.field-0 } in
    subst (λ (ps : List WindowAt). IsPlacedIn g ps window) (sym c.in_ok-keep.ensures.kept)
    (placed_new g c.args.n f.link f.saving f.first.block f.first.at c.args.kept.now.items c.args.places.now window _ refl refl refl refl (c.len.ensures ∙ c.args.kept.now.ok.0) c.in_ok-keep.ensures.count c.requires.standing c.requires.made c.requires.first)

pub returns-then-window-gt0-clause-placed : goal.returns-then-window-gt0-clause-placed
returns-then-window-gt0-clause-placed c =
    let g = c.args.graph.now.graph in
    let f = c.args.found in
    let window : FoundWindow = record { n = c.args.n; found = c.args.found; sixteenths = c.sixteenths.result; known = c.args.n; place = c.len.result; places = c.in_ok-keep.field-0 } in
    subst (λ (ps : List WindowAt). IsPlacedIn g ps window) (sym c.in_ok-keep.ensures.kept)
    (placed_new g c.args.n f.link f.saving f.first.block f.first.at c.args.kept.now.items c.args.places.now window _ refl refl refl refl (c.len.ensures ∙ c.args.kept.now.ok.0) c.in_ok-keep.ensures.count c.requires.standing c.requires.made c.requires.first)
