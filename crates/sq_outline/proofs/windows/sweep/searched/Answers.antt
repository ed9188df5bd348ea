use Rattle.std.proofs.Common.{◌≤◌, ◌+◌, List, length, sym, ap, ◌∙◌, subst, arith}
use Rattle.std.specs.List.{All, filter}
use Rattle.std.proofs.lemmas.List.Elements.{All-weaker}
use Rattle.std.proofs.lemmas.Result.{IfOk-weaker}
use Rattle.sq_graph.specs.declared.item.Item.{Item}
use Rattle.sq_graph.specs.Blocks.{HasBlock, items_of}
use Rattle.sq_finger.specs.declared.places.WindowAt.{WindowAt}
use Rattle.sq_outline.specs.WindowsMade.{items_at}
use Rattle.sq_outline.specs.WindowsSearch.{standing}
use Rattle.sq_outline.proofs.WindowsClasses.{stands_there}
use Rattle.sq_outline.proofs.WindowsNarrowed.{narrowed_at}
use Rattle.sq_outline.proofs.WindowsUntaken.{standing_within}
use Rattle.sq_outline.proofs.windows.sweep.searched.Goals as goal

pub among-requires-clause-blocks : goal.among-requires-clause-blocks
among-requires-clause-blocks c =
    let g = c.args.graph.now.graph in
    let f = c.args.window.now.found.first in
    let known = c.args.window.now.known in
    let placed = c.requires.found c.in-Some.ensures.0 in
    let most = placed.most in
    let within : c.args.window.now.found.first.at + c.args.window.now.known ≤ length (items_of c.args.graph.now.graph c.args.window.now.found.first.block) = omega (arith, most, c.requires.within) in
    subst (λ (ps : List WindowAt). All (λ (p : WindowAt). HasBlock g p.block) ps) (sym (c.in-Some.ensures.2 ∙ placed.all c.in-Some.ensures.1))
    (All-weaker (λ (p : WindowAt). HasBlock g p.block × (p.at + known ≤ length (items_of g p.block))) (λ (p : WindowAt). HasBlock g p.block) (λ p there. there.0) (standing g (items_at g f.block f.at known))
    (standing_within g f.block f.at known within))

pub returns : goal.returns
returns c =
    let g = c.args.graph.now.graph in
    let f = c.args.window.now.found.first in
    let n = c.args.window.now.n in
    let placed = c.requires.found c.in-Some.ensures.0 in
    let all = c.in-Some.ensures.2 ∙ placed.all c.in-Some.ensures.1 in
    IfOk-weaker c.among.result _ _
    (λ found is.
    is
    ∙ ap (λ (w : List Item). filter (stands_there g w) c.in-Some.places.now) c.items_at.ensures
    ∙ ap (filter (stands_there g (items_at g f.block f.at n))) all
    ∙ narrowed_at g f.block f.at c.args.window.now.known n placed.some placed.most c.requires.within)
    c.among.ensures
