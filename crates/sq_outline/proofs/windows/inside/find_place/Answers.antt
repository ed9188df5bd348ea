use Rattle.std.proofs.Common.{◌≤◌, ℕ, List, length, subst}
use Rattle.std.specs.List.{All}
use Rattle.std.proofs.lemmas.List.{take_all}
use Rattle.std.proofs.lemmas.List.Elements.{All-contains}
use Rattle.sq_graph.specs.Blocks.{HasProcedure}
use Rattle.sq_finger.specs.declared.places.WindowAt.{WindowAt}
use Rattle.sq_finger.proofs.Lining.{place_block}
use Rattle.sq_outline.specs.WindowsInside.{MayCallInside}
use Rattle.sq_outline.proofs.Early.{one_more}
use Rattle.sq_outline.proofs.WindowsCalling.{nowhere_inside}
use Rattle.sq_outline.proofs.windows.inside.find_place.Goals as goal

pub procedure_inside-requires-clause-block : goal.procedure_inside-requires-clause-block
procedure_inside-requires-clause-block c =
    place_block c.args.graph.now.graph c.learn.ensures.rules c.args.line.now c.loop-place.place-index _ c.requires.line c.loop-place-test.true

pub loop-place-preserved : goal.loop-place-preserved
loop-place-preserved c =
    let g = c.args.graph.now.graph in
    one_more (λ (p : WindowAt). (procedure : ℕ) → HasProcedure g procedure → ¬ MayCallInside g p.block p.at procedure) c.args.line.now c.loop-place.place-index _ c.loop-place-test.true c.loop-place.invariant
    (c.procedure_inside.ensures.none c.in_default.is)

pub returns-clause-none : goal.returns-clause-none
returns-clause-none c = λ e.
    let g = c.args.graph.now.graph in
    let P : WindowAt → Type 0 = λ p. (procedure : ℕ) → HasProcedure g procedure → ¬ MayCallInside g p.block p.at procedure in
    let past : length c.args.line.now ≤ c.loop-place.place-index = c.loop-place-test.false in
    let all : All P c.args.line.now = subst (λ (ps : List WindowAt). All P ps) (take_all c.loop-place.place-index c.args.line.now past) c.loop-place.invariant in
    nowhere_inside g c.args.line.now c.requires.line (λ p listed. All-contains P c.args.line.now p all listed)
