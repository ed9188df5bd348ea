use Rattle.std.proofs.Common.{◌∙◌, ◌++◌, ◌+◌, ap, drop, get_or, arith}
use Rattle.std.proofs.lemmas.Option.{slice_get-get_or, get_or_from_slice_get}
use Rattle.sq_finger.specs.Windows.{places_from, places_in}
use Rattle.sq_finger.proofs.Layouts.{name_there}
use Rattle.sq_finger.proofs.Placing.{few_items, places_step, places_end}
use Rattle.sq_finger.proofs.places.places.Goals as goal

pub items-requires : goal.items-requires
items-requires c = name_there c.args.graph.now.graph c.args.names.now c.loop-name.name-index c.requires.names c.loop-name-test.true

pub push_places-requires : goal.push_places-requires
push_places-requires c =
    let g = c.args.graph.now.graph in
    let names = c.args.names.now in
    let there = name_there g names c.loop-name.name-index c.requires.names c.loop-name-test.true in
    let few = few_items g (get_or names c.loop-name.name-index 0) c.args.graph.now.spare.items there c.learn.ensures.small.items in
    rw c.items.ensures (omega arith)

pub loop-name-preserved : goal.loop-name-preserved
loop-name-preserved c =
    let g = c.args.graph.now.graph in
    let n = c.args.n in
    let names = c.args.names.now in
    let k = c.loop-name.name-index in
    let name = get_or names k 0 in
    let done = c.loop-name.places.items in
    let here = get_or_from_slice_get names k name name (slice_get-get_or names k 0 c.loop-name-test.true) in
    ap (λ ps. ps ++ places_in g n (drop (k + 1) names)) (c.in_ok-push_places.ensures ∙ ap (λ items. done ++ places_from n name 0 items) c.items.ensures)
    ∙ places_step g n done names k name c.loop-name-test.true here
    ∙ c.loop-name.invariant

pub returns : goal.returns
returns c = places_end c.args.graph.now.graph c.args.n c.loop-name.places.items c.args.names.now c.loop-name.name-index c.loop-name-test.false c.loop-name.invariant
