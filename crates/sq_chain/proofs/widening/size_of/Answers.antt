use Rattle.std.proofs.Common.{◌+◌, ◌∙◌, ap, get_or, if◌then◌else◌, arith}
use Rattle.std.proofs.lemmas.List.{take_all}
use Rattle.std.proofs.lemmas.List.Sums.{sum_by-take-le}
use Rattle.sq_graph.specs.Graph.{Block}
use Rattle.sq_live.proofs.Layouts.{block_at, length-names}
use Rattle.sq_lookup.specs.Names.{is_listed}
use Rattle.sq_chain.proofs.Rounds.{count_of, count_few}
use Rattle.sq_chain.proofs.Widens.{came_one}
use Rattle.sq_chain.proofs.widening.size_of.Goals as goal

pub overflow_add-size : goal.overflow_add-size
overflow_add-size c =
    let g = c.args.graph.now.graph in
    let b = block_at g c.args.names.now c.loop-name.name-index c.learn.ensures.rules c.requires c.loop-name-test.true in
    let one = came_one (is_listed c.args.wide.now) g c.learn.ensures.rules c.loop-name.name-index (get_or c.args.names.now c.loop-name.name-index 0) b in
    let all = sum_by-take-le (λ (x : Block). if is_listed c.args.wide.now x.name then 1 else 0) g.blocks (c.loop-name.name-index + 1) in
    let few = count_few (is_listed c.args.wide.now) g.blocks in
    let small = c.learn.ensures.small.blocks in
    let now = c.loop-name.invariant in
    let is = c.one_for-size.ensures in
    omega (arith, one, all, few, small, now, is)

pub loop-name-preserved : goal.loop-name-preserved
loop-name-preserved c =
    let g = c.args.graph.now.graph in
    let b = block_at g c.args.names.now c.loop-name.name-index c.learn.ensures.rules c.requires c.loop-name-test.true in
    let one = came_one (is_listed c.args.wide.now) g c.learn.ensures.rules c.loop-name.name-index (get_or c.args.names.now c.loop-name.name-index 0) b in
    let now = c.loop-name.invariant in
    let is = c.one_for-size.ensures in
    omega (arith, one, now, is)

pub returns : goal.returns
returns c =
    let g = c.args.graph.now.graph in
    c.loop-name.invariant ∙ ap (count_of (is_listed c.args.wide.now)) (take_all c.loop-name.name-index g.blocks (omega (arith, length-names g c.args.names.now c.requires)))
