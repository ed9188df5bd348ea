use Rattle.std.proofs.Common.{◌≡◌, ◌∙◌, ◌+◌, ◌≤◌, ap, sym, subst, length, arith}
use Rattle.std.specs.List.{Contains}
use Rattle.sq_graph.specs.Walks.{code_targets}
use Rattle.sq_live.specs.Exits.{position_at, nodes_of, exits_of}
use Rattle.sq_live.specs.Search.{list_at}
use Rattle.sq_live.specs.Sources.{sources_of}
use Rattle.sq_live.proofs.Layouts.{length-names}
use Rattle.sq_live.proofs.Nodes.{last_exits, exits_count}
use Rattle.sq_live.proofs.Chains.{sources_more, sources_all}
use Rattle.sq_live.proofs.sources.find_sources.Goals as goal

pub add_blocks-requires-clause-there : goal.add_blocks-requires-clause-there
add_blocks-requires-clause-there c = λ from to h.
    let below = c.requires.there from to h in
    omega (arith, below, c.in_ok-sources.ensures.count)

pub add_targets-requires-clause-there : goal.add_targets-requires-clause-there
add_targets-requires-clause-there c = λ to h.
    let g = c.args.g.now.graph in
    let at = position_at c.args.positions.now in
    let n = length c.args.names.now in
    let last : list_at (exits_of at n g) n ≡ nodes_of at (code_targets g) = ap (list_at (exits_of at n g)) (length-names g c.args.names.now c.requires.names) ∙ last_exits at n g.blocks 0 (nodes_of at (code_targets g)) in
    let below = c.requires.there n to (subst (λ xs. Contains xs to) (sym last) h) in
    omega (arith, below, c.in_ok-sources.ensures.count, c.in_ok-add_blocks.ensures.count)

pub returns-clause-sources : goal.returns-clause-sources
returns-clause-sources c = λ from to.
    let g = c.args.g.now.graph in
    let at = position_at c.args.positions.now in
    let n = length c.args.names.now in
    let exits = exits_of at n g in
    let size = length-names g c.args.names.now c.requires.names in
    let last : list_at exits n ≡ nodes_of at (code_targets g) = ap (list_at exits) size ∙ last_exits at n g.blocks 0 (nodes_of at (code_targets g)) in
    let few : length exits ≤ n + 1 = omega (arith, exits_count at n g.blocks 0 (nodes_of at (code_targets g)), size) in
    sources_all exits (sources_of c.add_targets.new.sources) (n + 1) few
    (sources_more exits (sources_of c.add_blocks.new.sources) (sources_of c.add_targets.new.sources) n (nodes_of at (code_targets g)) last c.in_ok-add_targets.ensures.adds c.in_ok-add_blocks.ensures.sources)
    from to
