use Rattle.std.proofs.Common.{◌∙◌, [], sym, subst, length, arith, option_to_list}
use Rattle.std.specs.List.{Contains}
use Rattle.std.proofs.lemmas.List.Elements.{Contains-append_left}
use Rattle.sq_live.specs.Exits.{listed, position_at, exits_of}
use Rattle.sq_live.specs.Sources.{sources_of, AreSources}
use Rattle.sq_live.proofs.Searches.{contains_head}
use Rattle.sq_live.proofs.Nodes.{contains_right}
use Rattle.sq_live.proofs.Chains.{adds_both, sources_start, sources_more}
use Rattle.sq_live.proofs.sources.add_blocks.Goals as goal

pub loop-k-init : goal.loop-k-init
loop-k-init c = record {
  chained = c.requires.chained;
  count = omega arith;
  sources = sources_start (exits_of (position_at c.args.positions.now) (length c.args.names.now) c.args.g.now.graph) (sources_of c.args.sources.now) c.requires.empty;
}

pub add_some-requires-clause-to : goal.add_some-requires-clause-to
add_some-requires-clause-to c = λ to e.
    let first = option_to_list c.block_exits-exits.result.first in
    let second = option_to_list c.block_exits-exits.result.second in
    let here : Contains first to = subst (λ o. Contains (option_to_list o) to) (sym e) (contains_head to []) in
    let below = c.requires.there c.loop-k.k to (subst (λ xs. Contains xs to) c.block_exits-exits.ensures (Contains-append_left first second to here)) in
    omega (arith, below, c.loop-k.invariant.count)

pub add_some-requires-in-loop-k-clause-to : goal.add_some-requires-in-loop-k-clause-to
add_some-requires-in-loop-k-clause-to c = λ to e.
    let first = option_to_list c.block_exits-exits.result.first in
    let second = option_to_list c.block_exits-exits.result.second in
    let here : Contains second to = subst (λ o. Contains (option_to_list o) to) (sym e) (contains_head to []) in
    let below = c.requires.there c.loop-k.k to (subst (λ xs. Contains xs to) c.block_exits-exits.ensures (contains_right first second to here)) in
    omega (arith, below, c.loop-k.invariant.count, c.in_ok-add_some.ensures.count)

pub loop-k-preserved : goal.loop-k-preserved
loop-k-preserved c =
    let exits = exits_of (position_at c.args.positions.now) (length c.args.names.now) c.args.g.now.graph in
    let first = c.block_exits-exits.result.first in
    let second = c.block_exits-exits.result.second in
    let old = sources_of c.loop-k.sources in
    let mid = sources_of c.add_some.new.self in
    let new = sources_of c.add_some-in-loop-k.new.self in
    let k = c.loop-k.k in
    record {
      chained = c.in_ok-add_some-2.ensures.chained;
      count = c.in_ok-add_some-2.ensures.count ∙ c.in_ok-add_some.ensures.count ∙ c.loop-k.invariant.count;
      sources =
          sources_more exits old new k (listed first second) (sym c.block_exits-exits.ensures)
          (adds_both old mid new k (option_to_list first) (option_to_list second) c.in_ok-add_some.ensures.adds c.in_ok-add_some-2.ensures.adds)
          c.loop-k.invariant.sources;
    }

pub returns-clause-sources : goal.returns-clause-sources
returns-clause-sources c =
    subst (AreSources (exits_of (position_at c.args.positions.now) (length c.args.names.now) c.args.g.now.graph) (sources_of c.loop-k.sources)) (omega arith) c.loop-k.invariant.sources
