use Rattle.std.proofs.Common.{◌≡◌, ◌∙◌, ◌+◌, ◌++◌, ap, sym, subst, take, length, get_or, arith, option_to_list}
use Rattle.std.specs.List.{Contains}
use Rattle.std.proofs.lemmas.List.{take_more, take_all}
use Rattle.std.proofs.lemmas.List.Elements.{Contains-get_or}
use Rattle.sq_graph.specs.Walks.{code_targets}
use Rattle.sq_live.specs.Exits.{position_at, nodes_of}
use Rattle.sq_live.specs.Sources.{sources_of, AddsTo}
use Rattle.sq_live.proofs.Sequences.{flat_map-push}
use Rattle.sq_live.proofs.Nodes.{nodes_contains}
use Rattle.sq_live.proofs.Chains.{adds_none, adds_both}
use Rattle.sq_live.proofs.sources.add_targets.Goals as goal

pub loop-name-init : goal.loop-name-init
loop-name-init c = record {
  chained = c.requires.chained;
  count = omega arith;
  adds = adds_none (sources_of c.args.sources.now) (length c.args.names.now);
}

pub add_some-requires-clause-to : goal.add_some-requires-clause-to
add_some-requires-clause-to c = λ to e.
    let at = position_at c.args.positions.now in
    let list = c.deref-name-items.result.now in
    let name = get_or list c.loop-name.name-index 0 in
    let named : Contains (code_targets c.args.g.now.graph) name = subst (λ xs. Contains xs name) (c.deref-name-items.ensures.value ∙ c.in_ok-targets.ensures) (Contains-get_or list c.loop-name.name-index 0 c.loop-name-test.true) in
    let below = c.requires.there to (nodes_contains at (code_targets c.args.g.now.graph) name to named (sym c.position.ensures ∙ e)) in
    omega (arith, below, c.loop-name.invariant.count)

pub loop-name-preserved : goal.loop-name-preserved
loop-name-preserved c =
    let at = position_at c.args.positions.now in
    let list = c.deref-name-items.result.now in
    let i = c.loop-name.name-index in
    let name = get_or list i 0 in
    let n = length c.args.names.now in
    let more : nodes_of at (take (i + 1) list) ≡ nodes_of at (take i list) ++ option_to_list c.position.result =
    ap (nodes_of at) (take_more list i 0 c.loop-name-test.true)
    ∙ flat_map-push (λ m. option_to_list (at m)) (take i list) name
    ∙ ap (λ o. nodes_of at (take i list) ++ option_to_list o) (sym c.position.ensures) in
    record {
      chained = c.in_ok-add_some.ensures.chained;
      count = c.in_ok-add_some.ensures.count ∙ c.loop-name.invariant.count;
      adds =
          subst (AddsTo (sources_of c.args.sources.now) (sources_of c.add_some.new.self) n) (sym more)
          (adds_both (sources_of c.args.sources.now) (sources_of c.loop-name.sources) (sources_of c.add_some.new.self) n (nodes_of at (take i list)) (option_to_list c.position.result) c.loop-name.invariant.adds c.in_ok-add_some.ensures.adds);
    }

pub returns-clause-adds : goal.returns-clause-adds
returns-clause-adds c =
    let at = position_at c.args.positions.now in
    let list = c.deref-name-items.result.now in
    subst (λ xs. AddsTo (sources_of c.args.sources.now) (sources_of c.loop-name.sources) (length c.args.names.now) (nodes_of at xs))
    (take_all c.loop-name.name-index list (omega arith) ∙ c.deref-name-items.ensures.value ∙ c.in_ok-targets.ensures)
    c.loop-name.invariant.adds
