use Rattle.std.proofs.lemmas.List.Elements.{Contains-push}
use Rattle.std.proofs.Common.{◌∙◌, ◌<◌, [], sym, subst, length, arith}
use Rattle.sq_live.specs.Exits.{position_at, exits_of}
use Rattle.sq_live.specs.Search.{IsVisiting, up_to}
use Rattle.sq_live.specs.Sources.{sources_of}
use Rattle.sq_live.proofs.Searches.{same_nodes, search_starts, search_ends, takes, at_any, none_waits, up_to-below}
use Rattle.sq_live.proofs.Chains.{exits_within}
use Rattle.sq_live.proofs.search.live_sets.Goals as goal

pub find_sources-requires-clause-there : goal.find_sources-requires-clause-there
find_sources-requires-clause-there c = λ from to h. subst (λ n. to < n) c.requires.count (c.requires.there from to h)

pub visit_all-requires-clause-there : goal.visit_all-requires-clause-there
visit_all-requires-clause-there c = λ from to h.
    let edge = (c.in_ok-sources.ensures.sources from to).0 h in
    let within = exits_within (position_at c.args.positions.now) c.args.g.now.graph c.args.names.now c.requires.names from to edge in
    omega (arith, within, c.requires.count)

pub visit_all-requires-clause-search : goal.visit_all-requires-clause-search
visit_all-requires-clause-search c =
    search_starts c.args.effects.now (sources_of c.in_ok-sources.sources) c.in_ok-sets.sets.items (up_to (length c.args.effects.now)) c.in_ok-sets.ensures (up_to-below (length c.args.effects.now))

pub visit-requires-clause-there : goal.visit-requires-clause-there
visit-requires-clause-there c = λ from to h.
    let edge = (c.in_ok-sources.ensures.sources from to).0 h in
    let within = exits_within (position_at c.args.positions.now) c.args.g.now.graph c.args.names.now c.requires.names from to edge in
    omega (arith, within, c.requires.count)

pub visit-requires-clause-node : goal.visit-requires-clause-node
visit-requires-clause-node c =
    let search = subst (λ ns. IsVisiting c.args.effects.now (sources_of c.in_ok-sources.sources) 0 [] c.loop-node.sets.items ns) c.in-Some.ensures.items c.loop-node.invariant in
    search.there c.in-Some.node (Contains-push c.pop.new.self.items c.in-Some.node)

pub visit-requires-clause-search : goal.visit-requires-clause-search
visit-requires-clause-search c =
    takes c.args.effects.now (sources_of c.in_ok-sources.sources) c.in-Some.node
    (subst (λ ns. IsVisiting c.args.effects.now (sources_of c.in_ok-sources.sources) 0 [] c.loop-node.sets.items ns) c.in-Some.ensures.items c.loop-node.invariant)

pub loop-node-preserved : goal.loop-node-preserved
loop-node-preserved c =
    at_any c.args.effects.now (sources_of c.in_ok-sources.sources) 0 c.in_ok-visit.ensures.search

pub returns-clause-live : goal.returns-clause-live
returns-clause-live c = λ k r within above below.
    let effects = c.args.effects.now in
    let sources = sources_of c.in_ok-sources.sources in
    let empty = none_waits c.loop-node.waiting.items (sym c.loop-node.waiting.ok.0 ∙ c.in_default.ensures.cases.0) in
    let search = subst (λ ns. IsVisiting effects sources 0 [] c.loop-node.sets.items ns) empty c.loop-node.invariant in
    let found = search_ends effects sources c.loop-node.sets.items search r above below k in
    let same = same_nodes effects (exits_of (position_at c.args.positions.now) (length c.args.names.now) c.args.g.now.graph) sources r c.in_ok-sources.ensures.sources k in
    (λ e. same.0 (found.0 e), λ l. found.1 (same.1 l))
