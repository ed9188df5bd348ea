use Rattle.std.proofs.Common.{◌≡◌, ◌-◌, ◌++◌, ◌∷◌, [], subst, arith}
use Rattle.sq_live.specs.Search.{IsVisiting, up_to}
use Rattle.sq_live.specs.Sources.{sources_of}
use Rattle.sq_live.proofs.Searches.{takes, at_any, same_waiting, up_to-last}
use Rattle.sq_live.proofs.Chains.{moved_last}
use Rattle.sq_live.proofs.search.visit_all.Goals as goal

pub visit-requires-clause-search : goal.visit-requires-clause-search
visit-requires-clause-search c =
    let effects = c.args.effects.now in
    let sources = sources_of c.args.sources.now in
    let k = c.loop-node.node - 1 in
    let sets = c.loop-node.sets.items in
    let waiting = c.loop-node.waiting.items in
    let last : up_to c.loop-node.node ≡ up_to k ++ k ∷ [] = up_to-last c.loop-node.node (omega arith) in
    takes effects sources k
    (same_waiting effects sources ((up_to k ++ k ∷ []) ++ waiting) ((up_to k ++ waiting) ++ k ∷ []) (moved_last (up_to k) waiting k)
    (subst (λ ws. IsVisiting effects sources 0 [] sets (ws ++ waiting)) last c.loop-node.invariant))

pub loop-node-preserved : goal.loop-node-preserved
loop-node-preserved c = at_any c.args.effects.now (sources_of c.args.sources.now) 0 c.in_ok-visit.ensures.search

pub returns : goal.returns
returns c =
    let end : c.loop-node.node ≡ 0 = omega arith in
    subst (λ n. IsVisiting c.args.effects.now (sources_of c.args.sources.now) 0 [] c.loop-node.sets.items (up_to n ++ c.loop-node.waiting.items)) end c.loop-node.invariant
