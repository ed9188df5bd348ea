use Rattle.std.proofs.Common.{◌≡◌, ◌∙◌, ◌<◌, ◌≤◌, ◌++◌, ◌∷◌, ◌||◌, [], ℕ, None, true, refl, ap, sym, subst, length, get_or, arith, append_assoc, length-append}
use Rattle.std.specs.List.{Contains}
use Rattle.std.proofs.Math.ListN.{set}
use Rattle.std.proofs.lemmas.List.{get_or_default}
use Rattle.std.proofs.lemmas.List.Elements.{Contains-append_left}
use Rattle.sq_isa.specs.Registers.{is_member}
use Rattle.sq_live.specs.Search.{list_at, IsVisiting, up_to, work_of}
use Rattle.sq_live.specs.Sources.{sources_of, chain}
use Rattle.sq_live.proofs.Searches.{contains_head, adds_before, read_set, skips, grows, work_falls, waits_already, up_to-below}
use Rattle.sq_live.proofs.Nodes.{contains_right}
use Rattle.sq_live.proofs.Chains.{next_edge, goes_down, list_is, length-sources, no_chain}
use Rattle.sq_live.proofs.search.visit.Goals as goal

pub loop-at-init : goal.loop-at-init
loop-at-init c =
    let first = c.args.sources.now.first.items in
    let edges = c.args.sources.now.edges.items in
    let node = c.args.node in
    let within : node < length first = omega (arith, c.requires.count, c.requires.node, length-sources first edges) in
    let at : c.index-at.result.now ≡ get_or first node None = c.index-at.ensures ∙ get_or_default first node c.index-at.result.now None within in
    let list : list_at (sources_of c.args.sources.now) node ≡ chain edges (length edges) c.index-at.result.now = list_is first edges node ∙ ap (chain edges (length edges)) (sym at) in
    record {
      within = λ k e. c.requires.chained.begun node k (sym at ∙ e);
      left = λ from h. subst (λ xs. Contains xs from) (sym list) h;
      search = subst (λ xs. IsVisiting c.args.effects.now (sources_of c.args.sources.now) node xs c.args.sets.now.items (up_to c.args.later ++ c.args.waiting.now.items)) list c.requires.search;
      work = omega arith;
    }

pub bounds-effects-from : goal.bounds-effects-from
bounds-effects-from c =
    let edges = c.args.sources.now.edges.items in
    let edge = c.index-edge.result.now in
    let next = next_edge edges c.requires.chained.back c.loop-at.at c.in-Some.number edge c.loop-at.invariant.within c.in-Some.is c.index-edge.ensures in
    let leads = c.loop-at.invariant.left edge.from (subst (λ xs. Contains xs edge.from) (sym next.0) (contains_head edge.from (chain edges (length edges) edge.next))) in
    let there = c.requires.there edge.from c.args.node leads in
    there

pub index-requires-in-Some : goal.index-requires-in-Some
index-requires-in-Some c =
    let edges = c.args.sources.now.edges.items in
    let edge = c.index-edge.result.now in
    let next = next_edge edges c.requires.chained.back c.loop-at.at c.in-Some.number edge c.loop-at.invariant.within c.in-Some.is c.index-edge.ensures in
    let leads = c.loop-at.invariant.left edge.from (subst (λ xs. Contains xs edge.from) (sym next.0) (contains_head edge.from (chain edges (length edges) edge.next))) in
    let there = c.requires.there edge.from c.args.node leads in
    omega (arith, there, c.loop-at.invariant.search.count, c.loop-at.sets.ok.0)

pub index_mut-requires : goal.index_mut-requires
index_mut-requires c =
    let edges = c.args.sources.now.edges.items in
    let edge = c.index-edge.result.now in
    let next = next_edge edges c.requires.chained.back c.loop-at.at c.in-Some.number edge c.loop-at.invariant.within c.in-Some.is c.index-edge.ensures in
    let leads = c.loop-at.invariant.left edge.from (subst (λ xs. Contains xs edge.from) (sym next.0) (contains_head edge.from (chain edges (length edges) edge.next))) in
    let there = c.requires.there edge.from c.args.node leads in
    omega (arith, there, c.loop-at.invariant.search.count, c.loop-at.sets.ok.0)

pub loop-at-preserved-in_ok-push : goal.loop-at-preserved-in_ok-push
loop-at-preserved-in_ok-push c =
    let effects = c.args.effects.now in
    let edges = c.args.sources.now.edges.items in
    let sources = sources_of c.args.sources.now in
    let node = c.args.node in
    let edge = c.index-edge.result.now in
    let from = edge.from in
    let behind = chain edges (length edges) edge.next in
    let next = next_edge edges c.requires.chained.back c.loop-at.at c.in-Some.number edge c.loop-at.invariant.within c.in-Some.is c.index-edge.ensures in
    let leads = c.loop-at.invariant.left from (subst (λ xs. Contains xs from) (sym next.0) (contains_head from behind)) in
    let there = c.requires.there from node leads in
    let sets = c.loop-at.sets.items in
    let waiting = c.loop-at.waiting.items in
    let search = subst (λ xs. IsVisiting effects sources node xs sets (up_to c.args.later ++ waiting)) next.0 c.loop-at.invariant.search in
    let in_sets : from < length sets = omega (arith, there, c.loop-at.invariant.search.count) in
    let at_node : node < length sets = omega (arith, c.loop-at.invariant.search.count, c.requires.node) in
    let live = c.before-live.result in
    let adds = adds_before effects sets from node live c.index.result.now c.index-effects-from.result there c.index-effects-from.is (read_set sets node c.index.result.now at_node c.index.ensures) c.before-live.ensures in
    let old = read_set sets from c.index-in-Some.result.now in_sets c.index-in-Some.ensures in
    let grown = c.in-Some-grown_by.grown in
    let members = subst (λ set. (q : ℕ) → is_member grown q ≡ (is_member set q || is_member live q)) old c.in-Some-grown_by.ensures.some in
    let more : get_or sets from 0 < grown = subst (λ set. set < grown) old c.in-Some-grown_by.ensures.more in
    let pushed = c.in_ok-push.ensures.items in
    record {
      within = next.1;
      left = λ f h. c.loop-at.invariant.left f (subst (λ xs. Contains xs f) (sym next.0) (contains_right (from ∷ []) behind f h));
      search =
          subst (λ ws. IsVisiting effects sources node behind (set sets from grown) ws) (append_assoc (up_to c.args.later) waiting (from ∷ []) ∙ ap (λ ws. up_to c.args.later ++ ws) (sym pushed))
          (grows effects sources sets (up_to c.args.later ++ waiting) from node live grown in_sets adds members leads search);
      work =
          let falls = work_falls effects sources sets waiting from node live grown in_sets adds members more c.in-Some-grown_by.ensures.small in
          let is = ap (λ ws. work_of (set sets from grown) ws) pushed in
          let before = c.loop-at.invariant.work in
          omega (arith, falls, is, before);
    }

pub loop-at-preserved-else-edge-later : goal.loop-at-preserved-else-edge-later
loop-at-preserved-else-edge-later c =
    let effects = c.args.effects.now in
    let edges = c.args.sources.now.edges.items in
    let sources = sources_of c.args.sources.now in
    let node = c.args.node in
    let edge = c.index-edge.result.now in
    let from = edge.from in
    let behind = chain edges (length edges) edge.next in
    let next = next_edge edges c.requires.chained.back c.loop-at.at c.in-Some.number edge c.loop-at.invariant.within c.in-Some.is c.index-edge.ensures in
    let leads = c.loop-at.invariant.left from (subst (λ xs. Contains xs from) (sym next.0) (contains_head from behind)) in
    let there = c.requires.there from node leads in
    let sets = c.loop-at.sets.items in
    let waiting = c.loop-at.waiting.items in
    let search = subst (λ xs. IsVisiting effects sources node xs sets (up_to c.args.later ++ waiting)) next.0 c.loop-at.invariant.search in
    let in_sets : from < length sets = omega (arith, there, c.loop-at.invariant.search.count) in
    let at_node : node < length sets = omega (arith, c.loop-at.invariant.search.count, c.requires.node) in
    let live = c.before-live.result in
    let adds = adds_before effects sets from node live c.index.result.now c.index-effects-from.result there c.index-effects-from.is (read_set sets node c.index.result.now at_node c.index.ensures) c.before-live.ensures in
    let old = read_set sets from c.index-in-Some.result.now in_sets c.index-in-Some.ensures in
    let grown = c.in-Some-grown_by.grown in
    let members = subst (λ set. (q : ℕ) → is_member grown q ≡ (is_member set q || is_member live q)) old c.in-Some-grown_by.ensures.some in
    let more : get_or sets from 0 < grown = subst (λ set. set < grown) old c.in-Some-grown_by.ensures.more in
    let wait = up_to c.args.later ++ waiting in
    let waits = Contains-append_left (up_to c.args.later) waiting from ((up_to-below c.args.later from).1 (omega (arith, c.if-edge-later.false))) in
    record {
      within = next.1;
      left = λ f h. c.loop-at.invariant.left f (subst (λ xs. Contains xs f) (sym next.0) (contains_right (from ∷ []) behind f h));
      search = waits_already effects sources from waits (grows effects sources sets wait from node live grown in_sets adds members leads search);
      work =
          let falls = work_falls effects sources sets waiting from node live grown in_sets adds members more c.in-Some-grown_by.ensures.small in
          let shorter : work_of (set sets from grown) waiting ≤ work_of (set sets from grown) (waiting ++ from ∷ []) = omega (arith, length-append waiting (from ∷ [])) in
          let before = c.loop-at.invariant.work in
          omega (arith, falls, shorter, before);
    }

pub loop-at-smaller-in_ok-push : goal.loop-at-smaller-in_ok-push
loop-at-smaller-in_ok-push c =
    goes_down c.args.sources.now.edges.items c.requires.chained.back c.loop-at.at c.in-Some.number c.index-edge.result.now (c.loop-at.invariant.within c.in-Some.number c.in-Some.is) c.in-Some.is c.index-edge.ensures

pub loop-at-preserved : goal.loop-at-preserved
loop-at-preserved c =
    let effects = c.args.effects.now in
    let edges = c.args.sources.now.edges.items in
    let sources = sources_of c.args.sources.now in
    let node = c.args.node in
    let edge = c.index-edge.result.now in
    let from = edge.from in
    let behind = chain edges (length edges) edge.next in
    let next = next_edge edges c.requires.chained.back c.loop-at.at c.in-Some.number edge c.loop-at.invariant.within c.in-Some.is c.index-edge.ensures in
    let leads = c.loop-at.invariant.left from (subst (λ xs. Contains xs from) (sym next.0) (contains_head from behind)) in
    let there = c.requires.there from node leads in
    let sets = c.loop-at.sets.items in
    let waiting = c.loop-at.waiting.items in
    let search = subst (λ xs. IsVisiting effects sources node xs sets (up_to c.args.later ++ waiting)) next.0 c.loop-at.invariant.search in
    let in_sets : from < length sets = omega (arith, there, c.loop-at.invariant.search.count) in
    let at_node : node < length sets = omega (arith, c.loop-at.invariant.search.count, c.requires.node) in
    let live = c.before-live.result in
    let adds = adds_before effects sets from node live c.index.result.now c.index-effects-from.result there c.index-effects-from.is (read_set sets node c.index.result.now at_node c.index.ensures) c.before-live.ensures in
    let old = read_set sets from c.index-in-Some.result.now in_sets c.index-in-Some.ensures in
    record {
      within = next.1;
      left = λ f h. c.loop-at.invariant.left f (subst (λ xs. Contains xs f) (sym next.0) (contains_right (from ∷ []) behind f h));
      search = skips effects sources from live adds (λ q member. subst (λ set. is_member set q ≡ true) old (c.in_default-grown_by.ensures.none refl q member)) search;
      work = c.loop-at.invariant.work;
    }

pub returns-clause-search : goal.returns-clause-search
returns-clause-search c =
    let edges = c.args.sources.now.edges.items in
    subst (λ xs. IsVisiting c.args.effects.now (sources_of c.args.sources.now) c.args.node xs c.loop-at.sets.items (up_to c.args.later ++ c.loop-at.waiting.items))
    (ap (chain edges (length edges)) c.in_default.is ∙ no_chain edges (length edges)) c.loop-at.invariant.search
