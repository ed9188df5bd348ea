use Rattle.std.proofs.Common.{◌≡◌, Some, None, refl, sym, ◌∙◌}
use Rattle.std.proofs.lemmas.Bool.{not-true, not_from_false}
use Rattle.sq_arena.specs.Entries.{previous_key}
use Rattle.sq_graph.specs.Blocks.{named}
use Rattle.sq_graph.proofs.LinkReads.{value_of-links, previous-links}
use Rattle.sq_lookup.proofs.Previous.{before_there}
use Rattle.sq_chain.proofs.Previous.{none_apart, stops_apart, apart_stops}
use Rattle.sq_chain.proofs.chain.is_apart.Goals as goal

pub previous-requires : goal.previous-requires
previous-requires c =
    value_of-links c.links.result.now.entries c.args.graph.now.graph.blocks c.args.block c.links.ensures.blocks ∙ c.requires.block

pub term-requires : goal.term-requires
term-requires c =
    let g = c.args.graph.now.graph in
    let previous : previous_key (named c.args.graph.now.graph.blocks) c.args.block ≡ Some c.in-Some.before = sym (previous-links c.links.result.now.entries c.args.graph.now.graph.blocks c.args.block c.links.ensures.blocks) ∙ sym c.previous.ensures ∙ c.in-Some.is in
    before_there g c.learn.ensures.rules c.args.block c.requires.block c.in-Some.before previous

pub returns-in-Some : goal.returns-in-Some
returns-in-Some c =
    let g = c.args.graph.now.graph in
    let previous : previous_key (named c.args.graph.now.graph.blocks) c.args.block ≡ Some c.in-Some.before = sym (previous-links c.links.result.now.entries c.args.graph.now.graph.blocks c.args.block c.links.ensures.blocks) ∙ sym c.previous.ensures ∙ c.in-Some.is in (
      λ yes. stops_apart g c.learn.ensures.rules c.args.block c.requires.block c.in-Some.before previous c.term.result c.term.ensures (sym c.goes_on.ensures ∙ not-true c.goes_on.result yes),
      λ apart. not_from_false c.goes_on.result (c.goes_on.ensures ∙ apart_stops g c.learn.ensures.rules c.args.block c.requires.block c.in-Some.before previous c.term.result c.term.ensures apart),
    )

pub returns-in-None : goal.returns-in-None
returns-in-None c =
    let g = c.args.graph.now.graph in
    let previous : previous_key (named c.args.graph.now.graph.blocks) c.args.block ≡ None = sym (previous-links c.links.result.now.entries c.args.graph.now.graph.blocks c.args.block c.links.ensures.blocks) ∙ sym c.previous.ensures ∙ c.in-None.is in (
      λ yes. none_apart g c.learn.ensures.rules c.args.block c.requires.block previous,
      λ apart. refl,
    )
