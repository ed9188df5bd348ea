use Rattle.std.proofs.Common.{◌≡◌, ◌∙◌, None, Some, sym, ap}
use Rattle.sq_arena.specs.Entries.{previous_key}
use Rattle.sq_graph.specs.Blocks.{named, next_of}
use Rattle.sq_graph.proofs.LinkReads.{value_of-links, previous-links}
use Rattle.sq_lookup.proofs.Previous.{before_there}
use Rattle.sq_chain.specs.Tests.{drop_of, drop_term, drop_by}
use Rattle.sq_chain.proofs.shift.before_falls.Goals as goal

pub previous-requires : goal.previous-requires
previous-requires c = value_of-links c.links.result.now.entries c.args.graph.now.graph.blocks c.args.to c.links.ensures.blocks ∙ c.requires.to

pub term-requires : goal.term-requires
term-requires c =
    let g = c.args.graph.now.graph in
    let previous : previous_key (named g.blocks) c.args.to ≡ Some c.in-Some.before = sym (previous-links c.links.result.now.entries g.blocks c.args.to c.links.ensures.blocks) ∙ sym c.previous.ensures ∙ c.in-Some.is in
    before_there g c.learn.ensures.rules c.args.to c.requires.to c.in-Some.before previous

pub returns-in-Some-clause-value : goal.returns-in-Some-clause-value
returns-in-Some-clause-value c =
    let g = c.args.graph.now.graph in
    let previous : previous_key (named g.blocks) c.args.to ≡ Some c.in-Some.before = sym (previous-links c.links.result.now.entries g.blocks c.args.to c.links.ensures.blocks) ∙ sym c.previous.ensures ∙ c.in-Some.is in
    c.fall_to.ensures.value ∙ ap (drop_of c.term.result) c.next.ensures
    ∙ sym (ap (λ t. drop_term t (next_of g c.args.end)) c.term.ensures)
    ∙ sym (ap (λ p. drop_by g p (next_of g c.args.end)) previous)

pub returns-in-None-clause-value : goal.returns-in-None-clause-value
returns-in-None-clause-value c =
    let g = c.args.graph.now.graph in
    let previous : previous_key (named g.blocks) c.args.to ≡ None = sym (previous-links c.links.result.now.entries g.blocks c.args.to c.links.ensures.blocks) ∙ sym c.previous.ensures ∙ c.in-None.is in
    sym (ap (λ p. drop_by g p (next_of g c.args.end)) previous)
