use Rattle.std.proofs.Common.{◌≡◌, Some, is_some, ap, subst, sym, ◌∙◌}
use Rattle.sq_graph.specs.Blocks.{block_term}
use Rattle.sq_graph.specs.Uses.{term_uses}
use Rattle.sq_live.proofs.Layouts.{block_at}
use Rattle.sq_lookup.specs.Names.{Adds}
use Rattle.sq_lookup.proofs.Adding.{adds_pushed}
use Rattle.sq_lookup.proofs.uses.use_terms.Goals as goal

pub term-requires : goal.term-requires
term-requires c =
    let b = block_at c.args.graph.now.graph c.args.names.now c.loop-name.name-index c.requires.rules c.requires.names c.loop-name-test.true in
    ap is_some b.found

pub loop-name-preserved : goal.loop-name-preserved
loop-name-preserved c =
    let b = block_at c.args.graph.now.graph c.args.names.now c.loop-name.name-index c.requires.rules c.requires.names c.loop-name-test.true in
    let term : c.term.result ≡ b.block.term = let e : Some b.block.term ≡ Some c.term.result = sym (ap block_term b.found) ∙ c.term.ensures in cc in
    adds_pushed (λ x. term_uses x.term) _ _ b.block c.args.used.now c.loop-name.used c.insert_some.new.self b.more c.loop-name.invariant
    (subst (λ ns. Adds ns c.loop-name.used c.insert_some.new.self) (c.target.ensures ∙ ap term_uses term) c.in_ok-insert_some.ensures)
