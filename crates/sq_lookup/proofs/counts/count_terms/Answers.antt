use Rattle.std.proofs.Common.{◌≡◌, [], ◌∷◌, Some, is_some, option_to_list, sym, ap, ◌∙◌, arith}
use Rattle.sq_graph.specs.Blocks.{block_term}
use Rattle.sq_graph.specs.Uses.{term_uses}
use Rattle.sq_live.proofs.Layouts.{block_at}
use Rattle.sq_lookup.specs.Counts.{count_at, times_named}
use Rattle.sq_lookup.proofs.Counting.{times_pushed}
use Rattle.sq_lookup.proofs.counts.count_terms.Goals as goal
use Rattle.sq_lookup.proofs.counts.count_terms.Goals.{in-Some+in_ok-add_one, in_default}

pub term-requires : goal.term-requires
term-requires c =
    let b = block_at c.args.graph.now.graph c.args.names.now c.loop-name.name-index c.requires.rules c.requires.names c.loop-name-test.true in
    ap is_some b.found

pub loop-name-preserved : goal.loop-name-preserved
loop-name-preserved c =
    let g = c.args.graph.now.graph in
    let b = block_at g c.args.names.now c.loop-name.name-index c.requires.rules c.requires.names c.loop-name-test.true in
    let term : c.term.result ≡ b.block.term = let e : Some b.block.term ≡ Some c.term.result = sym (ap block_term b.found) ∙ c.term.ensures in cc in
    let named : option_to_list c.target.result ≡ term_uses b.block.term = c.target.ensures ∙ ap term_uses term in
    elim c.match-target.branch [
      | in-Some+in_ok-add_one w ↦ λ n.
          let own : times_named (term_uses b.block.term) n ≡ times_named (w.in-Some.to ∷ []) n = ap (λ us. times_named us n) (sym named ∙ ap option_to_list w.in-Some.is) in
          ap (λ xs. count_at xs.items n) w.counts-is ∙ omega (arith, w.in_ok-add_one.ensures n, own, c.loop-name.invariant n, times_pushed _ _ b.block n b.more)
      | in_default w ↦ λ n.
          let own : times_named (term_uses b.block.term) n ≡ 0 = ap (λ us. times_named us n) (sym named ∙ ap option_to_list w.in_default.is) in
          ap (λ xs. count_at xs.items n) w.counts-is ∙ omega (arith, own, c.loop-name.invariant n, times_pushed _ _ b.block n b.more)
    ]
