use Rattle.std.proofs.Common.{◌≡◌, Some, sym, ap, ◌∙◌}
use Rattle.sq_graph.specs.declared.item.Term.TheVariants.{Jump}
use Rattle.sq_graph.specs.Blocks.{term_of}
use Rattle.sq_lookup.proofs.Previous.{next_has, one_before}
use Rattle.sq_chain.proofs.local.jumps_over.Goals as goal

pub term-requires : goal.term-requires
term-requires c = next_has c.args.graph.now.graph.blocks c.in-Some.before c.args.block (c.block_before.ensures.some c.in-Some.before c.in-Some.is)

pub returns-in-Some : goal.returns-in-Some
returns-in-Some c = λ no p s slot after jump.
    let g = c.args.graph.now.graph in
    let same = one_before g c.in-Some.before p c.args.block c.learn.ensures.rules (c.block_before.ensures.some c.in-Some.before c.in-Some.is) slot in
    let mine : term_of g c.in-Some.before ≡ Some (Jump s) = ap (term_of g) same ∙ jump in
    let both : Some c.term.result ≡ Some (Jump s) = sym c.term.ensures ∙ mine in
    let is : c.term.result ≡ Jump s = cc in
    let yes = c.jumps_to.ensures.1 (record { to = s; jump = is; slot = c.next.ensures ∙ after }) in
    cc
