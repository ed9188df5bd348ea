use Rattle.std.proofs.Common.{◌≡◌, None, is_some, sym, ap, ◌∙◌, arith}
use Rattle.sq_graph.specs.Blocks.{next_of}
use Rattle.sq_chain.proofs.Chains.{chain_starts, term_there, chain_has, chain_ends, chain_lacks, chain_goes_on, chain_shorter}
use Rattle.sq_chain.proofs.OneMore.{slot_after}
use Rattle.sq_chain.proofs.chain.end_of_chain.Goals as goal

pub loop-at-init : goal.loop-at-init
loop-at-init c = record { on = chain_starts c.args.graph.now.graph c.args.to c.args.from c.requires.to }

pub returns-then-at-from-clause-inside : goal.returns-then-at-from-clause-inside
returns-then-at-from-clause-inside c = λ e.
    let g = c.args.graph.now.graph in
    let t = term_there g c.loop-at.at c.loop-at.invariant.on.there in
    chain_has g c.args.to c.args.from c.loop-at.at c.requires.rules c.loop-at.invariant.on t.0 t.1 c.if-at-from.true

pub returns-then-not-goes_on-clause-some : goal.returns-then-not-goes_on-clause-some
returns-then-not-goes_on-clause-some c = λ end e.
    let same : c.loop-at.at ≡ end = cc in
    sym same ∙ chain_ends c.args.graph.now.graph c.args.to c.args.from c.loop-at.at c.requires.rules c.loop-at.invariant.on c.term.result c.term.ensures (sym c.goes_on.ensures ∙ c.if-not-goes_on.true)

pub returns-then-not-goes_on-clause-outside : goal.returns-then-not-goes_on-clause-outside
returns-then-not-goes_on-clause-outside c = λ end e.
    chain_lacks c.args.graph.now.graph c.args.to c.args.from c.loop-at.at c.requires.rules c.loop-at.invariant.on c.term.result c.term.ensures (sym c.goes_on.ensures ∙ c.if-not-goes_on.true) c.if-at-from.false

pub unreachable-requires : goal.unreachable-requires
unreachable-requires c =
    let g = c.args.graph.now.graph in
    let some = slot_after g c.loop-at.at c.term.result c.requires.rules c.term.ensures (sym c.goes_on.ensures ∙ c.if-not-goes_on.false) in
    let none : next_of g c.loop-at.at ≡ None = sym c.next.ensures ∙ c.in_default.is in
    let e = ap is_some none in
    cc

pub loop-at-smaller : goal.loop-at-smaller
loop-at-smaller c =
    let g = c.args.graph.now.graph in
    let less = chain_shorter g c.args.to c.args.from c.loop-at.at c.requires.rules c.loop-at.invariant.on c.term.result c.term.ensures (sym c.goes_on.ensures ∙ c.if-not-goes_on.false) c.if-at-from.false c.in-Some.next (sym c.next.ensures ∙ c.in-Some.is) in
    omega (arith, less)

pub loop-at-preserved : goal.loop-at-preserved
loop-at-preserved c =
    let g = c.args.graph.now.graph in
    record { on = chain_goes_on g c.args.to c.args.from c.loop-at.at c.requires.rules c.loop-at.invariant.on c.term.result c.term.ensures (sym c.goes_on.ensures ∙ c.if-not-goes_on.false) c.if-at-from.false c.in-Some.next (sym c.next.ensures ∙ c.in-Some.is) }
