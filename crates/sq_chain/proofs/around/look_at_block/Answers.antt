use Rattle.std.proofs.Common.{◌≡◌, ◌∙◌, ℕ, sym, ap, subst, arith}
use Rattle.sq_graph.specs.Words.{block_words}
use Rattle.sq_chain.specs.Around.{IsSeenAround, IsSeenAt}
use Rattle.sq_chain.specs.Least.{stands_at}
use Rattle.sq_chain.specs.Places.{placed_at}
use Rattle.sq_chain.specs.declared.around.Span.{Span}
use Rattle.sq_chain.proofs.Adding.{stands_are}
use Rattle.sq_chain.proofs.around.look_at_block.Goals as goal

pub returns-clause-near : goal.returns-clause-near
returns-clause-near c = λ e.
    let g = c.args.graph.now.graph in
    let at : c.address-at.result ≡ stands_at block_words g c.in-Some.block = c.address-at.ensures ∙ ap (λ (f : ℕ → ℕ). f c.in-Some.block) (stands_are block_words g (placed_at c.args.addresses.now) c.requires.addresses) in
    subst (IsSeenAt g c.args.shift c.args.wide) (sym c.in-Some.is)
    (subst (IsSeenAround g c.args.shift c.args.wide) at (c.look_around_span.ensures.near e c.address-at.result (omega (arith, ap (λ (s : Span). s.first) c.span_of.ensures)) (omega (arith, ap (λ (s : Span). s.last) c.span_of.ensures))))
