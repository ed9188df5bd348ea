use Rattle.std.proofs.Common.{◌≡◌, ◌∙◌, refl, sym, subst}
use Rattle.sq_graph.specs.declared.item.Term.TheVariants.{Jump}
use Rattle.sq_chain.specs.Moves.{IsInChain}
use Rattle.sq_chain.proofs.Chains.{target_there, end_inside, stops_at_end}
use Rattle.sq_chain.proofs.chain.corners_at.Goals as goal

pub returns-then-end-from-clause-none : goal.returns-then-end-from-clause-none
returns-then-end-from-clause-none c = λ e to movable.
    let g = c.args.graph.now.graph in
    let same : c.args.to ≡ to = cc (movable.jump, c.requires.jump) in
    let end = end_inside g c.args.to (target_there g c.args.from c.args.to c.learn.ensures.rules c.requires.jump) in
    let inside = subst (IsInChain g c.args.to) (sym c.requires.end ∙ c.if-end-from.true) end in
    movable.outside (subst (λ k. IsInChain g k c.args.from) same inside)

pub returns-clause-movable : goal.returns-clause-movable
returns-clause-movable c =
    let g = c.args.graph.now.graph in
    record {
      jump = c.requires.jump;
      apart = c.requires.apart;
      outside = λ inside.
          let there = target_there g c.args.from c.args.to c.learn.ensures.rules c.requires.jump in
          let last = stops_at_end g c.args.to there c.args.from (Jump c.args.to) c.learn.ensures.rules c.requires.jump refl inside in
          c.if-end-from.false (c.requires.end ∙ sym last);
    }
