use Rattle.std.proofs.Common.{sym, ap, ◌∙◌, subst}
use Rattle.sq_reach.specs.Marks.{is_marked, AreReached}
use Rattle.sq_reach.proofs.Blocks.{reached_has}
use Rattle.sq_reach.proofs.Searches.{started, looked_at, finished, waiting_reached, fewer_left}
use Rattle.sq_reach.proofs.reach.reachable.Goals as goal

pub loop-block-init : goal.loop-block-init
loop-block-init c =
    let at_entry = rw (c.entry.ensures.value, c.new-search.ensures) at c.in_ok-reach.ensures.ok in
    let at_words = rw c.code_words.ensures at c.in_ok-reach_words.ensures.ok in
    let none_called = c.in_ok-reach.ensures.called ∙ ap (λ f. f.called) c.new-search.ensures in
    started c.args.g.now.graph c.reach.new.self c.reach_words.new.self at_entry none_called at_words c.in_ok-reach_words.ensures.called

pub visit-requires-clause-block : goal.visit-requires-clause-block
visit-requires-clause-block c =
    reached_has c.args.g.now.graph c.in-Some.block c.entry.ensures.rules (waiting_reached c.args.g.now.graph c.loop-block.search c.next.new.self c.in-Some.block c.in-Some.ensures.some c.loop-block.invariant)

pub loop-block-smaller : goal.loop-block-smaller
loop-block-smaller c =
    fewer_left c.args.g.now.graph c.loop-block.search c.next.new.self c.visit.new.self c.in-Some.block c.in-Some.ensures.some c.entry.ensures.rules c.loop-block.invariant c.in_ok-visit.ensures.ok

pub loop-block-preserved : goal.loop-block-preserved
loop-block-preserved c =
    looked_at c.args.g.now.graph c.loop-block.search c.next.new.self c.visit.new.self c.in-Some.block c.in-Some.ensures.some c.loop-block.invariant c.in_ok-visit.ensures.ok c.in_ok-visit.ensures.bodies

pub returns-clause-reached : goal.returns-clause-reached
returns-clause-reached c =
    let all = c.into_reached.ensures ∙ ap (λ f. f.reached) c.in_default.ensures.none.0 in
    subst (AreReached c.args.g.now.graph) (sym all) (finished c.args.g.now.graph c.loop-block.search c.loop-block.invariant c.in_default.ensures.none.1)

pub returns-clause-blocks : goal.returns-clause-blocks
returns-clause-blocks c = λ n marked.
    let all = c.into_reached.ensures ∙ ap (λ f. f.reached) c.in_default.ensures.none.0 in
    reached_has c.args.g.now.graph n c.entry.ensures.rules (c.loop-block.invariant.sound n (ap (λ names. is_marked names n) (sym all) ∙ marked))
