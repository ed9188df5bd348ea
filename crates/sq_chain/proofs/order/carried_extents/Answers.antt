use Rattle.std.proofs.Common.{◌≡◌, ◌≢◌, ◌∙◌, ◌+◌, List, [], get_or, map, sym, ap, subst, arith}
use Rattle.std.specs.Prelude.{IfOk}
use Rattle.std.proofs.lemmas.List.Elements.{All-head}
use Rattle.sq_graph.specs.declared.item.Term.TheVariants.{Jump}
use Rattle.sq_graph.specs.Blocks.{HasBlock}
use Rattle.sq_graph.specs.Pieces.{exchanged}
use Rattle.sq_lookup.proofs.Targets.{targets_there}
use Rattle.sq_chain.specs.declared.survey.Extent.{Extent}
use Rattle.sq_chain.specs.Moves.{chain_end}
use Rattle.sq_chain.specs.Surveys.{extent_of}
use Rattle.sq_chain.proofs.Orders.{order_back, order_ahead}
use Rattle.sq_chain.proofs.Surveyed.{name_at, named_at, found_among, IsFrom, end_from, jump_from}
use Rattle.sq_chain.proofs.order.carried_extents.Goals as goal

pub end_of_chain-requires-clause-to : goal.end_of_chain-requires-clause-to
end_of_chain-requires-clause-to c =
    let g = c.args.graph.now.graph in
    All-head (HasBlock g) c.args.to [] (targets_there g c.args.from (Jump c.args.to) c.learn.ensures.rules c.requires.movable.jump)

pub place_of_either-first-requires : goal.place_of_either-first-requires
place_of_either-first-requires c =
    let g = c.args.graph.now.graph in
    let has = All-head (HasBlock g) c.args.to [] (targets_there g c.args.from (Jump c.args.to) c.learn.ensures.rules c.requires.movable.jump) in
    name_at g c.args.extents.now c.args.to c.requires.extents has

-- THE CHAIN IS FIRST

pub place_of-last-requires : goal.place_of-last-requires
place_of-last-requires c =
    let g = c.args.graph.now.graph in
    let order = c.args.extents.now in
    let end = c.end_of_chain.ensures.some c.in-Some.end c.in-Some.is in
    let within = c.place_of_either-first.ensures.within in
    let at_to = found_among g order c.place_of_either-first.result c.args.to c.learn.ensures.rules c.requires.extents within (sym (named_at order c.place_of_either-first.result c.index-extents-first.result within) ∙ c.if-extents-first.true) in
    subst (IsFrom order c.place_of_either-first.result) (sym end) (end_from g c.args.from c.args.to order c.learn.ensures.rules c.requires.movable c.requires.extents c.place_of_either-first.result at_to)

pub place_of-after-requires : goal.place_of-after-requires
place_of-after-requires c =
    let g = c.args.graph.now.graph in
    let order = c.args.extents.now in
    let end = c.end_of_chain.ensures.some c.in-Some.end c.in-Some.is in
    let within = c.place_of_either-first.ensures.within in
    let at_to = found_among g order c.place_of_either-first.result c.args.to c.learn.ensures.rules c.requires.extents within (sym (named_at order c.place_of_either-first.result c.index-extents-first.result within) ∙ c.if-extents-first.true) in
    let at_last = found_among g order c.place_of-last.result (chain_end g c.args.to) c.learn.ensures.rules c.requires.extents c.place_of-last.ensures.within (c.place_of-last.ensures.there ∙ end) in
    jump_from g c.args.from c.args.to order c.learn.ensures.rules c.requires.movable c.requires.extents c.place_of_either-first.result at_to c.place_of-last.result at_last c.place_of_either-first.ensures.before

pub returns-then-extents-first : goal.returns-then-extents-first
returns-then-extents-first c =
    let g = c.args.graph.now.graph in
    let order = c.args.extents.now in
    let end = c.end_of_chain.ensures.some c.in-Some.end c.in-Some.is in
    let within = c.place_of_either-first.ensures.within in
    let at_to = found_among g order c.place_of_either-first.result c.args.to c.learn.ensures.rules c.requires.extents within (sym (named_at order c.place_of_either-first.result c.index-extents-first.result within) ∙ c.if-extents-first.true) in
    let at_last = found_among g order c.place_of-last.result (chain_end g c.args.to) c.learn.ensures.rules c.requires.extents c.place_of-last.ensures.within (c.place_of-last.ensures.there ∙ end) in
    let at_from = found_among g order c.place_of-after.result c.args.from c.learn.ensures.rules c.requires.extents c.place_of-after.ensures.within c.place_of-after.ensures.there in
    subst (λ (es : List Extent). IfOk c.with_exchange.result (λ made. made.items ≡ es))
    (ap (λ (es : List Extent). exchanged es c.place_of_either-first.result (c.place_of-last.result + 1) (c.place_of-after.result + 1)) c.requires.extents
    ∙ order_ahead g c.args.from c.args.to c.learn.ensures.rules c.requires.movable c.place_of_either-first.result c.place_of-last.result at_to at_last c.place_of-after.result at_from extent_of
    (omega (arith, c.place_of-last.ensures.behind, c.place_of-after.ensures.behind)))
    c.with_exchange.ensures

-- THE JUMP IS FIRST

pub place_of-start-requires : goal.place_of-start-requires
place_of-start-requires c =
    let g = c.args.graph.now.graph in
    let has = All-head (HasBlock g) c.args.to [] (targets_there g c.args.from (Jump c.args.to) c.learn.ensures.rules c.requires.movable.jump) in
    let w = name_at g c.args.extents.now c.args.to c.requires.extents has in
    (w.0, c.place_of_either-first.ensures.first w.0 w.2, w.1, w.2)

pub place_of-last-requires-2 : goal.place_of-last-requires-2
place_of-last-requires-2 c =
    let g = c.args.graph.now.graph in
    let order = c.args.extents.now in
    let end = c.end_of_chain.ensures.some c.in-Some.end c.in-Some.is in
    let at_to = found_among g order c.place_of-start.result c.args.to c.learn.ensures.rules c.requires.extents c.place_of-start.ensures.within c.place_of-start.ensures.there in
    subst (IsFrom order c.place_of-start.result) (sym end) (end_from g c.args.from c.args.to order c.learn.ensures.rules c.requires.movable c.requires.extents c.place_of-start.result at_to)

pub returns : goal.returns
returns c =
    let g = c.args.graph.now.graph in
    let order = c.args.extents.now in
    let end = c.end_of_chain.ensures.some c.in-Some.end c.in-Some.is in
    let within = c.place_of_either-first.ensures.within in
    let named = named_at order c.place_of_either-first.result c.index-extents-first.result within in
    let at_from = found_among g order c.place_of_either-first.result c.args.from c.learn.ensures.rules c.requires.extents within (c.place_of_either-first.ensures.there (λ same. c.if-extents-first.false (named ∙ same))) in
    let at_to = found_among g order c.place_of-start.result c.args.to c.learn.ensures.rules c.requires.extents c.place_of-start.ensures.within c.place_of-start.ensures.there in
    let at_last = found_among g order c.place_of-last-2.result (chain_end g c.args.to) c.learn.ensures.rules c.requires.extents c.place_of-last-2.ensures.within (c.place_of-last-2.ensures.there ∙ end) in
    let apart : c.place_of_either-first.result ≢ c.place_of-start.result = λ same.
    c.if-extents-first.false (named ∙ ap (λ k. get_or (map (λ (e : Extent). e.name) order) k 0) same ∙ c.place_of-start.ensures.there) in
    subst (λ (es : List Extent). IfOk c.with_exchange-2.result (λ made. made.items ≡ es))
    (ap (λ (es : List Extent). exchanged es (c.place_of_either-first.result + 1) c.place_of-start.result (c.place_of-last-2.result + 1)) c.requires.extents
    ∙ order_back g c.args.from c.args.to c.learn.ensures.rules c.requires.movable c.place_of-start.result c.place_of-last-2.result at_to at_last c.place_of_either-first.result at_from extent_of
    (omega (arith, c.place_of-start.ensures.behind, apart)))
    c.with_exchange-2.ensures
