use Rattle.std.proofs.Common.{◌≡◌, ◌↔◌, ◌<◌, ◌^◌, IsTrue, sym, ap, ◌∙◌, subst, arith}
use Rattle.std.specs.Prelude.{IfOk}
use Rattle.sq_graph.specs.declared.parts.Room.{Room}
use Rattle.sq_graph.specs.Graph.{Graph}
use Rattle.sq_graph.specs.Places.{IsInReach}
use Rattle.sq_graph.specs.Room.{GraphAndRoom, IsSmall, count_of, sum_of}
use Rattle.sq_graph.specs.Words.{words_of}
use Rattle.sq_outline.specs.Inlined.{inlined_all}
use Rattle.sq_outline.specs.InlineSteps.{inline_room}
use Rattle.sq_outline.proofs.InlineSearch.{still_small}
use Rattle.sq_outline.proofs.inline.is_near.Goals as goal

pub reserve-requires : goal.reserve-requires
reserve-requires c =
    let copied : c.in_ok-copy.copy ≡ c.args.graph.now = c.in_ok-copy.ensures in
    let few : words_of c.args.graph.now.graph < 2 ^ 28 = let l = c.if-words_of-ge-MANY.false in omega (arith, l, c.words_of.ensures) in
    subst (λ (r : Room). IsSmall (sum_of (count_of c.in_ok-copy.copy.graph) r)) (sym c.inline_room.ensures)
    (subst (λ (v : GraphAndRoom). IsSmall (sum_of (count_of v.graph) (inline_room c.args.graph.now.graph c.args.procedure))) (sym copied) (still_small c.args.graph.now c.args.procedure c.requires.there c.learn.ensures.small few))

pub returns : goal.returns
returns c =
    let copied : c.in_ok-copy.copy ≡ c.args.graph.now = c.in_ok-copy.ensures in
    let is : c.apply_inline.new.graph.graph ≡ inlined_all c.args.graph.now.graph c.args.procedure =
    c.apply_inline.ensures.graph ∙ ap (λ (h : Graph). inlined_all h c.args.procedure) (c.in_ok-reserve.ensures.graph ∙ ap (λ (v : GraphAndRoom). v.graph) copied) in
    subst (λ (k : Graph). IfOk c.in_reach.result (λ near. IsTrue near ↔ IsInReach k)) is c.in_reach.ensures
