use Rattle.std.proofs.Common.{length, sym, ap, ◌∙◌, subst, option_copied}
use Rattle.std.proofs.lemmas.Option.{IfSome_then}
use Rattle.sq_graph.specs.Graph.{Graph}
use Rattle.sq_graph.specs.Rules.{IsGraph}
use Rattle.sq_jumps.specs.UnreachedClear.{TellsCalled, without_uncalled, without_each, MayGo}
use Rattle.sq_jumps.proofs.UnreachedGo.{middle_is, all_there, may_go}
use Rattle.sq_jumps.proofs.UnreachedLeft.{tells_held, all_gone}
use Rattle.sq_jumps.proofs.unreached.clear.drop_unreached.Goals as goal

pub clear_each-requires : goal.clear_each-requires
clear_each-requires c = all_there c.args.graph.now.graph c.args.blocks.now c.learn.ensures.rules c.requires.unreached

pub remove_uncalled-requires : goal.remove_uncalled-requires
remove_uncalled-requires c =
    let cleared = c.clear_each.new.graph.graph in
    IfSome_then (option_copied c.args.called) c.requires.called (λ called held.
    subst (λ (k : Graph). TellsCalled k (length cleared.procedures) called) (sym c.clear_each.ensures.graph)
    (tells_held c.args.graph.now.graph c.args.blocks.now c.learn.ensures.rules c.requires.unreached (length cleared.procedures) called held))

pub remove_each-requires : goal.remove_each-requires
remove_each-requires c =
    let g = c.args.graph.now.graph in
    let gone = c.args.blocks.now in
    let is = c.remove_uncalled.ensures.graph ∙ ap (λ (k : Graph). without_uncalled (length k.procedures) k) c.clear_each.ensures.graph ∙ middle_is g gone c.learn.ensures.rules c.requires.unreached in
    subst (λ (k : Graph). MayGo k gone) (sym is) (may_go g gone c.learn.ensures.rules c.requires.unreached)

pub returns-clause-graph : goal.returns-clause-graph
returns-clause-graph c =
    let g = c.args.graph.now.graph in
    let gone = c.args.blocks.now in
    let is = c.remove_uncalled.ensures.graph ∙ ap (λ (k : Graph). without_uncalled (length k.procedures) k) c.clear_each.ensures.graph ∙ middle_is g gone c.learn.ensures.rules c.requires.unreached in
    let rules = subst (λ (k : Graph). IsGraph k) is c.learn-2.ensures.rules in
    c.remove_each.ensures.graph ∙ ap (without_each gone) is ∙ all_gone g gone c.learn.ensures.rules c.requires.unreached rules.distinct
