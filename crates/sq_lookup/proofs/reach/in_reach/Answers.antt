use Rattle.std.proofs.Common.{◌≡◌, ◌∙◌, subst, sym}
use Rattle.std.specs.List.{All}
use Rattle.sq_graph.specs.Parts.{names_of}
use Rattle.sq_lookup.specs.Addresses.{HasReach}
use Rattle.sq_lookup.proofs.Reaching.{all_reach}
use Rattle.sq_lookup.proofs.reach.in_reach.Goals as goal

pub returns : goal.returns
returns c =
    let g = c.args.graph.now.graph in
    let all = all_reach g c.learn.ensures.rules in
    let names : c.deref-2.result.now ≡ names_of g = c.deref-2.ensures.value ∙ c.in_ok-names.ensures in (
      λ yes. all.0 (subst (All (HasReach g)) names (c.all_have_reach.ensures.0 yes)),
      λ reach. c.all_have_reach.ensures.1 (subst (All (HasReach g)) (sym names) (all.1 reach)),
    )
