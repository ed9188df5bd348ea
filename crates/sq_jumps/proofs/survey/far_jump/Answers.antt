use Rattle.std.proofs.Common.{◌≡◌, Some, sym, ap, subst, ◌∙◌}
use Rattle.sq_lookup.proofs.Targets.{branch_there, jump_there}
use Rattle.sq_jumps.specs.Surveys.{IsTooFar}
use Rattle.sq_lookup.specs.Tables.{number_at}
use Rattle.sq_lookup.proofs.Sizes.{addresses_are, addresses_small}
use Rattle.sq_jumps.proofs.survey.far_jump.Goals as goal
use Rattle.sq_jumps.proofs.Distances.{not_far, too_far, far_if_jump}
use Rattle.sq_jumps.proofs.OldSurveys.{reaches_by}

pub jump_from-requires : goal.jump_from-requires
jump_from-requires c =
    branch_there c.args.graph.now.graph c.args.from c.in-Branch.cond c.in-Branch.a c.in-Branch.b c.in-Branch.over c.requires.rules c.in-Branch.ensures

pub reaches_without-requires-clause-small : goal.reaches_without-requires-clause-small
reaches_without-requires-clause-small c = addresses_small (number_at c.args.addresses.now) c.args.graph.now.graph c.requires.addresses c.requires.few

pub returns-then-reaches_without : goal.returns-then-reaches_without
returns-then-reaches_without c = λ n.
    let g = c.args.graph.now.graph in
    let jump = sym c.jump_from.ensures ∙ c.in_ok-to.was in (
      λ e. absurd (cc),
      λ far. absurd (not_far g c.args.from c.in-Branch.over c.in_ok-to.to c.in-Branch.cond c.in-Branch.a c.in-Branch.b n (jump_there g c.in-Branch.over c.in_ok-to.to c.requires.rules jump) c.in-Branch.ensures jump c.if-to-over.false (reaches_by _ _ _ c.in-Branch.over c.args.from c.in_ok-to.to (addresses_are (number_at c.args.addresses.now) g c.requires.addresses) (c.reaches_without.ensures.0 c.if-reaches_without.true)) far),
    )

pub returns-else-reaches_without : goal.returns-else-reaches_without
returns-else-reaches_without c = λ n.
    let g = c.args.graph.now.graph in
    let jump = sym c.jump_from.ensures ∙ c.in_ok-to.was in
    let far = too_far g c.args.from c.in-Branch.over c.in_ok-to.to c.in-Branch.cond c.in-Branch.a c.in-Branch.b (jump_there g c.in-Branch.over c.in_ok-to.to c.requires.rules jump) c.in-Branch.ensures jump c.if-to-over.false (λ reach. let yes = c.reaches_without.ensures.1 (reaches_by _ _ _ c.in-Branch.over c.args.from c.in_ok-to.to (sym (addresses_are (number_at c.args.addresses.now) g c.requires.addresses)) reach) in cc) in (
      λ e. let same : c.in-Branch.over ≡ n = cc in subst (IsTooFar g c.args.from) same far,
      λ f. ap Some (far_if_jump g c.args.from c.in-Branch.over c.in-Branch.cond c.in-Branch.a c.in-Branch.b n c.in-Branch.ensures f),
    )
