use Rattle.std.proofs.Common.{sym, ◌∙◌}
use Rattle.sq_lookup.specs.Tables.{number_at}
use Rattle.sq_lookup.proofs.Targets.{has_term}
use Rattle.sq_lookup.proofs.Sizes.{addresses_are, addresses_small}
use Rattle.sq_jumps.proofs.invert.branches_over_jump.Goals as goal
use Rattle.sq_jumps.proofs.Ruled.{next_there}
use Rattle.sq_jumps.proofs.InvertTests.{slot_if, invert_is, invert_unused, invert_reaches}
use Rattle.sq_jumps.proofs.OldSurveys.{reaches_by}
use Rattle.sq_jumps.proofs.InvertSafe.{invert_still}

pub jump_from-requires : goal.jump_from-requires
jump_from-requires c = next_there c.args.graph.now.graph c.args.block c.in-Some.over c.learn.ensures.rules (sym c.next.ensures ∙ c.in-Some.is)

pub returns-then-has : goal.returns-then-has
returns-then-has c = record {
  some = λ no. absurd (cc);
  all = λ survey over. absurd (invert_unused c.args.graph.now.graph _ _ _ c.learn.ensures.rules survey c.args.block c.in-Some.over (sym c.next.ensures ∙ c.in-Some.is) (sym c.has.ensures ∙ c.if-has.true) over);
}

pub reaches_without-requires-clause-small : goal.reaches_without-requires-clause-small
reaches_without-requires-clause-small c =
    let safe = c.requires.survey in
    addresses_small (number_at c.args.survey.now.addresses) safe.before safe.addresses safe.few

pub returns : goal.returns
returns c =
    let g = c.args.graph.now.graph in
    let safe = c.requires.survey in
    let next = sym c.next.ensures ∙ c.in-Some.is in
    let slot = sym c.next-2.ensures ∙ slot_if c.next-2.result c.in-Branch.behind c.if-ne.ensures in
    let jump = sym c.jump_from.ensures ∙ c.in-Some-jump_from.is in
    record {
      some = λ yes.
          invert_is g c.args.block c.in-Branch.cond c.in-Branch.a c.in-Branch.b c.in-Some.over c.in-Branch.behind c.in-Some-jump_from.to c.learn.ensures.rules c.in-Branch.ensures next slot jump (safe.unused c.in-Some.over (sym c.has.ensures ∙ c.if-has.false))
          (invert_still g c.args.block c.in-Some.over c.in-Some-jump_from.to _ _ c.learn.ensures.rules (has_term g c.args.block _ c.in-Branch.ensures) jump safe (c.reaches_without.ensures.0 yes));
      all = λ survey over.
          c.reaches_without.ensures.1
          (reaches_by _ _ _ c.in-Some.over c.args.block c.in-Some-jump_from.to (sym (addresses_are (number_at c.args.survey.now.addresses) g survey.addresses))
          (invert_reaches g _ _ _ c.learn.ensures.rules survey c.args.block c.in-Branch.cond c.in-Branch.a c.in-Branch.b c.in-Some.over c.in-Branch.behind c.in-Some-jump_from.to c.in-Branch.ensures next jump over));
    }
