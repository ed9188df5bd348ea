use Rattle.std.proofs.Common.{◌≤◌, ℕ, List, length, get_or, Ok, ap, ◌∙◌, subst, arith}
use Rattle.std.specs.List.{All}
use Rattle.std.proofs.lemmas.List.{take_all}
use Rattle.sq_outline.specs.Sets.{CanMake}
use Rattle.sq_outline.proofs.Choosing.{two_in_group}
use Rattle.sq_outline.proofs.Early.{one_more}
use Rattle.sq_outline.proofs.sets.find_in.Goals as goal

pub others_for-requires-clause-first : goal.others_for-requires-clause-first
others_for-requires-clause-first c =
    let own = c.requires.group c.loop-name.name-index 0 c.loop-name-test.true in own.there c.loop-name.name-index 0 c.loop-name-test.true

pub loop-name-preserved : goal.loop-name-preserved
loop-name-preserved c =
    one_more (λ first. (rest : List ℕ) → ¬ CanMake c.args.graph.now.graph first rest) c.args.group.now c.loop-name.name-index 0 c.loop-name-test.true c.loop-name.invariant
    (c.others_for.ensures.none (c.in_ok-others.was ∙ ap Ok c.in_default.is))

pub returns-clause-none : goal.returns-clause-none
returns-clause-none c = λ e.
    let past : length c.args.group.now ≤ c.loop-name.name-index = omega arith in
    subst (λ (names : List ℕ). All (λ first. (rest : List ℕ) → ¬ CanMake c.args.graph.now.graph first rest) names) (take_all c.loop-name.name-index c.args.group.now past) c.loop-name.invariant

pub others_for-requires-clause-group : goal.others_for-requires-clause-group
others_for-requires-clause-group c = c.requires.group c.loop-name.name-index 0 c.loop-name-test.true

pub returns-then-group-lt2-clause-none : goal.returns-then-group-lt2-clause-none
returns-then-group-lt2-clause-none c = λ e k d l rest can.
    two_in_group c.args.graph.now.graph (get_or c.args.group.now k d) c.args.group.now rest (c.requires.group k d l) can (omega (arith, c.if-group-lt2.true))
