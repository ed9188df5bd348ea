use Rattle.std.proofs.Common.{◌≡◌, ℕ, List, Some, Ok, sym, ap, ◌∙◌, subst, arith, below_more}
use Rattle.std.specs.List.{All}
use Rattle.std.proofs.lemmas.Option.{slice_get_within}
use Rattle.sq_outline.specs.Sets.{CanMake}
use Rattle.sq_outline.proofs.Grouping.{class_groups, none_in_classes}
use Rattle.sq_outline.proofs.sets.find_among.Goals as goal

pub find_in-requires-clause-group : goal.find_in-requires-clause-group
find_in-requires-clause-group c =
    class_groups c.args.graph.now.graph c.args.groups.now c.loop-number.number c.members.result.now c.learn.ensures.rules c.requires.value c.requires.classes c.members.ensures

pub loop-number-preserved : goal.loop-number-preserved
loop-number-preserved c =
    below_more _ c.loop-number.number c.loop-number.invariant
    (λ group is.
    let same : c.members.result.now ≡ group = let e : Some c.members.result.now ≡ Some group = sym c.members.ensures ∙ is in cc in
    subst (λ (xs : List ℕ). All (λ first. (rest : List ℕ) → ¬ CanMake c.args.graph.now.graph first rest) xs) same
    (c.find_in.ensures.none (c.in_ok-set.was ∙ ap Ok c.in_default.is)))

pub returns-clause-none : goal.returns-clause-none
returns-clause-none c = λ e first rest can.
    none_in_classes c.args.graph.now.graph c.args.groups.now c.requires.classes
    (λ k group is. let there = slice_get_within c.args.groups.now k group is in let past = c.loop-number-test.false in let count = c.len-number-end.ensures in c.loop-number.invariant k (omega arith) group is)
    first rest can
