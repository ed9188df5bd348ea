use Rattle.std.proofs.Common.{◌≡◌, List, ℕ, length, sym, ◌∙◌, subst, arith}
use Rattle.sq_outline.specs.Sets.{AreOthers}
use Rattle.sq_outline.proofs.Choosing.{can_own, kept_others, few_in_group, few_others}
use Rattle.sq_outline.proofs.sets.others_for.Goals as goal

pub returns-then-not-has_body-clause-none : goal.returns-then-not-has_body-clause-none
returns-then-not-has_body-clause-none c = λ e rest can.
    let yes = c.has_body.ensures.1 (can_own c.args.graph.now.graph c.args.first rest can) in
    let no = c.if-not-has_body.true in
    absurd (cc)

pub others_of-requires-clause-group : goal.others_of-requires-clause-group
others_of-requires-clause-group c = c.requires.group.there

pub chosen_of-requires-clause-others : goal.chosen_of-requires-clause-others
chosen_of-requires-clause-others c =
    let g = c.args.graph.now.graph in
    subst (λ (others : List ℕ). AreOthers g c.args.first others) (sym c.deref.ensures.value) (kept_others g c.args.first c.args.group.now c.in_ok-others.others.items c.requires.group c.in_ok-others.ensures)

pub returns-then-group-fewest-clause-none : goal.returns-then-group-fewest-clause-none
returns-then-group-fewest-clause-none c = λ e rest can.
    few_in_group c.args.graph.now.graph c.args.first c.args.group.now rest c.items.result.now c.in-Some.fewest c.items.ensures c.in-Some.ensures c.requires.group can (omega (arith, c.if-group-fewest.true))

pub returns-then-len-fewest-clause-none : goal.returns-then-len-fewest-clause-none
returns-then-len-fewest-clause-none c = λ e rest can.
    let g = c.args.graph.now.graph in
    let others = c.in_ok-others.others.items in
    let count : c.len.result ≡ length others = c.len.ensures ∙ c.in_ok-others.others.ok.0 in
    few_others g c.args.first others rest c.items.result.now c.in-Some.fewest c.items.ensures c.in-Some.ensures (kept_others g c.args.first c.args.group.now others c.requires.group c.in_ok-others.ensures) can (omega (arith, count, c.if-len-fewest.true))
