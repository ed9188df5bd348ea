use Rattle.std.proofs.Common.{◌<◌, length, sym, ap, ◌∙◌, arith, below_more, Ok}
use Rattle.sq_outline.specs.Links.{link_order}
use Rattle.sq_outline.proofs.Linking.{register_at}
use Rattle.sq_outline.proofs.sets.chosen_of.Goals as goal

pub chosen_by-requires-clause-tried : goal.chosen_by-requires-clause-tried
chosen_by-requires-clause-tried c =
    let i = c.loop-number.number-index in
    let there : i < length link_order = c.loop-number-test.true in
    (i, (there, sym (c.from_low_bits-r.ensures ∙ register_at i there)))

pub loop-number-preserved : goal.loop-number-preserved
loop-number-preserved c =
    let i = c.loop-number.number-index in
    let there : i < length link_order = c.loop-number-test.true in
    below_more _ i c.loop-number.invariant
    (λ rest can is. c.chosen_by.ensures.none (c.in_ok-chosen.was ∙ ap Ok c.in_default.is) rest can (is ∙ sym (c.from_low_bits-r.ensures ∙ register_at i there)))

pub returns-clause-none : goal.returns-clause-none
returns-clause-none c = λ e rest can.
    let past = c.loop-number-test.false in
    c.loop-number.invariant can.tried.0 (let there = can.tried.1.0 in omega arith) rest can (sym can.tried.1.1)
