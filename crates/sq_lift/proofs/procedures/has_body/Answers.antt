use Rattle.std.proofs.Common.{◌≡◌, ◌+◌, ◌-◌, ap, sym, ◌∙◌, arith}
use Rattle.law_program.specs.Notes.{has_body}
use Rattle.sq_lift.proofs.NoteBodies.{body_next, body_stops, no_body}
use Rattle.sq_lift.proofs.procedures.has_body.Goals as goal

pub loop-index-preserved : goal.loop-index-preserved
loop-index-preserved c =
    let fewer : c.args.length - c.loop-index._index - 1 ≡ c.args.length - (c.loop-index._index + 1) = omega arith in
    c.loop-index.invariant
    ∙ body_next c.args.text.now c.args.link c.loop-index.at (c.args.length - c.loop-index._index) (sym c.if-not-is_item_without.ensures) (omega arith)
    ∙ (λ i. has_body c.args.text.now c.args.link (sym c.in-Some.ensures.some i) (fewer i))

pub returns-then-not-is_item_without : goal.returns-then-not-is_item_without
returns-then-not-is_item_without c =
    sym (c.loop-index.invariant ∙ body_stops c.args.text.now c.args.link c.loop-index.at (c.args.length - c.loop-index._index) (sym c.if-not-is_item_without.ensures) (omega arith))

pub returns-in-None : goal.returns-in-None
returns-in-None c =
    let left = c.args.length - c.loop-index._index in
    sym
    (c.loop-index.invariant
    ∙ body_next c.args.text.now c.args.link c.loop-index.at left (sym c.if-not-is_item_without.ensures) (omega arith)
    ∙ no_body c.args.text.now c.args.link (c.loop-index.at + 4) (left - 1) c.in-None.ensures.none)

pub returns : goal.returns
returns c =
    let none : c.args.length - c.loop-index._index ≡ 0 = omega arith in
    c.is_return.ensures ∙ sym (c.loop-index.invariant ∙ ap (has_body c.args.text.now c.args.link c.loop-index.at) none)
