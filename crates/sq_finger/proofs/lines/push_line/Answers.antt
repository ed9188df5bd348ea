use Rattle.std.proofs.Common.{◌++◌, ◌+◌, ◌-◌, ap, ◌∙◌}
use Rattle.sq_finger.specs.Lines.{block_line}
use Rattle.sq_finger.proofs.Lining.{line_step, line_last}
use Rattle.sq_finger.proofs.lines.push_line.Goals as goal

pub loop-at-preserved : goal.loop-at-preserved
loop-at-preserved c =
    let at = c.loop-at.at in
    ap (λ ps. ps ++ block_line c.args.block (at + 1) (c.args.count - (at + 1))) c.in_ok-push.ensures.items
    ∙ line_step c.loop-at.line.items c.args.block at c.args.count c.loop-at-test.true
    ∙ c.loop-at.invariant

pub returns : goal.returns
returns c =
    c.in_ok-push-2.ensures.items
    ∙ line_last c.loop-at.line.items c.args.block c.loop-at.at c.args.count c.loop-at.auto.at-end c.loop-at-test.false
    ∙ c.loop-at.invariant
