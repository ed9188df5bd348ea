use Rattle.std.proofs.Common.{◌≡◌, ◌<◌, true, false, length, subst, arith}
use Rattle.sq_outline.proofs.WindowsLast.{AreKnown, begins_from, one_known, none_here, none_past, left_half}
use Rattle.sq_outline.proofs.windows.window.last_in_left_half.Goals as goal
use Rattle.sq_outline.proofs.windows.window.last_in_left_half.Goals.{then-at-end+then-begins, else-at-end, else-at-end-via-then-at-end+else-begins, else-at-end-via-else-at-end}

pub loop-at-preserved : goal.loop-at-preserved
loop-at-preserved c =
    let window = c.args.window.now in
    let items = c.args.items.now in
    let first = c.args.first in
    let at = c.loop-at.at in
    let there : c.loop-at.at < length c.args.items.now = omega (arith, c.loop-at-test.true, c.requires.within) in
    elim c.if-at-end.branch [
      | then-at-end+then-begins w ↦
          rw (w.last-is, w.end-is) (one_known window items first at c.loop-at.end c.loop-at.last c.loop-at.invariant there w.if-at-end.true (begins_from window items at w.begins.result true w.begins.ensures w.if-begins.true))
      | else-at-end w ↦ elim w.else-at-end.branch [
        | else-at-end-via-then-at-end+else-begins v ↦
            rw (w.last-is, w.end-is) (none_here window items first at c.loop-at.end c.loop-at.last c.loop-at.invariant there (begins_from window items at v.begins.result false v.begins.ensures v.if-begins.false))
        | else-at-end-via-else-at-end v ↦ rw (w.last-is, w.end-is) (none_past window items first at c.loop-at.end c.loop-at.last c.loop-at.invariant v.if-at-end.false)
      ]
    ]

pub returns : goal.returns
returns c =
    let window = c.args.window.now in
    let items = c.args.items.now in
    let order = c.requires.order in
    let done : c.loop-at.at ≡ c.args.middle = omega (arith, c.loop-at-test.false, c.loop-at.auto.at-end order) in
    left_half window items c.args.first c.args.middle c.loop-at.end c.loop-at.last order
    (subst (λ k. AreKnown c.args.window.now c.args.items.now c.args.first k c.loop-at.end c.loop-at.last) done c.loop-at.invariant)
