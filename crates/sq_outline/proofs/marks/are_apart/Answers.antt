use Rattle.std.proofs.Common.{sym, ◌∙◌}
use Rattle.sq_outline.proofs.MarkWrites.{same_without, apart}
use Rattle.sq_outline.proofs.marks.are_apart.Goals as goal

pub returns-then-ne : goal.returns-then-ne
returns-then-ne c = λ is alike.
    let own = c.without-own.result in
    let others = c.without-other.result in
    let set = c.set.result in
    let other = c.set-in-loop-bit.result in
    let same = alike c.loop-bit.bit set other c.set.ensures c.set-in-loop-bit.ensures in
    apart own others (sym c.if-ne.true ∙ c.ne.ensures) (same_without c.args.mark.now.dead set other own others same c.without-own.ensures c.without-other.ensures)
