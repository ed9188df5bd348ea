use Rattle.std.proofs.Common.{◌≡◌, ◌+◌, ◌-◌, ap, subst, arith}
use Rattle.sq_lift.proofs.Raising.{Completes, procedure_begins, procedure_goes_on, procedure_ends, procedure_leaves}
use Rattle.sq_lift.proofs.cut.leaders.add_procedure.Goals as goal

pub loop-index-init : goal.loop-index-init
loop-index-init c =
    let address = ap (λ note. note.address) c.note.view_is in
    procedure_begins c.args.set.now c.add.new.set c.args.note.now c.note.inside.address (c.args.note.now.length - 0) address (omega arith) c.add.ensures

pub loop-index-preserved : goal.loop-index-preserved
loop-index-preserved c =
    let length = ap (λ note. note.length) c.note.view_is in
    let fewer : c.args.note.now.length - c.loop-index._index - 1 ≡ c.args.note.now.length - (c.loop-index._index + 1) = omega arith in
    subst (λ left. Completes c.args.set.now c.add-in-loop-index.new.set c.args.note.now c.in-Some.next left) fewer
    (procedure_goes_on c.args.set.now c.loop-index.set c.add-in-loop-index.new.set c.args.note.now c.loop-index.at c.in-Some.next (c.args.note.now.length - c.loop-index._index) c.loop-index.invariant (omega (arith, length, c.loop-index-test.true)) c.in-Some.ensures.some c.add-in-loop-index.ensures)

pub returns-in-None : goal.returns-in-None
returns-in-None c =
    procedure_leaves c.args.set.now c.loop-index.set c.args.note.now c.loop-index.at (c.args.note.now.length - c.loop-index._index) c.loop-index.invariant c.in-None.ensures.end

pub returns : goal.returns
returns c =
    let length = ap (λ note. note.length) c.note.view_is in
    procedure_ends c.args.set.now c.loop-index.set c.args.note.now c.loop-index.at (c.args.note.now.length - c.loop-index._index) c.loop-index.invariant (omega (arith, length, c.loop-index-test.false))
