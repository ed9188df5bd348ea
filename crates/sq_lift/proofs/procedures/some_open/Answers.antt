use Rattle.std.proofs.Common.{◌≡◌, ◌+◌, ◌-◌, false, true, ap, sym, ◌∙◌, arith}
use Rattle.sq_lift.specs.Entrances.{entrance_in, is_open, some_open}
use Rattle.sq_lift.proofs.NoteBodies.{open_next, open_stops, none_open_past}
use Rattle.sq_lift.proofs.procedures.some_open.Goals as goal

pub loop-index-preserved : goal.loop-index-preserved
loop-index-preserved c =
    let length = ap (λ note. note.length) c.note.view_is in
    let next = c.in-Some.ensures.some in
    let closed : is_open (entrance_in c.args.entrances.now (c.loop-index.at + 4)) ≡ false =
    ap (λ x. is_open (entrance_in c.args.entrances.now x)) (sym next) ∙ ap is_open (sym c.at.ensures) ∙ sym c.if-is_open.ensures
    in
    let fewer : c.args.note.now.length - c.loop-index._index - 1 ≡ c.args.note.now.length - (c.loop-index._index + 1) = omega arith in
    c.loop-index.invariant
    ∙ open_next (entrance_in c.args.entrances.now) (c.loop-index.at + 4) (c.args.note.now.length - c.loop-index._index) closed (omega (arith, length, c.loop-index-test.true))
    ∙ (λ i. some_open (entrance_in c.args.entrances.now) (sym next i + 4) (fewer i))

pub returns-in-None : goal.returns-in-None
returns-in-None c =
    sym
    (c.loop-index.invariant
    ∙ none_open_past c.args.entrances.now (c.loop-index.at + 4) (c.args.note.now.length - c.loop-index._index) c.in-None.ensures.none)

pub returns-then-is_open : goal.returns-then-is_open
returns-then-is_open c =
    let length = ap (λ note. note.length) c.note.view_is in
    let next = c.in-Some.ensures.some in
    let open_there : is_open (entrance_in c.args.entrances.now (c.loop-index.at + 4)) ≡ true =
    ap (λ x. is_open (entrance_in c.args.entrances.now x)) (sym next) ∙ ap is_open (sym c.at.ensures) ∙ sym c.if-is_open.ensures
    in
    sym
    (c.loop-index.invariant
    ∙ open_stops (entrance_in c.args.entrances.now) (c.loop-index.at + 4) (c.args.note.now.length - c.loop-index._index) open_there (omega (arith, length, c.loop-index-test.true)))

pub returns : goal.returns
returns c =
    let length = ap (λ note. note.length) c.note.view_is in
    let none : c.args.note.now.length - c.loop-index._index ≡ 0 = omega (arith, length, c.loop-index-test.false) in
    sym (c.loop-index.invariant ∙ ap (some_open (entrance_in c.args.entrances.now) (c.loop-index.at + 4)) none)
