-- each place is the first, or the first lies behind
use Rattle.std.proofs.Common.{◌≡◌, ◌+◌, ◌-◌, true, false, sym, ap, ◌∙◌, arith}
use Rattle.sq_num.specs.Refusals.{first_from}
use Rattle.sq_num.proofs.Places.{first_here, first_later, first_of_none}
use Rattle.sq_elf.proofs.first.first_where.Goals as goal

pub returns-then-test : goal.returns-then-test
returns-then-test g c = λ holds answers.
    let here : holds c.loop-place.place ≡ true = sym (answers c.loop-place.place true (omega arith) c.if-test.ensures) in
    sym (c.loop-place.invariant holds answers ∙ first_here holds c.loop-place.place (c.args.count - c.loop-place.place) (omega arith) here)

pub loop-place-preserved : goal.loop-place-preserved
loop-place-preserved g c = λ holds answers.
    let here : holds c.loop-place.place ≡ false = sym (answers c.loop-place.place false (omega arith) c.if-test.ensures) in
    let fewer : c.args.count - c.loop-place.place - 1 ≡ c.args.count - (c.loop-place.place + 1) = omega arith in
    c.loop-place.invariant holds answers ∙ first_later holds c.loop-place.place (c.args.count - c.loop-place.place) (omega arith) here
    ∙ ap (first_from holds (c.loop-place.place + 1)) fewer

pub returns : goal.returns
returns g c = λ holds answers.
    let no_more : c.args.count - c.loop-place.place ≡ 0 = omega arith in
    sym (c.loop-place.invariant holds answers ∙ ap (first_from holds c.loop-place.place) no_more ∙ first_of_none holds c.loop-place.place)
