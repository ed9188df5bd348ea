use Rattle.std.proofs.Common.{◌≡◌, ◌<◌, ◌≤◌, ℕ, List, Option, Some, None, length, get_or, subst, arith}
use Rattle.std.specs.Prelude.{IfSome}
use Rattle.std.specs.Option.{unwrap_or}
use Rattle.std.specs.List.{All}
use Rattle.std.proofs.lemmas.List.{take_all}
use Rattle.std.proofs.lemmas.List.Elements.{All-contains}
use Rattle.sq_finger.proofs.Grouping.{at_contains, count_below}
use Rattle.sq_outline.proofs.Early.{one_more}
use Rattle.sq_outline.proofs.windows.search.are_few.Goals as goal

abbrev Small : Option ℕ → Type 0
Small o = IfSome o (λ n. n < 4294967295)

small_by : (o : Option ℕ) (r : ℕ) → r ≡ unwrap_or o 0 → r < 4294967296 → (r ≡ 4294967295 → ⊥) → Small o
small_by None r is fits other = tt
small_by (Some n) r is fits other = omega (arith, is, fits, other)

pub loop-number-preserved : goal.loop-number-preserved
loop-number-preserved c =
    one_more Small c.args.numbers.now c.loop-number.number-index None c.loop-number-test.true c.loop-number.invariant
    (small_by (get_or c.args.numbers.now c.loop-number.number-index None) c.unwrap_or.result c.unwrap_or.ensures c.unwrap_or.type_inv c.if-unwrap_or.false)

pub returns : goal.returns
returns c = λ e.
    let past : length c.args.numbers.now ≤ c.loop-number.number-index = c.loop-number-test.false in
    let all : All Small c.args.numbers.now = subst (λ (ns : List (Option ℕ)). All Small ns) (take_all c.loop-number.number-index c.args.numbers.now past) c.loop-number.invariant in
    let few = count_below c.args.numbers.now 4294967295 (λ k n is. All-contains Small c.args.numbers.now (Some n) all (at_contains c.args.numbers.now k (Some n) is)) in
    omega (arith, few)
