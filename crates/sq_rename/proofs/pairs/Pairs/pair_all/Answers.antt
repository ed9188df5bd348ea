use Rattle.std.proofs.Common.{◌≤◌, ◌+◌, length, drop, arith}
use Rattle.sq_graph.specs.Matches.{IsPairIn}
use Rattle.std.proofs.Common.{inr}
use Rattle.sq_rename.specs.Pairs.{Nothing}
use Rattle.sq_rename.proofs.Joining.{Single, dropped, head_in, tail_in, head_or_tail, none_in, join_step, join_fail, join_end}
use Rattle.sq_rename.proofs.pairs.Pairs.pair_all.Goals as goal

pub returns-then-not-pair : goal.returns-then-not-pair
returns-then-not-pair c =
    let xs = c.args.registers.now in
    let ys = c.args.others.now in
    let k = c.loop-k.k in
    let x = c.index-registers-k.result in
    let y = c.index-others-k.result in
    let e = dropped xs k x (omega arith) c.index-registers-k.is in
    let f = dropped ys k y (omega (arith, c.requires.count)) c.index-others-k.is in
    join_fail c.args.self.now c.loop-k.self (IsPairIn xs ys) (IsPairIn (drop k xs) (drop k ys)) (Single x y) Nothing c.loop-k.invariant
    (λ q t p. inr (head_in (drop k xs) (drop k ys) (drop (k + 1) xs) (drop (k + 1) ys) x y e f q t p))
    c.if-not-pair.ensures

pub loop-k-preserved : goal.loop-k-preserved
loop-k-preserved c =
    let xs = c.args.registers.now in
    let ys = c.args.others.now in
    let k = c.loop-k.k in
    let x = c.index-registers-k.result in
    let y = c.index-others-k.result in
    let e = dropped xs k x (omega arith) c.index-registers-k.is in
    let f = dropped ys k y (omega (arith, c.requires.count)) c.index-others-k.is in
    join_step c.args.self.now c.loop-k.self (IsPairIn xs ys) (IsPairIn (drop k xs) (drop k ys)) (Single x y) (IsPairIn (drop (k + 1) xs) (drop (k + 1) ys)) c.loop-k.invariant
    (λ q t p. inr (head_in (drop k xs) (drop k ys) (drop (k + 1) xs) (drop (k + 1) ys) x y e f q t p))
    c.pair.new.self
    (λ q t p. tail_in (drop k xs) (drop k ys) (drop (k + 1) xs) (drop (k + 1) ys) x y e f q t p)
    (λ q t p. head_or_tail (drop k xs) (drop k ys) (drop (k + 1) xs) (drop (k + 1) ys) x y e f q t p)
    c.if-not-pair.ensures

pub returns : goal.returns
returns c =
    let xs = c.args.registers.now in
    let ys = c.args.others.now in
    let k = c.loop-k.k in
    let l : length xs ≤ k = (let t = c.loop-k-test.false in let e = c.loop-k.auto in omega arith) in
    join_end c.args.self.now c.loop-k.self (IsPairIn xs ys) (IsPairIn (drop k xs) (drop k ys)) (none_in xs ys k l) c.loop-k.invariant
