use Rattle.std.proofs.Common.{◌<◌, ◌≤◌, length, Some, arith}
use Rattle.std.proofs.lemmas.Option.{slice_get_within}
use Rattle.sq_rename.proofs.Exchanges.{inverse_permutes}
use Rattle.sq_rename.proofs.renaming.Renaming.from_pairs.Goals as goal

pub invariant_of-result : goal.invariant_of-result
invariant_of-result c = inverse_permutes c.loop-number.to c.loop-number.from c.loop-number.invariant.inverse

pub returns-clause-permutation : goal.returns-clause-permutation
returns-clause-permutation c = inverse_permutes c.loop-number.to c.loop-number.from c.loop-number.invariant.inverse

pub returns-clause-pairs : goal.returns-clause-pairs
returns-clause-pairs c = λ r s e.
    let within : r < length c.args.there.now = slice_get_within c.args.there.now r (Some s) e in
    let last : 32 ≤ c.loop-number.number = (let t = c.loop-number-test.false in let u = c.loop-number.auto in omega arith) in
    c.loop-number.invariant.pairs r s (omega (arith, c.requires.count)) e
