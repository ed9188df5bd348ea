use Rattle.std.proofs.Common.{eqb, rules}
use Rattle.std.specs.HashSet as bag
use Rattle.std.specs.Cmp.{nat_eq_equiv}
use Rattle.std.proofs.lemmas.Map.Made.{hash_set_len-from_list}
use Rattle.sq_cert.proofs.numbers.count_distinct.Goals as goal

pub returns : goal.returns
returns c =
    let made : bag.IsFromIterResult eqb c.args.numbers.now c.in_ok-distinct.distinct = search rules in
    rw c.len.ensures.len (hash_set_len-from_list nat_eq_equiv c.args.numbers.now c.in_ok-distinct.distinct made)
