use Rattle.std.proofs.Common.{eqb, rules}
use Rattle.std.specs.HashSet as bag
use Rattle.std.specs.Cmp.{unsigned_Decides, nat_eq_equiv}
use Rattle.std.proofs.lemmas.Map.Made.{hash_set_len-Decides}
use Rattle.sq_outline.proofs.make.are_distinct.Goals as goal

pub returns : goal.returns
returns c = let h : bag.IsFromIterResult eqb c.args.blocks.now c.in_ok-names.names = search rules in rw c.len.ensures.len (hash_set_len-Decides unsigned_Decides nat_eq_equiv c.args.blocks.now c.in_ok-names.names h)
