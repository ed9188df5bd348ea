use Rattle.sq_rename.proofs.Joining.{first_tables, first_pairs}
use Rattle.sq_rename.proofs.pairs.Pairs.zero.Goals as goal

pub returns : goal.returns
returns c = record { tables = first_tables c.from_low_bits-zero.result c.from_low_bits-zero.ensures; only = first_pairs c.from_low_bits-zero.result c.from_low_bits-zero.ensures }
