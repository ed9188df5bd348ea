use Rattle.sq_rename.proofs.Places.{out_joins, plain_joins}
use Rattle.sq_rename.proofs.pairs.Pairs.pair_items.Goals as goal

pub returns-in-Out : goal.returns-in-Out
returns-in-Out c = out_joins _ c.args.self.now c.keep_procedure.new.self c.args.g.now.graph.procedures c.args.item.now c.args.other.now c.in-Out.procedure c.in-Out.is c.requires.form c.keep_procedure.ensures

pub returns-in_default : goal.returns-in_default
returns-in_default c = plain_joins _ c.args.self.now c.pair_all.new.self c.args.g.now.graph.procedures c.args.item.now c.args.other.now c.registers.result c.registers-in_default.result c.requires.tables c.in_default.not-Out c.requires.form c.registers.ensures c.registers-in_default.ensures c.pair_all.ensures
