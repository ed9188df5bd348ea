use Rattle.std.proofs.Common.{rules, sym}
use Rattle.sq_isa.specs.declared.instructions.Insn.TheVariants.{OpImm}
use Rattle.law_follow.specs.GraphRuns.{operands}
use Rattle.sq_tagged.specs.Views.{registers_of, store_of}
use Rattle.sq_tagged.proofs.rows.lower_row.Goals as goal

pub returns-in-OpImm : goal.returns-in-OpImm
returns-in-OpImm c =
    let h = c.lower_operation.ensures c.in-OpImm.rd c.in-OpImm.rs (operands (OpImm c.in-OpImm.op c.in-OpImm.rd c.in-OpImm.rs c.in-OpImm.imm) (registers_of c.args.registers.now)) (store_of c.args.store.now) (sym c.get.ensures) in
    rw c.in-OpImm.is (search (rules, h))
