use Rattle.std.proofs.Common.{[], ◌∷◌, ℕ, arith}
use Rattle.std.proofs.lemmas.List.Elements.{All-nil, All-cons}
use Rattle.sq_isa.specs.declared.instructions.Insn.TheVariants.{Ecall}
use Rattle.sq_graph.specs.declared.item.Item.TheVariants.{Op, Out}
use Rattle.sq_graph.specs.Graph.{Graph}
use Rattle.sq_graph.specs.Blocks.{HasBlock, HasProcedure}
use Rattle.sq_graph.proofs.RulesByBlock.{ItemStands}
use Rattle.sq_graph.proofs.OperationRules.{replaced_rules}
use Rattle.test_graphs.proofs.changes.put_call.Goals as goal

ecall_stands : (g : Graph) → ItemStands (HasBlock g) (HasProcedure g) (Op Ecall)
ecall_stands g = record { names = All-nil (HasBlock g); calls = All-nil (HasProcedure g); fits = (tt, tt) }

call_stands : (g : Graph) (procedure : ℕ) → HasProcedure g procedure → ItemStands (HasBlock g) (HasProcedure g) (Out procedure)
call_stands g procedure there = record { names = All-nil (HasBlock g); calls = All-cons (HasProcedure g) procedure [] there (All-nil (HasProcedure g)); fits = tt }

pub replace-requires-clause-rules : goal.replace-requires-clause-rules
replace-requires-clause-rules c =
    let g = c.args.graph.now.graph in
    let I = ItemStands (HasBlock g) (HasProcedure g) in
    replaced_rules g c.args.block c.args.at 1 (Op Ecall ∷ Out c.args.procedure ∷ []) c.learn.ensures.rules (c.is_block.ensures c.if-not-is_block.false)
    (All-cons I (Op Ecall) (Out c.args.procedure ∷ []) (ecall_stands g) (All-cons I (Out c.args.procedure) [] (call_stands g c.args.procedure (omega (arith, c.procedures.ensures, c.if-procedures-procedure.false))) (All-nil I)))
