use Rattle.std.proofs.Common.{◌≡◌, ◌+◌, ◌-◌, ◌<◌, false, length, sym, ap, ◌∙◌, subst, option_copied, arith}
use Rattle.std.proofs.lemmas.Option.{IfSome_then}
use Rattle.sq_graph.specs.Graph.{Graph}
use Rattle.sq_graph.specs.Blocks.{body_of}
use Rattle.sq_graph.specs.Operations.{without_procedure}
use Rattle.sq_graph.proofs.OperationRules.{without_procedure_rules}
use Rattle.sq_jumps.specs.UnreachedClear.{is_called, TellsCalled, without_uncalled}
use Rattle.sq_jumps.proofs.unreached.clear.remove_uncalled.Goals as goal
use Rattle.sq_jumps.proofs.Totals.{total_by}
use Rattle.sq_jumps.proofs.UnreachedCalls.{uncalled_unused, uncalled_total, left_count, step_called, step_uncalled}
use Rattle.sq_jumps.proofs.UnreachedUncalled.{tells_still}

pub has_caller-requires-clause-called : goal.has_caller-requires-clause-called
has_caller-requires-clause-called c =
    IfSome_then (option_copied c.args.called) c.loop-number.invariant.told (λ called tells. tells (c.loop-number.number - 1) (omega arith))

pub remove_procedure-requires-clause-unused : goal.remove_procedure-requires-clause-unused
remove_procedure-requires-clause-unused c =
    uncalled_unused c.loop-number.graph.graph (c.loop-number.number - 1) c.learn.ensures.rules (sym c.has_caller.ensures ∙ c.if-not-has_caller.true)

pub remove_procedure-requires-clause-rules : goal.remove_procedure-requires-clause-rules
remove_procedure-requires-clause-rules c =
    without_procedure_rules c.loop-number.graph.graph (c.loop-number.number - 1) c.learn.ensures.rules (omega (arith, c.loop-number.invariant.within))
    (uncalled_unused c.loop-number.graph.graph (c.loop-number.number - 1) c.learn.ensures.rules (sym c.has_caller.ensures ∙ c.if-not-has_caller.true))

pub loop-number-preserved-then-not-has_caller : goal.loop-number-preserved-then-not-has_caller
loop-number-preserved-then-not-has_caller c =
    let g = c.loop-number.graph.graph in
    let q = c.loop-number.number - 1 in
    let spare = c.loop-number.graph.spare in
    let within : c.loop-number.number - 1 < length g.procedures = omega (arith, c.loop-number.invariant.within) in
    let none : is_called g (c.loop-number.number - 1) ≡ false = sym c.has_caller.ensures ∙ c.if-not-has_caller.true in
    let count = left_count g (c.loop-number.number - 1) within in
    let one = total_by c.loop-number.graph c.remove_procedure.new.self (without_procedure g q) (record spare { items = spare.items + length (body_of g q); procedures = spare.procedures + 1 }) c.remove_procedure.ensures.graph c.remove_procedure.ensures.spare
    (uncalled_total g q spare within) in
    record {
      within = omega (arith, count, within, ap (λ (h : Graph). length h.procedures) c.remove_procedure.ensures.graph);
      told = IfSome_then (option_copied c.args.called) c.loop-number.invariant.told (λ called tells.
          subst (λ (h : Graph). TellsCalled h (c.loop-number.number - 1) called) (sym c.remove_procedure.ensures.graph) (tells_still g q called (λ n below. tells n (omega (arith, below)))));
      same = c.loop-number.invariant.same ∙ step_uncalled c.loop-number.number g (omega arith) none ∙ ap (without_uncalled (c.loop-number.number - 1)) (sym c.remove_procedure.ensures.graph);
      total = one ∙ c.loop-number.invariant.total;
    }

pub loop-number-preserved : goal.loop-number-preserved
loop-number-preserved c = record {
  within = omega (arith, c.loop-number.invariant.within);
  told = IfSome_then (option_copied c.args.called) c.loop-number.invariant.told (λ called tells n below. tells n (omega (arith, below)));
  same = c.loop-number.invariant.same ∙ step_called c.loop-number.number c.loop-number.graph.graph (omega arith) (sym c.has_caller.ensures ∙ c.if-not-has_caller.false);
  total = c.loop-number.invariant.total;
}
