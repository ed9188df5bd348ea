use Rattle.std.proofs.Common.{◌∙◌, ◌++◌, sym, ap}
use Rattle.std.proofs.lemmas.List.{append-nil}
use Rattle.sq_graph.specs.declared.calls.ItemFate.TheVariants.{Stays, Calls, Goes}
use Rattle.sq_graph.proofs.CallWrites.{met_none, met_pushed}
use Rattle.sq_graph.proofs.calls.call_items.Goals.{in-Stays+in_ok-push-in-Stays, in-Calls+in_ok-push-in-Calls, in-Goes}
use Rattle.sq_graph.proofs.calls.call_items.Goals as goal

pub loop-i-init : goal.loop-i-init
loop-i-init c = sym (ap (λ is. c.args.items.now.items ++ is) (met_none c.args.fates.now) ∙ append-nil c.args.items.now.items)

pub loop-i-preserved : goal.loop-i-preserved
loop-i-preserved c =
    elim c.match-fates-i.branch [
      | in-Stays+in_ok-push-in-Stays w ↦
          rw w.items-is
          (met_pushed c.args.items.now.items c.loop-i.items.items w.push.new.self.items c.args.from.now c.args.fates.now c.loop-i.i Stays c.index-from-i.result Stays _ c.loop-i.invariant c.loop-i-test.true c.requires w.in-Stays.is c.index-from-i.is w.in_ok-push-in-Stays.ensures.items)
      | in-Calls+in_ok-push-in-Calls w ↦
          rw w.items-is
          (met_pushed c.args.items.now.items c.loop-i.items.items w.push-in-Calls.new.self.items c.args.from.now c.args.fates.now c.loop-i.i (Calls w.in-Calls.procedure) c.index-from-i.result Stays _ c.loop-i.invariant c.loop-i-test.true c.requires w.in-Calls.is c.index-from-i.is w.in_ok-push-in-Calls.ensures.items)
      | in-Goes w ↦
          rw w.items-is
          (met_pushed c.args.items.now.items c.loop-i.items.items c.loop-i.items.items c.args.from.now c.args.fates.now c.loop-i.i Goes c.index-from-i.result Stays _ c.loop-i.invariant c.loop-i-test.true c.requires w.in-Goes.is c.index-from-i.is (sym (append-nil c.loop-i.items.items)))
    ]
