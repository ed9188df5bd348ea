use Rattle.std.proofs.Common.{◌∙◌, sym}
use Rattle.sq_graph.specs.declared.fates.Fate.TheVariants.{Stays}
use Rattle.sq_graph.proofs.Settling.{numbers_stay, numbers_go}
use Rattle.sq_graph.proofs.fates.numbers.Goals.{then-stays, else-stays}
use Rattle.sq_graph.proofs.fates.numbers.Goals as goal

pub loop-fate-preserved : goal.loop-fate-preserved
loop-fate-preserved c =
    elim c.if-stays.branch [
      | then-stays w ↦
          rw w.number-is
          (numbers_stay c.loop-fate.fate-index c.loop-fate.number Stays c.args.fates.now c.loop-fate.numbers.items c.push.new.self.items c.loop-fate.invariant c.loop-fate-test.true (sym c.stays.ensures ∙ w.if-stays.true) c.in_ok-push.ensures.items)
      | else-stays w ↦
          rw w.number-is
          (numbers_go c.loop-fate.fate-index c.loop-fate.number Stays c.args.fates.now c.loop-fate.numbers.items c.push.new.self.items c.loop-fate.invariant c.loop-fate-test.true (sym c.stays.ensures ∙ w.if-stays.false) c.in_ok-push.ensures.items)
    ]
