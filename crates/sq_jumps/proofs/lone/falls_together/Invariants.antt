use Rattle.std.specs.Prelude.{◌≡◌}
use Rattle.sq_pass.specs.declared.cut.Row.TheVariants.{J1}
use Rattle.sq_jumps.specs.Lone.{AreChosen}
use Rattle.sq_jumps.proofs.lone.falls_together.Given as goal

abbrev pub invariant-loop-name : goal.invariant-loop-name
invariant-loop-name l =
    record {
      row : l.chosen.row ≡ J1;
      chosen : AreChosen l.chosen.row l.graph.graph l.chosen.blocks.items l.chosen.gone l.chosen.aims;
    }
