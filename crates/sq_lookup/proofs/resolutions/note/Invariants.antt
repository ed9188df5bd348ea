use Rattle.sq_lookup.specs.Resolutions.{AreResolutions, AreClosed}
use Rattle.sq_lookup.proofs.resolutions.note.Given as goal

abbrev pub invariant-loop-back : goal.invariant-loop-back
invariant-loop-back l = record { are : AreResolutions l.graph.graph l.found.items; closed : AreClosed l.graph.graph l.found.items }
