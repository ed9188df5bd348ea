use Rattle.sq_lookup.specs.Resolutions.{AreResolutions, AreClosed}
use Rattle.sq_lookup.proofs.resolutions.resolve_all.Given as goal

abbrev pub invariant-loop-name : goal.invariant-loop-name
invariant-loop-name l = record { are : AreResolutions l.graph.graph l.found.items; closed : AreClosed l.graph.graph l.found.items }
