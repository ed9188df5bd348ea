use Rattle.std.proofs.Common.{◌≡◌, map, take}
use Rattle.sq_cert.specs.declared.step.Step.TheVariants.{C}
use Rattle.sq_drive.proofs.replaying.call_blocks.Given as goal

abbrev pub invariant-loop-step : goal.invariant-loop-step
invariant-loop-step l = take l.step-index l.steps ≡ map C l.blocks.items
