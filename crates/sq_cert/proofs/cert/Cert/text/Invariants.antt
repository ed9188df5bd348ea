use Rattle.std.proofs.Common.{◌≡◌, ◌++◌, take}
use Rattle.sq_cert.specs.Texts.{first_line, ended, steps_text}
use Rattle.sq_cert.proofs.cert.Cert.text.Given as goal

abbrev pub invariant-loop-step : goal.invariant-loop-step
invariant-loop-step l = l.text.items ≡ ended first_line ++ steps_text (take l.step-index l.step-items)
