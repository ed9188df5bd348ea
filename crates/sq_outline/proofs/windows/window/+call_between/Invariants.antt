use Rattle.std.proofs.Common.{◌-◌}
use Rattle.sq_outline.proofs.windows.window.+call_between.Given as goal

abbrev pub decreases-call_between : goal.decreases-call_between
decreases-call_between l = l.end - l.first
