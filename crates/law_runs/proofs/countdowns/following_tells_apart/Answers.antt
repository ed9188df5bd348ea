use Rattle.law_runs.proofs.LittleRuns.{idling_never_ends, counting_idles_not, counting_from_other}
use Rattle.law_runs.proofs.countdowns.following_tells_apart.Goals as goal

pub returns-clause-end : goal.returns-clause-end
returns-clause-end c = idling_never_ends

pub returns-clause-silence : goal.returns-clause-silence
returns-clause-silence c = counting_idles_not

pub returns-clause-event : goal.returns-clause-event
returns-clause-event c = counting_from_other
