use Rattle.law_written.proofs.Entries.{entries_are_read}
use Rattle.law_written.proofs.readback.entries_are_read.Goals as goal

pub returns : goal.returns
returns c = λ o fits all. entries_are_read o fits all
