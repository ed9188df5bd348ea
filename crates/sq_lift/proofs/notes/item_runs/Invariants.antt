use Rattle.std.proofs.Common.{◌≡◌, ◌+◌, ◌*◌, ◌≤◌, length, drop}
use Rattle.law_program.specs.NoteSections.{item_run}
use Rattle.sq_lift.specs.NoteReading.{item_runs}
use Rattle.sq_lift.proofs.notes.item_runs.Given as goal

-- the runs from the words behind on
abbrev pub invariant-loop-place : goal.invariant-loop-place
invariant-loop-place l = record {
  count : length l.runs.items ≡ length l.words;
  bound : l.run + l.place ≤ length l.words;
  run : l.run ≡ item_run l.text (l.lo + 4 * l.place) (drop l.place l.words);
  runs : drop l.place l.runs.items ≡ item_runs l.text (l.lo + 4 * l.place) (drop l.place l.words);
}
