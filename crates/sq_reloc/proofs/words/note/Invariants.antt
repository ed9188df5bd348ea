use Rattle.std.proofs.Common.{◌≡◌, ◌+◌, ◌*◌, ◌<◌, ◌&&◌, ℕ, nat_le, nat_lt, length, if◌then◌else◌}
use Rattle.sq_reloc.specs.Seen.{mark_at, seen_with, nth_seen}
use Rattle.sq_reloc.proofs.words.note.Given as goal

-- the words so far have the entry, and the others are as they were
abbrev pub invariant-loop-place : goal.invariant-loop-place
invariant-loop-place l =
    (k : ℕ) → k < length l.words
    → nth_seen l.words k ≡ (if nat_le l.initial.place k && nat_lt k l.place then seen_with (nth_seen l.initial.words k) l.entry l.verdict (mark_at l.entry l.verdict (l.lo + 4 * k)) else nth_seen l.initial.words k)
