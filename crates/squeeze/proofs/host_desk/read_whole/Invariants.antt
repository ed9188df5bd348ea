use Rattle.std.proofs.Common.{◌+◌, ◌-◌, ◌≤◌, length, vec_len}
use Rattle.std.specs.Io.KnownBytes.{Consumes}
use Rattle.squeeze.proofs.host_desk.read_whole.Given as goal

-- the bytes so far were read, and no more
abbrev pub invariant-loop-chunk : goal.invariant-loop-chunk
invariant-loop-chunk g l = record {
  taken : Consumes (g.R.Read.remaining l.fn.file) (g.R.Read.remaining l.file) l.bytes.items;
  few : length l.bytes.items ≤ l.limit + 1;
}

-- the bytes that may still be read
abbrev pub decreases-loop-chunk : goal.decreases-loop-chunk
decreases-loop-chunk g l = l.limit + 1 - vec_len l.bytes
