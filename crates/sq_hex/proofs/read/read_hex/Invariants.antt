use Rattle.std.proofs.Common.{◌≡◌, ◌+◌, ◌≤◌, length}
use Rattle.std.specs.BTreeMap.{btree_map_len}
use Rattle.sq_hex.specs.Lines.{lines_of}
use Rattle.sq_hex.specs.Meaning.{meaning_from, hex_meaning}
use Rattle.sq_hex.specs.States.{state_of, FitsMemory}
use Rattle.sq_hex.proofs.read.read_hex.Given as goal

abbrev pub invariant-loop-rest : goal.invariant-loop-rest
invariant-loop-rest l = record {
  meaning : meaning_from l.number (state_of l.reader) (lines_of l.rest) ≡ hex_meaning l.text;
  fits : FitsMemory l.reader;
  lines : l.number + length l.rest ≤ length l.text + 1;
  few : btree_map_len l.reader.bytes + length l.rest ≤ length l.text;
}

abbrev pub decreases-loop-rest : goal.decreases-loop-rest
decreases-loop-rest l = length l.rest
