use Rattle.std.proofs.Common.{◌≡◌, ◌+◌, ◌≤◌, drop}
use Rattle.std.specs.BTreeMap.{btree_map_len}
use Rattle.sq_hex.specs.Meaning.{with_bytes}
use Rattle.sq_hex.proofs.read.load.Given as goal

abbrev pub invariant-loop-index : goal.invariant-loop-index
invariant-loop-index l = record {
  rest : with_bytes l.map.entries (l.address + l.index) (drop l.index l.bytes) ≡ with_bytes l.fn.map.entries l.address l.bytes;
  few : btree_map_len l.map ≤ btree_map_len l.fn.map + l.index;
}
