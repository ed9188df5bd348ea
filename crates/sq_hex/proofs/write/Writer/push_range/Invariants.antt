use Rattle.std.proofs.Common.{◌≡◌, ◌+◌, ◌-◌, ◌≤◌, ◌++◌, List, length, drop}
use Rattle.sq_hex.specs.Flash.{Range}
use Rattle.sq_hex.specs.Texts.{cut, data_text}
use Rattle.sq_hex.proofs.write.Writer.push_range.Given as goal

abbrev pub invariant-loop-done : goal.invariant-loop-done
invariant-loop-done l = record {
  text : (later : List Range) → l.fn.self.text.items ++ data_text l.fn.self.base (cut l.address l.bytes ++ later) ≡ l.self.text.items ++ data_text l.self.base (cut (l.address + l.done) (drop l.done l.bytes) ++ later);
  within : l.done ≤ length l.bytes;
}

abbrev pub decreases-loop-done : goal.decreases-loop-done
decreases-loop-done l = length l.bytes - l.done
