use Rattle.std.proofs.Common.{◌≡◌, ℕ, Some, length, get_or, slice_get}
use Rattle.sq_outline.specs.Marks.{IsMark}
use Rattle.sq_outline.specs.declared.marks.Mark.{Mark}
use Rattle.sq_outline.proofs.marks.marks_of.Given as goal

abbrev pub invariant-loop-block : goal.invariant-loop-block
invariant-loop-block l = record {
  count : length l.marks.items ≡ l.block-index;
  each : (i : ℕ) (mark : Mark) → slice_get l.marks.items i ≡ Some mark → IsMark l.graph.graph (get_or l.blocks i 0) mark;
}
