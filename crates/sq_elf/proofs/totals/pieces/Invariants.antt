use Rattle.std.proofs.Common.{◌≡◌, ◌*◌, ◌≤◌}
use Rattle.sq_elf.specs.Sizes.{total, pieces_at}
use Rattle.sq_elf.proofs.totals.pieces.Given as goal

abbrev pub invariant-loop-index : goal.invariant-loop-index
invariant-loop-index l = record {
  so_far : l.total ≡ total (pieces_at l.bytes l.text l.text_segment) l.index;
  small : l.total ≤ 3 * l.index;
}
