use Rattle.std.proofs.Common.{◌≡◌, ◌*◌, ◌≤◌, ◌^◌}
use Rattle.sq_elf.specs.Sizes.{total, loaded_at}
use Rattle.sq_elf.proofs.totals.loaded.Given as goal

abbrev pub invariant-loop-index : goal.invariant-loop-index
invariant-loop-index l = record {
  so_far : l.total ≡ total (loaded_at l.bytes) l.index;
  small : l.total ≤ 2 ^ 32 * l.index;
}
