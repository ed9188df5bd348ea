use Rattle.std.proofs.Common.{◌≡◌, ℕ, take}
use Rattle.std.specs.Ordering.{nat_cmp}
use Rattle.std.specs.BTreeMap as tree
use Rattle.sq_reloc.specs.CodeWords.{listed_at}
use Rattle.sq_monitor.proofs.cells.listed.Given as goal

-- the words so far
abbrev pub invariant-loop-word : goal.invariant-loop-word
invariant-loop-word l = (address : ℕ) → tree.get nat_cmp l.targets address ≡ listed_at (take l.word-index l.words) address
