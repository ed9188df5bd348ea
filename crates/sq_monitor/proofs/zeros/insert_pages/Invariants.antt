use Rattle.std.proofs.Common.{◌≡◌, ℕ, true, nat_eq, take}
use Rattle.std.specs.HashSet as set
use Rattle.sq_monitor.specs.Zeros.{HasWords}
use Rattle.sq_monitor.proofs.zeros.insert_pages.Given as goal

-- the words so far
abbrev pub invariant-loop-word : goal.invariant-loop-word
invariant-loop-word l = record {
  words : HasWords l.pages (take l.word-index l.words);
  kept : (page : ℕ) → set.contains nat_eq l.initial.pages page ≡ true → set.contains nat_eq l.pages page ≡ true;
}
