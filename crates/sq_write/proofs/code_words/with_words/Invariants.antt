use Rattle.std.proofs.Common.{◌≡◌, ◌+◌, ◌++◌, drop, nat_eq}
use Rattle.std.specs.HashMap.{get}
use Rattle.sq_write.specs.Pieces.{with_words}
use Rattle.sq_write.proofs.code_words.with_words.Given as goal

abbrev pub invariant-loop-place : goal.invariant-loop-place
invariant-loop-place l = l.new.items ++ with_words (get nat_eq l.set) (l.address + l.place) (drop l.place l.bytes) ≡ with_words (get nat_eq l.set) l.address l.bytes
