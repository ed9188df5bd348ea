use Rattle.std.proofs.Common.{sym, ◌∙◌}
use Rattle.sq_memory.specs.Cells.{is_in_memory}
use Rattle.sq_tagged.specs.Views.{store_of}
use Rattle.sq_machine.proofs.Ranges.{is_range-fails}
use Rattle.sq_tagged.proofs.store.Store.are_in_memory.Goals as goal

pub returns-then-not-is_in_memory-clause-value : goal.returns-then-not-is_in_memory-clause-value
returns-then-not-is_in_memory-clause-value c =
    sym (is_range-fails (is_in_memory (store_of c.args.self.now).memory) c.args.x c.args.n c.loop-i.i c.loop-i-test.true (sym c.is_in_memory.ensures ∙ c.if-not-is_in_memory.true))
