use Rattle.std.proofs.Common.{sym, ◌∙◌}
use Rattle.sq_system.specs.World.{is_executable}
use Rattle.sq_machine.specs.Views.{world_of}
use Rattle.sq_machine.proofs.Ranges.{are_all-fails}
use Rattle.sq_machine.proofs.world.World.is_each_executable.Goals as goal

pub returns-then-not-is_executable : goal.returns-then-not-is_executable
returns-then-not-is_executable c =
    sym (are_all-fails (is_executable (world_of c.args.self.now)) c.args.x c.args.n c.loop-i.i c.loop-i-test.true (sym c.is_executable.ensures ∙ c.if-not-is_executable.true))
