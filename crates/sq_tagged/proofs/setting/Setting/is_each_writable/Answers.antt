use Rattle.std.proofs.Common.{sym, ◌∙◌}
use Rattle.sq_system.specs.World.{is_writable}
use Rattle.sq_tagged.specs.Views.{layout_of}
use Rattle.sq_machine.proofs.Ranges.{are_all-fails}
use Rattle.sq_tagged.proofs.setting.Setting.is_each_writable.Goals as goal

pub returns-then-not-is_writable : goal.returns-then-not-is_writable
returns-then-not-is_writable c =
    sym (are_all-fails (is_writable (layout_of c.args.self.now)) c.args.x c.args.n c.loop-i.i c.loop-i-test.true (sym c.is_writable.ensures ∙ c.if-not-is_writable.true))
