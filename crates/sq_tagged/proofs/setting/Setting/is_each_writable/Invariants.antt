use Rattle.std.proofs.Common.{◌≡◌, true}
use Rattle.sq_system.specs.World.{are_all, is_writable}
use Rattle.sq_tagged.specs.Views.{layout_of}
use Rattle.sq_tagged.proofs.setting.Setting.is_each_writable.Given as goal

abbrev pub invariant-loop-i : goal.invariant-loop-i
invariant-loop-i l = are_all (is_writable (layout_of l.self)) l.x l.i ≡ true
