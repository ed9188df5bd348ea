-- Walks as the code holds them. No public clause cites this module.
use Rattle.std.specs.Prelude.{◌≡◌, None, length, get_or}
use Rattle.sq_rename.specs.Prints.{Walked}
use Rattle.sq_rename.specs.declared.walks.Walk.{Walk}

abbrev pub walk_of : Walk → Walked
walk_of walk = record { print = walk.print; codes = λ r. get_or walk.codes r None }

pub record IsWalk (walk : Walk) : Type 0 where
  pub count : length walk.codes ≡ 32
