-- The classes of blocks, as a `Grouping` has them.
use Rattle.std.specs.Prelude.{ℕ, Option}
use Rattle.std.specs.HashMap.{get}
use Rattle.sq_finger.specs.Classes.{is_same_kind}
use Rattle.sq_fold.specs.declared.grouping.Grouping.{Grouping}
use Rattle.sq_fold.specs.Nodes.{class_by}

abbrev pub class_in : Grouping → ℕ → Option ℕ
class_in grouping block = class_by (get is_same_kind grouping.index) grouping.classes.items block
