-- Cuts that differ in what their row determines alone.
use Rattle.std.specs.Prelude.{◌≡◌, ◌≢◌}
use Rattle.sq_pass.specs.declared.cut.Cut.{Cut}
use Rattle.sq_pass.specs.declared.cut.Row.TheVariants.{U}

-- the cut with another link and saving, and of row U with other blocks
pub record IsCompleted (cut completed : Cut) : Type 0 where
  pub row : completed.row ≡ cut.row
  pub blocks : cut.row ≢ U → completed.blocks ≡ cut.blocks
  pub procedure : completed.procedure ≡ cut.procedure
  pub other : completed.other ≡ cut.other
  pub length : completed.length ≡ cut.length
