use Rattle.sq_memory.proofs.RangeLaws.{with_cells-inside, with_cells-apart, with_cells-present, cells_from_exact, cells_from_where_present, cells_from-with_cells, cells_from-apart}
use Rattle.sq_memory.proofs.laws.range_laws.Goals as goal

pub returns-clause-in_range : goal.returns-clause-in_range
returns-clause-in_range g c = λ m x cs i. with_cells-inside cs m x i

pub returns-clause-apart : goal.returns-clause-apart
returns-clause-apart g c = λ m x cs y. with_cells-apart cs m x y

pub returns-clause-present : goal.returns-clause-present
returns-clause-present g c = λ m x cs y. with_cells-present cs m x y

pub returns-clause-exact : goal.returns-clause-exact
returns-clause-exact g c = cells_from_exact

pub returns-clause-present_all : goal.returns-clause-present_all
returns-clause-present_all g c = cells_from_where_present

pub returns-clause-back : goal.returns-clause-back
returns-clause-back g c = λ m x cs. cells_from-with_cells cs m x

pub returns-clause-beside : goal.returns-clause-beside
returns-clause-beside g c = λ m x cs y n. cells_from-apart cs m x y n
