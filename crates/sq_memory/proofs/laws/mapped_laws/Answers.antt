use Rattle.sq_memory.proofs.CellLaws.{map_cells-with_cell}
use Rattle.sq_memory.proofs.RangeLaws.{map_cells-with_cells, cells_from-map_cells}
use Rattle.sq_memory.proofs.laws.mapped_laws.Goals as goal

pub returns-clause-put : goal.returns-clause-put
returns-clause-put g c = map_cells-with_cell

pub returns-clause-put_range : goal.returns-clause-put_range
returns-clause-put_range g c = λ f m x cs. map_cells-with_cells f cs m x

pub returns-clause-get_range : goal.returns-clause-get_range
returns-clause-get_range g c = λ f m x n. cells_from-map_cells f n m x
