use Rattle.sq_memory.proofs.CellLaws.{with_cell-agree, with_cell-beside, beside-with_cell}
use Rattle.sq_memory.proofs.RangeLaws.{with_cells-agree, cells_from-agree}
use Rattle.sq_memory.proofs.laws.agreement_laws.Goals as goal

pub returns-clause-put : goal.returns-clause-put
returns-clause-put g c = let a = g.A.Agreement in with_cell-agree a.counts a.related

pub returns-clause-put_range : goal.returns-clause-put_range
returns-clause-put_range g c = let a = g.A.Agreement in λ m n x cs ds. with_cells-agree a.counts a.related cs ds m n x

pub returns-clause-first_beside : goal.returns-clause-first_beside
returns-clause-first_beside g c = let a = g.A.Agreement in with_cell-beside a.counts a.related

pub returns-clause-second_beside : goal.returns-clause-second_beside
returns-clause-second_beside g c = let a = g.A.Agreement in beside-with_cell a.counts a.related

pub returns-clause-get_range : goal.returns-clause-get_range
returns-clause-get_range g c = let a = g.A.Agreement in λ m n x k. cells_from-agree a.counts a.related k m n x
