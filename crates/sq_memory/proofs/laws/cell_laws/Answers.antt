use Rattle.sq_memory.proofs.CellLaws.{with_cell-same, with_cell-other, with_cell-present, with_cell-absent, with_cell-twice, with_cell-apart}
use Rattle.sq_memory.proofs.laws.cell_laws.Goals as goal

pub returns-clause-same : goal.returns-clause-same
returns-clause-same g c = with_cell-same

pub returns-clause-other : goal.returns-clause-other
returns-clause-other g c = with_cell-other

pub returns-clause-present : goal.returns-clause-present
returns-clause-present g c = with_cell-present

pub returns-clause-absent : goal.returns-clause-absent
returns-clause-absent g c = with_cell-absent

pub returns-clause-twice : goal.returns-clause-twice
returns-clause-twice g c = with_cell-twice

pub returns-clause-apart : goal.returns-clause-apart
returns-clause-apart g c = with_cell-apart
