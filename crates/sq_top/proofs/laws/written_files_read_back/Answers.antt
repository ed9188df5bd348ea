use Rattle.sq_top.proofs.ReadBack.{reads_back}
use Rattle.sq_top.proofs.laws.written_files_read_back.Goals as goal

pub returns : goal.returns
returns c = λ given graph can canonical sound whole. reads_back given graph can canonical sound whole
