use Rattle.law_written.proofs.FileStarts.{written_files_show_graphs}
use Rattle.law_written.proofs.runs.written_files_show_graphs.Goals as goal

pub returns : goal.returns
returns c = λ bytes is p g fit read can. written_files_show_graphs bytes is p g fit read can
