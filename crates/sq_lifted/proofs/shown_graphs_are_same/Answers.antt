use Rattle.sq_lifted.proofs.SameFiles.{same_through}
use Rattle.sq_lifted.proofs.shown_graphs_are_same.Goals as goal

pub returns : goal.returns
returns c = λ bytes other is p g h fit from follows shows. same_through bytes other is p g h fit from follows shows
