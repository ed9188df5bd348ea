use Rattle.std.proofs.Common.{◌≡◌, drop}
use Rattle.sq_graph.specs.Parts.{names_of}
use Rattle.sq_lookup.specs.Tables.{number_at}
use Rattle.sq_outline.proofs.WindowsTakenOf.{IsCounted}
use Rattle.sq_outline.proofs.windows.taken.Taken.new.Given as goal

abbrev pub invariant-loop-name : goal.invariant-loop-name
invariant-loop-name l = record {
  all : l.name-items ≡ names_of l.graph.graph;
  counted : IsCounted l.graph.graph.blocks (number_at l.ahead) (drop l.name-index l.graph.graph.blocks) l.count;
}
