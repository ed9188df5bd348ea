use Rattle.std.proofs.Common.{◌≤◌, take}
use Rattle.std.specs.List.{AllZip}
use Rattle.sq_graph.specs.Leaders.{IsCanonical}
use Rattle.sq_graph.specs.Words.{words_of, most_words}
use Rattle.sq_drive.specs.Replaying.{IsLess}
use Rattle.sq_drive.specs.Tracking.{AreCarried, KeepsStarts}
use Rattle.sq_drive.proofs.tracking.replays.track_steps.Given as goal

abbrev pub invariant-loop-number : goal.invariant-loop-number
invariant-loop-number l = record {
  carried : AreCarried (take l.number l.steps) l.fn.graph.graph l.graph.graph l.fn.tracks.items l.tracks.items;
  starts : AllZip (KeepsStarts l.fn.graph.graph l.graph.graph) l.fn.tracks.items l.tracks.items;
  less : IsLess l.fn.graph.graph l.graph.graph;
  canonical : IsCanonical l.graph.graph;
  words : words_of l.graph.graph ≤ most_words;
}
