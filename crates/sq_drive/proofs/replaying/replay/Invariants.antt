use Rattle.std.proofs.Common.{◌≤◌, ◌-◌, length, take}
use Rattle.sq_graph.specs.Leaders.{IsCanonical}
use Rattle.sq_graph.specs.Slotted.{IsSlotted}
use Rattle.sq_graph.specs.Words.{words_of, most_words}
use Rattle.sq_drive.specs.Replay.{IsReplay}
use Rattle.sq_drive.specs.Replaying.{IsLess}
use Rattle.sq_drive.proofs.replaying.replay.Given as goal

abbrev pub invariant-loop-number : goal.invariant-loop-number
invariant-loop-number l = record {
  within : l.number ≤ length l.steps;
  replayed : IsReplay (take l.number l.steps) l.fn.graph.graph l.graph.graph;
  less : IsLess l.fn.graph.graph l.graph.graph;
  canonical : IsCanonical l.graph.graph;
  slotted : IsSlotted l.graph.graph;
  words : words_of l.graph.graph ≤ most_words;
}

abbrev pub decreases-loop-number : goal.decreases-loop-number
decreases-loop-number l = length l.steps - l.number
