-- Graphs that follow one another.
use Rattle.std.specs.Prelude.{◌≡◌, ℕ, length, map}
use Rattle.law_runs.specs.Runs.{Trace, trace}
use Rattle.law_runs.specs.Follows.{FollowsRuns}
use Rattle.sq_system.specs.Starts.{Start, IsValidStart}
use Rattle.sq_system.specs.declared.event.Event.{Event}
use Rattle.sq_system.specs.declared.event.Halt.{Halt}
use Rattle.sq_graph.specs.declared.parts.CodeRef.{CodeRef}
use Rattle.sq_graph.specs.Graph.{Graph}
use Rattle.sq_graph.specs.Lines.{block_lines}
use Rattle.sq_graph.specs.Walks.{word_name}
use Rattle.law_follow.specs.GraphRuns.{State, At, graph_step}
use Rattle.law_follow.specs.Worlds.{World, IsWorld, extents, setting_of, core_at_start}

-- the state of a graph at the start: the code words hold the addresses of their blocks
abbrev pub state_at_start : World → Graph → Start → State
state_at_start w g start = At (block_lines g g.entry) (core_at_start w (map word_name g.code_words) start)

-- The events of the first n steps of a graph, and how it stands after them.
abbrev pub graph_run : World → Graph → Start → ℕ → Trace Event Halt
graph_run w g start n = trace (graph_step (setting_of w start) g) n (state_at_start w g start)

abbrev pub word_address : CodeRef → ℕ
word_address word = word.at

-- The graph h follows the graph g: their code words stand at the same addresses, and over every world with as many
-- and from every start that is valid for it, each moment of the run of g is one of the run of h, and each moment of
-- the run of h leads to one of the run of g, while the run of g is unbroken. The run of h is then unbroken too.
pub record Follows (g h : Graph) : Type 0 where
  pub addresses : map word_address h.code_words ≡ map word_address g.code_words
  pub runs : (w : World) → IsWorld w → w.code_words ≡ length g.code_words → (start : Start) → IsValidStart (extents w) start → FollowsRuns (graph_step (setting_of w start) g) (state_at_start w g start) (graph_step (setting_of w start) h) (state_at_start w h start)
