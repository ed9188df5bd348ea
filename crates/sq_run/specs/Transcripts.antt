-- The lines that tell a run.
use Rattle.std.specs.Prelude.{ℕ, List, ◌++◌, codes, Option, Some, None}
use Rattle.law_runs.specs.Runs.{Status, Running, Halted, Broken, Trace}
use Rattle.sq_system.specs.declared.event.Event.{Event}
use Rattle.sq_system.specs.declared.event.Halt.{Halt}
use Rattle.sq_system.specs.Lines.{events_text, end_text}

-- the halt of a run, where one of its steps was the end; the plain machine has no break
abbrev pub halt_of : Status Halt → Option Halt
halt_of Running = None
halt_of (Halted halt) = Some halt
halt_of Broken = None

-- the lines of the events in order, and the one line of the end
unfoldable pub trace_text : Trace Event Halt → List ℕ
trace_text trace = events_text trace.events ++ (end_text (halt_of trace.status) ++ codes "\n")
