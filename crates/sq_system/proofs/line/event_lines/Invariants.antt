use Rattle.std.proofs.Common.{◌≡◌, take}
use Rattle.sq_system.specs.Lines.{events_text}
use Rattle.sq_system.proofs.line.event_lines.Given as goal

-- the lines of the events so far
abbrev pub invariant-loop-event : goal.invariant-loop-event
invariant-loop-event l = l.lines.items ≡ events_text (take l.event-index l.event-items)
