-- What the answers of steps and runs say.
use Rattle.std.specs.Prelude.{◌≡◌, ℕ, ◌+◌, ◌<◌, List, [], ◌++◌, Option, Some, None, Result, Ok, Err}
use Rattle.sq_isa.specs.Words.{wrapped}
use Rattle.sq_isa.specs.Registers.{written}
use Rattle.law_runs.specs.Runs.{Went, Ended, Broke, Status, Running, Halted, Broken, trace, state_after, first_break, with_event}
use Rattle.sq_system.specs.declared.event.Event.{Event}
use Rattle.sq_system.specs.declared.event.Halt.{Halt}
use Rattle.sq_system.specs.declared.event.Halt.TheVariants.{Exit, Illegal, Breakpoint, Fetch, Load, Store}
use Rattle.law_follow.specs.declared.kind.Kind.{Kind}
use Rattle.law_follow.specs.Values.{Holds}
use Rattle.law_follow.specs.GraphRuns.{Core}
use Rattle.law_program.specs.Monitored.{Watched, Watches, with_link, at_address}
use Rattle.sq_tagged.specs.declared.made.Made.{Made}
use Rattle.sq_tagged.specs.declared.made.Made.TheVariants.{Gives, Ends, Breaks}
use Rattle.sq_tagged.specs.Views.{value_of}
use Rattle.sq_monitor.specs.declared.moved.Moved.{Moved}
use Rattle.sq_monitor.specs.declared.moved.Moved.TheVariants.{Went as HasGone, Ended as HasEnded, Broke as HasBroken}
use Rattle.sq_monitor.specs.declared.moved.WatchOutcome.{WatchOutcome}
use Rattle.sq_monitor.specs.declared.moved.WatchOutcome.TheVariants.{Limit, Ended as EndedWith, Break}

-- to this address with the link written; else the step breaks
abbrev pub go_to : ℕ → ℕ → Core → Result ℕ Kind → Watches
go_to link at core (Ok x) = at_address x (with_link link at core)
go_to link at core (Err kind) = Broke kind

abbrev pub moved_of : Made → Moved
moved_of (Gives value) = HasGone
moved_of (Ends halt) = HasEnded halt
moved_of (Breaks kind) = HasBroken kind

-- the state behind an instruction that made this
abbrev pub finished_state : ℕ → ℕ → Made → Watched → Watched
finished_state at destination (Gives value) s =
    record { pc = at + 4; core = record { registers = written destination (Holds (value_of value)) s.core.registers; store = s.core.store } }
finished_state at destination (Ends halt) s = s
finished_state at destination (Breaks kind) s = s

-- An end as it is told: an address is below 2^32, so that the one behind the last is told as 0. A file that isn't
-- refused has no reached word behind which text ends, so that its runs don't come there.
abbrev pub told : Halt → Halt
told (Exit status) = Exit status
told Illegal = Illegal
told Breakpoint = Breakpoint
told (Fetch x) = Fetch (wrapped x)
told (Load x) = Load x
told (Store x) = Store x

-- an end in this answer is told as it is
abbrev pub IsTold : Moved → Type 0
IsTold HasGone = Unit {0}
IsTold (HasEnded halt) = told halt ≡ halt
IsTold (HasBroken kind) = Unit {0}

abbrev pub event_in : Watches → Option Event
event_in (Went event s) = event
event_in (Ended halt) = None
event_in (Broke kind) = None

-- A step without an event: what is answered, and the state before and after. An end and a break change nothing.
abbrev pub IsQuietStep : Watches → Moved → Watched → Watched → Type 0
IsQuietStep next HasGone old new = next ≡ Went None new
IsQuietStep next (HasEnded halt) old new = (next ≡ Ended halt) × (new ≡ old)
IsQuietStep next (HasBroken kind) old new = (next ≡ Broke kind) × (new ≡ old)

-- A step: what is answered, the state before and after, and the log before and after.
abbrev pub IsStep : Watches → Moved → Watched → Watched → List Event → List Event → Type 0
IsStep next HasGone old new before after =
    (next ≡ Went (event_in next) new) × (after ≡ before ++ with_event (event_in next) [])
IsStep next (HasEnded halt) old new before after = (next ≡ Ended halt) × (new ≡ old) × (after ≡ before)
IsStep next (HasBroken kind) old new before after = (next ≡ Broke kind) × (new ≡ old) × (after ≡ before)

-- the same, where an end is told
abbrev pub IsWatchedStep : Watches → Moved → Watched → Watched → List Event → List Event → Type 0
IsWatchedStep next HasGone old new before after =
    (next ≡ Went (event_in next) new) × (after ≡ before ++ with_event (event_in next) [])
IsWatchedStep next (HasEnded halt) old new before after =
    ((end : Halt) × (next ≡ Ended end) × (halt ≡ told end)) × (new ≡ old) × (after ≡ before)
IsWatchedStep next (HasBroken kind) old new before after = (next ≡ Broke kind) × (new ≡ old) × (after ≡ before)

-- a break comes below this address
abbrev pub BreaksBelow : ℕ → Moved → Watched → Type 0
BreaksBelow end HasGone s = Unit {0}
BreaksBelow end (HasEnded halt) s = Unit {0}
BreaksBelow end (HasBroken kind) s = s.pc < end

-- What is told of a run: its first break, which comes at this address; or its end; or that it came to its limit. It
-- stands as broken exactly where it has a first break.
abbrev pub outcome_of : Option Kind → Status Halt → ℕ → WatchOutcome
outcome_of (Some kind) status pc = Break pc kind
outcome_of None Running pc = Limit
outcome_of None (Halted halt) pc = EndedWith (told halt)
outcome_of None Broken pc = Limit

-- what is told of the first n steps
abbrev pub outcome_at : (Watched → Watches) → ℕ → Watched → WatchOutcome
outcome_at step n s = outcome_of (first_break step n s) (trace step n s).status (state_after step n s).pc
