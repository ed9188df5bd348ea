-- How `watch` ends, and what it leaves outside.
use Rattle.std.specs.Prelude.{◌≡◌, ℕ, List, ⊤}
use Rattle.law_runs.specs.Runs.{Trace, HasHalted}
use Rattle.sq_system.specs.declared.event.Event.{Event}
use Rattle.sq_system.specs.declared.event.Halt.{Halt}
use Rattle.law_program.specs.FilePrograms.{IsAcceptedFile}
use Rattle.sq_monitor.specs.declared.moved.WatchOutcome.{WatchOutcome}
use Rattle.sq_monitor.specs.declared.moved.WatchOutcome.TheVariants.{Ended, Limit as AtLimit, Break as AtBreak}
use Rattle.sq_monitor.specs.declared.transcript.WatchTranscript.{WatchTranscript}
use Rattle.sq_command.specs.Commands.{RunRequest}
use Rattle.sq_desk.specs.Outside.{Outside, Rose, Printing, KeepsFiles, KeepsPrinted, Prints, PrintsPrefix, ForFiles}
use Rattle.sq_top.specs.declared.ending.Ending.{Ending}
use Rattle.sq_top.specs.declared.ending.Ending.TheVariants.{Done, Words, Desk, Refused, Memory, Break, Limit, BadStart, Differs}
use Rattle.sq_top.specs.declared.ending.DeskCall.TheVariants.{Load, Store, Print}
use Rattle.sq_top.specs.Running.{IsAtLimit}
use Rattle.sq_top.specs.RunEndings.{FailsToLoad}
use Rattle.sq_top.specs.Watching.{HasBroken, IsWatchRefused, HasBadWatch, HasWatched}

-- what is seen of a watch that is told so
abbrev pub IsToldAs : WatchOutcome → Trace Event Halt → Type 0
IsToldAs (Ended halt) trace = HasHalted trace
IsToldAs AtLimit trace = IsAtLimit trace
IsToldAs (AtBreak pc kind) trace = HasBroken trace

-- the transcript is that of the watch
abbrev pub IsWatchTranscript : RunRequest → WatchTranscript → Outside → Type 0
IsWatchTranscript request transcript before =
    ForFiles before (λ files. HasWatched request (IsToldAs transcript.outcome) files transcript.text)

-- what the loads and the watch leave where they give no transcript
abbrev pub LeavesUnwatched : RunRequest → Ending → Outside → Outside → Type 0
LeavesUnwatched request (Desk Load) before after = FailsToLoad IsAcceptedFile request before after
LeavesUnwatched request (Refused refusal) before after = ForFiles before (λ files. IsWatchRefused request files refusal)
LeavesUnwatched request BadStart before after = ForFiles before (HasBadWatch request)
LeavesUnwatched request Memory before after = ⊤
LeavesUnwatched request other before after = ⊥

-- how a watch ends whose lines are printed
abbrev pub watch_ending : WatchOutcome → Ending
watch_ending (Ended halt) = Done
watch_ending AtLimit = Limit
watch_ending (AtBreak pc kind) = Break

-- what the printing of a transcript leaves
abbrev pub LeavesTold : WatchTranscript → Ending → Outside → Outside → Type 0
LeavesTold transcript Done before after = (watch_ending transcript.outcome ≡ Done) × Prints transcript.text before after
LeavesTold transcript Limit before after = (watch_ending transcript.outcome ≡ Limit) × Prints transcript.text before after
LeavesTold transcript Break before after = (watch_ending transcript.outcome ≡ Break) × Prints transcript.text before after
LeavesTold transcript (Desk Print) before after = Rose Printing before after × PrintsPrefix transcript.text before after
LeavesTold transcript Memory before after = KeepsPrinted before after
LeavesTold transcript other before after = ⊥

-- the lines of the watch were printed, and P holds of what is seen of it
abbrev pub PrintsWatch : RunRequest → (Trace Event Halt → Type 0) → Outside → Outside → Type 0
PrintsWatch request P before after = (text : List ℕ) × ForFiles before (λ files. HasWatched request P files text) × Prints text before after

-- a prefix of the lines of the watch was printed
abbrev pub PrintsWatchPrefix : RunRequest → Outside → Outside → Type 0
PrintsWatchPrefix request before after =
    (text : List ℕ) × ForFiles before (λ files. HasWatched request (λ trace. ⊤) files text) × PrintsPrefix text before after

-- what `watch` leaves printed, by how it ends
abbrev pub WatchLeft : RunRequest → Ending → Outside → Outside → Type 0
WatchLeft request Done before after = PrintsWatch request HasHalted before after
WatchLeft request Words before after = ⊥
WatchLeft request (Desk Load) before after = KeepsPrinted before after × FailsToLoad IsAcceptedFile request before after
WatchLeft request (Desk Store) before after = ⊥
WatchLeft request (Desk Print) before after = Rose Printing before after × PrintsWatchPrefix request before after
WatchLeft request (Refused refusal) before after = KeepsPrinted before after × ForFiles before (λ files. IsWatchRefused request files refusal)
WatchLeft request Memory before after = KeepsPrinted before after
WatchLeft request Break before after = PrintsWatch request HasBroken before after
WatchLeft request Limit before after = PrintsWatch request IsAtLimit before after
WatchLeft request BadStart before after = KeepsPrinted before after × ForFiles before (HasBadWatch request)
WatchLeft request (Differs line) before after = ⊥

-- what `watch` leaves, by how it ends: no file changes
abbrev pub LeavesWatch : RunRequest → Ending → Outside → Outside → Type 0
LeavesWatch request ending before after = KeepsFiles before after × WatchLeft request ending before after
