-- How `run` ends, and what it leaves outside.
use Rattle.std.specs.Prelude.{◌≡◌, ℕ, ◌<◌, ◌⊎◌, List, length, None, ⊤}
use Rattle.sq_num.specs.declared.refusal.Refusal.TheVariants.{FileTooLong}
use Rattle.law_runs.specs.Runs.{Trace, HasHalted}
use Rattle.sq_elf.specs.Refusing.{file_refusal_of}
use Rattle.sq_system.specs.declared.event.Event.{Event}
use Rattle.sq_system.specs.declared.event.Halt.{Halt}
use Rattle.sq_machine.specs.Steps.{status_of as outcome_status}
use Rattle.sq_machine.specs.declared.moved.Outcome.{Outcome}
use Rattle.sq_machine.specs.declared.moved.Outcome.TheVariants.{Ended, Limit as AtLimit}
use Rattle.sq_run.specs.declared.run.Transcript.{Transcript}
use Rattle.sq_command.specs.Commands.{RunRequest}
use Rattle.sq_desk.specs.Outside.{Outside, Rose, Loading, Printing, KeepsFiles, KeepsPrinted, Prints, PrintsPrefix, ForFiles, content_of}
use Rattle.sq_top.specs.declared.ending.Ending.{Ending}
use Rattle.sq_top.specs.declared.ending.Ending.TheVariants.{Done, Words, Desk, Refused, Memory, Break, Limit, BadStart, Differs}
use Rattle.sq_top.specs.declared.ending.DeskCall.TheVariants.{Load, Store, Print}
use Rattle.sq_top.specs.Running.{file_of, trace_in, IsAtLimit, IsRunRefused, HasBadStart, HasRun}

-- what a load with a limit leaves where it gives nothing
abbrev pub LeavesUnloaded : List ℕ → ℕ → Ending → Outside → Outside → Type 0
LeavesUnloaded name limit (Desk Load) before after = Rose (Loading name) before after
LeavesUnloaded name limit (Refused refusal) before after =
    (refusal ≡ FileTooLong) × ForFiles before (λ files. limit < length (content_of files name))
LeavesUnloaded name limit Memory before after = ⊤
LeavesUnloaded name limit other before after = ⊥

-- loading FILE failed; or FILE is accepted, and loading INPUT failed
abbrev pub FailsToLoad : (List ℕ → Type 0) → RunRequest → Outside → Outside → Type 0
FailsToLoad Accepts request before after =
    Rose (Loading request.file) before after
    ⊎ (ForFiles before (λ files. Accepts (file_of request files)) × Rose (Loading request.input) before after)

-- `run` accepts what the table of the file reader does not refuse
abbrev pub IsReadable : List ℕ → Type 0
IsReadable bytes = file_refusal_of bytes ≡ None

-- the transcript is that of the run
abbrev pub IsTranscript : RunRequest → Transcript → Outside → Type 0
IsTranscript request transcript before =
    ForFiles before (λ files. HasRun request files transcript.text × ((trace_in request files).status ≡ outcome_status transcript.outcome))

-- what the loads and the run leave where they give no transcript
abbrev pub LeavesUnrun : RunRequest → Ending → Outside → Outside → Type 0
LeavesUnrun request (Desk Load) before after = FailsToLoad IsReadable request before after
LeavesUnrun request (Refused refusal) before after = ForFiles before (λ files. IsRunRefused request files refusal)
LeavesUnrun request BadStart before after = ForFiles before (HasBadStart request)
LeavesUnrun request Memory before after = ⊤
LeavesUnrun request other before after = ⊥

-- how a run ends whose lines are printed
abbrev pub outcome_ending : Outcome → Ending
outcome_ending (Ended halt) = Done
outcome_ending AtLimit = Limit

-- what the printing of a transcript leaves
abbrev pub LeavesShown : Transcript → Ending → Outside → Outside → Type 0
LeavesShown transcript Done before after = (outcome_ending transcript.outcome ≡ Done) × Prints transcript.text before after
LeavesShown transcript Limit before after = (outcome_ending transcript.outcome ≡ Limit) × Prints transcript.text before after
LeavesShown transcript (Desk Print) before after = Rose Printing before after × PrintsPrefix transcript.text before after
LeavesShown transcript Memory before after = KeepsPrinted before after
LeavesShown transcript other before after = ⊥

-- the lines of the run were printed, and P holds of what is seen of it
abbrev pub PrintsRun : RunRequest → (Trace Event Halt → Type 0) → Outside → Outside → Type 0
PrintsRun request P before after =
    (text : List ℕ) × ForFiles before (λ files. HasRun request files text × P (trace_in request files)) × Prints text before after

-- a prefix of the lines of the run was printed
abbrev pub PrintsRunPrefix : RunRequest → Outside → Outside → Type 0
PrintsRunPrefix request before after =
    (text : List ℕ) × ForFiles before (λ files. HasRun request files text) × PrintsPrefix text before after

-- what `run` leaves printed, by how it ends
abbrev pub RunLeft : RunRequest → Ending → Outside → Outside → Type 0
RunLeft request Done before after = PrintsRun request HasHalted before after
RunLeft request Words before after = ⊥
RunLeft request (Desk Load) before after = KeepsPrinted before after × FailsToLoad IsReadable request before after
RunLeft request (Desk Store) before after = ⊥
RunLeft request (Desk Print) before after = Rose Printing before after × PrintsRunPrefix request before after
RunLeft request (Refused refusal) before after = KeepsPrinted before after × ForFiles before (λ files. IsRunRefused request files refusal)
RunLeft request Memory before after = KeepsPrinted before after
RunLeft request Break before after = ⊥
RunLeft request Limit before after = PrintsRun request IsAtLimit before after
RunLeft request BadStart before after = KeepsPrinted before after × ForFiles before (HasBadStart request)
RunLeft request (Differs line) before after = ⊥

-- what `run` leaves, by how it ends: no file changes
abbrev pub LeavesRun : RunRequest → Ending → Outside → Outside → Type 0
LeavesRun request ending before after = KeepsFiles before after × RunLeft request ending before after
