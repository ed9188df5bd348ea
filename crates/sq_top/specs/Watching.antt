-- What a watch is: of THE program of which file, from which start, and what is told of it.
use Rattle.std.specs.Prelude.{◌≡◌, ℕ, ◌<◌, ◌≤◌, ◌⊎◌, List, length}
use Rattle.sq_num.specs.declared.refusal.Refusal.{Refusal}
use Rattle.sq_num.specs.declared.refusal.Refusal.TheVariants.{FileTooLong}
use Rattle.law_runs.specs.Runs.{Trace, Broken, IsUnbroken}
use Rattle.sq_system.specs.declared.event.Event.{Event}
use Rattle.sq_system.specs.declared.event.Halt.{Halt}
use Rattle.law_program.specs.Programs.{Program}
use Rattle.law_program.specs.FilePrograms.{IsRefusalOf, IsAcceptedFile}
use Rattle.law_program.specs.FileRuns.{monitored_trace}
use Rattle.sq_run.specs.FileRuns.{IsBadFileStart}
use Rattle.sq_run.specs.Transcripts.{trace_text}
use Rattle.sq_monitor.specs.Transcripts.{transcript_text}
use Rattle.sq_command.specs.Commands.{RunRequest}
use Rattle.sq_desk.specs.Outside.{Files}
use Rattle.sq_top.specs.Running.{file_of, input_of, start_in, trace_in, longest_input}

-- what is seen of the first LIMIT steps of this program under the monitor
abbrev pub watched_in : RunRequest → Files → Program → Trace Event Halt
watched_in request files p = monitored_trace (file_of request files) p (start_in request files) request.limit

-- the lines that tell them: the events, and the end, the first break or the limit
abbrev pub lines_in : RunRequest → Files → Program → List ℕ
lines_in request files p = transcript_text (file_of request files) p (start_in request files) request.limit

-- one of the steps was a break
abbrev pub HasBroken : Trace Event Halt → Type 0
HasBroken trace = trace.status ≡ Broken

-- FILE is refused by its header, its relocations, its text or its note; or nothing of it is, and INPUT is too long
abbrev pub IsWatchRefused : RunRequest → Files → Refusal → Type 0
IsWatchRefused request files refusal =
    IsRefusalOf (file_of request files) refusal
    ⊎ (IsAcceptedFile (file_of request files) × (longest_input < length (input_of request files)) × (refusal ≡ FileTooLong))

-- nothing is refused: `file` has THE program of FILE
pub record IsWatchAccepted (request : RunRequest) (files : Files) : Type 0 where
  pub file : IsAcceptedFile (file_of request files)
  pub input : length (input_of request files) ≤ longest_input

-- nothing is refused, and the start is bad
pub record HasBadWatch (request : RunRequest) (files : Files) : Type 0 where
  pub accepted : IsWatchAccepted request files
  pub bad : IsBadFileStart (file_of request files) (start_in request files)

-- nothing is refused, and the start is valid
pub record CanWatch (request : RunRequest) (files : Files) : Type 0 where
  pub accepted : IsWatchAccepted request files
  pub valid : ¬ IsBadFileStart (file_of request files) (start_in request files)

-- it is watched, P holds of what is seen, and these are the lines that tell it; with no break the plain run of FILE
-- shows the same, and they are the lines that tell that run
pub record HasWatched (request : RunRequest) (P : Trace Event Halt → Type 0) (files : Files) (text : List ℕ) : Type 0 where
  pub can : CanWatch request files
  pub seen : P (watched_in request files can.accepted.file.program)
  pub text_is : text ≡ lines_in request files can.accepted.file.program
  pub plain : IsUnbroken (watched_in request files can.accepted.file.program) → (watched_in request files can.accepted.file.program ≡ trace_in request files) × (text ≡ trace_text (trace_in request files))
