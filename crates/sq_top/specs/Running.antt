-- What a run is: of which file, from which start, and what is seen of it.
use Rattle.std.specs.Prelude.{◌≡◌, ℕ, ◌<◌, ◌≤◌, ◌⊎◌, List, length, Some, None}
use Rattle.sq_num.specs.declared.refusal.Refusal.{Refusal}
use Rattle.sq_num.specs.declared.refusal.Refusal.TheVariants.{FileTooLong}
use Rattle.law_runs.specs.Runs.{Trace, Running}
use Rattle.sq_elf.specs.Refusing.{file_refusal_of}
use Rattle.sq_system.specs.Starts.{Start}
use Rattle.sq_system.specs.declared.event.Event.{Event}
use Rattle.sq_system.specs.declared.event.Halt.{Halt}
use Rattle.sq_run.specs.FileRuns.{file_trace, IsBadFileStart}
use Rattle.sq_run.specs.Transcripts.{trace_text}
use Rattle.sq_command.specs.Commands.{RunRequest}
use Rattle.sq_desk.specs.Outside.{Files, content_of}

-- the bytes of FILE, and of INPUT
abbrev pub file_of : RunRequest → Files → List ℕ
file_of request files = content_of files request.file

abbrev pub input_of : RunRequest → Files → List ℕ
input_of request files = content_of files request.input

-- the start: the arguments, INPUT, and RAM
abbrev pub start_at : RunRequest → List ℕ → Start
start_at request input = record { arguments = request.arguments; input = input; base = request.base; size = request.size }

abbrev pub start_in : RunRequest → Files → Start
start_in request files = start_at request (input_of request files)

-- what is seen of the first LIMIT steps
abbrev pub trace_in : RunRequest → Files → Trace Event Halt
trace_in request files = file_trace (file_of request files) (start_in request files) request.limit

-- no step was the end
abbrev pub IsAtLimit : Trace Event Halt → Type 0
IsAtLimit trace = trace.status ≡ Running

-- an input has at most 16,777,216 bytes
abbrev pub longest_input : ℕ
longest_input = 16777216

-- FILE is refused by the table of the file reader; or it is not, and INPUT is too long
abbrev pub IsRunRefused : RunRequest → Files → Refusal → Type 0
IsRunRefused request files refusal =
    (file_refusal_of (file_of request files) ≡ Some refusal)
    ⊎ ((file_refusal_of (file_of request files) ≡ None) × (longest_input < length (input_of request files)) × (refusal ≡ FileTooLong))

-- nothing is refused
pub record IsAccepted (request : RunRequest) (files : Files) : Type 0 where
  pub file : file_refusal_of (file_of request files) ≡ None
  pub input : length (input_of request files) ≤ longest_input

-- nothing is refused, and the start is bad
pub record HasBadStart (request : RunRequest) (files : Files) : Type 0 where
  pub accepted : IsAccepted request files
  pub bad : IsBadFileStart (file_of request files) (start_in request files)

-- nothing is refused, and the start is valid
pub record CanRun (request : RunRequest) (files : Files) : Type 0 where
  pub accepted : IsAccepted request files
  pub valid : ¬ IsBadFileStart (file_of request files) (start_in request files)

-- it runs, and these are the lines of the events of its first LIMIT steps and of its end
pub record HasRun (request : RunRequest) (files : Files) (text : List ℕ) : Type 0 where
  pub can : CanRun request files
  pub text_is : text ≡ trace_text (trace_in request files)
