-- The promises of the top call for `run`, over what is outside before it and after it.
use Rattle.std.specs.Prelude.{◌≡◌, ℕ, ◌⊎◌, List, ◌++◌, codes, Some, None}
use Rattle.sq_num.specs.RefusalTexts.{refusal_text}
use Rattle.sq_num.specs.declared.refusal.Refusal.{Refusal}
use Rattle.law_runs.specs.Runs.{HasHalted}
use Rattle.sq_elf.specs.Refusing.{file_refusal_of}
use Rattle.sq_command.specs.Commands.{RunRequest, RunForm, form_of}
use Rattle.sq_desk.specs.Outside.{Outside, Files, Rose, Loading, Printing, KeepsPrinted, ForFiles}
use Rattle.sq_top.specs.declared.ending.Ending.{Ending}
use Rattle.sq_top.specs.declared.ending.Ending.TheVariants.{Done, Refused, Limit, BadStart}
use Rattle.sq_top.specs.declared.ending.DeskCall.{DeskCall}
use Rattle.sq_top.specs.declared.ending.DeskCall.TheVariants.{Load, Store, Print}
use Rattle.sq_top.specs.Statuses.{status_of, call_text}
use Rattle.sq_top.specs.Endings.{ComplainsLine}
use Rattle.sq_top.specs.Running.{file_of, trace_in, IsAtLimit, IsRunRefused, HasBadStart, CanRun}

-- P holds of the request where the words are `run FILE INPUT LIMIT BASE SIZE ARG*`
abbrev pub ForRun : List (List ℕ) → (RunRequest → Type 0) → Type 0
ForRun words P = (request : RunRequest) → form_of words ≡ Some (RunForm request) → P request

-- the faults of a place of this kind that `run` uses rose: it loads two names, prints, and stores nothing
abbrev pub RunFault : DeskCall → RunRequest → Outside → Outside → Type 0
RunFault Load request before after = Rose (Loading request.file) before after ⊎ Rose (Loading request.input) before after
RunFault Store request before after = ⊥
RunFault Print request before after = Rose Printing before after

-- status 2 has its cause, and its line names it
abbrev pub HasRunFault : RunRequest → Outside → Outside → Type 0
HasRunFault request before after =
    (call : DeskCall) × RunFault call request before after × ComplainsLine (Some (call_text call)) before after

-- status 3 has its cause, its line names it, and nothing was printed
abbrev pub HasRunRefusal : RunRequest → Outside → Outside → Type 0
HasRunRefusal request before after =
    KeepsPrinted before after × (refusal : Refusal) × ForFiles before (λ files. IsRunRefused request files refusal)
    × ComplainsLine (Some (refusal_text refusal ++ codes "\n")) before after

-- status 7 has its cause, its line names it, and nothing was printed
abbrev pub IsBadRun : RunRequest → Outside → Outside → Type 0
IsBadRun request before after =
    KeepsPrinted before after × ForFiles before (HasBadStart request) × ComplainsLine (Some (codes "bad start\n")) before after

-- the cause of an ending that the files decide
abbrev pub RunCause : RunRequest → Ending → Files → Type 0
RunCause request Done files = CanRun request files × HasHalted (trace_in request files)
RunCause request Limit files = CanRun request files × IsAtLimit (trace_in request files)
RunCause request BadStart files = HasBadStart request files
RunCause request (Refused refusal) files = IsRunRefused request files refusal
RunCause request other files = ⊥

-- the faults of a place rose that the files let the run use: INPUT is loaded where FILE is not refused, and
-- lines are printed where the program runs
abbrev pub MeetsFault : RunRequest → Files → Outside → Outside → Type 0
MeetsFault request files before after =
    Rose (Loading request.file) before after
    ⊎ ((file_refusal_of (file_of request files) ≡ None) × Rose (Loading request.input) before after)
    ⊎ (CanRun request files × Rose Printing before after)

-- a cause gives its status, unless a fault came or memory ran out
abbrev pub RunsExactly : RunRequest → ℕ → Outside → Outside → Type 0
RunsExactly request status before after =
    ForFiles before (λ files.
    (ending : Ending) → RunCause request ending files → (status ≡ status_of ending) ⊎ ((status ≡ 2) × MeetsFault request files before after) ⊎ (status ≡ 4))

-- with no fault of a used place and no refusal the status is 0, 4, 6 or 7
abbrev pub IsRunComplete : RunRequest → ℕ → Outside → Outside → Type 0
IsRunComplete request status before after =
    ((call : DeskCall) → RunFault call request before after → ⊥)
    → ForFiles before (λ files. ((refusal : Refusal) → IsRunRefused request files refusal → ⊥) → (status ≡ 0) ⊎ (status ≡ 4) ⊎ (status ≡ 6) ⊎ (status ≡ 7))
