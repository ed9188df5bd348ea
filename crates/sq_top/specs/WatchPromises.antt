-- The promises of the top call for `watch`, over what is outside before it and after it.
use Rattle.std.specs.Prelude.{◌≡◌, ℕ, ◌⊎◌, List, ◌++◌, codes, Some}
use Rattle.sq_num.specs.RefusalTexts.{refusal_text}
use Rattle.sq_num.specs.declared.refusal.Refusal.{Refusal}
use Rattle.law_runs.specs.Runs.{HasHalted}
use Rattle.law_program.specs.FilePrograms.{IsAcceptedFile}
use Rattle.sq_command.specs.Commands.{RunRequest, WatchForm, form_of}
use Rattle.sq_desk.specs.Outside.{Outside, Files, Rose, Loading, Printing, KeepsPrinted, ForFiles}
use Rattle.sq_top.specs.declared.ending.Ending.{Ending}
use Rattle.sq_top.specs.declared.ending.Ending.TheVariants.{Done, Refused, Break, Limit, BadStart}
use Rattle.sq_top.specs.declared.ending.DeskCall.{DeskCall}
use Rattle.sq_top.specs.Statuses.{status_of}
use Rattle.sq_top.specs.Endings.{ComplainsLine}
use Rattle.sq_top.specs.Running.{file_of, IsAtLimit}
use Rattle.sq_top.specs.RunPromises.{RunFault}
use Rattle.sq_top.specs.Watching.{watched_in, HasBroken, IsWatchRefused, HasBadWatch, CanWatch}

-- P holds of the request where the words are `watch FILE INPUT LIMIT BASE SIZE ARG*`
abbrev pub ForWatch : List (List ℕ) → (RunRequest → Type 0) → Type 0
ForWatch words P = (request : RunRequest) → form_of words ≡ Some (WatchForm request) → P request

-- status 3 has its cause, its line names it, and nothing was printed
abbrev pub HasWatchRefusal : RunRequest → Outside → Outside → Type 0
HasWatchRefusal request before after =
    KeepsPrinted before after × (refusal : Refusal) × ForFiles before (λ files. IsWatchRefused request files refusal)
    × ComplainsLine (Some (refusal_text refusal ++ codes "\n")) before after

-- status 7 has its cause, its line names it, and nothing was printed
abbrev pub IsBadWatch : RunRequest → Outside → Outside → Type 0
IsBadWatch request before after =
    KeepsPrinted before after × ForFiles before (HasBadWatch request) × ComplainsLine (Some (codes "bad start\n")) before after

-- the cause of an ending that the files decide: a valid start, and how the monitored run of THE program of FILE stands
-- after LIMIT steps; a bad start; or a refusal
abbrev pub WatchCause : RunRequest → Ending → Files → Type 0
WatchCause request Done files = (can : CanWatch request files) × HasHalted (watched_in request files can.accepted.file.program)
WatchCause request Break files = (can : CanWatch request files) × HasBroken (watched_in request files can.accepted.file.program)
WatchCause request Limit files = (can : CanWatch request files) × IsAtLimit (watched_in request files can.accepted.file.program)
WatchCause request BadStart files = HasBadWatch request files
WatchCause request (Refused refusal) files = IsWatchRefused request files refusal
WatchCause request other files = ⊥

-- the faults of a place rose that the files let the watch use: INPUT is loaded where FILE is not refused, and
-- lines are printed where the program is watched
abbrev pub MeetsWatchFault : RunRequest → Files → Outside → Outside → Type 0
MeetsWatchFault request files before after =
    Rose (Loading request.file) before after
    ⊎ (IsAcceptedFile (file_of request files) × Rose (Loading request.input) before after)
    ⊎ (CanWatch request files × Rose Printing before after)

-- a cause gives its status, unless a fault came or memory ran out
abbrev pub WatchesExactly : RunRequest → ℕ → Outside → Outside → Type 0
WatchesExactly request status before after =
    ForFiles before (λ files.
    (ending : Ending) → WatchCause request ending files → (status ≡ status_of ending) ⊎ ((status ≡ 2) × MeetsWatchFault request files before after) ⊎ (status ≡ 4))

-- with no fault of a used place and no refusal the status is 0, 4, 5, 6 or 7
abbrev pub IsWatchComplete : RunRequest → ℕ → Outside → Outside → Type 0
IsWatchComplete request status before after =
    ((call : DeskCall) → RunFault call request before after → ⊥)
    → ForFiles before (λ files.
    ((refusal : Refusal) → IsWatchRefused request files refusal → ⊥) → (status ≡ 0) ⊎ (status ≡ 4) ⊎ (status ≡ 5) ⊎ (status ≡ 6) ⊎ (status ≡ 7))
