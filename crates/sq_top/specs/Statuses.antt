-- The statuses and the complaints of endings.
use Rattle.std.specs.Prelude.{◌≡◌, ℕ, ◌≤◌, ◌⊎◌, List, ◌++◌, codes, decimal, Option, Some, None}
use Rattle.sq_num.specs.RefusalTexts.{refusal_text}
use Rattle.sq_command.specs.Commands.{Form, PackForm, RunForm, WatchForm, HexForm, HexcheckForm, SizeForm, TrialForm, CheckForm, ProveForm, NamesForm, FoldForm}
use Rattle.sq_top.specs.declared.ending.Ending.{Ending}
use Rattle.sq_top.specs.declared.ending.Ending.TheVariants.{Done, Words, Desk, Refused, Memory, Break, Limit, BadStart, Differs}
use Rattle.sq_top.specs.declared.ending.DeskCall.{DeskCall}
use Rattle.sq_top.specs.declared.ending.DeskCall.TheVariants.{Load, Store, Print}

abbrev pub status_of : Ending → ℕ
status_of Done = 0
status_of Words = 1
status_of (Desk call) = 2
status_of (Refused refusal) = 3
status_of Memory = 4
status_of Break = 5
status_of Limit = 6
status_of BadStart = 7
status_of (Differs line) = 8

abbrev pub call_text : DeskCall → List ℕ
call_text Load = codes "desk load\n"
call_text Store = codes "desk store\n"
call_text Print = codes "desk print\n"

-- the line that is complained, where there is one
abbrev pub complaint_of : Ending → Option (List ℕ)
complaint_of Done = None
complaint_of Words = Some (codes "words\n")
complaint_of (Desk call) = Some (call_text call)
complaint_of (Refused refusal) = Some (refusal_text refusal ++ codes "\n")
complaint_of Memory = Some (codes "memory\n")
complaint_of Break = None
complaint_of Limit = None
complaint_of BadStart = Some (codes "bad start\n")
complaint_of (Differs line) = Some (codes "no " ++ decimal line ++ codes "\n")

-- the statuses that a form can have: 0 to 4, and of a run 6 and 7 too, of a watch 5 to 7, of `hexcheck`, `check` and `names` 8; a trial is never refused
abbrev pub IsStatusOf : Option Form → ℕ → Type 0
IsStatusOf None status = status ≡ 1
IsStatusOf (Some (PackForm input output)) status = status ≤ 4
IsStatusOf (Some (RunForm request)) status = (status ≤ 4) ⊎ (status ≡ 6) ⊎ (status ≡ 7)
IsStatusOf (Some (WatchForm request)) status = (status ≤ 4) ⊎ (status ≡ 5) ⊎ (status ≡ 6) ⊎ (status ≡ 7)
IsStatusOf (Some (HexForm input output)) status = status ≤ 4
IsStatusOf (Some (HexcheckForm input text)) status = (status ≤ 4) ⊎ (status ≡ 8)
IsStatusOf (Some (SizeForm input)) status = status ≤ 4
IsStatusOf (Some (TrialForm first blocks)) status = (status ≡ 0) ⊎ (status ≡ 2) ⊎ (status ≡ 4)
IsStatusOf (Some (CheckForm input output cert)) status = (status ≤ 4) ⊎ (status ≡ 8)
IsStatusOf (Some (ProveForm input output cert)) status = status ≤ 4
IsStatusOf (Some (NamesForm input cert)) status = (status ≤ 4) ⊎ (status ≡ 8)
IsStatusOf (Some (FoldForm input output)) status = status ≤ 4
