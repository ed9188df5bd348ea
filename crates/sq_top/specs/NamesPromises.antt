-- The promises of the top call for `names`, over what is outside before it and after it.
use Rattle.std.specs.Prelude.{◌≡◌, ℕ, ◌⊎◌, List, ◌++◌, codes, decimal, Some}
use Rattle.sq_num.specs.RefusalTexts.{refusal_text}
use Rattle.sq_num.specs.declared.refusal.Refusal.{Refusal}
use Rattle.sq_names.specs.declared.track.Track.{Track}
use Rattle.sq_command.specs.Commands.{NamesForm, form_of}
use Rattle.law_program.specs.FilePrograms.{IsAcceptedFile}
use Rattle.sq_desk.specs.Outside.{Outside, Files, Rose, Loading, Printing, KeepsPrinted, Prints, ForFiles, content_of}
use Rattle.sq_top.specs.declared.ending.Ending.{Ending}
use Rattle.sq_top.specs.declared.ending.Ending.TheVariants.{Done, Refused, Differs}
use Rattle.sq_top.specs.declared.ending.DeskCall.{DeskCall}
use Rattle.sq_top.specs.declared.ending.DeskCall.TheVariants.{Load, Store, Print}
use Rattle.sq_top.specs.Statuses.{status_of, call_text}
use Rattle.sq_top.specs.Endings.{ComplainsLine}
use Rattle.sq_top.specs.Tracks.{AreTracksOf}
use Rattle.sq_top.specs.NamesEndings.{MayName, IsNamed, IsUnnamed, IsNamesRefused, TellsNames}

-- P holds of the names where the words are `names IN CERT`
abbrev pub ForNames : List (List ℕ) → (List ℕ → List ℕ → Type 0) → Type 0
ForNames words P = (input cert : List ℕ) → form_of words ≡ Some (NamesForm input cert) → P input cert

-- status 0 of `names`: exactly the lines of the functions of IN were printed, with the places to which CERT leads them
abbrev pub IsNamesDone : List ℕ → List ℕ → Outside → Outside → Type 0
IsNamesDone input cert before after = (lines : List ℕ) × TellsNames input cert lines before × Prints lines before after

-- status 8 has its cause, its line names it, and nothing was printed
abbrev pub HasStepFault : List ℕ → List ℕ → Outside → Outside → Type 0
HasStepFault input cert before after =
    KeepsPrinted before after × (line : ℕ) × ForFiles before (λ files. IsUnnamed input cert files line)
    × ComplainsLine (Some (codes "no " ++ decimal line ++ codes "\n")) before after

-- the faults of a place of this kind that `names` uses rose: it loads two names, prints, and stores nothing
abbrev pub NamesFault : DeskCall → List ℕ → List ℕ → Outside → Outside → Type 0
NamesFault Load input cert before after = Rose (Loading input) before after ⊎ Rose (Loading cert) before after
NamesFault Store input cert before after = ⊥
NamesFault Print input cert before after = Rose Printing before after

-- status 2 of `names` has its cause, and its line names it
abbrev pub HasNamesFault : List ℕ → List ℕ → Outside → Outside → Type 0
HasNamesFault input cert before after =
    (call : DeskCall) × NamesFault call input cert before after × ComplainsLine (Some (call_text call)) before after

-- status 3 of `names` has its cause, its line names it, and nothing was printed
abbrev pub HasNamesRefusal : List ℕ → List ℕ → Outside → Outside → Type 0
HasNamesRefusal input cert before after =
    KeepsPrinted before after × (refusal : Refusal) × ForFiles before (λ files. IsNamesRefused input cert files refusal)
    × ComplainsLine (Some (refusal_text refusal ++ codes "\n")) before after

-- the cause of an ending of `names` that the files decide: done where nothing is refused and CERT tracks the functions of IN
abbrev pub NamesCause : List ℕ → List ℕ → Ending → Files → Type 0
NamesCause input cert Done files = MayName input cert files × (tracks : List Track) × AreTracksOf (content_of files input) (content_of files cert) tracks
NamesCause input cert (Differs line) files = IsUnnamed input cert files line
NamesCause input cert (Refused refusal) files = IsNamesRefused input cert files refusal
NamesCause input cert other files = ⊥

-- the faults of a place rose that the files let `names` use: CERT is loaded where IN is accepted, and lines are printed where
-- the certificate is not at fault
abbrev pub MeetsNamesFault : List ℕ → List ℕ → Files → Outside → Outside → Type 0
MeetsNamesFault input cert files before after =
    Rose (Loading input) before after
    ⊎ (IsAcceptedFile (content_of files input) × Rose (Loading cert) before after)
    ⊎ ((lines : List ℕ) × IsNamed input cert files lines × Rose Printing before after)

-- a cause gives its status, unless a fault came or memory ran out
abbrev pub NamesExactly : List ℕ → List ℕ → ℕ → Outside → Outside → Type 0
NamesExactly input cert status before after =
    ForFiles before (λ files.
    (ending : Ending) → NamesCause input cert ending files → (status ≡ status_of ending) ⊎ ((status ≡ 2) × MeetsNamesFault input cert files before after) ⊎ (status ≡ 4))

-- with no fault of a used place and no refusal the status of `names` is 0, 4 or 8
abbrev pub IsNamesComplete : List ℕ → List ℕ → ℕ → Outside → Outside → Type 0
IsNamesComplete input cert status before after =
    ((call : DeskCall) → NamesFault call input cert before after → ⊥)
    → ForFiles before (λ files. ((refusal : Refusal) → IsNamesRefused input cert files refusal → ⊥) → (status ≡ 0) ⊎ (status ≡ 4) ⊎ (status ≡ 8))
