-- The promises of the top call for `check`, over what is outside before it and after it.
use Rattle.std.specs.Prelude.{◌≡◌, ℕ, ◌⊎◌, List, ◌++◌, codes, decimal, Some}
use Rattle.sq_num.specs.RefusalTexts.{refusal_text}
use Rattle.sq_num.specs.declared.refusal.Refusal.{Refusal}
use Rattle.sq_command.specs.Commands.{CheckForm, form_of}
use Rattle.law_program.specs.FilePrograms.{IsAcceptedFile}
use Rattle.sq_desk.specs.Outside.{Outside, Files, Rose, Loading, Printing, KeepsPrinted, Prints, ForFiles, content_of}
use Rattle.sq_top.specs.declared.ending.Ending.{Ending}
use Rattle.sq_top.specs.declared.ending.Ending.TheVariants.{Done, Refused, Differs}
use Rattle.sq_top.specs.declared.ending.DeskCall.{DeskCall}
use Rattle.sq_top.specs.declared.ending.DeskCall.TheVariants.{Load, Store, Print}
use Rattle.sq_top.specs.Statuses.{status_of, call_text}
use Rattle.sq_top.specs.Endings.{ComplainsLine}
use Rattle.sq_top.specs.CertEndings.{proved_line, IsCertified, IsUncertified, IsCertRefused, Certifies}

-- P holds of the names where the words are `check IN OUT CERT`
abbrev pub ForCheck : List (List ℕ) → (List ℕ → List ℕ → List ℕ → Type 0) → Type 0
ForCheck words P = (input output cert : List ℕ) → form_of words ≡ Some (CheckForm input output cert) → P input output cert

-- status 0 of `check`: CERT proves OUT of IN, so OUT does what IN does and loads no more, and `proved N` was printed
abbrev pub IsCertDone : List ℕ → List ℕ → List ℕ → Outside → Outside → Type 0
IsCertDone input output cert before after = (count : ℕ) × Certifies input output cert count before × Prints (proved_line count) before after

-- status 8 has its cause, its line names it, and nothing was printed
abbrev pub HasNoProof : List ℕ → List ℕ → List ℕ → Outside → Outside → Type 0
HasNoProof input output cert before after =
    KeepsPrinted before after × (line : ℕ) × ForFiles before (λ files. IsUncertified input output cert files line)
    × ComplainsLine (Some (codes "no " ++ decimal line ++ codes "\n")) before after

-- the faults of a place of this kind that `check` uses rose: it loads three names, prints, and stores nothing
abbrev pub CertFault : DeskCall → List ℕ → List ℕ → List ℕ → Outside → Outside → Type 0
CertFault Load input output cert before after = Rose (Loading input) before after ⊎ Rose (Loading output) before after ⊎ Rose (Loading cert) before after
CertFault Store input output cert before after = ⊥
CertFault Print input output cert before after = Rose Printing before after

-- status 2 of `check` has its cause, and its line names it
abbrev pub HasCertFault : List ℕ → List ℕ → List ℕ → Outside → Outside → Type 0
HasCertFault input output cert before after =
    (call : DeskCall) × CertFault call input output cert before after × ComplainsLine (Some (call_text call)) before after

-- status 3 of `check` has its cause, its line names it, and nothing was printed
abbrev pub HasCertRefusal : List ℕ → List ℕ → List ℕ → Outside → Outside → Type 0
HasCertRefusal input output cert before after =
    KeepsPrinted before after × (refusal : Refusal) × ForFiles before (λ files. IsCertRefused input output cert files refusal)
    × ComplainsLine (Some (refusal_text refusal ++ codes "\n")) before after

-- the cause of an ending of `check` that the files decide
abbrev pub CertCause : List ℕ → List ℕ → List ℕ → Ending → Files → Type 0
CertCause input output cert Done files = (count : ℕ) × IsCertified input output cert files count
CertCause input output cert (Differs line) files = IsUncertified input output cert files line
CertCause input output cert (Refused refusal) files = IsCertRefused input output cert files refusal
CertCause input output cert other files = ⊥

-- the faults of a place rose that the files let `check` use: OUT is loaded where IN is accepted, CERT where both are, and
-- `proved N` is printed where it is proved
abbrev pub MeetsCertFault : List ℕ → List ℕ → List ℕ → Files → Outside → Outside → Type 0
MeetsCertFault input output cert files before after =
    Rose (Loading input) before after
    ⊎ (IsAcceptedFile (content_of files input) × Rose (Loading output) before after)
    ⊎ (IsAcceptedFile (content_of files input) × IsAcceptedFile (content_of files output) × Rose (Loading cert) before after)
    ⊎ ((count : ℕ) × IsCertified input output cert files count × Rose Printing before after)

-- a cause gives its status, unless a fault came or memory ran out
abbrev pub CertifiesExactly : List ℕ → List ℕ → List ℕ → ℕ → Outside → Outside → Type 0
CertifiesExactly input output cert status before after =
    ForFiles before (λ files.
    (ending : Ending) → CertCause input output cert ending files → (status ≡ status_of ending) ⊎ ((status ≡ 2) × MeetsCertFault input output cert files before after) ⊎ (status ≡ 4))

-- with no fault of a used place and no refusal the status of `check` is 0, 4 or 8
abbrev pub IsCertComplete : List ℕ → List ℕ → List ℕ → ℕ → Outside → Outside → Type 0
IsCertComplete input output cert status before after =
    ((call : DeskCall) → CertFault call input output cert before after → ⊥)
    → ForFiles before (λ files. ((refusal : Refusal) → IsCertRefused input output cert files refusal → ⊥) → (status ≡ 0) ⊎ (status ≡ 4) ⊎ (status ≡ 8))
