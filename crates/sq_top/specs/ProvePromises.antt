-- The promises of the top call for `prove`, over what is outside before it and after it.
use Rattle.std.specs.Prelude.{◌≡◌, ℕ, ◌⊎◌, List, Some}
use Rattle.sq_num.specs.declared.refusal.Refusal.{Refusal}
use Rattle.sq_command.specs.Commands.{ProveForm, form_of}
use Rattle.law_program.specs.FilePrograms.{IsRefusalOf}
use Rattle.sq_desk.specs.Outside.{Outside, Rose, Loading, Storing, Printing, Prints, ForFiles, content_of, with_file}
use Rattle.sq_top.specs.declared.ending.DeskCall.{DeskCall}
use Rattle.sq_top.specs.declared.ending.DeskCall.TheVariants.{Load, Store, Print}
use Rattle.sq_top.specs.Statuses.{call_text}
use Rattle.sq_top.specs.Endings.{ComplainsLine}
use Rattle.sq_top.specs.Packing.{Headline}
use Rattle.sq_top.specs.Proving.{Proves}

-- P holds of the names where the words are `prove IN OUT CERT`
abbrev pub ForProve : List (List ℕ) → (List ℕ → List ℕ → List ℕ → Type 0) → Type 0
ForProve words P = (input output cert : List ℕ) → form_of words ≡ Some (ProveForm input output cert) → P input output cert

-- status 0 of `prove`, where files are told: the headline of what OUT holds and of what was printed, and what CERT holds
-- proves OUT of IN; every other file is as before
abbrev pub IsProveDone : List ℕ → List ℕ → List ℕ → Outside → Outside → Type 0
IsProveDone input output cert before after =
    ForFiles before (λ files.
    (packed : List ℕ) × (line : List ℕ) × (text : List ℕ) × (count : ℕ) × Headline (content_of files input) packed line × Proves (content_of files input) packed text count
    × (after.files ≡ Some (with_file cert (Some text) (with_file output (Some packed) files))) × Prints line before after)

-- the faults of a place of this kind that `prove` uses rose: it loads one name, stores two, and prints
abbrev pub ProveFault : DeskCall → List ℕ → List ℕ → List ℕ → Outside → Outside → Type 0
ProveFault Load input output cert before after = Rose (Loading input) before after
ProveFault Store input output cert before after = Rose (Storing output) before after ⊎ Rose (Storing cert) before after
ProveFault Print input output cert before after = Rose Printing before after

-- status 2 of `prove` has its cause, and its line names it
abbrev pub HasProveFault : List ℕ → List ℕ → List ℕ → Outside → Outside → Type 0
HasProveFault input output cert before after =
    (call : DeskCall) × ProveFault call input output cert before after × ComplainsLine (Some (call_text call)) before after

-- with no fault of a used place and no refusal the status of `prove` is 0 or 4
abbrev pub IsProveComplete : List ℕ → List ℕ → List ℕ → ℕ → Outside → Outside → Type 0
IsProveComplete input output cert status before after =
    ((call : DeskCall) → ProveFault call input output cert before after → ⊥)
    → ForFiles before (λ files. ((refusal : Refusal) → IsRefusalOf (content_of files input) refusal → ⊥) → (status ≡ 0) ⊎ (status ≡ 4))
