-- The promises of the top call, over what is outside before it and after it.
use Rattle.std.specs.Prelude.{◌≡◌, ℕ, ◌⊎◌, ⊤, List, ◌++◌, codes, Option, Some, ◌≢◌}
use Rattle.sq_num.specs.RefusalTexts.{refusal_text}
use Rattle.sq_num.specs.declared.refusal.Refusal.{Refusal}
use Rattle.sq_num.specs.declared.packed.Packed.{Packed}
use Rattle.sq_desk.specs.Outside.{Outside, Place, Loading, Storing, Printing, content_of, with_file, Rose, NoneFall, KeepsFiles, LosesFile, KeepsPrinted, Prints, PrintsPrefix, ForFiles}
use Rattle.sq_top.specs.declared.ending.Ending.{Ending}
use Rattle.sq_top.specs.declared.ending.DeskCall.{DeskCall}
use Rattle.sq_top.specs.declared.ending.DeskCall.TheVariants.{Load, Store, Print}
use Rattle.sq_command.specs.Commands.{RunRequest, PackForm, RunForm, WatchForm, HexForm, HexcheckForm, SizeForm, TrialForm, CheckForm, ProveForm, NamesForm, FoldForm, form_of}
use Rattle.sq_top.specs.Packing.{GoodOutput, Headline, packed_text}
use Rattle.law_program.specs.FilePrograms.{IsRefusalOf}
use Rattle.sq_top.specs.Statuses.{call_text, complaint_of}
use Rattle.sq_top.specs.Endings.{PacksFile, report_line, Leaves, ComplainsLine}
use Rattle.sq_top.specs.Running.{HasRun}
use Rattle.sq_top.specs.Watching.{HasWatched}
use Rattle.sq_top.specs.Trials.{TellsTrial}
use Rattle.sq_top.specs.CertEndings.{proved_line, Certifies}
use Rattle.sq_top.specs.Proving.{Proves}
use Rattle.sq_top.specs.ProveEndings.{ProvesFile}
use Rattle.sq_top.specs.NamesEndings.{TellsNames}
use Rattle.sq_top.specs.declared.folding.FoldedFile.{FoldedFile}
use Rattle.sq_top.specs.Folding.{GoodFold, folded_text}
use Rattle.sq_top.specs.FoldEndings.{FoldsFile}
use Rattle.sq_top.specs.Hexing.{HasHexText, hex_line, same_line, IsSame}

-- the call ended so: with what the form leaves, and with the ending's complaint
pub record Ends (words : List (List ℕ)) (ending : Ending) (before after : Outside) : Type 0 where
  pub leaves : Leaves (form_of words) ending before after
  pub complains : ComplainsLine (complaint_of ending) before after
  pub faults : NoneFall before after

-- the place of a call that `pack IN OUT` or `fold IN OUT` uses
abbrev pub place_of : DeskCall → List ℕ → List ℕ → Place
place_of Load input output = Loading input
place_of Store input output = Storing output
place_of Print input output = Printing

-- P holds of the names where the words are `pack IN OUT`
abbrev pub ForPack : List (List ℕ) → (List ℕ → List ℕ → Type 0) → Type 0
ForPack words P = (input output : List ℕ) → form_of words ≡ Some (PackForm input output) → P input output

-- the output's file holds a good output of the input's, and every other file is as before
abbrev pub HoldsOutput : List ℕ → List ℕ → Outside → Outside → Type 0
HoldsOutput input output before after =
    ForFiles before (λ files. (packed : List ℕ) × GoodOutput (content_of files input) packed × (after.files ≡ Some (with_file output (Some packed) files)))

-- the headline of status 0, where files are told
abbrev pub IsDone : List ℕ → List ℕ → Outside → Outside → Type 0
IsDone input output before after =
    ForFiles before (λ files.
    (packed : List ℕ) × (line : List ℕ) × Headline (content_of files input) packed line × (after.files ≡ Some (with_file output (Some packed) files)) × Prints line before after)

-- the output's file holds the text of the input's, and every other file is as before
abbrev pub HoldsText : List ℕ → List ℕ → Outside → Outside → Type 0
HoldsText input output before after =
    ForFiles before (λ files. (text : List ℕ) × HasHexText (content_of files input) text × (after.files ≡ Some (with_file output (Some text) files)))

-- the output's file holds a good output of the input's, then the certificate's holds this content, and every other file is
-- as before
abbrev pub HoldsBoth : List ℕ → List ℕ → List ℕ → (List ℕ → List ℕ → Option (List ℕ) → Type 0) → Outside → Outside → Type 0
HoldsBoth input output cert Is before after =
    ForFiles before (λ files.
    (packed : List ℕ) × (content : Option (List ℕ)) × GoodOutput (content_of files input) packed × Is (content_of files input) packed content
    × (after.files ≡ Some (with_file cert content (with_file output (Some packed) files))))

-- a text that proves the output of the given file
abbrev pub IsProof : List ℕ → List ℕ → Option (List ℕ) → Type 0
IsProof given packed content = (text : List ℕ) × (count : ℕ) × Proves given packed text count × (content ≡ Some text)

-- what `prove` leaves of files where it came to its stores: OUT holds a good output, and CERT a text that proves it; or with
-- status 4 OUT alone does; or with status 2 the file whose storing failed is not known, and OUT was stored before CERT
abbrev pub HoldProof : List ℕ → List ℕ → List ℕ → ℕ → Outside → Outside → Type 0
HoldProof input output cert status before after =
    HoldsBoth input output cert IsProof before after
    ⊎ ((status ≡ 4) × HoldsOutput input output before after)
    ⊎ ((status ≡ 2) × Rose (Storing output) before after × LosesFile output before after)
    ⊎ ((status ≡ 2) × Rose (Storing cert) before after × HoldsBoth input output cert (λ given packed content. ⊤) before after)

-- the output's file holds a good folding of the input's, and every other file is as before
abbrev pub HoldsFold : List ℕ → List ℕ → Outside → Outside → Type 0
HoldsFold input output before after =
    ForFiles before (λ files. (folded : List ℕ) × GoodFold (content_of files input) folded × (after.files ≡ Some (with_file output (Some folded) files)))

-- files stay; or with status 0, 2 or 4 the output's holds a good output, the text or a good folding of the input's; or with
-- status 2 it is not known, where its storing failed; or of `prove` what its stores leave
abbrev pub StayOrHold : List (List ℕ) → ℕ → Outside → Outside → Type 0
StayOrHold words status before after =
    KeepsFiles before after
    ⊎ ((status ≢ 1) × (status ≢ 3) × (input : List ℕ) × (output : List ℕ) × (form_of words ≡ Some (PackForm input output))
    × (HoldsOutput input output before after ⊎ ((status ≡ 2) × Rose (Storing output) before after × LosesFile output before after)))
    ⊎ ((status ≢ 1) × (status ≢ 3) × (input : List ℕ) × (output : List ℕ) × (form_of words ≡ Some (HexForm input output))
    × (HoldsText input output before after ⊎ ((status ≡ 2) × Rose (Storing output) before after × LosesFile output before after)))
    ⊎ ((status ≢ 1) × (status ≢ 3) × (input : List ℕ) × (output : List ℕ) × (cert : List ℕ) × (form_of words ≡ Some (ProveForm input output cert))
    × HoldProof input output cert status before after)
    ⊎ ((status ≢ 1) × (status ≢ 3) × (input : List ℕ) × (output : List ℕ) × (form_of words ≡ Some (FoldForm input output))
    × (HoldsFold input output before after ⊎ ((status ≡ 2) × Rose (Storing output) before after × LosesFile output before after)))

-- what was printed of a packing: the line with status 0, or a prefix of it where printing failed
abbrev pub PrintsSizes : List (List ℕ) → ℕ → Outside → Outside → Type 0
PrintsSizes words status before after =
    (input : List ℕ) × (output : List ℕ) × (form_of words ≡ Some (PackForm input output)) × (packed : Packed) × PacksFile input packed before
    × (((status ≡ 0) × Prints (packed_text packed) before after) ⊎ ((status ≡ 2) × Rose Printing before after × PrintsPrefix (packed_text packed) before after))

-- what was printed of a run: the lines with status 0 or 6, or a prefix of them where printing failed
abbrev pub PrintsLines : List (List ℕ) → ℕ → Outside → Outside → Type 0
PrintsLines words status before after =
    (request : RunRequest) × (form_of words ≡ Some (RunForm request)) × (text : List ℕ) × ForFiles before (λ files. HasRun request files text)
    × ((((status ≡ 0) ⊎ (status ≡ 6)) × Prints text before after) ⊎ ((status ≡ 2) × Rose Printing before after × PrintsPrefix text before after))

-- what was printed of a watch: the lines with status 0, 5 or 6, or a prefix of them where printing failed
abbrev pub PrintsWatchLines : List (List ℕ) → ℕ → Outside → Outside → Type 0
PrintsWatchLines words status before after =
    (request : RunRequest) × (form_of words ≡ Some (WatchForm request)) × (text : List ℕ) × ForFiles before (λ files. HasWatched request (λ trace. ⊤) files text)
    × ((((status ≡ 0) ⊎ (status ≡ 5) ⊎ (status ≡ 6)) × Prints text before after) ⊎ ((status ≡ 2) × Rose Printing before after × PrintsPrefix text before after))

-- what was printed of a text: the line with status 0, or a prefix of it where printing failed
abbrev pub PrintsRecords : List (List ℕ) → ℕ → Outside → Outside → Type 0
PrintsRecords words status before after =
    (input : List ℕ) × (output : List ℕ) × (form_of words ≡ Some (HexForm input output)) × (text : List ℕ) × ForFiles before (λ files. HasHexText (content_of files input) text)
    × (((status ≡ 0) × Prints (hex_line text) before after) ⊎ ((status ≡ 2) × Rose Printing before after × PrintsPrefix (hex_line text) before after))

-- what was printed of a comparison: `same` with status 0, or a prefix of it where printing failed
abbrev pub PrintsSame : List (List ℕ) → ℕ → Outside → Outside → Type 0
PrintsSame words status before after =
    (input : List ℕ) × (text : List ℕ) × (form_of words ≡ Some (HexcheckForm input text)) × ForFiles before (IsSame input text)
    × (((status ≡ 0) × Prints same_line before after) ⊎ ((status ≡ 2) × Rose Printing before after × PrintsPrefix same_line before after))

-- what was printed of a report: the line with status 0, or a prefix of it where printing failed
abbrev pub PrintsReport : List (List ℕ) → ℕ → Outside → Outside → Type 0
PrintsReport words status before after =
    (input : List ℕ) × (form_of words ≡ Some (SizeForm input)) × (packed : Packed) × PacksFile input packed before
    × (((status ≡ 0) × Prints (report_line packed) before after) ⊎ ((status ≡ 2) × Rose Printing before after × PrintsPrefix (report_line packed) before after))

-- what was printed of a trial: its line with status 0, or a prefix of it where printing failed
abbrev pub PrintsTrial : List (List ℕ) → ℕ → Outside → Outside → Type 0
PrintsTrial words status before after =
    (first : ℕ) × (blocks : ℕ) × (form_of words ≡ Some (TrialForm first blocks)) × (line : List ℕ) × TellsTrial first blocks line
    × (((status ≡ 0) × Prints line before after) ⊎ ((status ≡ 2) × Rose Printing before after × PrintsPrefix line before after))

-- what was printed of a proof: `proved N` with status 0, or a prefix of it where printing failed
abbrev pub PrintsProof : List (List ℕ) → ℕ → Outside → Outside → Type 0
PrintsProof words status before after =
    (input : List ℕ) × (output : List ℕ) × (cert : List ℕ) × (form_of words ≡ Some (CheckForm input output cert)) × (count : ℕ) × Certifies input output cert count before
    × (((status ≡ 0) × Prints (proved_line count) before after) ⊎ ((status ≡ 2) × Rose Printing before after × PrintsPrefix (proved_line count) before after))

-- what was printed of a packing that `prove` made, as of one that `pack` made
abbrev pub PrintsProvedSizes : List (List ℕ) → ℕ → Outside → Outside → Type 0
PrintsProvedSizes words status before after =
    (input : List ℕ) × (output : List ℕ) × (cert : List ℕ) × (form_of words ≡ Some (ProveForm input output cert)) × (packed : Packed) × (text : List ℕ) × ProvesFile input packed text before
    × (((status ≡ 0) × Prints (packed_text packed) before after) ⊎ ((status ≡ 2) × Rose Printing before after × PrintsPrefix (packed_text packed) before after))

-- what was printed of functions: exactly their lines with status 0, or a prefix of them where printing failed
abbrev pub PrintsNames : List (List ℕ) → ℕ → Outside → Outside → Type 0
PrintsNames words status before after =
    (input : List ℕ) × (cert : List ℕ) × (form_of words ≡ Some (NamesForm input cert)) × (lines : List ℕ) × TellsNames input cert lines before
    × (((status ≡ 0) × Prints lines before after) ⊎ ((status ≡ 2) × Rose Printing before after × PrintsPrefix lines before after))

-- what was printed of a folding: the line with status 0, or a prefix of it where printing failed
abbrev pub PrintsFolded : List (List ℕ) → ℕ → Outside → Outside → Type 0
PrintsFolded words status before after =
    (input : List ℕ) × (output : List ℕ) × (form_of words ≡ Some (FoldForm input output)) × (folded : FoldedFile) × FoldsFile input folded before
    × (((status ≡ 0) × Prints (folded_text folded) before after) ⊎ ((status ≡ 2) × Rose Printing before after × PrintsPrefix (folded_text folded) before after))

-- nothing was printed, but with status 0, 5 or 6; or what a packing, a run, a watch, a text, a comparison, a report, a trial, a
-- proof, a proved packing, functions or a folding print
abbrev pub PrintsAsSaid : List (List ℕ) → ℕ → Outside → Outside → Type 0
PrintsAsSaid words status before after =
    ((status ≢ 0) × (status ≢ 5) × (status ≢ 6) × KeepsPrinted before after)
    ⊎ PrintsSizes words status before after
    ⊎ PrintsLines words status before after
    ⊎ PrintsWatchLines words status before after
    ⊎ PrintsRecords words status before after
    ⊎ PrintsSame words status before after
    ⊎ PrintsReport words status before after
    ⊎ PrintsTrial words status before after
    ⊎ PrintsProof words status before after
    ⊎ PrintsProvedSizes words status before after
    ⊎ PrintsNames words status before after
    ⊎ PrintsFolded words status before after

-- status 2 has its cause, and its line names it
abbrev pub HasFault : List ℕ → List ℕ → Outside → Outside → Type 0
HasFault input output before after =
    (call : DeskCall) × Rose (place_of call input output) before after × ComplainsLine (Some (call_text call)) before after

-- status 3 has its cause, its line names it, and nothing else changed
abbrev pub HasRefusal : List ℕ → Outside → Outside → Type 0
HasRefusal input before after =
    KeepsFiles before after × KeepsPrinted before after × (refusal : Refusal) × ForFiles before (λ files. IsRefusalOf (content_of files input) refusal)
    × ComplainsLine (Some (refusal_text refusal ++ codes "\n")) before after

-- a refusal gives status 3, unless a load failed or memory ran out first
abbrev pub RefusesExactly : List ℕ → ℕ → Outside → Outside → Type 0
RefusesExactly input status before after =
    ForFiles before (λ files.
    (refusal : Refusal) → IsRefusalOf (content_of files input) refusal → (status ≡ 3) ⊎ ((status ≡ 2) × Rose (Loading input) before after) ⊎ (status ≡ 4))

-- with no fault of a used place and no refusal the status is 0 or 4
abbrev pub IsComplete : List ℕ → List ℕ → ℕ → Outside → Outside → Type 0
IsComplete input output status before after =
    ((call : DeskCall) → Rose (place_of call input output) before after → ⊥)
    → ForFiles before (λ files. ((refusal : Refusal) → IsRefusalOf (content_of files input) refusal → ⊥) → (status ≡ 0) ⊎ (status ≡ 4))
