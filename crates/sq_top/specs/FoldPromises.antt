-- The promises of the top call for `fold`, over what is outside before it and after it. Its faults and refusals are promised
-- as those of `pack`.
use Rattle.std.specs.Prelude.{◌≡◌, ℕ, List, Some}
use Rattle.sq_command.specs.Commands.{FoldForm, form_of}
use Rattle.sq_desk.specs.Outside.{Outside, content_of, with_file, Prints, ForFiles}
use Rattle.sq_top.specs.Folding.{FoldHeadline}

-- P holds of the names where the words are `fold IN OUT`
abbrev pub ForFold : List (List ℕ) → (List ℕ → List ℕ → Type 0) → Type 0
ForFold words P = (input output : List ℕ) → form_of words ≡ Some (FoldForm input output) → P input output

-- status 0 of `fold`: the headline, where files are told
abbrev pub IsFoldDone : List ℕ → List ℕ → Outside → Outside → Type 0
IsFoldDone input output before after =
    ForFiles before (λ files.
    (folded : List ℕ) × (line : List ℕ) × FoldHeadline (content_of files input) folded line × (after.files ≡ Some (with_file output (Some folded) files)) × Prints line before after)
