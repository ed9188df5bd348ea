-- The promises of the top call for `hex` and `hexcheck`, over what is outside before it and after it.
use Rattle.std.specs.Prelude.{◌≡◌, ℕ, ◌⊎◌, List, ◌++◌, codes, decimal, Some, None}
use Rattle.sq_num.specs.RefusalTexts.{refusal_text}
use Rattle.sq_num.specs.declared.refusal.Refusal.{Refusal}
use Rattle.sq_elf.specs.Refusing.{file_refusal_of}
use Rattle.sq_command.specs.Commands.{HexForm, HexcheckForm, form_of}
use Rattle.sq_desk.specs.Outside.{Outside, Files, Rose, Loading, Printing, KeepsFiles, KeepsPrinted, Prints, ForFiles, content_of, with_file}
use Rattle.sq_top.specs.declared.ending.Ending.{Ending}
use Rattle.sq_top.specs.declared.ending.Ending.TheVariants.{Done, Refused, Differs}
use Rattle.sq_top.specs.declared.ending.DeskCall.{DeskCall}
use Rattle.sq_top.specs.declared.ending.DeskCall.TheVariants.{Load, Store, Print}
use Rattle.sq_top.specs.Statuses.{status_of, call_text}
use Rattle.sq_top.specs.Endings.{ComplainsLine}
use Rattle.sq_top.specs.Promises.{place_of}
use Rattle.sq_top.specs.Hexing.{HasHexText, hex_line, same_line, IsCheckRefused, IsSame, DoesDiffer}

-- P holds of the names where the words are `hex IN OUT`
abbrev pub ForHex : List (List ℕ) → (List ℕ → List ℕ → Type 0) → Type 0
ForHex words P = (input output : List ℕ) → form_of words ≡ Some (HexForm input output) → P input output

-- P holds of the names where the words are `hexcheck IN HEX`
abbrev pub ForHexcheck : List (List ℕ) → (List ℕ → List ℕ → Type 0) → Type 0
ForHexcheck words P = (input text : List ℕ) → form_of words ≡ Some (HexcheckForm input text) → P input text

-- status 0 of `hex`: OUT holds the text of IN, every other file is as before, and its line was printed
abbrev pub IsHexDone : List ℕ → List ℕ → Outside → Outside → Type 0
IsHexDone input output before after =
    ForFiles before (λ files.
    (text : List ℕ) × HasHexText (content_of files input) text × (after.files ≡ Some (with_file output (Some text) files)) × Prints (hex_line text) before after)

-- status 3 of `hex` has its cause, its line names it, and nothing else changed
abbrev pub HasHexRefusal : List ℕ → Outside → Outside → Type 0
HasHexRefusal input before after =
    KeepsFiles before after × KeepsPrinted before after × (refusal : Refusal) × ForFiles before (λ files. file_refusal_of (content_of files input) ≡ Some refusal)
    × ComplainsLine (Some (refusal_text refusal ++ codes "\n")) before after

-- a refusal gives status 3, unless a load failed or memory ran out first
abbrev pub HexRefusesExactly : List ℕ → ℕ → Outside → Outside → Type 0
HexRefusesExactly input status before after =
    ForFiles before (λ files.
    (refusal : Refusal) → file_refusal_of (content_of files input) ≡ Some refusal → (status ≡ 3) ⊎ ((status ≡ 2) × Rose (Loading input) before after) ⊎ (status ≡ 4))

-- with no fault of a used place and no refusal the status of `hex` is 0 or 4
abbrev pub IsHexComplete : List ℕ → List ℕ → ℕ → Outside → Outside → Type 0
IsHexComplete input output status before after =
    ((call : DeskCall) → Rose (place_of call input output) before after → ⊥)
    → ForFiles before (λ files. file_refusal_of (content_of files input) ≡ None → (status ≡ 0) ⊎ (status ≡ 4))

-- status 0 of `hexcheck`: the text means the flash and the entry, and `same` was printed
abbrev pub IsCheckDone : List ℕ → List ℕ → Outside → Outside → Type 0
IsCheckDone input text before after = ForFiles before (IsSame input text) × Prints same_line before after

-- status 8 has its cause, its line names it, and nothing was printed
abbrev pub HasDifference : List ℕ → List ℕ → Outside → Outside → Type 0
HasDifference input text before after =
    KeepsPrinted before after × (line : ℕ) × ForFiles before (λ files. DoesDiffer input text files line)
    × ComplainsLine (Some (codes "no " ++ decimal line ++ codes "\n")) before after

-- the faults of a place of this kind that `hexcheck` uses rose: it loads two names, prints, and stores nothing
abbrev pub CheckFault : DeskCall → List ℕ → List ℕ → Outside → Outside → Type 0
CheckFault Load input text before after = Rose (Loading input) before after ⊎ Rose (Loading text) before after
CheckFault Store input text before after = ⊥
CheckFault Print input text before after = Rose Printing before after

-- status 2 of `hexcheck` has its cause, and its line names it
abbrev pub HasCheckFault : List ℕ → List ℕ → Outside → Outside → Type 0
HasCheckFault input text before after =
    (call : DeskCall) × CheckFault call input text before after × ComplainsLine (Some (call_text call)) before after

-- status 3 of `hexcheck` has its cause, its line names it, and nothing was printed
abbrev pub HasCheckRefusal : List ℕ → List ℕ → Outside → Outside → Type 0
HasCheckRefusal input text before after =
    KeepsPrinted before after × (refusal : Refusal) × ForFiles before (λ files. IsCheckRefused input text files refusal)
    × ComplainsLine (Some (refusal_text refusal ++ codes "\n")) before after

-- the cause of an ending of `hexcheck` that the files decide
abbrev pub CheckCause : List ℕ → List ℕ → Ending → Files → Type 0
CheckCause input text Done files = IsSame input text files
CheckCause input text (Differs line) files = DoesDiffer input text files line
CheckCause input text (Refused refusal) files = IsCheckRefused input text files refusal
CheckCause input text other files = ⊥

-- the faults of a place rose that the files let `hexcheck` use: HEX is loaded where IN is not refused, and `same`
-- is printed where it is the same
abbrev pub MeetsCheckFault : List ℕ → List ℕ → Files → Outside → Outside → Type 0
MeetsCheckFault input text files before after =
    Rose (Loading input) before after
    ⊎ ((file_refusal_of (content_of files input) ≡ None) × Rose (Loading text) before after)
    ⊎ (IsSame input text files × Rose Printing before after)

-- a cause gives its status, unless a fault came or memory ran out
abbrev pub ChecksExactly : List ℕ → List ℕ → ℕ → Outside → Outside → Type 0
ChecksExactly input text status before after =
    ForFiles before (λ files.
    (ending : Ending) → CheckCause input text ending files → (status ≡ status_of ending) ⊎ ((status ≡ 2) × MeetsCheckFault input text files before after) ⊎ (status ≡ 4))

-- with no fault of a used place and no refusal the status of `hexcheck` is 0, 4 or 8
abbrev pub IsCheckComplete : List ℕ → List ℕ → ℕ → Outside → Outside → Type 0
IsCheckComplete input text status before after =
    ((call : DeskCall) → CheckFault call input text before after → ⊥)
    → ForFiles before (λ files. ((refusal : Refusal) → IsCheckRefused input text files refusal → ⊥) → (status ≡ 0) ⊎ (status ≡ 4) ⊎ (status ≡ 8))
