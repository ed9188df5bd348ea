-- The promises of the top call for `size`, over what is outside before it and after it.
use Rattle.std.specs.Prelude.{◌≡◌, ℕ, ◌⊎◌, List, Some}
use Rattle.sq_num.specs.declared.refusal.Refusal.{Refusal}
use Rattle.sq_num.specs.declared.packed.Packed.{Packed}
use Rattle.sq_command.specs.Commands.{SizeForm, form_of}
use Rattle.sq_desk.specs.Outside.{Outside, Rose, Loading, Printing, Prints, ForFiles, content_of}
use Rattle.law_program.specs.FilePrograms.{IsRefusalOf}
use Rattle.sq_top.specs.declared.ending.DeskCall.{DeskCall}
use Rattle.sq_top.specs.declared.ending.DeskCall.TheVariants.{Load, Store, Print}
use Rattle.sq_top.specs.Packing.{Packs}
use Rattle.sq_top.specs.Statuses.{call_text}
use Rattle.sq_top.specs.Endings.{report_line, ComplainsLine}

-- P holds of the name where the words are `size IN`
abbrev pub ForSize : List (List ℕ) → (List ℕ → Type 0) → Type 0
ForSize words P = (input : List ℕ) → form_of words ≡ Some (SizeForm input) → P input

-- status 0 of `size`: the report of a packing of IN was printed
abbrev pub IsSizeDone : List ℕ → Outside → Outside → Type 0
IsSizeDone input before after =
    ForFiles before (λ files. (packed : Packed) × Packs (content_of files input) packed × Prints (report_line packed) before after)

-- the faults of a place of this kind that `size` uses rose: it loads one name, prints, and stores nothing
abbrev pub SizeFault : DeskCall → List ℕ → Outside → Outside → Type 0
SizeFault Load input before after = Rose (Loading input) before after
SizeFault Store input before after = ⊥
SizeFault Print input before after = Rose Printing before after

-- status 2 of `size` has its cause, and its line names it
abbrev pub HasSizeFault : List ℕ → Outside → Outside → Type 0
HasSizeFault input before after =
    (call : DeskCall) × SizeFault call input before after × ComplainsLine (Some (call_text call)) before after

-- with no fault of a used place and no refusal the status of `size` is 0 or 4
abbrev pub IsSizeComplete : List ℕ → ℕ → Outside → Outside → Type 0
IsSizeComplete input status before after =
    ((call : DeskCall) → SizeFault call input before after → ⊥)
    → ForFiles before (λ files. ((refusal : Refusal) → IsRefusalOf (content_of files input) refusal → ⊥) → (status ≡ 0) ⊎ (status ≡ 4))
