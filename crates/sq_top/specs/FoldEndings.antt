-- How `fold` ends, and what it leaves outside.
use Rattle.std.specs.Prelude.{ℕ, ◌⊎◌, List, Some}
use Rattle.law_program.specs.FilePrograms.{IsRefusalOf}
use Rattle.sq_desk.specs.Outside.{Outside, content_of, Rose, Loading, Storing, Printing, KeepsFiles, SetsFile, LosesFile, KeepsPrinted, Prints, PrintsPrefix, ForFiles}
use Rattle.sq_top.specs.declared.ending.Ending.{Ending}
use Rattle.sq_top.specs.declared.ending.Ending.TheVariants.{Done, Desk, Refused, Memory}
use Rattle.sq_top.specs.declared.ending.DeskCall.TheVariants.{Load, Store, Print}
use Rattle.sq_top.specs.declared.folding.FoldedFile.{FoldedFile}
use Rattle.sq_top.specs.Folding.{Folds, folded_text}

-- what the named file holds was folded so
abbrev pub FoldsFile : List ℕ → FoldedFile → Outside → Type 0
FoldsFile input folded before = ForFiles before (λ files. Folds (content_of files input) folded)

-- the output became the folding of the input
pub record StoresFolded (input output : List ℕ) (folded : FoldedFile) (before after : Outside) : Type 0 where
  pub folds : FoldsFile input folded before
  pub stores : SetsFile output (Some folded.bytes.items) before after

-- what `fold` leaves, by how it ends
abbrev pub LeavesFold : List ℕ → List ℕ → Ending → Outside → Outside → Type 0
LeavesFold input output Done before after =
    (folded : FoldedFile) × StoresFolded input output folded before after × Prints (folded_text folded) before after
LeavesFold input output (Desk Load) before after =
    Rose (Loading input) before after × KeepsFiles before after × KeepsPrinted before after
LeavesFold input output (Desk Store) before after =
    (folded : FoldedFile) × FoldsFile input folded before × Rose (Storing output) before after × LosesFile output before after × KeepsPrinted before after
LeavesFold input output (Desk Print) before after =
    (folded : FoldedFile) × StoresFolded input output folded before after × Rose Printing before after × PrintsPrefix (folded_text folded) before after
LeavesFold input output (Refused refusal) before after =
    ForFiles before (λ files. IsRefusalOf (content_of files input) refusal) × KeepsFiles before after × KeepsPrinted before after
LeavesFold input output Memory before after =
    (KeepsFiles before after ⊎ ((folded : FoldedFile) × StoresFolded input output folded before after)) × KeepsPrinted before after
LeavesFold input output other before after = ⊥
