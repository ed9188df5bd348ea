-- What a command leaves outside, by how it ends.
use Rattle.std.specs.Prelude.{◌≡◌, ℕ, ◌⊎◌, List, ◌++◌, codes, Option, Some, None, ⊤}
use Rattle.sq_num.specs.declared.packed.Packed.{Packed}
use Rattle.sq_desk.specs.Outside.{Outside, content_of, Rose, Loading, Storing, Printing, Complaining, KeepsFiles, SetsFile, LosesFile, KeepsPrinted, KeepsComplained, Prints, PrintsPrefix, Complains, ComplainsPrefix, ForFiles}
use Rattle.sq_top.specs.declared.ending.Ending.{Ending}
use Rattle.sq_top.specs.declared.ending.Ending.TheVariants.{Done, Words, Desk, Refused, Memory, Break, Limit, BadStart, Differs}
use Rattle.sq_top.specs.declared.ending.DeskCall.TheVariants.{Load, Store, Print}
use Rattle.sq_command.specs.Commands.{Form, PackForm, RunForm, WatchForm, HexForm, HexcheckForm, SizeForm, TrialForm, CheckForm, ProveForm, NamesForm, FoldForm}
use Rattle.sq_top.specs.Packing.{Packs, packed_text}
use Rattle.law_program.specs.FilePrograms.{IsRefusalOf}
use Rattle.sq_report.specs.Report.{report_text}
use Rattle.sq_top.specs.RunEndings.{LeavesRun}
use Rattle.sq_top.specs.WatchEndings.{LeavesWatch}
use Rattle.sq_top.specs.HexEndings.{LeavesHex, LeavesCheck}
use Rattle.sq_top.specs.Trials.{LeavesTrial}
use Rattle.sq_top.specs.CertEndings.{LeavesCert}
use Rattle.sq_top.specs.ProveEndings.{LeavesProve}
use Rattle.sq_top.specs.NamesEndings.{LeavesNames}
use Rattle.sq_top.specs.FoldEndings.{LeavesFold}

-- what the named file holds was packed so
abbrev pub PacksFile : List ℕ → Packed → Outside → Type 0
PacksFile input packed before = ForFiles before (λ files. Packs (content_of files input) packed)

-- the output became the packing of the input
pub record StoresPacked (input output : List ℕ) (packed : Packed) (before after : Outside) : Type 0 where
  pub packs : PacksFile input packed before
  pub stores : SetsFile output (Some packed.bytes) before after

-- what a load and a packing leave where they give nothing
abbrev pub LeavesUnpacked : List ℕ → Ending → Outside → Outside → Type 0
LeavesUnpacked input (Desk Load) before after = Rose (Loading input) before after
LeavesUnpacked input (Refused refusal) before after = ForFiles before (λ files. IsRefusalOf (content_of files input) refusal)
LeavesUnpacked input Memory before after = ⊤
LeavesUnpacked input other before after = ⊥

-- what the printing of a last line leaves
abbrev pub LeavesPrinted : List ℕ → Ending → Outside → Outside → Type 0
LeavesPrinted line Done before after = Prints line before after
LeavesPrinted line (Desk Print) before after = PrintsPrefix line before after × Rose Printing before after
LeavesPrinted line Memory before after = KeepsPrinted before after
LeavesPrinted line other before after = ⊥

-- what the storing of bytes and the printing of a line leave
abbrev pub LeavesDelivered : List ℕ → List ℕ → List ℕ → Ending → Outside → Outside → Type 0
LeavesDelivered output bytes line Done before after = SetsFile output (Some bytes) before after × Prints line before after
LeavesDelivered output bytes line (Desk Store) before after = LosesFile output before after × KeepsPrinted before after × Rose (Storing output) before after
LeavesDelivered output bytes line (Desk Print) before after =
    SetsFile output (Some bytes) before after × PrintsPrefix line before after × Rose Printing before after
LeavesDelivered output bytes line Memory before after =
    (KeepsFiles before after ⊎ SetsFile output (Some bytes) before after) × KeepsPrinted before after
LeavesDelivered output bytes line other before after = ⊥

-- what `pack` leaves, by how it ends
abbrev pub LeavesPack : List ℕ → List ℕ → Ending → Outside → Outside → Type 0
LeavesPack input output Done before after =
    (packed : Packed) × StoresPacked input output packed before after × Prints (packed_text packed) before after
LeavesPack input output Words before after = ⊥
LeavesPack input output (Desk Load) before after =
    Rose (Loading input) before after × KeepsFiles before after × KeepsPrinted before after
LeavesPack input output (Desk Store) before after =
    (packed : Packed) × PacksFile input packed before × Rose (Storing output) before after × LosesFile output before after × KeepsPrinted before after
LeavesPack input output (Desk Print) before after =
    (packed : Packed) × StoresPacked input output packed before after × Rose Printing before after × PrintsPrefix (packed_text packed) before after
LeavesPack input output (Refused refusal) before after =
    ForFiles before (λ files. IsRefusalOf (content_of files input) refusal) × KeepsFiles before after × KeepsPrinted before after
LeavesPack input output Memory before after =
    (KeepsFiles before after ⊎ ((packed : Packed) × StoresPacked input output packed before after)) × KeepsPrinted before after
LeavesPack input output Break before after = ⊥
LeavesPack input output Limit before after = ⊥
LeavesPack input output BadStart before after = ⊥
LeavesPack input output (Differs line) before after = ⊥

-- the line of a packing's report
abbrev pub report_line : Packed → List ℕ
report_line packed = report_text packed ++ codes "\n"

-- the line is the report of a packing of what the named file holds
abbrev pub ReportsFile : List ℕ → List ℕ → Outside → Type 0
ReportsFile input line before = (packed : Packed) × PacksFile input packed before × (line ≡ report_line packed)

-- what `size` leaves printed, by how it ends
abbrev pub SizeLeft : List ℕ → Ending → Outside → Outside → Type 0
SizeLeft input Done before after = (packed : Packed) × PacksFile input packed before × Prints (report_line packed) before after
SizeLeft input (Desk Load) before after = KeepsPrinted before after × Rose (Loading input) before after
SizeLeft input (Desk Print) before after =
    Rose Printing before after × (packed : Packed) × PacksFile input packed before × PrintsPrefix (report_line packed) before after
SizeLeft input (Refused refusal) before after =
    KeepsPrinted before after × ForFiles before (λ files. IsRefusalOf (content_of files input) refusal)
SizeLeft input Memory before after = KeepsPrinted before after
SizeLeft input other before after = ⊥

-- what `size` leaves, by how it ends: no file changes
abbrev pub LeavesSize : List ℕ → Ending → Outside → Outside → Type 0
LeavesSize input ending before after = KeepsFiles before after × SizeLeft input ending before after

-- what a command leaves, by how it ends: words without a form touch nothing
abbrev pub Leaves : Option Form → Ending → Outside → Outside → Type 0
Leaves None ending before after = (ending ≡ Words) × KeepsFiles before after × KeepsPrinted before after
Leaves (Some (PackForm input output)) ending before after = LeavesPack input output ending before after
Leaves (Some (RunForm request)) ending before after = LeavesRun request ending before after
Leaves (Some (WatchForm request)) ending before after = LeavesWatch request ending before after
Leaves (Some (HexForm input output)) ending before after = LeavesHex input output ending before after
Leaves (Some (HexcheckForm input text)) ending before after = LeavesCheck input text ending before after
Leaves (Some (SizeForm input)) ending before after = LeavesSize input ending before after
Leaves (Some (TrialForm first blocks)) ending before after = LeavesTrial first blocks ending before after
Leaves (Some (CheckForm input output cert)) ending before after = LeavesCert input output cert ending before after
Leaves (Some (ProveForm input output cert)) ending before after = LeavesProve input output cert ending before after
Leaves (Some (NamesForm input cert)) ending before after = LeavesNames input cert ending before after
Leaves (Some (FoldForm input output)) ending before after = LeavesFold input output ending before after

-- the line was complained, or a prefix of it where complaining failed, or nothing for want of memory
abbrev pub ComplainsLine : Option (List ℕ) → Outside → Outside → Type 0
ComplainsLine None before after = KeepsComplained before after
ComplainsLine (Some line) before after =
    Complains line before after ⊎ (ComplainsPrefix line before after × Rose Complaining before after) ⊎ KeepsComplained before after
