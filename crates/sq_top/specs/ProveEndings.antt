-- How `prove` ends, and what it leaves outside.
use Rattle.std.specs.Prelude.{◌≡◌, ℕ, ◌⊎◌, List, Option, Some}
use Rattle.std.specs.Option.{option_map}
use Rattle.sq_num.specs.declared.packed.Packed.{Packed}
use Rattle.sq_desk.specs.Outside.{Outside, content_of, with_file, Rose, Loading, Storing, Printing, KeepsFiles, SetsFile, LosesFile, KeepsPrinted, Prints, PrintsPrefix, ForFiles}
use Rattle.law_program.specs.FilePrograms.{IsRefusalOf}
use Rattle.sq_top.specs.declared.ending.Ending.{Ending}
use Rattle.sq_top.specs.declared.ending.Ending.TheVariants.{Done, Desk, Refused, Memory}
use Rattle.sq_top.specs.declared.ending.DeskCall.TheVariants.{Load, Store, Print}
use Rattle.sq_top.specs.Packing.{packed_text}
use Rattle.sq_top.specs.Proving.{PacksProved}

-- what the named file holds was packed so, and the text proves it
abbrev pub ProvesFile : List ℕ → Packed → List ℕ → Outside → Type 0
ProvesFile input packed text before = ForFiles before (λ files. PacksProved (content_of files input) packed text)

-- the file of OUT becomes these bytes, and then that of CERT this content; every other stays
abbrev pub SetsBoth : List ℕ → List ℕ → List ℕ → Option (List ℕ) → Outside → Outside → Type 0
SetsBoth output bytes cert content before after = after.files ≡ option_map (with_file cert content) (option_map (with_file output (Some bytes)) before.files)

-- storing OUT failed, or OUT was stored and storing CERT failed: the file whose store failed is not known
abbrev pub FailsToStore : List ℕ → List ℕ → List ℕ → Outside → Outside → Type 0
FailsToStore output bytes cert before after =
    (Rose (Storing output) before after × LosesFile output before after)
    ⊎ (Rose (Storing cert) before after × (content : Option (List ℕ)) × SetsBoth output bytes cert content before after)

-- what the two stores and the printing of a line leave
abbrev pub LeavesBoth : List ℕ → List ℕ → List ℕ → List ℕ → List ℕ → Ending → Outside → Outside → Type 0
LeavesBoth output bytes cert text line Done before after = SetsBoth output bytes cert (Some text) before after × Prints line before after
LeavesBoth output bytes cert text line (Desk Store) before after = FailsToStore output bytes cert before after × KeepsPrinted before after
LeavesBoth output bytes cert text line (Desk Print) before after =
    SetsBoth output bytes cert (Some text) before after × PrintsPrefix line before after × Rose Printing before after
LeavesBoth output bytes cert text line Memory before after =
    (KeepsFiles before after ⊎ SetsFile output (Some bytes) before after ⊎ SetsBoth output bytes cert (Some text) before after) × KeepsPrinted before after
LeavesBoth output bytes cert text line other before after = ⊥

-- what `prove` leaves, by how it ends
abbrev pub LeavesProve : List ℕ → List ℕ → List ℕ → Ending → Outside → Outside → Type 0
LeavesProve input output cert Done before after =
    (packed : Packed) × (text : List ℕ) × ProvesFile input packed text before × SetsBoth output packed.bytes cert (Some text) before after
    × Prints (packed_text packed) before after
LeavesProve input output cert (Desk Load) before after = Rose (Loading input) before after × KeepsFiles before after × KeepsPrinted before after
LeavesProve input output cert (Desk Store) before after =
    KeepsPrinted before after × (packed : Packed) × (text : List ℕ) × ProvesFile input packed text before × FailsToStore output packed.bytes cert before after
LeavesProve input output cert (Desk Print) before after =
    Rose Printing before after × (packed : Packed) × (text : List ℕ) × ProvesFile input packed text before
    × SetsBoth output packed.bytes cert (Some text) before after × PrintsPrefix (packed_text packed) before after
LeavesProve input output cert (Refused refusal) before after =
    ForFiles before (λ files. IsRefusalOf (content_of files input) refusal) × KeepsFiles before after × KeepsPrinted before after
LeavesProve input output cert Memory before after =
    KeepsPrinted before after
    × (KeepsFiles before after
    ⊎ ((packed : Packed) × (text : List ℕ) × ProvesFile input packed text before
    × (SetsFile output (Some packed.bytes) before after ⊎ SetsBoth output packed.bytes cert (Some text) before after)))
LeavesProve input output cert other before after = ⊥
