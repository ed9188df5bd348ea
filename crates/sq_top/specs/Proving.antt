-- What a certificate proves of two files.
use Rattle.std.specs.Prelude.{◌≡◌, ◌≢◌, ℕ, ◌≤◌, ◌⊎◌, List}
use Rattle.sq_num.specs.declared.packed.Packed.{Packed}
use Rattle.sq_num.specs.declared.refusal.Refusal.{Refusal}
use Rattle.sq_elf.specs.Sizes.{loaded_of}
use Rattle.sq_graph.specs.Graph.{Graph}
use Rattle.sq_graph.specs.Slotted.{IsSlotted}
use Rattle.law_program.specs.FilePrograms.{IsRefusalOf, IsAcceptedFile}
use Rattle.sq_write.specs.Written.{written}
use Rattle.sq_lifted.specs.LiftedFiles.{IsLiftedFile}
use Rattle.sq_lifted.specs.Same.{Same}
use Rattle.sq_drive.specs.Checking.{Leads, IsFirstFault}
use Rattle.sq_top.specs.Packing.{Packs}

-- THE CERTIFICATE PROVES the output of the given file by so many steps: they replay from the given file's graph, whose
-- blocks are named by their places, and the graph to which they lead is written as the output
pub record Proves (given output cert : List ℕ) (count : ℕ) : Type 0 where
  pub first : Graph
  pub lifted : IsLiftedFile given first
  pub slotted : IsSlotted first
  pub last : Graph
  pub leads : Leads cert first last count
  pub output_is : output ≡ written given last

-- the steps replay, and the graph to which they lead is written as another file
pub record LeadsElsewhere (given output cert : List ℕ) (first : Graph) : Type 0 where
  pub last : Graph
  pub count : ℕ
  pub leads : Leads cert first last count
  pub differs : output ≢ written given last

-- THE line at which it fails to: the first that has no form or is no candidate; or 0, where each line passes and the file
-- differs
pub record FailsToProve (given output cert : List ℕ) (line : ℕ) : Type 0 where
  pub first : Graph
  pub lifted : IsLiftedFile given first
  pub slotted : IsSlotted first
  pub cause : IsFirstFault cert first line ⊎ ((line ≡ 0) × LeadsElsewhere given output cert first)

-- what a proved output is of the given file: it does the same, and loads no more bytes
pub record IsProved (given output : List ℕ) : Type 0 where
  pub same : Same given output
  pub loads_no_more : loaded_of output ≤ loaded_of given

-- THE refusal of two files: that of the first, or else that of the second
abbrev pub IsRefusalOfEither : List ℕ → List ℕ → Refusal → Type 0
IsRefusalOfEither given output refusal = IsRefusalOf given refusal ⊎ (IsAcceptedFile given × IsRefusalOf output refusal)

-- the packing of a given file, and a text that proves its output of the file
pub record PacksProved (given : List ℕ) (packed : Packed) (text : List ℕ) : Type 0 where
  pub packs : Packs given packed
  pub count : ℕ
  pub proves : Proves given packed.bytes text count
