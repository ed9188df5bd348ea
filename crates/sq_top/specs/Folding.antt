-- What folding gives of a file.
use Rattle.std.specs.Prelude.{◌≡◌, ℕ, List}
use Rattle.sq_elf.specs.Refusing.{text_size}
use Rattle.sq_elf.specs.Sizes.{loaded_of}
use Rattle.sq_graph.specs.Graph.{Graph}
use Rattle.sq_graph.specs.Slotted.{IsSlotted}
use Rattle.sq_quotient.specs.Folded.{FoldSavesNothing}
use Rattle.sq_lifted.specs.LiftedFiles.{IsLiftedFile}
use Rattle.sq_top.specs.declared.folding.FoldedFile.{FoldedFile}
use Rattle.sq_top.specs.Packing.{SettledOutput, TellsSizes, sizes_text}

-- what a folded output is of a given file
pub record GoodFold (given output : List ℕ) : Type 0 where
  -- it is settled as a packed output is
  pub made : SettledOutput given output
  -- whatever graph the output is read back as, named by positions, folding that gives no fewer words
  pub folded : (reading : Graph) → IsLiftedFile output reading → IsSlotted reading → FoldSavesNothing reading

-- the folding of a given file: a good output, and its sizes
pub record Folds (given : List ℕ) (folded : FoldedFile) : Type 0 where
  pub good : GoodFold given folded.bytes.items
  pub text_before : folded.text_before ≡ text_size given
  pub text_after : folded.text_after ≡ text_size folded.bytes.items
  pub loaded_before : folded.loaded_before ≡ loaded_of given
  pub loaded_after : folded.loaded_after ≡ loaded_of folded.bytes.items

-- the line that tells them
unfoldable pub folded_text : FoldedFile → List ℕ
folded_text folded = sizes_text folded.text_before folded.text_after folded.loaded_before folded.loaded_after

-- the headline of `fold`: of what IN held, what OUT holds, and what was printed
pub record FoldHeadline (given output printed : List ℕ) : Type 0 where
  pub good : GoodFold given output
  pub printed_line : TellsSizes given output printed
