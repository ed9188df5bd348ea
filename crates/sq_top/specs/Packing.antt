-- What a packing gives.
use Rattle.std.specs.Prelude.{◌≡◌, ℕ, ◌+◌, ◌*◌, ◌≤◌, List, ◌++◌, length, codes, decimal, IsSome}
use Rattle.std.specs.List.{All}
use Rattle.sq_num.specs.declared.packed.Packed.{Packed}
use Rattle.sq_num.specs.declared.packed.Savings.{Savings}
use Rattle.sq_num.specs.Saved.{words_saved}
use Rattle.sq_elf.specs.Refusing.{text_size}
use Rattle.sq_elf.specs.Sizes.{loaded_of}
use Rattle.sq_elf.specs.Text.{text_of}
use Rattle.sq_reloc.specs.Outside.{code_word_at}
use Rattle.sq_graph.specs.Graph.{Graph}
use Rattle.sq_graph.specs.Leaders.{IsCanonical}
use Rattle.sq_graph.specs.Places.{IsInReach}
use Rattle.sq_graph.specs.Slotted.{IsSlotted}
use Rattle.sq_graph.specs.Soundness.{IsSound}
use Rattle.sq_graph.specs.Words.{words_of}
use Rattle.sq_num.specs.declared.packed.TheConstants.Savings.{NONE}
use Rattle.sq_pass.specs.Rewrites.{IsRewritten}
use Rattle.sq_chain.specs.Moves.{IsStill}
use Rattle.sq_drive.specs.Rows.{IsCandidate, described, IsLeftoverFree}
use Rattle.law_program.specs.Programs.{IsWord}
use Rattle.law_program.specs.Reached.{IsReached}
use Rattle.law_program.specs.FilePrograms.{IsAcceptedFile}
use Rattle.sq_write.specs.Written.{written}
use Rattle.law_written.specs.Written.{IsWritable}
use Rattle.law_written.specs.Whole.{IsWhole}
use Rattle.sq_lifted.specs.LiftedFiles.{IsLiftedFile}
use Rattle.sq_lifted.specs.Same.{Same}
use Rattle.sq_top.specs.Settled.{IsSettledFile}

-- the line that tells the sizes
abbrev pub sizes_text : ℕ → ℕ → ℕ → ℕ → List ℕ
sizes_text text_before text_after loaded_before loaded_after =
    codes "text " ++ decimal text_before ++ codes " -> " ++ decimal text_after ++ codes ", loaded " ++ decimal loaded_before ++ codes " -> "
    ++ decimal loaded_after ++ codes "\n"

unfoldable pub packed_text : Packed → List ℕ
packed_text packed = sizes_text packed.text_before packed.text_after packed.loaded_before packed.loaded_after

-- a graph that can be written in the place of a file's text: it is in reach, it has no more words than text, and its code
-- words stand where the file has some
pub record CanBeWritten (given : List ℕ) (graph : Graph) : Type 0 where
  pub reach : IsInReach graph
  pub words : (text_of given).lo + 4 * words_of graph ≤ (text_of given).hi
  pub code_words : All (λ word. IsSome (code_word_at given word.at)) graph.code_words

-- nothing of a file is refused, the graph is its lifted graph, but for the names of blocks, and each word of its text is
-- reached
pub record IsReachedFile (bytes : List ℕ) (graph : Graph) : Type 0 where
  pub lifted : IsLiftedFile bytes graph
  pub reached : (x : ℕ) → IsWord lifted.program.text x → IsReached lifted.program x

-- A file that is written of a sound and canonical graph, of which each block is reached and each procedure called, is read
-- back as this graph.
abbrev pub WrittenFilesReadBack : Type 0
WrittenFilesReadBack =
    (given : List ℕ) (graph : Graph) → IsWritable given graph → IsCanonical graph → IsSound graph → IsWhole graph
    → IsReachedFile (written given graph) graph

-- what each output is of a given file, whether it is packed or folded
pub record SettledOutput (given output : List ℕ) : Type 0 where
  -- nothing of the given file is refused
  pub accepted : IsAcceptedFile given
  -- the output does what the given file does
  pub same : Same given output
  -- it loads no more bytes
  pub loads_no_more : loaded_of output ≤ loaded_of given
  -- nothing of the output is refused, this is its graph, and all of its text is reached
  pub graph : Graph
  pub read_back : IsReachedFile output graph
  -- its blocks are named by their positions
  pub slotted : IsSlotted graph
  -- Nothing is left over: whatever graph the output is read back as, named by positions, no row has a
  -- candidate in it, and no move of a chain of its blocks saves a word
  pub left : (reading : Graph) → IsLiftedFile output reading → IsSlotted reading → IsLeftoverFree reading
  pub still : (reading : Graph) → IsLiftedFile output reading → IsSlotted reading → IsStill reading
  -- the output is made of the data of the given file and of the words of that graph
  pub output_is : output ≡ written given graph
  -- packing doesn't change the output
  pub settled : IsSettledFile output

-- what a packed output is of a given file
pub record GoodOutput (given output : List ℕ) : Type 0 where
  pub made : SettledOutput given output
  -- the graph of the given file, which has what is reached alone
  pub first : Graph
  pub lifted : IsLiftedFile given first
  -- rewriting made the output's graph of it, by one candidate after another, and each is counted in the savings of its row
  pub savings : Savings
  pub rewritten : IsRewritten IsCandidate described NONE savings first made.graph
  -- packing is done once: where the given file is settled, the output is this file
  pub again : IsSettledFile given → output ≡ given

-- the packing of a given file: a good output, and its sizes
pub record Packs (given : List ℕ) (packed : Packed) : Type 0 where
  pub good : GoodOutput given packed.bytes
  pub text_before : packed.text_before ≡ text_size given
  pub text_after : packed.text_after ≡ text_size packed.bytes
  pub loaded_before : packed.loaded_before ≡ loaded_of given
  pub loaded_after : packed.loaded_after ≡ loaded_of packed.bytes
  pub procedures : packed.procedures ≡ length good.made.graph.procedures
  -- the words of text that the first graph doesn't have
  pub unreached : 4 * (packed.unreached + words_of good.first) ≡ text_size given
  pub savings : packed.savings ≡ good.savings
  -- what text lost is what was not reached and what was saved
  pub balance : packed.text_before ≡ packed.text_after + 4 * (packed.unreached + words_saved packed.savings)

-- the printed line: the bytes of text and the bytes that are loaded, of the given file and of the output
abbrev pub TellsSizes : List ℕ → List ℕ → List ℕ → Type 0
TellsSizes given output line = line ≡ sizes_text (text_size given) (text_size output) (loaded_of given) (loaded_of output)

-- the headline: of what IN held, what OUT holds, and what was printed
pub record Headline (given output printed : List ℕ) : Type 0 where
  pub good : GoodOutput given output
  pub printed_line : TellsSizes given output printed
