-- The code words of the file of a graph, and its stale bytes.
use Rattle.std.specs.Prelude.{◌≡◌, ℕ, false, List, Some}
use Rattle.std.specs.List.{AllByRecursion}
use Rattle.sq_elf.specs.Reading.{word_of}
use Rattle.sq_elf.specs.Text.{text_of}
use Rattle.sq_reloc.specs.Outside.{code_word_at, is_stale}
use Rattle.sq_graph.specs.Graph.{Graph}
use Rattle.sq_write.specs.Pieces.{set_word_at}
use Rattle.sq_write.specs.Points.{new_address}
use Rattle.sq_write.specs.Written.{written}
use Rattle.law_written.specs.Written.{IsWritable}

-- The code words of the file are those of the graph, and each is the new address of its block.
abbrev pub WrittenCodeWordsAreRead : Type 0
WrittenCodeWordsAreRead =
    (bytes : List ℕ) (g : Graph) → IsWritable bytes g → (address : ℕ)
    → code_word_at (written bytes g) address ≡ set_word_at g (text_of bytes).lo address

-- No byte is stale.
abbrev pub NoByteIsStale : Type 0
NoByteIsStale = (bytes : List ℕ) (g : Graph) → IsWritable bytes g → (address : ℕ) → is_stale (written bytes g) address ≡ false

-- At the address of each code word of the graph stands the new address of its block.
abbrev pub WrittenCodeWordsStand : Type 0
WrittenCodeWordsStand =
    (bytes : List ℕ) (g : Graph) → IsWritable bytes g
    → AllByRecursion (λ word. word_of (written bytes g) word.at ≡ Some (new_address g (text_of bytes).lo word.block)) g.code_words
