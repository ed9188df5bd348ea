-- The bytes of a written file, and the words of its text.
use Rattle.std.specs.Prelude.{◌≡◌, ◌<◌, ℕ, ◌+◌, ◌*◌, ◌^◌, true, List, Some}
use Rattle.std.specs.List.{AllByRecursion, slice_get}
use Rattle.sq_elf.specs.Memory.{AreSegments}
use Rattle.sq_elf.specs.Reading.{word_of}
use Rattle.sq_elf.specs.Text.{text_of, is_text_word}
use Rattle.sq_graph.specs.Graph.{Graph}
use Rattle.sq_graph.specs.Words.{words_of}
use Rattle.sq_write.specs.Output.{Output, output_file}
use Rattle.sq_write.specs.Points.{Point, point_word, text_points}
use Rattle.sq_write.specs.Written.{written}
use Rattle.law_written.specs.Accepting.{IsAcceptable}
use Rattle.law_written.specs.Reading.{output_segments}
use Rattle.law_written.specs.Written.{IsWritable}

-- Each byte of the file of a graph is below 256.
abbrev pub WrittenIsBytes : Type 0
WrittenIsBytes = (bytes : List ℕ) (g : Graph) → IsWritable bytes g → AllByRecursion (λ b. b < 256) (written bytes g)

-- A word of text that fits 32 bits is read at its address.
abbrev pub WordsAreRead : Type 0
WordsAreRead =
    (o : Output) → IsAcceptable o → (k word : ℕ) → slice_get o.text k ≡ Some word → word < 2 ^ 32
    → word_of (output_file o) (o.start + 4 * k) ≡ Some word

-- The same of the words of a graph.
abbrev pub WrittenWordsAreRead : Type 0
WrittenWordsAreRead =
    (bytes : List ℕ) (g : Graph) → IsWritable bytes g → (k : ℕ) (p : Point) → slice_get (text_points g (text_of bytes).lo) k ≡ Some p
    → point_word p < 2 ^ 32 → word_of (written bytes g) ((text_of bytes).lo + 4 * k) ≡ Some (point_word p)

-- The reader's list of the segments of an output file, by address, is that of its pieces.
abbrev pub SegmentsAreByAddress : Type 0
SegmentsAreByAddress = (o : Output) → IsAcceptable o → AreSegments (output_file o) (output_segments o)

-- A word of text of the file of a graph, by its place among the graph's words.
abbrev pub WrittenTextIsWords : Type 0
WrittenTextIsWords =
    (bytes : List ℕ) (g : Graph) → IsWritable bytes g → (address : ℕ) → is_text_word (text_of (written bytes g)) address ≡ true
    → (k : ℕ) × (k < words_of g) × (address ≡ (text_of bytes).lo + 4 * k)
