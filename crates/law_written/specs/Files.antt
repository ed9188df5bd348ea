-- The file of a graph shows what the graph shows. The number of each byte of a file is below 256.
use Rattle.std.specs.Prelude.{◌≡◌, ℕ, ◌+◌, ◌*◌, ◌<◌, ◌≤◌, Bool, List, map}
use Rattle.std.specs.List.{AllByRecursion}
use Rattle.sq_elf.specs.Text.{text_of}
use Rattle.sq_reloc.specs.declared.mark.CodeWord.{CodeWord}
use Rattle.sq_graph.specs.Graph.{Graph}
use Rattle.sq_graph.specs.Rules.{IsGraph}
use Rattle.sq_graph.specs.Words.{words_of}
use Rattle.sq_graph.specs.Places.{IsInReach}
use Rattle.law_follow.specs.Follows.{word_address}
use Rattle.law_program.specs.Programs.{Program}
use Rattle.law_program.specs.FilePrograms.{IsReadAs}
use Rattle.sq_write.specs.Written.{written}
use Rattle.law_files.specs.Shows.{ShowsGraph}

abbrev pub code_word_address : CodeWord → ℕ
code_word_address word = word.at

-- The graph may be written in place of the file's text: it keeps the rules, each Branch reaches its target, it has no more
-- words than text, and its code words stand where those of the file do.
pub record IsWritableInto (bytes : List ℕ) (p : Program) (g : Graph) : Type 0 where
  pub rules : IsGraph g
  pub reach : IsInReach g
  pub words : (text_of bytes).lo + 4 * words_of g ≤ (text_of bytes).hi
  pub code_words : map word_address g.code_words ≡ map code_word_address p.code_words

-- The file that is written of such a graph, with the data of a file that passes what is asked before its text, shows what
-- the graph shows over the world of that file.
abbrev pub WrittenFilesShowGraphs : Type 0
WrittenFilesShowGraphs =
    (bytes : List ℕ) (is : ℕ → Bool) (p : Program) (g : Graph) → AllByRecursion (λ b. b < 256) bytes → IsReadAs bytes is p
    → IsWritableInto bytes p g → ShowsGraph bytes p g (written bytes g)
