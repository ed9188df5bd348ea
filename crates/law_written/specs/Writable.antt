-- What is asked of a graph whose words become text.
use Rattle.std.specs.Prelude.{◌≡◌, ℕ, ◌+◌, ◌*◌, ◌%◌, ◌^◌, ◌≤◌}
use Rattle.sq_graph.specs.Graph.{Graph}
use Rattle.sq_graph.specs.Rules.{IsGraph}
use Rattle.sq_graph.specs.Words.{words_of}
use Rattle.sq_graph.specs.Places.{IsInReach}
use Rattle.sq_elf.specs.Refusing.{largest_text}

-- The words of the graph fit into text from `lo` up to, without, `hi`: text begins at a word and has at most one mebibyte
-- within the address space, the graph keeps the rules, and each Branch reaches its target.
pub record IsWritable (g : Graph) (lo hi : ℕ) : Type 0 where
  pub rules : IsGraph g
  pub reach : IsInReach g
  pub words : lo + 4 * words_of g ≤ hi
  pub aligned : lo % 4 ≡ 0
  pub short : hi ≤ lo + largest_text
  pub end : hi ≤ 2 ^ 32
