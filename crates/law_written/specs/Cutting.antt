-- The graph that is lifted from the file of a graph.
use Rattle.std.specs.Prelude.{◌≡◌, ℕ, Bool, true, List}
use Rattle.sq_elf.specs.Text.{text_of}
use Rattle.sq_graph.specs.Alike.{IsOneToOne, AreAlike}
use Rattle.sq_graph.specs.Graph.{Graph}
use Rattle.sq_graph.specs.Leaders.{IsCanonical}
use Rattle.sq_graph.specs.Renames.{renamed}
use Rattle.law_program.specs.Lifted.{lifted_with}
use Rattle.law_program.specs.Programs.{IsWord}
use Rattle.sq_write.specs.Points.{new_address}
use Rattle.law_written.specs.Written.{IsWritable}
use Rattle.law_written.specs.Programs.{graph_text, graph_notes, graph_program}
use Rattle.law_written.specs.Whole.{IsWhole}

-- New addresses are names: different blocks have different ones.
abbrev pub NewAddressesAreNames : Type 0
NewAddressesAreNames =
    (bytes : List ℕ) (g : Graph) → IsWritable bytes g → IsCanonical g → IsOneToOne (new_address g (text_of bytes).lo) g

-- the graph that is lifted from the file of a graph that starts text at `lo`, with all procedures of the note
abbrev pub lifted_back : (ℕ → Bool) → Graph → ℕ → Graph
lifted_back is g lo = lifted_with is (graph_notes g lo) (graph_program g lo)

-- Where each word of text is reached, cutting gives the blocks back as they were, with new addresses for names.
abbrev pub WrittenGraphsLiftBack : Type 0
WrittenGraphsLiftBack =
    (bytes : List ℕ) (g : Graph) → IsWritable bytes g → IsCanonical g → IsWhole g → (is : ℕ → Bool)
    → ((x : ℕ) → IsWord (graph_text g (text_of bytes).lo) x → is x ≡ true)
    → lifted_back is g (text_of bytes).lo ≡ renamed (new_address g (text_of bytes).lo) g

-- each graph is the other under other names
pub record AreAlikeBothWays (g h : Graph) : Type 0 where
  pub there : AreAlike g h
  pub back : AreAlike h g

-- So the lifted graph and the graph differ in the names of blocks alone.
abbrev pub LiftedBackIsAlike : Type 0
LiftedBackIsAlike =
    (bytes : List ℕ) (g : Graph) → IsWritable bytes g → IsCanonical g → IsWhole g → (is : ℕ → Bool)
    → ((x : ℕ) → IsWord (graph_text g (text_of bytes).lo) x → is x ≡ true)
    → AreAlikeBothWays (lifted_back is g (text_of bytes).lo) g
