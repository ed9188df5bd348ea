-- Blocks that give their uses to the blocks that their terms name, all at once.
use Rattle.std.specs.Prelude.{ℕ, if◌then◌else◌, List, get_or, Option, None, Some}
use Rattle.sq_isa.specs.Registers.{is_among}
use Rattle.sq_graph.specs.declared.item.Term.{Term}
use Rattle.sq_graph.specs.Graph.{Graph}
use Rattle.sq_graph.specs.Blocks.{term_of}
use Rattle.sq_graph.specs.Renames.{retargeted}
use Rattle.sq_graph.specs.Uses.{term_uses}

-- the block that the term names, and `name` where it names none
abbrev pub named_by : ℕ → Option Term → ℕ
named_by name None = name
named_by name (Some term) = get_or (term_uses term) 0 name

-- where the uses of a name go: one of these blocks gives them to the block that its term names
abbrev pub goes_to : Graph → List ℕ → ℕ → ℕ
goes_to g blocks name = if is_among blocks name then named_by name (term_of g name) else name

abbrev pub redirected_each : List ℕ → Graph → Graph
redirected_each blocks g = retargeted (goes_to g blocks) g
