-- Names that a graph has still once the end of a block goes.
use Rattle.std.specs.Prelude.{ℕ, List, [], Option, None, Some}
use Rattle.sq_graph.specs.declared.item.Term.{Term}
use Rattle.sq_graph.specs.Uses.{term_uses}

-- the names that a block's term uses
abbrev pub end_uses : Option Term → List ℕ
end_uses None = []
end_uses (Some term) = term_uses term
