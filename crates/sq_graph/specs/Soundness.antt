-- Soundness of a graph: what makes its procedures fit to be called through their links.
use Rattle.std.specs.Prelude.{◌≡◌, ◌≢◌, ℕ, false, List, [], ◌∷◌, Some, All, slice_get}
use Rattle.sq_isa.specs.Uses.{is_mentioned}
use Rattle.sq_graph.specs.Graph.{Procedure, Graph}
use Rattle.sq_graph.specs.Lines.{Line, Name, Do, Enter, Return, End, lines_of, line_of}
use Rattle.sq_graph.specs.Walks.{IsLive}

-- a line of a body is an item that is no Out and doesn't mention the link
abbrev pub IsFreeOf : ℕ → Line → Type 0
IsFreeOf link (Name n) = ⊥
IsFreeOf link (Do half insn) = is_mentioned insn link ≡ false
IsFreeOf link (Enter procedure) = ⊥
IsFreeOf link (Return r) = ⊥
IsFreeOf link (End term) = ⊥

-- at least one item, no Out, and no mention of the link
pub record IsSoundBody (procedure : Procedure) : Type 0 where
  pub some : procedure.body ≢ []
  pub free : All (λ item. IsFreeOf procedure.link (line_of item)) procedure.body

-- behind each Out of these lines the link of its procedure is dead
abbrev pub LinksDieIn : Graph → List Line → Type 0
LinksDieIn g [] = Unit {0}
LinksDieIn g (Enter procedure ∷ rest) =
    ((p : Procedure) → slice_get g.procedures procedure ≡ Some p → ¬ IsLive g p.link rest) × LinksDieIn g rest
LinksDieIn g (Name n ∷ rest) = LinksDieIn g rest
LinksDieIn g (Do half insn ∷ rest) = LinksDieIn g rest
LinksDieIn g (Return link ∷ rest) = LinksDieIn g rest
LinksDieIn g (End term ∷ rest) = LinksDieIn g rest

-- Each body is sound, and the link of a procedure is dead after each of its calls.
pub record IsSound (g : Graph) : Type 0 where
  pub bodies : All IsSoundBody g.procedures
  pub links_die : LinksDieIn g (lines_of g.blocks)
