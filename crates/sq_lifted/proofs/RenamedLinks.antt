-- Behind the calls of a procedure its link is dead under other names of blocks where it was.
use Rattle.std.proofs.Common.{ℕ, List, [], ◌∷◌, refl, sym, subst}
use Rattle.sq_graph.specs.Alike.{IsOneToOne}
use Rattle.sq_graph.specs.Graph.{Graph}
use Rattle.sq_graph.specs.Lines.{Line, Name, Do, Enter, Return, End, lines_of}
use Rattle.sq_graph.specs.Renames.{renamed}
use Rattle.sq_graph.specs.Rules.{IsGraph}
use Rattle.sq_graph.proofs.RenamedLives.{named_lines, lines_are, Known, known, lives_on, lived}
use Rattle.law_program.specs.FilePrograms.{LinkDies}

module _ (f : ℕ → ℕ) (g : Graph) (rules : IsGraph g) (apart : IsOneToOne f g) where
  abbrev other : Graph
  other = renamed f g

  pub dies_on : (q link : ℕ) (lines : List Line) → Known f g rules apart lines → LinkDies g q link lines → LinkDies other q link (named_lines f lines)
  dies_on q link [] k h = tt
  dies_on q link (Name n ∷ rest) k h = dies_on q link rest k.1 h
  dies_on q link (Do half insn ∷ rest) k h = dies_on q link rest k.1 h
  dies_on q link (Return r ∷ rest) k h = dies_on q link rest k.1 h
  dies_on q link (End term ∷ rest) k h = dies_on q link rest k.1 h
  dies_on q link (Enter procedure ∷ rest) k h = (λ e live. h.0 e (lived f g rules apart live rest refl k.1), dies_on q link rest k.1 h.1)

  pub died : (q link : ℕ) (lines : List Line) → Known f g rules apart lines → LinkDies other q link (named_lines f lines) → LinkDies g q link lines
  died q link [] k h = tt
  died q link (Name n ∷ rest) k h = died q link rest k.1 h
  died q link (Do half insn ∷ rest) k h = died q link rest k.1 h
  died q link (Return r ∷ rest) k h = died q link rest k.1 h
  died q link (End term ∷ rest) k h = died q link rest k.1 h
  died q link (Enter procedure ∷ rest) k h = (λ e live. h.0 e (lives_on f g rules apart live k.1), died q link rest k.1 h.1)

  -- the same of all lines
  pub all_die : (q link : ℕ) → LinkDies g q link (lines_of g.blocks) → LinkDies other q link (lines_of other.blocks)
  all_die q link h = subst (LinkDies other q link) (sym (lines_are f g.blocks)) (dies_on q link (lines_of g.blocks) (known f g rules apart) h)

  pub all_died : (q link : ℕ) → LinkDies other q link (lines_of other.blocks) → LinkDies g q link (lines_of g.blocks)
  all_died q link h = died q link (lines_of g.blocks) (known f g rules apart) (subst (LinkDies other q link) (lines_are f g.blocks) h)
