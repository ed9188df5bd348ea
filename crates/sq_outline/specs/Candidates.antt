-- The candidates of the rows on procedures, and what becomes of a graph by them.
use Rattle.std.specs.Prelude.{◌≤◌, length}
use Rattle.std.proofs.Common.{subst, sym}
use Rattle.std.proofs.Math.Nat.{le-add_left}
use Rattle.sq_graph.specs.declared.parts.Room.{Room}
use Rattle.sq_graph.specs.Graph.{Graph}
use Rattle.sq_graph.specs.Blocks.{body_of}
use Rattle.sq_graph.specs.Room.{no_room}
use Rattle.sq_pass.specs.declared.cut.Cut.{Cut}
use Rattle.sq_pass.specs.declared.cut.Row.{Row}
use Rattle.sq_pass.specs.declared.cut.Row.TheVariants.{U, J1, J2, J3, C, T, O1, O2, O3, O4, W, V, L}
use Rattle.sq_outline.specs.Made.{IsMadeCut, first_block, made, room_to_make}
use Rattle.sq_outline.specs.Called.{IsCalledCut, called}
use Rattle.sq_outline.specs.Recalled.{IsRecalled, without_double}
use Rattle.sq_outline.specs.Inlined.{IsInlined, inlined_all}
use Rattle.sq_outline.specs.InlineSteps.{inline_room}

-- a cut of the row
abbrev pub IsCutOf : Row → Graph → Cut → Type 0
IsCutOf O1 g cut = IsMadeCut g cut
IsCutOf O2 g cut = IsCalledCut g cut
IsCutOf O3 g cut = IsRecalled g cut
IsCutOf O4 g cut = IsInlined g cut
IsCutOf row g cut = ⊥

-- a candidate of the pass
abbrev pub IsCandidate : Graph → Cut → Type 0
IsCandidate g cut = IsCutOf cut.row g cut

-- what a row makes of the graph by a cut
abbrev pub rewritten : Row → Graph → Cut → Graph
rewritten O1 g cut = made g (first_block cut.blocks) cut.blocks cut.link
rewritten O2 g cut = called g (first_block cut.blocks) cut.procedure
rewritten O3 g cut = without_double g cut.procedure cut.other
rewritten O4 g cut = inlined_all g cut.procedure
rewritten row g cut = g

abbrev pub described : Graph → Cut → Graph
described g cut = rewritten cut.row g cut

-- what a row needs
abbrev pub room_by : Row → Graph → Cut → Room
room_by O1 g cut = room_to_make g (first_block cut.blocks)
room_by O4 g cut = inline_room g cut.procedure
room_by row g cut = no_room

abbrev pub room_for : Graph → Cut → Room
room_for g cut = room_by cut.row g cut

-- a candidate saves a word
saves_by : (row : Row) (g : Graph) (cut : Cut) → IsCutOf row g cut → 1 ≤ cut.saving
saves_by U g cut none = absurd none
saves_by J1 g cut none = absurd none
saves_by J2 g cut none = absurd none
saves_by J3 g cut none = absurd none
saves_by C g cut none = absurd none
saves_by T g cut none = absurd none
saves_by O1 g cut candidate = candidate.made.some
saves_by O2 g cut candidate = candidate.called.some
saves_by O3 g cut candidate =
    subst (λ (given : Cut). 1 ≤ given.saving) (sym candidate.is) (le-add_left 1 (length (body_of g candidate.goes)))
saves_by O4 g cut candidate = subst (λ (given : Cut). 1 ≤ given.saving) (sym candidate.is) candidate.inlinable.some
saves_by W g cut none = absurd none
saves_by V g cut none = absurd none
saves_by L g cut none = absurd none

pub saves_a_word : (g : Graph) (cut : Cut) → IsCandidate g cut → 1 ≤ cut.saving
saves_a_word g cut candidate = saves_by cut.row g cut candidate
