-- The candidates of the rows on windows, and what becomes of a graph by them.
use Rattle.std.specs.Prelude.{◌≤◌}
use Rattle.sq_graph.specs.declared.parts.Room.{Room}
use Rattle.sq_graph.specs.Graph.{Graph}
use Rattle.sq_graph.specs.Room.{no_room}
use Rattle.sq_pass.specs.declared.cut.Cut.{Cut}
use Rattle.sq_pass.specs.declared.cut.Row.{Row}
use Rattle.sq_pass.specs.declared.cut.Row.TheVariants.{U, J1, J2, J3, C, T, O1, O2, O3, O4, W, V, L}
use Rattle.sq_outline.specs.Made.{first_block}
use Rattle.sq_outline.specs.WindowsMade.{IsWindowCut, window_made, room_for_window}
use Rattle.sq_outline.specs.WindowsInside.{IsInsideCut, called_inside}

-- a cut of the row
abbrev pub IsWindowsCutOf : Row → Graph → Cut → Type 0
IsWindowsCutOf W g cut = IsWindowCut g cut
IsWindowsCutOf V g cut = IsInsideCut g cut
IsWindowsCutOf row g cut = ⊥

-- a candidate of the pass
abbrev pub IsWindowsCandidate : Graph → Cut → Type 0
IsWindowsCandidate g cut = IsWindowsCutOf cut.row g cut

-- what a row makes of the graph by a cut
abbrev pub windows_rewritten : Row → Graph → Cut → Graph
windows_rewritten W g cut = window_made g (first_block cut.blocks) cut.other cut.length cut.link
windows_rewritten V g cut = called_inside g (first_block cut.blocks) cut.other cut.procedure
windows_rewritten row g cut = g

abbrev pub windows_described : Graph → Cut → Graph
windows_described g cut = windows_rewritten cut.row g cut

-- what a row needs
abbrev pub windows_room_by : Row → Cut → Room
windows_room_by W cut = room_for_window cut.length
windows_room_by row cut = no_room

abbrev pub windows_room : Graph → Cut → Room
windows_room g cut = windows_room_by cut.row cut

-- a candidate saves a word
saves_by : (row : Row) (g : Graph) (cut : Cut) → IsWindowsCutOf row g cut → 1 ≤ cut.saving
saves_by U g cut none = absurd none
saves_by J1 g cut none = absurd none
saves_by J2 g cut none = absurd none
saves_by J3 g cut none = absurd none
saves_by C g cut none = absurd none
saves_by T g cut none = absurd none
saves_by O1 g cut none = absurd none
saves_by O2 g cut none = absurd none
saves_by O3 g cut none = absurd none
saves_by O4 g cut none = absurd none
saves_by W g cut candidate = candidate.made.some
saves_by V g cut candidate = candidate.called.some
saves_by L g cut none = absurd none

pub windows_save : (g : Graph) (cut : Cut) → IsWindowsCandidate g cut → 1 ≤ cut.saving
windows_save g cut candidate = saves_by cut.row g cut candidate
