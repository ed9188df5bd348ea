-- The cost rule: the candidates of all rows, and what becomes of a graph by them. A pass to come takes its
-- place here, and no layer above changes.
use Rattle.std.specs.Prelude.{◌≤◌, ◌⊎◌}
use Rattle.std.proofs.Common.{inl, inr}
use Rattle.sq_graph.specs.declared.parts.Room.{Room}
use Rattle.sq_graph.specs.Graph.{Graph}
use Rattle.sq_graph.specs.Room.{no_room}
use Rattle.sq_pass.specs.declared.cut.Cut.{Cut}
use Rattle.sq_pass.specs.declared.cut.Row.{Row}
use Rattle.sq_pass.specs.declared.cut.Row.TheVariants.{T, O1, O2, O3, O4, W, V, L}
use Rattle.sq_jumps.specs.Candidates.{IsCandidate as IsJumpsCandidate, described as jumps_described, saves_a_word as jumps_save}
use Rattle.sq_tail.specs.Candidates.{IsCandidate as IsTailsCandidate, described as tails_described, one_block, saves_a_word as tails_save}
use Rattle.sq_outline.specs.Candidates.{IsCandidate as IsOutlinesCandidate, described as outlines_described, room_for as outlines_room, saves_a_word as outlines_save}
use Rattle.sq_outline.specs.WindowsCandidates.{IsWindowsCandidate, windows_described, windows_room, windows_save}
use Rattle.sq_chain.specs.Candidates.{IsCandidate as IsMove, described as move_described}
use Rattle.sq_drive.specs.declared.rows.RowPass.{RowPass}
use Rattle.sq_drive.specs.declared.rows.RowPass.TheVariants.{Jumps, Tails, Outlines, Windows}

-- THE PASSES

-- which pass has a row. A row that none has counts with the first one, which has no candidate of it
abbrev pub pass_of : Row → RowPass
pass_of T = Tails
pass_of O1 = Outlines
pass_of O2 = Outlines
pass_of O3 = Outlines
pass_of O4 = Outlines
pass_of W = Windows
pass_of V = Windows
pass_of row = Jumps

-- the candidates of a pass
abbrev pub IsCandidateOf : RowPass → Graph → Cut → Type 0
IsCandidateOf Jumps g cut = IsJumpsCandidate g cut
IsCandidateOf Tails g cut = IsTailsCandidate g cut
IsCandidateOf Outlines g cut = IsOutlinesCandidate g cut
IsCandidateOf Windows g cut = IsWindowsCandidate g cut

-- what a pass makes of the graph by a candidate
abbrev pub described_of : RowPass → Graph → Cut → Graph
described_of Jumps g cut = jumps_described g cut
described_of Tails g cut = tails_described g cut
described_of Outlines g cut = outlines_described g cut
described_of Windows g cut = windows_described g cut

-- what applying a candidate of a pass needs
abbrev pub room_of : RowPass → Graph → Cut → Room
room_of Jumps g cut = no_room
room_of Tails g cut = one_block
room_of Outlines g cut = outlines_room g cut
room_of Windows g cut = windows_room g cut

-- ALL ROWS

-- a candidate of a pass before windows: of U, J1, J2, J3 and C; of T; of O1, O2, O3 and O4
abbrev pub IsEarlierCandidate : Graph → Cut → Type 0
IsEarlierCandidate g cut = IsCandidateOf Jumps g cut ⊎ (IsCandidateOf Tails g cut ⊎ IsCandidateOf Outlines g cut)

-- a candidate of a pass: of one of these, or of W and V
abbrev pub IsRowCandidate : Graph → Cut → Type 0
IsRowCandidate g cut = IsCandidateOf Jumps g cut ⊎ (IsCandidateOf Tails g cut ⊎ (IsCandidateOf Outlines g cut ⊎ IsCandidateOf Windows g cut))

-- what the row of a candidate makes of the graph
abbrev pub row_described : Graph → Cut → Graph
row_described g cut = described_of (pass_of cut.row) g cut

-- what the row of a candidate needs
abbrev pub row_room : Graph → Cut → Room
row_room g cut = room_of (pass_of cut.row) g cut

-- a candidate saves a word
abbrev pub row_saves : (g : Graph) (cut : Cut) → IsRowCandidate g cut → 1 ≤ cut.saving
row_saves g cut (inl jumps) = jumps_save g cut jumps
row_saves g cut (inr (inl tails)) = tails_save g cut tails
row_saves g cut (inr (inr (inl outlines))) = outlines_save g cut outlines
row_saves g cut (inr (inr (inr windows))) = windows_save g cut windows

-- THE COST RULE

-- a candidate of any row: of a pass, or of row L
abbrev pub IsCandidate : Graph → Cut → Type 0
IsCandidate g cut = IsRowCandidate g cut ⊎ IsMove g cut

-- what its row makes of the graph
abbrev pub described_by : Row → Graph → Cut → Graph
described_by L g cut = move_described g cut
described_by row g cut = row_described g cut

abbrev pub described : Graph → Cut → Graph
described g cut = described_by cut.row g cut

-- it saves a word
abbrev pub saves_a_word : (g : Graph) (cut : Cut) → IsCandidate g cut → 1 ≤ cut.saving
saves_a_word g cut (inl candidate) = row_saves g cut candidate
saves_a_word g cut (inr move) = move.some

-- no row has a candidate
abbrev pub IsLeftoverFree : Graph → Type 0
IsLeftoverFree g = (cut : Cut) → ¬ IsCandidate g cut
