-- A cut of the rows on windows that is applied is what its row says.
use Rattle.std.proofs.Common.{List, ap, arith, get_or, length, refl, subst, sym, ℕ, ◌<◌, ◌^◌, ◌∙◌, ◌≡◌, ◌≢◌, ◌≤◌}
use Rattle.sq_graph.specs.Graph.{Graph}
use Rattle.sq_graph.specs.Blocks.{body_of}
use Rattle.sq_graph.specs.Rules.{IsGraph}
use Rattle.sq_graph.specs.Words.{words_of}
use Rattle.law_patch.specs.Calls.{IsMatching}
use Rattle.sq_pass.specs.declared.cut.Cut.{Cut}
use Rattle.sq_pass.specs.declared.cut.Row.{Row}
use Rattle.sq_pass.specs.declared.cut.Row.TheVariants.{U, J1, J2, J3, C, T, O1, O2, O3, O4, W, V, L}
use Rattle.sq_pass.specs.Applied.{IsApplied, IsWithin}
use Rattle.sq_outline.specs.Made.{first_block}
use Rattle.sq_outline.specs.WindowsMade.{IsWindowMade, IsWindowCut, window_made, room_for_window}
use Rattle.sq_outline.specs.WindowsInside.{called_inside, IsInsideCut}
use Rattle.sq_outline.specs.WindowsCandidates.{IsWindowsCutOf, IsWindowsCandidate, windows_rewritten, windows_described}
use Rattle.sq_outline.proofs.Totals.{items_are_words}
use Rattle.sq_outline.proofs.WindowsMaking.{window_applied}
use Rattle.sq_outline.proofs.WindowsCalling.{callable_matches, inside_applied}

pub inside_windows : (g : Graph) (cut : Cut) → IsInsideCut g cut → IsWindowsCandidate g cut
inside_windows g cut candidate = subst (λ (row : Row). IsWindowsCutOf row g cut) (sym (ap (λ (given : Cut). given.row) candidate.is)) candidate

pub inside_of : (g : Graph) (cut : Cut) → IsWindowsCandidate g cut → cut.row ≡ V → IsInsideCut g cut
inside_of g cut candidate row = subst (λ r. IsWindowsCutOf r g cut) row candidate

inside_block : (g : Graph) (cut : Cut) (blocks : List ℕ) → (candidate : IsInsideCut g cut) → blocks ≡ cut.blocks → get_or blocks 0 0 ≡ candidate.block
inside_block g cut blocks candidate same = ap (λ bs. get_or bs 0 0) (same ∙ ap (λ (c : Cut). c.blocks) candidate.is)

pub inside_matching : (g : Graph) (cut : Cut) (blocks : List ℕ) → IsInsideCut g cut → blocks ≡ cut.blocks → IsMatching g (get_or blocks 0 0) cut.other cut.procedure
inside_matching g cut blocks candidate same =
    subst (λ b. IsMatching g b cut.other cut.procedure) (sym (inside_block g cut blocks candidate same)) (callable_matches g candidate.block cut.other cut.procedure candidate.called.callable)

pub inside_some : (g : Graph) (cut : Cut) → IsInsideCut g cut → 1 ≤ length (body_of g cut.procedure)
inside_some g cut candidate = let s = candidate.called.saves in omega arith

pub inside_cut_applied : (g new : Graph) (cut : Cut) (blocks : List ℕ) → IsGraph g → cut.row ≡ V → IsInsideCut g cut → blocks ≡ cut.blocks → new ≡ called_inside g (get_or blocks 0 0) cut.other cut.procedure → IsApplied cut.saving (windows_described g cut) g new
inside_cut_applied g new cut blocks rules row candidate same is =
    let by : ℕ → Graph = λ b. called_inside g b cut.other cut.procedure in
    let applied = inside_applied g candidate.block cut.other cut.procedure cut.saving rules candidate.called in
    let first_is : first_block cut.blocks ≡ candidate.block = ap (λ (c : Cut). first_block c.blocks) candidate.is in
    let at_cut = subst (λ b. IsApplied cut.saving (called_inside g b cut.other cut.procedure) g (called_inside g candidate.block cut.other cut.procedure)) (sym first_is) applied in
    let told = subst (λ r. IsApplied cut.saving (windows_rewritten r g cut) g (called_inside g candidate.block cut.other cut.procedure)) (sym row) at_cut in
    subst (λ h. IsApplied cut.saving (windows_described g cut) g h) (sym (is ∙ ap by (inside_block g cut blocks candidate same))) told

-- ROW W

pub window_of_cut : (g : Graph) (cut : Cut) → IsWindowsCandidate g cut → cut.row ≡ W → IsWindowCut g cut
window_of_cut g cut candidate row = subst (λ r. IsWindowsCutOf r g cut) row candidate

window_block : (g : Graph) (cut : Cut) (blocks : List ℕ) → (candidate : IsWindowCut g cut) → blocks ≡ cut.blocks → get_or blocks 0 0 ≡ candidate.block
window_block g cut blocks candidate same = ap (λ bs. get_or bs 0 0) (same ∙ ap (λ (c : Cut). c.blocks) candidate.is)

pub window_there : (g : Graph) (cut : Cut) (blocks : List ℕ) → IsWindowCut g cut → blocks ≡ cut.blocks → (saving : ℕ) × IsWindowMade g (get_or blocks 0 0) cut.other cut.length cut.link saving
window_there g cut blocks candidate same =
    (cut.saving, subst (λ b. IsWindowMade g b cut.other cut.length cut.link cut.saving) (sym (window_block g cut blocks candidate same)) candidate.made)

pub window_cut_applied : (g new : Graph) (cut : Cut) (blocks : List ℕ) → IsGraph g → cut.row ≡ W → IsWindowCut g cut → blocks ≡ cut.blocks → new ≡ window_made g (get_or blocks 0 0) cut.other cut.length cut.link → IsApplied cut.saving (windows_described g cut) g new
window_cut_applied g new cut blocks rules row candidate same is =
    let by : ℕ → Graph = λ b. window_made g b cut.other cut.length cut.link in
    let applied = window_applied g candidate.block cut.other cut.length cut.link cut.saving rules candidate.made in
    let first_is : first_block cut.blocks ≡ candidate.block = ap (λ (c : Cut). first_block c.blocks) candidate.is in
    let at_cut = subst (λ b. IsApplied cut.saving (window_made g b cut.other cut.length cut.link) g (window_made g candidate.block cut.other cut.length cut.link)) (sym first_is) applied in
    let told = subst (λ r. IsApplied cut.saving (windows_rewritten r g cut) g (window_made g candidate.block cut.other cut.length cut.link)) (sym row) at_cut in
    subst (λ h. IsApplied cut.saving (windows_described g cut) g h) (sym (is ∙ ap by (window_block g cut blocks candidate same))) told

-- the procedure is no more than the graph has words, and there is one
pub window_within : (g : Graph) (cut : Cut) → IsGraph g → words_of g < 2 ^ 31 → IsWindowCut g cut → IsWithin (words_of g) (room_for_window cut.length)
window_within g cut rules few candidate =
    let words = items_are_words g candidate.block in
    let within = candidate.made.within in
    let least = candidate.made.least in
    record { blocks = omega arith; items = omega (arith, words, within); procedures = omega (arith, words, within, least) }

-- there are no others
pub no_window_row : (row : Row) (g : Graph) (cut : Cut) → row ≢ W → row ≢ V → ¬ IsWindowsCutOf row g cut
no_window_row U g cut w v none = none
no_window_row J1 g cut w v none = none
no_window_row J2 g cut w v none = none
no_window_row J3 g cut w v none = none
no_window_row C g cut w v none = none
no_window_row T g cut w v none = none
no_window_row O1 g cut w v none = none
no_window_row O2 g cut w v none = none
no_window_row O3 g cut w v none = none
no_window_row O4 g cut w v none = none
no_window_row W g cut w v candidate = w refl
no_window_row V g cut w v candidate = v refl
no_window_row L g cut w v none = none
