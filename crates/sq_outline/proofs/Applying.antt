-- A cut that is applied is what its row says.
use Rattle.std.proofs.Common.{◌≡◌, ◌≢◌, ℕ, ◌≤◌, List, ◌∷◌, get_or, refl, sym, ap, ◌∙◌, subst, arith}
use Rattle.sq_graph.specs.Graph.{Graph}
use Rattle.sq_graph.specs.Rules.{IsGraph}
use Rattle.sq_graph.specs.Words.{words_of}
use Rattle.sq_graph.specs.Blocks.{HasProcedure}
use Rattle.sq_graph.specs.Room.{GraphAndRoom, Covers}
use Rattle.law_patch.proofs.Saving.{uncalled_goes_saves}
use Rattle.law_patch.specs.Calls.{IsMatching}
use Rattle.sq_pass.specs.declared.cut.Cut.{Cut}
use Rattle.sq_pass.specs.declared.cut.Row.{Row}
use Rattle.sq_pass.specs.declared.cut.Row.TheVariants.{U, J1, J2, J3, C, T, O1, O2, O3, O4, W, V, L}
use Rattle.sq_pass.specs.Applied.{IsApplied, IsWithin}
use Rattle.sq_outline.specs.Made.{IsMadeCut, first_block, made}
use Rattle.sq_outline.specs.Called.{IsCalledCut, called}
use Rattle.sq_outline.specs.Candidates.{IsCutOf, IsCandidate, rewritten, described, room_by, room_for}
use Rattle.sq_outline.specs.Inlined.{IsInlinable, IsInlined, inlined_all}
use Rattle.sq_outline.specs.InlineSteps.{HasRoom, inline_room}
use Rattle.sq_outline.proofs.Making.{made_applied}
use Rattle.sq_outline.proofs.Calling.{is_matching, called_applied}

pub made_of : (g : Graph) (cut : Cut) → IsCandidate g cut → cut.row ≡ O1 → IsMadeCut g cut
made_of g cut candidate row = subst (λ r. IsCutOf r g cut) row candidate

pub called_of : (g : Graph) (cut : Cut) → IsCandidate g cut → cut.row ≡ O2 → IsCalledCut g cut
called_of g cut candidate row = subst (λ r. IsCutOf r g cut) row candidate

pub make_cut_applied : (g new : Graph) (cut : Cut) (blocks : List ℕ) → IsGraph g → cut.row ≡ O1 → IsMadeCut g cut → blocks ≡ cut.blocks → new ≡ made g (first_block blocks) blocks cut.link → IsApplied cut.saving (described g cut) g new
make_cut_applied g new cut blocks rules row candidate same is =
    let by : List ℕ → Graph = λ bs. made g (first_block bs) bs cut.link in
    let applied = made_applied g candidate.first candidate.others cut.link cut.saving rules candidate.made in
    let are : cut.blocks ≡ candidate.first ∷ candidate.others = ap (λ (c : Cut). c.blocks) candidate.is in
    let at_cut = subst (λ bs. IsApplied cut.saving (made g (first_block bs) bs cut.link) g (made g (first_block bs) bs cut.link)) (sym are) applied in
    let told = subst (λ r. IsApplied cut.saving (rewritten r g cut) g (made g (first_block cut.blocks) cut.blocks cut.link)) (sym row) at_cut in
    subst (λ h. IsApplied cut.saving (described g cut) g h) (sym (is ∙ ap by same)) told

-- the block of a call
pub call_block : (g : Graph) (cut : Cut) (blocks : List ℕ) → (candidate : IsCalledCut g cut) → blocks ≡ cut.blocks → get_or blocks 0 0 ≡ candidate.block
call_block g cut blocks candidate same = ap (λ bs. get_or bs 0 0) (same ∙ ap (λ (c : Cut). c.blocks) candidate.is)

pub call_matching : (g : Graph) (cut : Cut) (blocks : List ℕ) → IsGraph g → IsCalledCut g cut → blocks ≡ cut.blocks → IsMatching g (get_or blocks 0 0) 0 cut.procedure
call_matching g cut blocks rules candidate same =
    subst (λ b. IsMatching g b 0 cut.procedure) (sym (call_block g cut blocks candidate same)) (is_matching g candidate.block cut.procedure cut.saving rules candidate.called)

pub call_cut_applied : (g new : Graph) (cut : Cut) (blocks : List ℕ) → IsGraph g → cut.row ≡ O2 → IsCalledCut g cut → blocks ≡ cut.blocks → new ≡ called g (get_or blocks 0 0) cut.procedure → IsApplied cut.saving (described g cut) g new
call_cut_applied g new cut blocks rules row candidate same is =
    let by : ℕ → Graph = λ b. called g b cut.procedure in
    let applied = called_applied g candidate.block cut.procedure cut.saving rules candidate.called in
    let first_is : first_block cut.blocks ≡ candidate.block = ap (λ (c : Cut). first_block c.blocks) candidate.is in
    let at_cut = subst (λ b. IsApplied cut.saving (called g b cut.procedure) g (called g candidate.block cut.procedure)) (sym first_is) applied in
    let told = subst (λ r. IsApplied cut.saving (rewritten r g cut) g (called g candidate.block cut.procedure)) (sym row) at_cut in
    subst (λ h. IsApplied cut.saving (described g cut) g h) (sym (is ∙ ap by (call_block g cut blocks candidate same))) told

-- a graph in which a word is saved has one
pub made_words : (g : Graph) (cut : Cut) → IsGraph g → IsMadeCut g cut → 1 ≤ words_of g
made_words g cut rules candidate =
    let words = (made_applied g candidate.first candidate.others cut.link cut.saving rules candidate.made).words in
    let some = candidate.made.some in
    omega arith

-- O4

pub inlined_of : (g : Graph) (cut : Cut) → IsCandidate g cut → cut.row ≡ O4 → IsInlined g cut
inlined_of g cut candidate row = subst (λ r. IsCutOf r g cut) row candidate

inline_at_cut : (g : Graph) (cut : Cut) → IsInlined g cut → IsInlinable g cut.procedure cut.saving
inline_at_cut g cut candidate =
    subst (λ (given : Cut). IsInlinable g given.procedure given.saving) (sym candidate.is) candidate.inlinable

pub inline_there : (g : Graph) (cut : Cut) → IsInlined g cut → HasProcedure g cut.procedure
inline_there g cut candidate = let can = inline_at_cut g cut candidate in can.there

pub inline_has_room : (v : GraphAndRoom) (cut : Cut) → cut.row ≡ O4 → IsInlined v.graph cut → Covers v.spare (room_for v.graph cut) → HasRoom cut.procedure v
inline_has_room v cut row candidate covers =
    let can = inline_at_cut v.graph cut candidate in
    let room = subst (λ r. Covers v.spare (room_by r v.graph cut)) row covers in
    let items = room.items in
    let saved = can.saved in
    let some = can.some in
    omega arith

pub inline_within : (g : Graph) (cut : Cut) → IsInlined g cut → IsWithin (words_of g) (inline_room g cut.procedure)
inline_within g cut candidate =
    let words = uncalled_goes_saves g cut.procedure (inline_there g cut candidate) in
    record { blocks = omega arith; items = omega arith; procedures = omega arith }

pub inline_cut_applied : (g new : Graph) (cut : Cut) → cut.row ≡ O4 → IsInlined g cut → ((saving : ℕ) → IsInlinable g cut.procedure saving → IsApplied saving (inlined_all g cut.procedure) g new) → IsApplied cut.saving (described g cut) g new
inline_cut_applied g new cut row candidate applied =
    subst (λ r. IsApplied cut.saving (rewritten r g cut) g new) (sym row) (applied cut.saving (inline_at_cut g cut candidate))

-- there are no others
pub other_row : (row : Row) (g : Graph) (cut : Cut) → row ≢ O1 → row ≢ O2 → row ≢ O3 → row ≢ O4 → ¬ IsCutOf row g cut
other_row U g cut a b c d none = none
other_row J1 g cut a b c d none = none
other_row J2 g cut a b c d none = none
other_row J3 g cut a b c d none = none
other_row C g cut a b c d none = none
other_row T g cut a b c d none = none
other_row O1 g cut a b c d candidate = a refl
other_row O2 g cut a b c d candidate = b refl
other_row O3 g cut a b c d candidate = c refl
other_row O4 g cut a b c d candidate = d refl
other_row W g cut a b c d none = none
other_row V g cut a b c d none = none
other_row L g cut a b c d none = none
