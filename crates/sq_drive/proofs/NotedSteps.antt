-- A candidate is what its step tells.
use Rattle.std.proofs.Common.{◌≡◌, ℕ, ◌<◌, ◌≤◌, inl, inr, refl, sym, subst, arith}
use Rattle.sq_graph.specs.Alike.{AreAlike}
use Rattle.sq_graph.specs.Canonical.{canonical_of}
use Rattle.sq_graph.specs.Graph.{Graph}
use Rattle.sq_graph.specs.Slotted.{slotted}
use Rattle.sq_graph.specs.Words.{words_of}
use Rattle.sq_graph.proofs.AlikeGraphs.{alike_through}
use Rattle.sq_graph.proofs.Slotting.{slotted_alike}
use Rattle.sq_pass.specs.declared.cut.Cut.{Cut}
use Rattle.sq_pass.specs.declared.cut.Row.{Row}
use Rattle.sq_pass.specs.declared.cut.Row.TheVariants.{J1, J2, J3, C, O1, O2, O3, O4, W, V, L as row_is_L}
use Rattle.sq_pass.specs.Applied.{IsApplied}
use Rattle.sq_pass.specs.Cuts.{IsCompleted}
use Rattle.sq_pass.specs.declared.rewrite.Rewrite.{Rewrite}
use Rattle.sq_pass.specs.Rewrites.{IsLighter, IsRewrite}
use Rattle.sq_pass.proofs.Rewriting.{lighter_made, rewrite_made}
use Rattle.sq_jumps.specs.Candidates.{HasRow, cut_at, IsUnreachedCut}
use Rattle.sq_outline.specs.Candidates.{IsCutOf}
use Rattle.sq_outline.specs.WindowsCandidates.{IsWindowsCutOf}
use Rattle.sq_cert.specs.declared.step.Step.TheVariants.{L}
use Rattle.sq_chain.specs.Candidates.{cut_of as chain_cut, IsCandidate as IsMove, described as move_described, IsMoved}
use Rattle.sq_chain.specs.Moves.{IsStill}
use Rattle.sq_drive.specs.Noting.{told, step_of}
use Rattle.sq_drive.specs.Replay.{cut_of, IsStep}
use Rattle.sq_drive.specs.Rows.{IsRowCandidate, row_described, IsCandidate, described, IsLeftoverFree}
use Rattle.sq_drive.proofs.Moves.{row_rewrite, move_rewrite}
use Rattle.sq_drive.proofs.Replays.{row_taken, move_taken, move_candidate}

-- the step of this row tells the cut
abbrev Tells : Graph → Row → Cut → Type 0
Tells g row cut = IsCompleted (cut_of g (told row cut)) cut

-- its own step does
abbrev pub IsTold : Graph → Cut → Type 0
IsTold g cut = Tells g cut.row cut

jump_told : (row : Row) (g : Graph) (block : ℕ) → HasRow row g block → IsTold g (cut_at row block)
jump_told J1 g block has = record { row = refl; blocks = λ other. refl; procedure = refl; other = refl; length = refl }
jump_told J2 g block has = record { row = refl; blocks = λ other. refl; procedure = refl; other = refl; length = refl }
jump_told J3 g block has = record { row = refl; blocks = λ other. refl; procedure = refl; other = refl; length = refl }
jump_told C g block has = record { row = refl; blocks = λ other. refl; procedure = refl; other = refl; length = refl }
jump_told row g block none = absurd none

unreached_told : (g : Graph) (cut : Cut) → IsUnreachedCut g cut → IsTold g cut
unreached_told g cut unreached =
    subst (λ row. Tells g row cut) (sym unreached.row)
    (record { row = unreached.row; blocks = λ other. absurd (other refl); procedure = unreached.procedure; other = unreached.other; length = unreached.length })

outline_told : (row : Row) (g : Graph) (cut : Cut) → IsCutOf row g cut → IsTold g cut
outline_told O1 g cut made = subst (IsTold g) (sym made.is) (record { row = refl; blocks = λ other. refl; procedure = refl; other = refl; length = refl })
outline_told O2 g cut called = subst (IsTold g) (sym called.is) (record { row = refl; blocks = λ other. refl; procedure = refl; other = refl; length = refl })
outline_told O3 g cut recalled = subst (IsTold g) (sym recalled.is) (record { row = refl; blocks = λ other. refl; procedure = refl; other = refl; length = refl })
outline_told O4 g cut inlined = subst (IsTold g) (sym inlined.is) (record { row = refl; blocks = λ other. refl; procedure = refl; other = refl; length = refl })
outline_told row g cut none = absurd none

window_told : (row : Row) (g : Graph) (cut : Cut) → IsWindowsCutOf row g cut → IsTold g cut
window_told W g cut window = subst (IsTold g) (sym window.is) (record { row = refl; blocks = λ other. refl; procedure = refl; other = refl; length = refl })
window_told V g cut inside = subst (IsTold g) (sym inside.is) (record { row = refl; blocks = λ other. refl; procedure = refl; other = refl; length = refl })
window_told row g cut none = absurd none

pub row_told : (g : Graph) (cut : Cut) → IsRowCandidate g cut → IsTold g cut
row_told g cut (inl (inl unreached)) = unreached_told g cut unreached
row_told g cut (inl (inr jump)) = subst (IsTold g) (sym jump.is) (jump_told cut.row g jump.block jump.has_row)
row_told g cut (inr (inl (inl tail))) = subst (IsTold g) (sym tail.is) (record { row = refl; blocks = λ other. refl; procedure = refl; other = refl; length = refl })
row_told g cut (inr (inl (inr body))) = subst (IsTold g) (sym body.is) (record { row = refl; blocks = λ other. refl; procedure = refl; other = refl; length = refl })
row_told g cut (inr (inr (inl outline))) = outline_told cut.row g cut outline
row_told g cut (inr (inr (inr window))) = window_told cut.row g cut window

-- a candidate that is applied is its step
pub row_stepped : (cut : Cut) (old mid new : Graph) → IsRowCandidate old cut → IsApplied cut.saving (row_described old cut) old mid → new ≡ slotted (canonical_of mid) → IsStep (step_of cut) old new
row_stepped cut old mid new candidate applied tidied = row_taken (cut_of old (step_of cut)) cut old mid new (row_told old cut candidate) candidate applied tidied

-- so is a chain that is moved
pub move_stepped : (from to : ℕ) (old mid new : Graph) → IsMoved from to old mid → new ≡ slotted (canonical_of mid) → IsStep (L from to) old new
move_stepped from to old mid new moved tidied = move_taken from to old mid new moved tidied

-- it is a rewrite, also where the blocks of the graph that is left are named by their places
named_rewrite : (done : Rewrite) (old mid new : Graph) → IsRewrite IsCandidate described done old mid → new ≡ slotted mid → IsRewrite IsCandidate described done old new
named_rewrite done old mid new r named = record {
  cut = r.cut;
  candidate = r.candidate;
  row = r.row;
  saving = r.saving;
  is = subst (AreAlike (canonical_of (described old r.cut))) (sym named) (alike_through (canonical_of (described old r.cut)) mid (slotted mid) r.is (slotted_alike mid));
}

pub row_rewritten : (cut : Cut) (old mid new : Graph) → IsRowCandidate old cut → IsApplied cut.saving (row_described old cut) old mid → new ≡ slotted (canonical_of mid) → IsRewrite IsCandidate described (record { row = cut.row; saving = cut.saving }) old new
row_rewritten cut old mid new candidate applied tidied =
    let done : Rewrite = record { row = cut.row; saving = cut.saving } in
    named_rewrite done old (canonical_of mid) new (row_rewrite done old (canonical_of mid) (rewrite_made IsRowCandidate row_described cut old mid (canonical_of mid) candidate applied refl)) tidied

pub move_rewritten : (from to : ℕ) (old mid new : Graph) (m : IsMoved from to old mid) → new ≡ slotted (canonical_of mid) → IsRewrite IsCandidate described (record { row = row_is_L; saving = m.saving }) old new
move_rewritten from to old mid new m tidied =
    let done : Rewrite = record { row = row_is_L; saving = m.saving } in
    named_rewrite done old (canonical_of mid) new (move_rewrite done old (canonical_of mid) (rewrite_made IsMove move_described (chain_cut from to m.saving) old mid (canonical_of mid) (move_candidate from to old mid m) m.applied refl)) tidied

-- words are saved
pub fewer_by : (saving : ℕ) (made old mid new : Graph) → IsApplied saving made old mid → IsLighter 0 mid new → 1 ≤ saving → words_of new < words_of old
fewer_by saving made old mid new applied tidied some = omega (arith, (lighter_made saving made old mid new applied tidied).words, some)

-- where no row and no move is left
pub nothing_left : (g : Graph) → ((cut : Cut) → ¬ IsRowCandidate g cut) → IsStill g → IsLeftoverFree g
nothing_left g rows still cut (inl row) = rows cut row
nothing_left g rows still cut (inr move) = omega (arith, still move.from move.to move.movable, move.words, move.some)
