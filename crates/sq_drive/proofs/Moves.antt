-- Moves beside the rows of the passes.
use Rattle.std.specs.Prelude.{IfOk, IfSome}
use Rattle.std.proofs.Common.{◌≡◌, ◌≢◌, ℕ, zero, suc, ◌-◌, ◌≤◌, Result, Ok, Err, Option, Some, None, inl, inr, refl, sym, ap, ◌∙◌, subst, arith}
use Rattle.sq_num.specs.declared.memory.Memory.{Memory}
use Rattle.sq_num.specs.declared.packed.Savings.{Savings}
use Rattle.sq_graph.specs.Alike.{AreAlike}
use Rattle.sq_graph.specs.Canonical.{canonical_of}
use Rattle.sq_graph.specs.Graph.{Graph}
use Rattle.sq_graph.specs.Words.{words_of}
use Rattle.sq_pass.specs.declared.cut.Cut.{Cut}
use Rattle.sq_pass.specs.declared.cut.Row.{Row}
use Rattle.sq_pass.specs.declared.cut.Row.TheVariants.{U, J1, J2, J3, C, T, O1, O2, O3, O4, W, V, L}
use Rattle.sq_pass.specs.declared.rewrite.Rewrite.{Rewrite}
use Rattle.sq_pass.specs.Rewrites.{IsRewrite, IsRewritten}
use Rattle.sq_pass.proofs.Rewriting.{stepped_wider, rewritten_through}
use Rattle.sq_jumps.specs.Candidates.{HasRow, IsCandidate as IsJumpsCandidate, described as jumps_described}
use Rattle.sq_outline.specs.WindowsCandidates.{IsWindowsCandidate, windows_described}
use Rattle.sq_chain.specs.Candidates.{cut_of, IsCandidate as IsMove, described as move_described}
use Rattle.sq_chain.specs.Moves.{moved, IsStill}
use Rattle.sq_drive.specs.declared.rows.RowPass.TheVariants.{Jumps, Tails, Outlines, Windows}
use Rattle.sq_drive.specs.Rows.{pass_of, IsRowCandidate, row_described, IsCandidate, described_by, described, IsLeftoverFree}
use Rattle.sq_drive.proofs.RowPasses.{its_row, swept}

-- WHAT THE ROW OF A CANDIDATE MAKES

pub not_moved : (g : Graph) (cut : Cut) → IsRowCandidate g cut → cut.row ≢ L
not_moved g cut (inl (inl unreached)) is = let same : U ≡ L = sym unreached.row ∙ is in cc
not_moved g cut (inl (inr jump)) is = subst (λ row. HasRow row g jump.block) is jump.has_row
not_moved g cut (inr (inl tail)) is = let same : Jumps ≡ Tails = sym (ap pass_of is) ∙ its_row Tails g cut tail in cc
not_moved g cut (inr (inr (inl outline))) is = let same : Jumps ≡ Outlines = sym (ap pass_of is) ∙ its_row Outlines g cut outline in cc
not_moved g cut (inr (inr (inr window))) is = let same : Jumps ≡ Windows = sym (ap pass_of is) ∙ its_row Windows g cut window in cc

pub row_made : (row : Row) (g : Graph) (cut : Cut) → row ≢ L → described_by row g cut ≡ row_described g cut
row_made U g cut other = refl
row_made J1 g cut other = refl
row_made J2 g cut other = refl
row_made J3 g cut other = refl
row_made C g cut other = refl
row_made T g cut other = refl
row_made O1 g cut other = refl
row_made O2 g cut other = refl
row_made O3 g cut other = refl
row_made O4 g cut other = refl
row_made W g cut other = refl
row_made V g cut other = refl
row_made L g cut other = absurd (other refl)

pub move_made : (g : Graph) (cut : Cut) → IsMove g cut → described g cut ≡ move_described g cut
move_made g cut move = ap (λ row. described_by row g cut) (ap (λ (c : Cut). c.row) move.is)

-- REWRITES

pub row_rewrite : (done : Rewrite) (old new : Graph) → IsRewrite IsRowCandidate row_described done old new → IsRewrite IsCandidate described done old new
row_rewrite done old new rewrite = record {
  cut = rewrite.cut;
  candidate = inl rewrite.candidate;
  row = rewrite.row;
  saving = rewrite.saving;
  is = subst (λ (g : Graph). AreAlike (canonical_of g) new) (sym (row_made rewrite.cut.row old rewrite.cut (not_moved old rewrite.cut rewrite.candidate))) rewrite.is;
}

-- a move is a rewrite by all rows
pub move_rewrite : (done : Rewrite) (old new : Graph) → IsRewrite IsMove move_described done old new → IsRewrite IsCandidate described done old new
move_rewrite done old new rewrite = record {
  cut = rewrite.cut;
  candidate = inr rewrite.candidate;
  row = rewrite.row;
  saving = rewrite.saving;
  is = subst (λ (g : Graph). AreAlike (canonical_of g) new) (sym (move_made old rewrite.cut rewrite.candidate)) rewrite.is;
}

-- rewrites by the rows of the passes are rewrites by all rows
pub by_rows : (before after : Savings) (old new : Graph) → IsRewritten IsRowCandidate row_described before after old new → IsRewritten IsCandidate described before after old new
by_rows = stepped_wider (IsRewrite IsRowCandidate row_described) (IsRewrite IsCandidate described) row_rewrite

pub by_moves : (before after : Savings) (old new : Graph) → IsRewritten IsMove move_described before after old new → IsRewritten IsCandidate described before after old new
by_moves = stepped_wider (IsRewrite IsMove move_described) (IsRewrite IsCandidate described) move_rewrite

pub by_windows : (before after : Savings) (old new : Graph) → IsRewritten IsWindowsCandidate windows_described before after old new → IsRewritten IsCandidate described before after old new
by_windows before after old new made = by_rows before after old new (swept Windows before after old new made)

pub by_jumps : (before after : Savings) (old new : Graph) → IsRewritten IsJumpsCandidate jumps_described before after old new → IsRewritten IsCandidate described before after old new
by_jumps before after old new made = by_rows before after old new (swept Jumps before after old new made)

-- so where they are made, if they are
pub made_by_all : (is : Graph → Cut → Type 0) (its : Graph → Cut → Graph) → ((before after : Savings) (old new : Graph) → IsRewritten is its before after old new → IsRewritten IsCandidate described before after old new) → (before : Savings) (old new : Graph) (r : Result Savings Memory) → IfOk r (λ after. IsRewritten is its before after old new) → IfOk r (λ after. IsRewritten IsCandidate described before after old new)
made_by_all is its by before old new (Ok after) made = by before after old new made
made_by_all is its by before old new (Err error) made = tt

-- so where some are made of the same graph, if they are
pub some_by_all : (is : Graph → Cut → Type 0) (its : Graph → Cut → Graph) → ((before after : Savings) (old new : Graph) → IsRewritten is its before after old new → IsRewritten IsCandidate described before after old new) → (before : Savings) (old same new : Graph) (r : Result (Option Savings) Memory) → same ≡ old → IfOk r (λ done. IfSome done (λ after. IsRewritten is its before after same new)) → IfOk r (λ done. IfSome done (λ after. IsRewritten IsCandidate described before after old new))
some_by_all is its by before old same new (Ok (Some after)) e made = by before after old new (subst (λ (g : Graph). IsRewritten is its before after g new) e made)
some_by_all is its by before old same new (Ok None) e made = tt
some_by_all is its by before old same new (Err error) e made = tt

-- rewrites by all rows, by those of the passes, and by all rows twice more
pub rewritten_on_late : (s0 s1 s2 s3 s4 : Savings) (g0 g1 g2 g3 g4 : Graph) → IsRewritten IsCandidate described s0 s1 g0 g1 → IsRewritten IsRowCandidate row_described s1 s2 g1 g2 → IsRewritten IsCandidate described s2 s3 g2 g3 → IsRewritten IsCandidate described s3 s4 g3 g4 → IsRewritten IsCandidate described s0 s4 g0 g4
rewritten_on_late s0 s1 s2 s3 s4 g0 g1 g2 g3 g4 first rows late last =
    let settled = rewritten_through IsCandidate described s0 s1 s2 g0 g1 g2 first (by_rows s1 s2 g1 g2 rows) in
    rewritten_through IsCandidate described s0 s3 s4 g0 g3 g4 (rewritten_through IsCandidate described s0 s2 s3 g0 g2 g3 settled late) last

-- WHERE NO CANDIDATE IS LEFT

pub none_left : (g : Graph) → ((cut : Cut) → ¬ IsRowCandidate g cut) → ((cut : Cut) → ¬ IsMove g cut) → IsLeftoverFree g
none_left g rows moves cut (inl row) = rows cut row
none_left g rows moves cut (inr move) = moves cut move

-- the graph is still: a move after which the words are fewer would be a candidate
pub leftover_free_is_still : (g : Graph) → IsLeftoverFree g → IsStill g
leftover_free_is_still g none from to movable = by_saving (words_of g - words_of (moved g from to)) refl
  where
    by_saving : (n : ℕ) → words_of g - words_of (moved g from to) ≡ n → words_of g ≤ words_of (moved g from to)
    by_saving zero e = omega (arith, e)
    by_saving (suc n) e =
        absurd (none (cut_of from to (suc n)) (inr (record { from = from; to = to; movable = movable; words = omega (arith, e); some = omega arith; is = refl })))
