-- The candidates of each row are those of its pass. A pass to come gets its clause in each of the first three lemmas.
use Rattle.std.proofs.Common.{◌≡◌, ℕ, Result, Ok, Err, inl, inr, refl, sym, ap, subst}
use Rattle.std.specs.Prelude.{IfOk}
use Rattle.sq_num.specs.declared.memory.Memory.{Memory}
use Rattle.sq_num.specs.declared.packed.Savings.{Savings}
use Rattle.sq_graph.specs.Alike.{AreAlike}
use Rattle.sq_graph.specs.Canonical.{canonical_of}
use Rattle.sq_graph.specs.Graph.{Graph}
use Rattle.sq_pass.specs.Rewrites.{IsRewrite, IsRewritten}
use Rattle.sq_pass.specs.declared.cut.Cut.{Cut}
use Rattle.sq_pass.specs.declared.cut.Row.{Row}
use Rattle.sq_pass.specs.declared.cut.Row.TheVariants.{T, O1, O2, O3, O4, W, V}
use Rattle.sq_pass.specs.declared.rewrite.Rewrite.{Rewrite}
use Rattle.sq_pass.proofs.Rewriting.{stepped_wider, rewritten_through}
use Rattle.sq_jumps.specs.Candidates.{HasRow}
use Rattle.sq_outline.specs.Candidates.{IsCutOf}
use Rattle.sq_outline.specs.WindowsCandidates.{IsWindowsCutOf}
use Rattle.sq_drive.specs.declared.rows.RowPass.{RowPass}
use Rattle.sq_drive.specs.declared.rows.RowPass.TheVariants.{Jumps, Tails, Outlines, Windows}
use Rattle.sq_drive.specs.Rows.{pass_of, IsCandidateOf, described_of, IsEarlierCandidate, IsRowCandidate, row_described}

-- WHAT EACH PASS SAYS

jump_row : (row : Row) (g : Graph) (block : ℕ) → HasRow row g block → pass_of row ≡ Jumps
jump_row T g block none = absurd none
jump_row O1 g block none = absurd none
jump_row O2 g block none = absurd none
jump_row O3 g block none = absurd none
jump_row O4 g block none = absurd none
jump_row W g block none = absurd none
jump_row V g block none = absurd none
jump_row row g block has = refl

outline_row : (row : Row) (g : Graph) (cut : Cut) → IsCutOf row g cut → pass_of row ≡ Outlines
outline_row O1 g cut candidate = refl
outline_row O2 g cut candidate = refl
outline_row O3 g cut candidate = refl
outline_row O4 g cut candidate = refl
outline_row row g cut none = absurd none

window_row : (row : Row) (g : Graph) (cut : Cut) → IsWindowsCutOf row g cut → pass_of row ≡ Windows
window_row W g cut candidate = refl
window_row V g cut candidate = refl
window_row row g cut none = absurd none

-- a candidate of a pass has one of its rows
pub its_row : (pass : RowPass) (g : Graph) (cut : Cut) → IsCandidateOf pass g cut → pass_of cut.row ≡ pass
its_row Jumps g cut (inl unreached) = ap pass_of unreached.row
its_row Jumps g cut (inr jump) = jump_row cut.row g jump.block jump.has_row
its_row Tails g cut (inl tail) = ap (λ (c : Cut). pass_of c.row) tail.is
its_row Tails g cut (inr body) = ap (λ (c : Cut). pass_of c.row) body.is
its_row Outlines g cut candidate = outline_row cut.row g cut candidate
its_row Windows g cut candidate = window_row cut.row g cut candidate

-- it is one of all rows
pub of_all : (pass : RowPass) (g : Graph) (cut : Cut) → IsCandidateOf pass g cut → IsRowCandidate g cut
of_all Jumps g cut candidate = inl candidate
of_all Tails g cut candidate = inr (inl candidate)
of_all Outlines g cut candidate = inr (inr (inl candidate))
of_all Windows g cut candidate = inr (inr (inr candidate))

-- a candidate of all rows is one of a pass
pub of_some : (g : Graph) (cut : Cut) → IsRowCandidate g cut → (pass : RowPass) × IsCandidateOf pass g cut
of_some g cut (inl candidate) = (Jumps, candidate)
of_some g cut (inr (inl candidate)) = (Tails, candidate)
of_some g cut (inr (inr (inl candidate))) = (Outlines, candidate)
of_some g cut (inr (inr (inr candidate))) = (Windows, candidate)

-- WHAT FOLLOWS

-- that pass is its row's
pub of_its_row : (pass : RowPass) (g : Graph) (cut : Cut) → IsRowCandidate g cut → pass_of cut.row ≡ pass → IsCandidateOf pass g cut
of_its_row pass g cut candidate e =
    let (some, own) = of_some g cut candidate in
    subst (λ one. IsCandidateOf one g cut) e (subst (λ one. IsCandidateOf one g cut) (sym (its_row some g cut own)) own)

-- its rewrites are rewrites by all rows
its_rewrite : (pass : RowPass) (done : Rewrite) (old new : Graph) → IsRewrite (IsCandidateOf pass) (described_of pass) done old new → IsRewrite IsRowCandidate row_described done old new
its_rewrite pass done old new rewrite = record {
  cut = rewrite.cut;
  candidate = of_all pass old rewrite.cut rewrite.candidate;
  row = rewrite.row;
  saving = rewrite.saving;
  is = subst (λ one. AreAlike (canonical_of (described_of one old rewrite.cut)) new) (sym (its_row pass old rewrite.cut rewrite.candidate)) rewrite.is;
}

pub swept : (pass : RowPass) (before after : Savings) (old new : Graph) → IsRewritten (IsCandidateOf pass) (described_of pass) before after old new → IsRewritten IsRowCandidate row_described before after old new
swept pass before after old new =
    stepped_wider (IsRewrite (IsCandidateOf pass) (described_of pass)) (IsRewrite IsRowCandidate row_described) (its_rewrite pass) before after old new

-- rewrites by all rows, and then those of a pass
pub swept_on : (pass : RowPass) (before at after : Savings) (old mid new : Graph) → IsRewritten IsRowCandidate row_described before at old mid → IsRewritten (IsCandidateOf pass) (described_of pass) at after mid new → IsRewritten IsRowCandidate row_described before after old new
swept_on pass before at after old mid new first second =
    rewritten_through IsRowCandidate row_described before at after old mid new first (swept pass at after mid new second)

-- so where the last of them may find no memory
pub swept_last : (pass : RowPass) (before at : Savings) (old mid new : Graph) (r : Result Savings Memory) → IsRewritten IsRowCandidate row_described before at old mid → IfOk r (λ after. IsRewritten (IsCandidateOf pass) (described_of pass) at after mid new) → IfOk r (λ after. IsRewritten IsRowCandidate row_described before after old new)
swept_last pass before at old mid new (Ok after) first second = swept_on pass before at after old mid new first second
swept_last pass before at old mid new (Err e) first second = tt

-- no row has a candidate where none before windows has one, and windows have none
pub none_of_rows : (g : Graph) → ((cut : Cut) → ¬ IsEarlierCandidate g cut) → ((cut : Cut) → ¬ IsCandidateOf Windows g cut) → (cut : Cut) → ¬ IsRowCandidate g cut
none_of_rows g earlier windows cut (inl jumps) = earlier cut (inl jumps)
none_of_rows g earlier windows cut (inr (inl tails)) = earlier cut (inr (inl tails))
none_of_rows g earlier windows cut (inr (inr (inl outlines))) = earlier cut (inr (inr outlines))
none_of_rows g earlier windows cut (inr (inr (inr late))) = windows cut late
