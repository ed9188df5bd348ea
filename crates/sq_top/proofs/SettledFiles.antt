-- The file of a graph without candidates is settled, and packing a settled file gives this file.
use Rattle.std.proofs.Common.{◌≡◌, ℕ, ◌<◌, List, [], ◌∷◌, sym, ap, ◌∙◌, subst}
use Rattle.std.specs.List.{AllByRecursion}
use Rattle.sq_num.specs.declared.packed.Savings.{Savings}
use Rattle.sq_graph.specs.Graph.{Graph}
use Rattle.sq_graph.specs.Slotted.{IsSlotted}
use Rattle.sq_pass.specs.declared.rewrite.Rewrite.{Rewrite}
use Rattle.sq_pass.specs.Rewrites.{IsRewrite, AreSteps, IsRewritten}
use Rattle.sq_drive.specs.Rows.{IsCandidate, described, IsLeftoverFree}
use Rattle.sq_drive.proofs.Moves.{leftover_free_is_still}
use Rattle.sq_write.specs.Written.{written}
use Rattle.law_written.specs.Written.{IsWritable}
use Rattle.law_written.proofs.Again.{written_again}
use Rattle.sq_lifted.specs.LiftedFiles.{IsLiftedFile}
use Rattle.sq_lifted.proofs.OneReading.{lifted_one}
use Rattle.sq_top.specs.Settled.{IsSettledFile}

-- where no row has a candidate, nothing is rewritten: the first rewrite would be of one
pub nothing_to_do : (before after : Savings) (old new : Graph) → IsLeftoverFree old → IsRewritten IsCandidate described before after old new → new ≡ old
nothing_to_do before after old new none rewritten = go rewritten.rewrites rewritten.are
  where
    go : (rewrites : List Rewrite) → AreSteps (IsRewrite IsCandidate described) rewrites old new → new ≡ old
    go [] same = sym same
    go (done ∷ rest) steps = absurd (none steps.1.cut steps.1.candidate)

pub written_is_settled : (bytes : List ℕ) (g : Graph) → IsWritable bytes g → IsLiftedFile (written bytes g) g → IsSlotted g → IsLeftoverFree g → IsSettledFile (written bytes g)
written_is_settled bytes g can lifted slotted none =
    record {
      graph = g;
      lifted = lifted;
      slotted = slotted;
      is = sym (written_again bytes g can);
      left = none;
      still = leftover_free_is_still g none;
    }

pub settled_stays : (bytes : List ℕ) (first g : Graph) (before after : Savings) → AllByRecursion (λ b. b < 256) bytes → IsLiftedFile bytes first → IsSlotted first → IsRewritten IsCandidate described before after first g → IsSettledFile bytes → written bytes g ≡ bytes
settled_stays bytes first g before after fit lifted slotted rewritten settled =
    let same : settled.graph ≡ first = sym settled.slotted ∙ lifted_one bytes settled.graph first fit settled.lifted lifted ∙ slotted in
    let kept : g ≡ first = nothing_to_do before after first g (subst IsLeftoverFree same settled.left) rewritten in
    ap (written bytes) (kept ∙ sym same) ∙ sym settled.is
