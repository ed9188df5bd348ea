-- What one rewrite of a row adds to a sweep.
use Rattle.std.proofs.Common.{◌≡◌, ℕ, [], ◌∷◌, inl, inr, refl, sym, ap, ◌∙◌, subst, arith, Result, Ok, Err}
use Rattle.sq_graph.specs.Graph.{Graph}
use Rattle.sq_graph.specs.Places.{IsInReach}
use Rattle.sq_graph.specs.Rules.{IsGraph}
use Rattle.sq_graph.specs.Words.{words_of}
use Rattle.std.specs.Prelude.{IfOk}
use Rattle.sq_graph.specs.Canonical.{canonical_of}
use Rattle.sq_pass.specs.Applied.{IsApplied}
use Rattle.sq_num.specs.declared.memory.Memory.{Memory}
use Rattle.sq_num.specs.declared.packed.Savings.{Savings}
use Rattle.sq_graph.specs.Leaders.{IsCanonical}
use Rattle.sq_graph.specs.Soundness.{IsSound}
use Rattle.sq_graph.proofs.CanonicalLaws.{canonical_again}
use Rattle.sq_graph.proofs.CanonicalReach.{canonical_in_reach}
use Rattle.law_follow.specs.Follows.{Follows}
use Rattle.law_patch.proofs.Joining.{canonical_follows, canonical_sound}
use Rattle.sq_pass.specs.declared.cut.Cut.{Cut}
use Rattle.sq_pass.specs.declared.cut.Row.{Row}
use Rattle.sq_pass.specs.declared.cut.Row.TheVariants.{U}
use Rattle.sq_pass.specs.Counted.{counted}
use Rattle.sq_pass.specs.Rewrites.{IsLighter, IsRewritten}
use Rattle.sq_pass.proofs.Rewriting.{lighter_itself, rewrite_made, lighter_made, rewritten_once, rewritten_through}
use Rattle.sq_jumps.specs.Candidates.{HasRow, cut_at, IsUnreachedCut, IsCandidate, rewritten, described}
use Rattle.sq_jumps.specs.Unreached.{without_all}
use Rattle.sq_jumps.proofs.Cutting.{unreached_gone}

-- a row is applied at one of its blocks, and what is left is made canonical
pub block_rewritten : (row : Row) (block : ℕ) (before : Savings) (g mid new : Graph) → HasRow row g block → IsApplied 1 (rewritten row g (block ∷ [])) g mid → new ≡ canonical_of mid → IsLighter 0 mid new → IsRewritten IsCandidate described before (counted before row 1) g new
block_rewritten row block before g mid new has applied made lighter =
    rewritten_once IsCandidate described before (record { row = row; saving = 1 }) g new
    (rewrite_made IsCandidate described (cut_at row block) g mid new (inr (record { block = block; has_row = has; is = refl })) applied made)
    (lighter_made 1 (rewritten row g (block ∷ [])) g mid new applied lighter)

-- a graph made canonical
pub canonical_lighter : (mid new : Graph) → IsGraph mid → new ≡ canonical_of mid → IsCanonical new → words_of new ≡ words_of mid → IsLighter 0 mid new
canonical_lighter mid new rules made canonical words = record {
  follows = subst (Follows mid) (sym made) (canonical_follows mid rules);
  sound = λ sound. subst IsSound (sym made) (canonical_sound mid rules sound);
  reach = λ reach. subst IsInReach (sym made) (canonical_in_reach mid rules reach);
  canonical = canonical;
  words = omega (arith, words);
}

-- a row at a block, and then the canonical graph
pub row_rewritten : (row : Row) (block : ℕ) (before after : Savings) (g mid new : Graph) → HasRow row g block → IsApplied 1 (rewritten row g (block ∷ [])) g mid → IsGraph mid → new ≡ canonical_of mid → IsCanonical new → words_of new ≡ words_of mid → after ≡ counted before row 1 → IsRewritten IsCandidate described before after g new
row_rewritten row block before after g mid new has applied rules made canonical words counts =
    subst (λ s. IsRewritten IsCandidate described before s g new) (sym counts) (block_rewritten row block before g mid new has applied made (canonical_lighter mid new rules made canonical words))

-- a row at a block that leaves the graph canonical
pub kept_rewritten : (row : Row) (block : ℕ) (before after : Savings) (g h : Graph) → HasRow row g block → IsApplied 1 (rewritten row g (block ∷ [])) g (rewritten row g (block ∷ [])) → IsCanonical (rewritten row g (block ∷ [])) → h ≡ rewritten row g (block ∷ []) → after ≡ counted before row 1 → IsRewritten IsCandidate described before after g h
kept_rewritten row block before after g h has applied still is counts =
    let k = rewritten row g (block ∷ []) in
    subst (λ s. IsRewritten IsCandidate described before s g h) (sym counts)
    (subst (λ m. IsRewritten IsCandidate described before (counted before row 1) g m) (sym is)
    (block_rewritten row block before g k k has applied (sym (canonical_again k still)) (lighter_itself k still)))

-- rewrites, and what comes of going on
pub swept_on : (before at : Savings) (old mid new : Graph) (r : Result Savings Memory) → IsRewritten IsCandidate described before at old mid → IfOk r (λ after. IsRewritten IsCandidate described at after mid new) → IfOk r (λ after. IsRewritten IsCandidate described before after old new)
swept_on before at old mid new (Ok after) first second = rewritten_through IsCandidate described before at after old mid new first second
swept_on before at old mid new (Err memory) first second = second

-- what isn't reached goes, and then the canonical graph
pub unreached_rewritten : (cut : Cut) (before after : Savings) (g mid new : Graph) → IsGraph g → IsUnreachedCut g cut → IsGraph mid → mid ≡ without_all g cut.blocks → new ≡ canonical_of mid → IsCanonical new → words_of new ≡ words_of mid → after ≡ counted before U cut.saving → IsRewritten IsCandidate described before after g new
unreached_rewritten cut before after g mid new rules u mid_rules is made canonical words counts =
    let applied = unreached_gone g mid cut rules u mid_rules is in
    subst (λ s. IsRewritten IsCandidate described before s g new) (sym (counts ∙ ap (λ row. counted before row cut.saving) (sym u.row)))
    (rewritten_once IsCandidate described before (record { row = cut.row; saving = cut.saving }) g new
    (rewrite_made IsCandidate described cut g mid new (inl u) applied made)
    (lighter_made cut.saving (described g cut) g mid new applied (canonical_lighter mid new mid_rules made canonical words)))
