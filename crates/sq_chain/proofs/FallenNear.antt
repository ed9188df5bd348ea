-- A graph in reach stays so once each Jump to the next slot is Fall.
use Rattle.std.proofs.Common.{◌≡◌, ◌==◌, ℕ, Bool, true, false, if◌then◌else◌, List, [], ◌∷◌, Some, inl, inr, refl, sym, ap, ◌∙◌, subst, arith}
use Rattle.sq_graph.specs.declared.item.Term.{Term}
use Rattle.sq_graph.specs.declared.item.Term.TheVariants.{Fall, Jump, Branch, Call, PartJump, Indirect, Stop}
use Rattle.sq_graph.specs.Graph.{Block, Graph}
use Rattle.sq_graph.specs.Blocks.{block_term}
use Rattle.sq_graph.specs.Places.{IsInReach}
use Rattle.sq_graph.specs.Rules.{IsGraph}
use Rattle.sq_layout.specs.Shrinks.{IsBranch, Shrinks, nothing, kept}
use Rattle.sq_layout.proofs.Shrinking.{shrunk_in_reach}
use Rattle.sq_chain.specs.Moves.{fallen_term, fallen_blocks, fallen}
use Rattle.sq_chain.specs.Surveys.{IsSurvey}
use Rattle.sq_chain.specs.declared.survey.Survey.{Survey}
use Rattle.sq_chain.proofs.Distant.{stays}
use Rattle.sq_chain.proofs.Fallen.{fallen_keeps}
use Rattle.sq_chain.proofs.Lighter.{fallen_light, block_falls}

branch_stays : (n : ℕ) (t : Term) → IsBranch (fallen_term n t) → IsBranch t
branch_stays n Fall is = is
branch_stays n (Jump to) is = absurd (no_branch (to == n) is)
  where
    no_branch : (same : Bool) → IsBranch (if same then Fall else Jump to) → ⊥
    no_branch true is = is
    no_branch false is = is
branch_stays n (Branch cond a b to) is = is
branch_stays n (Call link to) is = is
branch_stays n (PartJump link part to) is = is
branch_stays n (Indirect link x offset) is = is
branch_stays n (Stop word) is = is

-- each block is shrunk
shrunk : (bs : List Block) → Shrinks bs (fallen_blocks bs)
shrunk [] = nothing
shrunk (b ∷ []) = kept b b (record { name = refl; words = omega arith; branch = λ is. (is, omega arith) }) nothing
shrunk (b ∷ next ∷ rest) =
    kept b (record b { term = fallen_term next.name b.term })
    (record { name = refl; words = omega (arith, fallen_light next.name b.term); branch = λ is. (branch_stays next.name b.term is, omega arith) }) (shrunk (next ∷ rest))

pub fallen_in_reach : (h : Graph) → IsGraph h → IsInReach h → IsInReach (fallen h)
fallen_in_reach h rules reach =
    shrunk_in_reach h (fallen h) rules.distinct (fallen_keeps h rules).rules.distinct (shrunk h.blocks) (λ n cond a b to is.
    elim (block_falls h.blocks n) [
      | inl stays ↦ inl (cond, a, b, sym (ap block_term stays.same) ∙ is)
      | inr falls ↦ absurd (let other : Some Fall ≡ Some (Branch cond a b to) = sym (ap block_term falls.is) ∙ is in cc)
    ]) reach

-- by the survey of a graph in which none falls
pub reach_there : (g : Graph) (survey : Survey) → IsSurvey g survey → survey.falls ≡ 0 → survey.near ≡ true → IsInReach g
reach_there g survey s none near = subst (λ (bs : List Block). IsInReach (record g { blocks = bs })) (stays g (omega (arith, s.falls, none))) (s.near near)
