-- Rewrites by candidates of passes, one after another, each made canonical.
use Rattle.std.specs.Prelude.{◌≡◌, ℕ, ◌+◌, List, [], ◌∷◌}
use Rattle.std.specs.List.{Contains}
use Rattle.sq_num.specs.declared.packed.Savings.{Savings}
use Rattle.sq_num.specs.Saved.{words_saved}
use Rattle.sq_graph.specs.Graph.{Graph}
use Rattle.sq_graph.specs.Alike.{AreAlike}
use Rattle.sq_graph.specs.Canonical.{canonical_of}
use Rattle.sq_graph.specs.Leaders.{IsCanonical}
use Rattle.sq_graph.specs.Places.{IsInReach}
use Rattle.sq_graph.specs.Soundness.{IsSound}
use Rattle.sq_graph.specs.Words.{words_of}
use Rattle.law_follow.specs.Follows.{Follows}
use Rattle.sq_pass.specs.declared.cut.Cut.{Cut}
use Rattle.sq_pass.specs.declared.rewrite.Rewrite.{Rewrite}
use Rattle.sq_pass.specs.Counted.{counted_all}

-- The new graph is, but for the names of blocks, what the row of a candidate makes of the old one, made canonical.
pub record IsRewrite (is_candidate : Graph → Cut → Type 0) (described : Graph → Cut → Graph) (done : Rewrite) (old new : Graph) : Type 0 where
  pub cut : Cut
  pub candidate : is_candidate old cut
  pub row : cut.row ≡ done.row
  pub saving : cut.saving ≡ done.saving
  pub is : AreAlike (canonical_of (described old cut)) new

-- there is a list of graphs from the old one to the new one: each next graph is the one before after one step of the list
abbrev pub AreSteps : (Rewrite → Graph → Graph → Type 0) → List Rewrite → Graph → Graph → Type 0
AreSteps step [] old new = old ≡ new
AreSteps step (done ∷ rest) old new = (next : Graph) × step done old next × AreSteps step rest next new

-- The new graph follows the old one, is sound and in reach where that was, is canonical, and has fewer words by what was
-- saved.
pub record IsLighter (saved : ℕ) (old new : Graph) : Type 0 where
  pub follows : Follows old new
  pub sound : IsSound old → IsSound new
  pub reach : IsInReach old → IsInReach new
  pub canonical : IsCanonical new
  pub words : words_of new + saved ≡ words_of old

-- By some steps the old graph became the new one, and each is counted in the savings.
pub record IsRewrittenBy (step : Rewrite → Graph → Graph → Type 0) (before after : Savings) (old new : Graph) : Type 0 where
  pub rewrites : List Rewrite
  pub are : AreSteps step rewrites old new
  pub counted : after ≡ counted_all before rewrites
  pub saved : ℕ
  pub total : words_saved after ≡ words_saved before + saved
  pub lighter : IsLighter saved old new

-- So by rewrites of the candidates of one pass.
abbrev pub IsRewritten : (Graph → Cut → Type 0) → (Graph → Cut → Graph) → Savings → Savings → Graph → Graph → Type 0
IsRewritten is_candidate described = IsRewrittenBy (IsRewrite is_candidate described)

-- a rewrite by a candidate of one of these passes
pub record IsRewriteOfOne {P : Type 0} (is_candidate : P → Graph → Cut → Type 0) (described : P → Graph → Cut → Graph) (passes : List P) (done : Rewrite) (old new : Graph) : Type 0 where
  pub pass : P
  pub listed : Contains passes pass
  pub rewrite : IsRewrite (is_candidate pass) (described pass) done old new

-- So by rewrites of the candidates of these passes.
abbrev pub IsRewrittenByAll : {P : Type 0} → (P → Graph → Cut → Type 0) → (P → Graph → Cut → Graph) → List P → Savings → Savings → Graph → Graph → Type 0
IsRewrittenByAll is_candidate described passes = IsRewrittenBy (IsRewriteOfOne is_candidate described passes)
