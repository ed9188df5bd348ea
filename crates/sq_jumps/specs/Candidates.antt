-- The candidates of the rows on jumps and on what isn't reached, and what becomes of a graph by them.
use Rattle.std.specs.Prelude.{◌≡◌, ◌⊎◌, ℕ, ◌≤◌, List, [], ◌∷◌}
use Rattle.std.proofs.Common.{inl, inr, subst, sym, lit≤}
use Rattle.sq_graph.specs.Graph.{Graph}
use Rattle.sq_pass.specs.declared.cut.Cut.{Cut}
use Rattle.sq_pass.specs.declared.cut.Row.{Row}
use Rattle.sq_pass.specs.declared.cut.Row.TheVariants.{U, J1, J2, J3, C}
use Rattle.sq_jumps.specs.Fall.{JumpsToNext, falling}
use Rattle.sq_jumps.specs.Detour.{IsDetour, without_detour}
use Rattle.sq_jumps.specs.Invert.{BranchesOverJump, inverted}
use Rattle.sq_jumps.specs.Shorten.{JumpsByDeadPart, shortened_at}
use Rattle.sq_jumps.specs.Unreached.{AreUnreached, words_gone, without_all}

-- the block is one that the row is for
abbrev pub HasRow : Row → Graph → ℕ → Type 0
HasRow J1 g block = JumpsToNext g block
HasRow J2 g block = IsDetour g block
HasRow J3 g block = BranchesOverJump g block
HasRow C g block = JumpsByDeadPart g block
HasRow row g block = ⊥

-- the cut of a row for one block, which saves a word
abbrev pub cut_at : Row → ℕ → Cut
cut_at row block =
    record { row = row; blocks = block ∷ []; procedure = 0; other = 0; length = 0; link = 0; saving = 1 }

-- the cut is for this block alone, and has 0 for what such a row doesn't use, whatever its link and saving
pub record OneBlock (cut : Cut) (block : ℕ) : Type 0 where
  pub blocks : cut.blocks ≡ block ∷ []
  pub procedure : cut.procedure ≡ 0
  pub other : cut.other ≡ 0
  pub length : cut.length ≡ 0

-- a cut of J1, J2, J3 or C
pub record IsJumpCut (g : Graph) (cut : Cut) : Type 0 where
  pub block : ℕ
  pub has_row : HasRow cut.row g block
  pub is : cut ≡ cut_at cut.row block

-- a cut of U: the blocks are every one that isn't reached, in layout order, and the saving is their words and those of
-- every procedure that no reached block calls. There is at least one of either, since a candidate saves a word
pub record IsUnreachedCut (g : Graph) (cut : Cut) : Type 0 where
  pub row : cut.row ≡ U
  pub unreached : AreUnreached g cut.blocks
  pub procedure : cut.procedure ≡ 0
  pub other : cut.other ≡ 0
  pub length : cut.length ≡ 0
  pub link : cut.link ≡ 0
  pub saving : cut.saving ≡ words_gone g cut.blocks
  pub some : 1 ≤ cut.saving

-- a candidate of the pass
abbrev pub IsCandidate : Graph → Cut → Type 0
IsCandidate g cut = IsUnreachedCut g cut ⊎ IsJumpCut g cut

-- a cut's one block
abbrev pub only_block : List ℕ → ℕ
only_block [] = 0
only_block (block ∷ rest) = block

-- what a row makes of the graph at the blocks of a cut
abbrev pub rewritten : Row → Graph → List ℕ → Graph
rewritten U g blocks = without_all g blocks
rewritten J1 g blocks = falling g (only_block blocks)
rewritten J2 g blocks = without_detour g (only_block blocks)
rewritten J3 g blocks = inverted g (only_block blocks)
rewritten C g blocks = shortened_at g (only_block blocks)
rewritten row g blocks = g

abbrev pub described : Graph → Cut → Graph
described g cut = rewritten cut.row g cut.blocks

-- a candidate saves a word
pub saves_a_word : (g : Graph) (cut : Cut) → IsCandidate g cut → 1 ≤ cut.saving
saves_a_word g cut (inl unreached) = unreached.some
saves_a_word g cut (inr jump) = subst (λ (given : Cut). 1 ≤ given.saving) (sym jump.is) (lit≤ tt)
