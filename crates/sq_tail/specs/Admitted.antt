-- Cuts of row T, but for what the row determines.
use Rattle.std.specs.Prelude.{◌≡◌, ◌⊎◌, ℕ, ◌+◌, ◌-◌, ◌≤◌, [], ◌∷◌, length}
use Rattle.sq_graph.specs.Graph.{Graph}
use Rattle.sq_graph.specs.Blocks.{items_of}
use Rattle.sq_pass.specs.declared.cut.Cut.{Cut}
use Rattle.sq_pass.specs.declared.cut.Row.TheVariants.{T}
use Rattle.sq_tail.specs.Bodies.{IsBodyPair}
use Rattle.sq_tail.specs.Ends.{HaveEnd}
use Rattle.sq_tail.specs.Tails.{end_words}

-- the cut is for these two blocks, and has 0 for what the row doesn't use, whatever its link and saving
pub record TwoBlocks (cut : Cut) (dropped kept : ℕ) : Type 0 where
  pub row : cut.row ≡ T
  pub blocks : cut.blocks ≡ dropped ∷ kept ∷ []
  pub procedure : cut.procedure ≡ 0
  pub other : cut.other ≡ 0

-- the last k items of two blocks are equal, or they are all items of both and the one body matches the other
abbrev pub CanJoin : Graph → ℕ → ℕ → ℕ → Type 0
CanJoin g dropped kept k = HaveEnd g dropped kept k ⊎ ((k ≡ length (items_of g kept)) × IsBodyPair g dropped kept)

-- so many words go, at least one
abbrev pub Saves : Graph → ℕ → ℕ → ℕ → Type 0
Saves g dropped k saving = (saving ≡ k - 1 + end_words g dropped) × (1 ≤ saving)
