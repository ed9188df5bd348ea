-- Row T on equal tails: the last items of two blocks become one block, to which the dropped one jumps.
use Rattle.std.specs.Prelude.{◌≡◌, ◌≢◌, ℕ, ◌+◌, ◌-◌, ◌≤◌, ◌==◌, if◌then◌else◌, [], ◌∷◌, Option, None, Some, length, drop, sum_by}
use Rattle.sq_graph.specs.declared.item.Term.{Term}
use Rattle.sq_graph.specs.Graph.{Graph}
use Rattle.sq_graph.specs.Blocks.{HasBlock, items_of, term_of}
use Rattle.sq_graph.specs.Operations.{IsNew}
use Rattle.sq_graph.specs.Words.{term_words}
use Rattle.sq_pass.specs.declared.cut.Cut.{Cut}
use Rattle.sq_pass.specs.declared.cut.Row.TheVariants.{T}
use Rattle.law_patch.specs.Merges.{HaveTail, merged, tailed}
use Rattle.sq_rename.specs.Reservations.{HasNoReservations}

-- the words of a block's term
abbrev pub words_of_end : Option Term → ℕ
words_of_end None = 0
words_of_end (Some term) = term_words term

abbrev pub end_words : Graph → ℕ → ℕ
end_words g block = words_of_end (term_of g block)

-- the cut of row T for k items. It saves k - 1 words, and those of the dropped block's term
abbrev pub tail_cut : Graph → ℕ → ℕ → ℕ → Cut
tail_cut g dropped kept k =
    record { row = T; blocks = dropped ∷ kept ∷ []; procedure = 0; other = 0; length = k; link = 0; saving = k - 1 + end_words g dropped }

-- a cut of row T on equal tails: the items of the dropped block from `at` on and those of the kept one from `from` on are equal, at least one
-- and no LR and no SC among them, and the resolved terms are equal
pub record IsTailCut (g : Graph) (cut : Cut) : Type 0 where
  pub dropped : ℕ
  pub kept : ℕ
  pub at : ℕ
  pub from : ℕ
  pub tail : HaveTail g dropped at kept from
  pub plain : HasNoReservations (drop from (items_of g kept))
  pub is : cut ≡ tail_cut g dropped kept (length (drop from (items_of g kept)))
  pub some : 1 ≤ cut.saving

-- two blocks with k items and more, k at least 1
pub record AreTails (g : Graph) (dropped kept k : ℕ) : Type 0 where
  pub other : kept ≢ dropped
  pub some : 1 ≤ k
  pub dropped_there : HasBlock g dropped
  pub kept_there : HasBlock g kept
  pub dropped_items : k ≤ length (items_of g dropped)
  pub kept_items : k ≤ length (items_of g kept)

-- a name that no block has
abbrev pub fresh : Graph → ℕ
fresh g = 1 + sum_by (λ b. b.name) g.blocks

-- The last k items of the kept block, with its term, are a block of their own, under a new name, and a Jump to it stands in place of the last
-- k items and the term of the dropped one. Where they are all its items, the kept block is that block.
abbrev pub joined : Graph → ℕ → ℕ → ℕ → ℕ → Graph
joined g new dropped kept k =
    if k == length (items_of g kept)
    then merged g dropped (length (items_of g dropped) - k) kept
    else tailed g new dropped (length (items_of g dropped) - k) kept (length (items_of g kept) - k)

abbrev pub tails_joined : Graph → ℕ → ℕ → ℕ → Graph
tails_joined g dropped kept k = joined g (fresh g) dropped kept k

-- the same but for the new name
abbrev pub IsJoined : Graph → ℕ → ℕ → ℕ → Graph → Type 0
IsJoined g dropped kept k h = (new : ℕ) × (IsNew g new × (h ≡ joined g new dropped kept k))
