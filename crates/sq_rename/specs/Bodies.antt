-- Bodies that match, with what is dead behind the first.
use Rattle.std.specs.Prelude.{◌≡◌, ℕ, ◌<◌, false, List, length, slice_index}
use Rattle.sq_isa.specs.Registers.{is_member}
use Rattle.sq_graph.specs.declared.item.Item.{Item}
use Rattle.sq_graph.specs.Graph.{Procedure, Graph}
use Rattle.sq_graph.specs.Blocks.{items_of}
use Rattle.sq_graph.specs.Lines.{place_lines}
use Rattle.sq_graph.specs.Walks.{IsLive}
use Rattle.sq_graph.specs.Matches.{Match, PairsDie}
use Rattle.sq_live.specs.Liveness.{places_of}
use Rattle.sq_rename.specs.Renamings.{IsPermutation, IsRenaming}

-- The items match others, and both registers of each pair of different ones are dead behind them.
pub record IsBodyMatch (procedures : List Procedure) (items others : List Item) (Lives : ℕ → Type 0) : Type 0 where
  pub match : Match procedures items others
  pub pairs_die : PairsDie procedures items others Lives

-- the renaming of such items
pub record IsMatchBy (procedures : List Procedure) (items others : List Item) (Lives : ℕ → Type 0) (to : List ℕ) : Type 0 where
  pub match : IsBodyMatch procedures items others Lives
  pub permutation : IsPermutation to
  pub pairs : IsRenaming procedures items others to

-- where all registers of this set are dead: those of x1 to x31 that are not in it
abbrev pub MayLive : ℕ → ℕ → Type 0
MayLive dead r = (0 < r) × ((r < 32) × (is_member dead r ≡ false))

-- r is live behind the items of a block
abbrev pub IsLiveBehind : Graph → ℕ → ℕ → Type 0
IsLiveBehind g block r = IsLive g r (place_lines g block (length (items_of g block)))

-- the registers that are live behind them, by a table
abbrev pub live_behind : List (ℕ × List ℕ) → Graph → ℕ → ℕ
live_behind live g block = slice_index (places_of live block) (length (items_of g block))
